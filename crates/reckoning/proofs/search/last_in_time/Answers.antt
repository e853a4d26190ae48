use Rattle.std.proofs.Common.{◌≡◌, ◌+◌, ◌≤◌, rules}
use Rattle.rules.specs.Kind.{kind}
use Rattle.reckoning.specs.Brakings.{train_of}
use Rattle.reckoning.proofs.Permitting.{goes_on}
use Rattle.reckoning.proofs.search.last_in_time.Goals as goal

pub loop-next-preserved : goal.loop-next-preserved
loop-next-preserved g c =
    let a = train_of g.S.StockLaws.meaning c.args.train.now in
    let in_time = c.in-Ok.ensures in
    let slow : c.in-Some.next ≤ 1600 = search rules in
    goes_on (kind g.K.BrakeKind.T g.K.BrakeKind.C) a c.loop-next.greatest c.in-Some.next c.loop-next.below c.in-Ok.run' c.from_edge-below.result
    c.loop-next.invariant c.in-Some.ensures slow in_time.0 in_time.1 c.from_edge-below.ensures
