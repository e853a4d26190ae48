use Rattle.std.proofs.Common.{◌-◌}
use Rattle.rules.specs.Kind.{kind}
use Rattle.reckoning.specs.Brakings.{train_of}
use Rattle.reckoning.proofs.Permitting.{Tried}
use Rattle.reckoning.proofs.search.last_in_time.Given as goal

abbrev pub invariant-loop-next : goal.invariant-loop-next
invariant-loop-next g l = Tried (kind g.K.BrakeKind.T g.K.BrakeKind.C) (train_of g.S.StockLaws.meaning l.train) l.greatest l.below

abbrev pub decreases-loop-next : goal.decreases-loop-next
decreases-loop-next g l = 1600 - l.greatest
