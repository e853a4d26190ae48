use Rattle.std.proofs.Common.{◌≡◌, ℕ, Result, Ok, Err, subst, sym, rules}
use Rattle.rules.specs.declared.refusal.Refusal.{Refusal}
use Rattle.rules.specs.declared.refusal.Refusal.TheVariants.{StopsTooFar}
use Rattle.rules.specs.Kind.{kind}
use Rattle.rules.specs.Refusals.{stop_reply}
use Rattle.reckoning.specs.Approaches.{approach_of}
use Rattle.reckoning.proofs.Asking.{kept, replied, weak, far, near}
use Rattle.reckoning.proofs.questions.stop.Goals as goal

pub returns-in_err-figures : goal.returns-in_err-figures
returns-in_err-figures g c =
    let k = kind g.K.BrakeKind.T g.K.BrakeKind.C in
    let s = g.S.StockLaws.meaning c.args.stock.now in
    let a = c.in_ok-approach.approach in
    let v = c.in_ok-v.v in
    let refusal = c.in_err-figures.field-0.0 in
    let r = c.from_residual-in_err-figures.result in
    let is : r ≡ Err refusal = search rules in
    let reply =
    subst (λ (x : Result (ℕ × ℕ × ℕ) Refusal). stop_reply x ≡ replied k (approach_of a s) v) (sym is) (weak k (approach_of a s) v refusal c.in_err-figures.ensures) in
    let all =
    kept k s c.args.sheet.now c.args.question a v (search rules) (search rules) c.in_ok-approach.ensures.value g.met.K.BrakeKind.lawful (g.met.S.StockLaws.lawful c.args.stock.now)
    (c.in_ok-approach.ensures.lawful s) r reply in
    record { figures = all.figures; decided = all.decided; safe = all.safe; close = all.close }

pub returns-then-not-is_within_reach : goal.returns-then-not-is_within_reach
returns-then-not-is_within_reach g c =
    let k = kind g.K.BrakeKind.T g.K.BrakeKind.C in
    let s = g.S.StockLaws.meaning c.args.stock.now in
    let a = c.in_ok-approach.approach in
    let v = c.in_ok-v.v in
    let r : Result (ℕ × ℕ × ℕ) Refusal = Err StopsTooFar in
    let reply =
    far k (approach_of a s) v c.in_ok-figures.figures.0 c.in_ok-figures.figures.1 c.in_ok-figures.figures.2 c.in_ok-figures.ensures (sym c.if-not-is_within_reach.ensures) in
    let all =
    kept k s c.args.sheet.now c.args.question a v (search rules) (search rules) c.in_ok-approach.ensures.value g.met.K.BrakeKind.lawful (g.met.S.StockLaws.lawful c.args.stock.now)
    (c.in_ok-approach.ensures.lawful s) r reply in
    record { figures = all.figures; decided = all.decided; safe = all.safe; close = all.close }

pub returns : goal.returns
returns g c =
    let k = kind g.K.BrakeKind.T g.K.BrakeKind.C in
    let s = g.S.StockLaws.meaning c.args.stock.now in
    let a = c.in_ok-approach.approach in
    let v = c.in_ok-v.v in
    let r : Result (ℕ × ℕ × ℕ) Refusal = Ok c.in_ok-figures.figures in
    let reply =
    near k (approach_of a s) v c.in_ok-figures.figures.0 c.in_ok-figures.figures.1 c.in_ok-figures.figures.2 c.in_ok-figures.ensures (sym c.if-not-is_within_reach.ensures) in
    let all =
    kept k s c.args.sheet.now c.args.question a v (search rules) (search rules) c.in_ok-approach.ensures.value g.met.K.BrakeKind.lawful (g.met.S.StockLaws.lawful c.args.stock.now)
    (c.in_ok-approach.ensures.lawful s) r reply in
    record { figures = all.figures; decided = all.decided; safe = all.safe; close = all.close }
