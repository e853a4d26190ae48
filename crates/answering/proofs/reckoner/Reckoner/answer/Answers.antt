use Rattle.std.proofs.Common.{◌≡◌, ℕ, ap, ◌∙◌, arith, rules}
use Rattle.printing.specs.Lines.{fault_line}
use Rattle.answering.proofs.reckoner.Reckoner.answer.Goals as goal

pub returns-in-Ok-clause-refuses : goal.returns-in-Ok-clause-refuses
returns-in-Ok-clause-refuses g c f is =
    let never = c.in-Ok.ensures.refuses f is in
    let z : ◌≡◌ {A = ℕ} 0 1 = cc in
    absurd (omega arith)

pub returns-in-Err-clause-refuses : goal.returns-in-Err-clause-refuses
returns-in-Err-clause-refuses g c f is =
    let told = c.in-Err.ensures.refuses f is in
    let same : c.in-Err.fault ≡ f = cc in
    (search rules, c.tell.ensures.output ∙ ap fault_line same)
