use Rattle.std.proofs.Common.{◌≡◌, ℕ, Err, ap, ◌∙◌, arith}
use Rattle.answering.specs.declared.unanswered.Unanswered.TheVariants.{Faulty}
use Rattle.answering.proofs.reckoner.Reckoner.answer_alone.Goals as goal

pub returns-in-Ok-clause-refuses : goal.returns-in-Ok-clause-refuses
returns-in-Ok-clause-refuses g c f is long =
    let never = c.in-Ok.ensures.refuses f is in
    let z : ◌≡◌ {A = ℕ} 0 1 = cc in
    absurd (omega arith)

pub returns-in-Err-clause-refuses : goal.returns-in-Err-clause-refuses
returns-in-Err-clause-refuses g c f is long =
    let told = c.in-Err.ensures.refuses f is in
    let same : c.in-Err.fault ≡ f = cc in
    ap (λ t. Err t) (c.from.ensures ∙ ap Faulty same)
