use Rattle.std.proofs.Common.{◌≡◌, ℕ, Err, ap, arith}
use Rattle.answering.proofs.reckoner.Reckoner.count_questions.Goals as goal

pub returns-in-Ok-clause-refuses : goal.returns-in-Ok-clause-refuses
returns-in-Ok-clause-refuses c f is =
    let never = c.in-Ok.ensures.refuses f is in
    let z : ◌≡◌ {A = ℕ} 0 1 = cc in
    absurd (omega arith)

pub returns-in-Err-clause-refuses : goal.returns-in-Err-clause-refuses
returns-in-Err-clause-refuses c f is =
    let told = c.in-Err.ensures.refuses f is in
    let same : c.in-Err.fault ≡ f = cc in
    ap (λ t. Err t) same
