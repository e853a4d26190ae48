use Rattle.std.proofs.Common.{inl, inr, ap, arith}
use Rattle.rules.specs.declared.fault.Fault.{Fault}
use Rattle.text.proofs.Sections.{count_of}
use Rattle.text.proofs.text.Text.count.Goals as goal

-- a heading that tells a count has its numeral after the name
pub returns-in_default-number : goal.returns-in_default-number
returns-in_default-number g c =
    let told = c.on-in_default-number.ensures in
    let refusal = ap (λ (f : Fault). f.refusal) told in
    let line = ap (λ (f : Fault). f.line) told in
    (inr (_, _, c.in_ok-text.ensures.0, inl (refusal, λ n (short, e). c.in_default-number.ensures n (short, count_of _ _ _ n c.in-Some.ensures e))), omega (arith, line, c.number-line.ensures, c.in_ok-text.ensures.1))
