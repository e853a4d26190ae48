use Rattle.std.proofs.Common.{◌≡◌, ℕ, Some, Ok, arith, refl, subst}
use Rattle.rules.specs.declared.fault.Fault.{Fault}
use Rattle.printing.specs.Lines.{fault_line}
use Rattle.answering.specs.Alone.{IsPut}
use Rattle.answering.proofs.reckoner.Reckoner.put_fault.Goals as goal

pub returns-in-Ok-clause-refuses : goal.returns-in-Ok-clause-refuses
returns-in-Ok-clause-refuses c f is long =
    let never = c.in-Ok.ensures.refuses f is in
    let z : ◌≡◌ {A = ℕ} 0 1 = cc in
    absurd (omega arith)

pub returns-in_ok-print_fault-in-Err-clause-refuses : goal.returns-in_ok-print_fault-in-Err-clause-refuses
returns-in_ok-print_fault-in-Err-clause-refuses c f is long =
    let told = c.in-Err.ensures.refuses f is in
    let same : c.in-Err.fault ≡ f = cc in
    let k = c.in_ok-print_fault-in-Err.field-0 in
    let line = c.in_ok-print_fault-in-Err.ensures.printed in
    subst (λ (t : Fault). IsPut (fault_line t) c.args.out.now (Ok (Some k)) c.print_fault.new.out) same
    (k, refl, (line.1, c.in_ok-print_fault-in-Err.ensures.short, line.2))
