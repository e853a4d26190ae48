use Rattle.std.proofs.Common.{◌≡◌, pos, ap, ◌∙◌, rules}
use Rattle.zetampuy.specs.Codes.{fault_code}
use Rattle.zetampuy.proofs.zetampuy_fault.Goals as goal

pub returns-clause-refuses : goal.returns-clause-refuses
returns-clause-refuses c f is made long =
    let put = c.put_fault-told.ensures.refuses f is long in
    let told : c.of_fault.result ≡ pos put.0 = c.of_fault.ensures ∙ ap fault_code put.1 in
    (put.0, put.2, search rules)
