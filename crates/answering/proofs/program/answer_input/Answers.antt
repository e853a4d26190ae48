use Rattle.std.proofs.Common.{◌≡◌, ℕ, List, take, IfSome, sym, subst, rules}
use Rattle.answering.proofs.Inputs.{of_input}
use Rattle.answering.proofs.program.answer_input.Goals as goal

pub returns : goal.returns
returns g c =
    let known = g.R.Read.remaining c.args.input in
    let same : c.deref.result.now ≡ c.in_ok-text.text.items = search rules in
    of_input (g.E.Equipment.stock c.args.equipment.now) c.answer_text.result known c.deref.result.now
    (g.W.Write.contents c.args.output.now) (g.W.Write.contents c.answer_text.new.output)
    (subst (λ (t : List ℕ). IfSome known (λ text. t ≡ take 65537 text)) (sym same) c.in_ok-text.ensures) c.answer_text.ensures
