use Rattle.std.proofs.Common.{◌≡◌, ap, ◌∙◌, rules}
use Rattle.zetampuy.specs.Codes.{refusal_code, answer_code}
use Rattle.zetampuy.proofs.zetampuy_answer.Goals as goal

pub returns-clause-refuses : goal.returns-clause-refuses
returns-clause-refuses c f is made long =
    let told : c.of_answer.result ≡ refusal_code f.refusal = c.of_answer.ensures ∙ ap answer_code (c.answer_alone-answer.ensures.refuses f is long) in
    search rules
