use Rattle.std.proofs.Common.{◌≡◌, ap, ◌∙◌, rules}
use Rattle.zetampuy.specs.Codes.{refusal_code, count_code}
use Rattle.zetampuy.proofs.zetampuy_questions.Goals as goal

pub returns-clause-refuses : goal.returns-clause-refuses
returns-clause-refuses c f is made =
    let told : c.of_count.result ≡ refusal_code f.refusal = c.of_count.ensures ∙ ap count_code (c.count_questions-count.ensures.refuses f is) in
    search rules
