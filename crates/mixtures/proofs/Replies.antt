-- The replies that stand beside the calls of a mixed history.
use Rattle.std.proofs.Common.{◌≡◌, List, [], ◌∷◌, map, Option, refl, ap, ◌∙◌}
use Rattle.std.specs.Option.{option_map}
use Rattle.rules.specs.Book.{Book}
use Rattle.rules.specs.History.{Inquiry}
use Rattle.history.specs.Calls.{AllPerformed, events_of, told_beside}
use Rattle.history.specs.Replies.{reply_told}
use Rattle.history.specs.declared.call.Exchange.{Exchange}
use Rattle.history.specs.declared.reply.Reply.{Reply}
use Rattle.mixtures.specs.Mixtures.{Mixed}

told_of : {Q : Type 0} (es : List (Exchange Q)) → map (option_map reply_told) (map (λ e. e.reply) es) ≡ map told_beside es
told_of [] = refl
told_of (e ∷ es) = ap (λ rs. told_beside e ∷ rs) (told_of es)

pub mixed : {Q : Type 0} (inquiry : Q → Inquiry) (b : Book) (old new : List (Exchange Q)) (c : Book) (rs : List (Option Reply))
    → AllPerformed inquiry b old new c → rs ≡ map (λ e. e.reply) new → Mixed b (events_of inquiry old) rs c
mixed inquiry b old new c rs made told = record {
  given = made.given;
  told = ap (map (option_map reply_told)) told ∙ told_of new ∙ made.beside;
  history = made.history;
}
