-- What a mixed history tells.
use Rattle.std.specs.Prelude.{◌≡◌, List, map, Some, Option}
use Rattle.std.specs.Option.{option_map}
use Rattle.rules.specs.Book.{Book}
use Rattle.rules.specs.History.{Event, History}
use Rattle.rules.specs.Refusals.{Reply as Told}
use Rattle.rules.specs.Kind.{Kind, kind}
use Rattle.history.specs.Replies.{reply_told}
use Rattle.history.specs.declared.reply.Reply.{Reply}

-- the kind of brake of this crate
abbrev pub combined : Kind
combined = kind 3 6

-- these replies were given to these calls, and the whole promise holds of them
pub record Mixed (b : Book) (es : List Event) (rs : List (Option Reply)) (c : Book) : Type 0 where
  pub given : List Told
  pub told : map (option_map reply_told) rs ≡ map Some given
  pub history : History b es given c
