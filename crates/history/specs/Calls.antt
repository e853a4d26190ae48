-- What each case of a call means, and what stands beside it.
use Rattle.std.specs.Prelude.{◌≡◌, List, map, Some, Option}
use Rattle.std.specs.Option.{option_map}
use Rattle.rules.specs.Book.{Book}
use Rattle.rules.specs.History.{Inquiry, Event, couple, uncouple, cut_out_brake, restore_brake, append, lift, set_distance, ask, reply, Performed, History}
use Rattle.rules.specs.Refusals.{Reply as Told}
use Rattle.history.specs.Replies.{reply_told}
use Rattle.history.specs.declared.call.Call.{Call}
use Rattle.history.specs.declared.call.Call.TheVariants.{Couple, Uncouple, CutOut, Restore, Append, Lift, SetDistance, Ask}
use Rattle.history.specs.declared.call.Exchange.{Exchange}
use Rattle.history.specs.declared.either.Either.{Either}
use Rattle.history.specs.declared.either.Either.TheVariants.{Left, Right}

-- every case with its event
abbrev pub event_of : {Q : Type 0} → (Q → Inquiry) → Call Q → Event
event_of inquiry (Couple f) = couple f
event_of inquiry Uncouple = uncouple
event_of inquiry (CutOut k) = cut_out_brake k
event_of inquiry (Restore k) = restore_brake k
event_of inquiry (Append f) = append f
event_of inquiry Lift = lift
event_of inquiry (SetDistance l) = set_distance l
event_of inquiry (Ask q) = ask (inquiry q)

-- the events of calls in their order
abbrev pub events_of : {Q : Type 0} → (Q → Inquiry) → List (Exchange Q) → List Event
events_of inquiry = map (λ e. event_of inquiry e.call)

-- what stands beside the calls
abbrev pub told_beside : {Q : Type 0} → Exchange Q → Option Told
told_beside e = option_map reply_told e.reply

-- one call performed from one book to another: it is as it was, with its reply beside it
pub record ExchangePerformed {Q : Type 0} (inquiry : Q → Inquiry) (b : Book) (old new : Exchange Q) (c : Book) : Type 0 where
  pub same : new.call ≡ old.call
  pub beside : told_beside new ≡ Some (reply b (event_of inquiry old.call))
  pub performed : Performed b (event_of inquiry old.call) (reply b (event_of inquiry old.call)) c

-- all calls performed in their order: they are as they were, replies are given beside them, and of these the whole promise holds
pub record AllPerformed {Q : Type 0} (inquiry : Q → Inquiry) (b : Book) (old new : List (Exchange Q)) (c : Book) : Type 0 where
  pub same : map (λ e. e.call) new ≡ map (λ e. e.call) old
  pub given : List Told
  pub beside : map told_beside new ≡ map Some given
  pub history : History b (events_of inquiry old) given c

-- what holds of a question of one sort or of another
abbrev pub of_either : {A B X : Type 0} → (A → X) → (B → X) → Either A B → X
of_either left right (Left a) = left a
of_either left right (Right b) = right b
