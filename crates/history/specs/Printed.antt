-- What is printed of calls and replies.
use Rattle.std.specs.Prelude.{ℕ, List, ◌++◌, Some, Option, codes, decimal}
use Rattle.laws.specs.Kinds.{letter_of}
use Rattle.laws.specs.declared.kind.KindLetter.{KindLetter}
use Rattle.rules.specs.declared.figures.Question.{Question}
use Rattle.rules.specs.Printed.{vehicle_text, section_text, stop_text, question_text}
use Rattle.rules.specs.Questions.{figures}
use Rattle.rules.specs.Reasons.{refusal_text}
use Rattle.history.specs.declared.call.Call.{Call}
use Rattle.history.specs.declared.call.Call.TheVariants.{Couple, Uncouple, CutOut, Restore, Append, Lift, SetDistance, Ask}
use Rattle.history.specs.declared.reply.Reply.{Reply}
use Rattle.history.specs.declared.reply.Reply.TheVariants.{Passed, Stops, Runs, Hauls, Refused}

abbrev pub reply_text : Reply → List ℕ
reply_text Passed = codes "passed"
reply_text (Stops t) = stop_text (figures t)
reply_text (Runs v) = codes "up to speed " ++ decimal v
reply_text (Hauls x) = codes "up to mass " ++ decimal x
reply_text (Refused e) = refusal_text e

-- a question, and the letter of the kind of brake that it asks about
abbrev pub lettered_text : KindLetter → Question → List ℕ
lettered_text kind question = question_text question ++ (codes " by brake " ++ letter_of kind)

-- a call, by what is printed of its question
abbrev pub call_text : {Q : Type 0} → (Q → Option (List ℕ)) → Call Q → Option (List ℕ)
call_text question (Couple f) = Some (codes "couple " ++ vehicle_text f)
call_text question Uncouple = Some (codes "uncouple")
call_text question (CutOut k) = Some (codes "cut out " ++ decimal k)
call_text question (Restore k) = Some (codes "restore " ++ decimal k)
call_text question (Append f) = Some (codes "append " ++ section_text f)
call_text question Lift = Some (codes "lift")
call_text question (SetDistance l) = Some (codes "set braking distance " ++ decimal l)
call_text question (Ask q) = question q
