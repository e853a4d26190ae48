-- What each case of a reply tells.
use Rattle.rules.specs.Refusals.{Reply as Told, passed, stops, runs, hauls, refused, number_of}
use Rattle.history.specs.declared.reply.Reply.{Reply}
use Rattle.history.specs.declared.reply.Reply.TheVariants.{Passed, Stops, Runs, Hauls, Refused}

-- every case with its number and values
abbrev pub reply_told : Reply → Told
reply_told Passed = passed
reply_told (Stops t) = stops t.0 t.1 t.2
reply_told (Runs v) = runs v
reply_told (Hauls x) = hauls x
reply_told (Refused e) = refused (number_of e)
