-- What the calls of C return.
use Rattle.std.specs.Prelude.{ℕ, ℤ, pos, neg_ℤ, List, Some, None, Ok, Err, Option, Result}
use Rattle.answering.specs.declared.unanswered.Unanswered.{Unanswered}
use Rattle.answering.specs.declared.unanswered.Unanswered.TheVariants.{Refused, NotAsked, Faulty}
use Rattle.rules.specs.declared.fault.Fault.{Fault}
use Rattle.rules.specs.declared.figures.PointFigures.{PointFigures}
use Rattle.rules.specs.declared.refusal.Refusal.{Refusal}
use Rattle.rules.specs.Law.{Stock, rounded_falling}
use Rattle.rules.specs.Layers.{scaled}
use Rattle.rules.specs.Refusals.{number_of}
use Rattle.rules.specs.Sample.{example_stock}
use Rattle.rules.specs.Table.{table_pull}

-- the laws of a train: cast iron, wagon drag, and a DF4 that pulls nine tenths of its table
abbrev pub nine_tenths : List PointFigures → Stock
nine_tenths points = example_stock (scaled 90 (rounded_falling (table_pull points)))

-- a refusal is its number below 0
abbrev pub refusal_code : Refusal → ℤ
refusal_code e = neg_ℤ (pos (number_of e))

-- there is no reckoner
abbrev pub no_reckoner : ℤ
no_reckoner = neg_ℤ (pos 100)

-- the length of the line; 0 where no such question is asked; or the number of the fault or of the refusal, below 0
abbrev pub answer_code : Result ℕ Unanswered → ℤ
answer_code (Ok k) = pos k
answer_code (Err NotAsked) = pos 0
answer_code (Err (Faulty f)) = refusal_code f.refusal
answer_code (Err (Refused e)) = refusal_code e

-- the length of the line; 0 where the text has no fault; or the number of the refusal, below 0
abbrev pub fault_code : Result (Option ℕ) Refusal → ℤ
fault_code (Ok (Some k)) = pos k
fault_code (Ok None) = pos 0
fault_code (Err e) = refusal_code e

-- how many questions there are, or the number of the fault, below 0
abbrev pub count_code : Result ℕ Fault → ℤ
count_code (Ok n) = pos n
count_code (Err f) = refusal_code f.refusal
