-- What is printed of figures.
use Rattle.std.specs.Prelude.{ℕ, List, ◌++◌, codes, decimal}
use Rattle.std.specs.Char.{encode_utf8}
use Rattle.std.specs.Fmt.{signed_decimal}
use Rattle.rules.specs.declared.figures.VehicleFigures.{VehicleFigures}
use Rattle.rules.specs.declared.figures.SectionFigures.{SectionFigures}
use Rattle.rules.specs.declared.figures.StopFigures.{StopFigures}
use Rattle.rules.specs.declared.figures.StopQuestion.{StopQuestion}
use Rattle.rules.specs.declared.figures.SpeedQuestion.{SpeedQuestion}
use Rattle.rules.specs.declared.figures.MassQuestion.{MassQuestion}
use Rattle.rules.specs.declared.figures.Question.{Question}
use Rattle.rules.specs.declared.figures.Question.TheVariants.{Stop, Speed, Mass}

-- one figure and then the rest, a space between them
infix 20 ◌then◌
abbrev pub ◌then◌ : List ℕ → List ℕ → List ℕ
one then rest = one ++ (codes " " ++ rest)

abbrev pub vehicle_text : VehicleFigures → List ℕ
vehicle_text f = encode_utf8 f.letter then (decimal f.mass then decimal f.pressure)

abbrev pub section_text : SectionFigures → List ℕ
section_text f = decimal f.metres then (signed_decimal f.gradient then (decimal f.curve then (decimal f.radius then decimal f.stop)))

abbrev pub stop_text : StopFigures → List ℕ
stop_text s = decimal s.distance ++ (codes " mm, least force " ++ (decimal s.least ++ (codes ", steps " ++ decimal s.steps)))

abbrev pub stop_question_text : StopQuestion → List ℕ
stop_question_text q =
    codes "stop at place " ++ (decimal q.place ++ (codes ", speed " ++ (decimal q.speed ++ (codes ", factor " ++ decimal q.factor))))

abbrev pub speed_question_text : SpeedQuestion → List ℕ
speed_question_text q = codes "speed at place " ++ (decimal q.place ++ (codes ", factor " ++ decimal q.factor))

abbrev pub mass_question_text : MassQuestion → List ℕ
mass_question_text q = codes "mass at speed " ++ (decimal q.speed ++ (codes ", mass per wagon " ++ decimal q.gross))

abbrev pub question_text : Question → List ℕ
question_text (Stop q) = stop_question_text q
question_text (Speed q) = speed_question_text q
question_text (Mass q) = mass_question_text q
