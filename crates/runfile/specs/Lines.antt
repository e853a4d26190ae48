-- How the lines of a run file are written, and what can be written.
use Rattle.std.specs.Prelude.{◌≡◌, ℕ, true, List, [], ◌∷◌, codes, decimal}
use Rattle.std.specs.Fmt.{signed_decimal}
use Rattle.rules.specs.declared.figures.PointFigures.{PointFigures}
use Rattle.rules.specs.declared.figures.Question.{Question}
use Rattle.rules.specs.declared.figures.Question.TheVariants.{Stop, Speed, Mass}
use Rattle.rules.specs.declared.figures.SectionFigures.{SectionFigures}
use Rattle.rules.specs.Book.{Vehicle}
use Rattle.rules.specs.Questions.{lawful_letter}
use Rattle.laws.specs.Kinds.{letter_of}
use Rattle.text.specs.Fields.{spaced, flag}
use Rattle.text.specs.Numerals.{Short, ShortSigned}
use Rattle.runfile.specs.declared.head.Head.{Head}

-- kind of brake and braking distance
abbrev pub head_line : Head → List ℕ
head_line h = spaced (letter_of h.kind ∷ decimal h.distance ∷ [])

abbrev pub HeadForm : Head → Type 0
HeadForm h = Short h.distance

-- speed and value
abbrev pub point_line : PointFigures → List ℕ
point_line p = spaced (decimal p.speed ∷ decimal p.value ∷ [])

abbrev pub PointForm : PointFigures → Type 0
PointForm p = Short p.speed × Short p.value

-- letter, mass, pressure, brake
abbrev pub vehicle_line : Vehicle → List ℕ
vehicle_line v = spaced ((v.figures.letter ∷ []) ∷ decimal v.figures.mass ∷ decimal v.figures.pressure ∷ flag v.braked ∷ [])

abbrev pub VehicleForm : Vehicle → Type 0
VehicleForm v = (lawful_letter v.figures.letter ≡ true) × Short v.figures.mass × Short v.figures.pressure

-- length, gradient, curve, radius, stop mark
abbrev pub section_line : SectionFigures → List ℕ
section_line s =
    spaced (decimal s.metres ∷ signed_decimal s.gradient ∷ decimal s.curve ∷ decimal s.radius ∷ decimal s.stop ∷ [])

abbrev pub SectionForm : SectionFigures → Type 0
SectionForm s = Short s.metres × ShortSigned s.gradient × Short s.curve × Short s.radius × Short s.stop

-- S with place, speed and factor; V with place and factor; M with speed and mass per wagon
abbrev pub question_line : Question → List ℕ
question_line (Stop q) = spaced (codes "S" ∷ decimal q.place ∷ decimal q.speed ∷ decimal q.factor ∷ [])
question_line (Speed q) = spaced (codes "V" ∷ decimal q.place ∷ decimal q.factor ∷ [])
question_line (Mass q) = spaced (codes "M" ∷ decimal q.speed ∷ decimal q.gross ∷ [])

abbrev pub QuestionForm : Question → Type 0
QuestionForm (Stop q) = Short q.place × Short q.speed × Short q.factor
QuestionForm (Speed q) = Short q.place × Short q.factor
QuestionForm (Mass q) = Short q.speed × Short q.gross
