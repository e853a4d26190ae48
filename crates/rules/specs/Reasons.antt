-- What is printed of refusals and faults.
use Rattle.std.specs.Prelude.{ℕ, List, ◌++◌, codes, decimal}
use Rattle.rules.specs.declared.refusal.Refusal.{Refusal}
use Rattle.rules.specs.declared.refusal.Refusal.TheVariants.{UnlawfulVehicle, TrainFull, NoSuchVehicle, UnlawfulSection, LineFull, UnlawfulBrakingDistance, QuestionOutOfRange, NoLocomotive, LineTooShort, WeakBrake, WeakStep, StopsTooFar, HaulsNothing, UnlawfulLaw, MalformedLine, WrongCount, ShortBuffer}
use Rattle.rules.specs.declared.fault.Fault.{Fault}
use Rattle.rules.specs.Refusals.{number_of}

-- what is wrong, in words
unfoldable pub reason : Refusal → List ℕ
reason UnlawfulVehicle = codes "the letter, mass or pressure of a vehicle is out of range"
reason TrainFull = codes "the train has 120 vehicles already"
reason NoSuchVehicle = codes "the train has no such vehicle"
reason UnlawfulSection = codes "a figure of a section is out of range"
reason LineFull = codes "the line has 200 sections already"
reason UnlawfulBrakingDistance = codes "the braking distance is not 400 to 4000 m"
reason QuestionOutOfRange = codes "a figure of the question is out of range"
reason NoLocomotive = codes "the train has no locomotive"
reason LineTooShort = codes "the line ends before the braking distance, or has no section"
reason WeakBrake = codes "the brake force is under 1 kgf/t"
reason WeakStep = codes "in some step the train is held back by less than 1 kgf/t"
reason StopsTooFar = codes "the train does not stop within the braking distance"
reason HaulsNothing = codes "the locomotives do not haul 50 t"
reason UnlawfulLaw = codes "a figure of a law, a layer or a pull table is out of range or order"
reason MalformedLine = codes "the line is not of its form"
reason WrongCount = codes "a count is out of its limits, a line is missing or left over, or the file is too long"
reason ShortBuffer = codes "the buffer has fewer than 64 bytes"

-- the number of a refusal, and why
unfoldable pub refusal_text : Refusal → List ℕ
refusal_text e = codes "refused " ++ (decimal (number_of e) ++ (codes ": " ++ reason e))

-- the line at fault, and the refusal
unfoldable pub fault_text : Fault → List ℕ
fault_text f = codes "line " ++ (decimal f.line ++ (codes " of the run file: " ++ refusal_text f.refusal))
