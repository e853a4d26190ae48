-- Run files: which text is one, and what is wrong with any other.
use Rattle.std.specs.Prelude.{◌≡◌, ℕ, ⊤, List, [], ◌∷◌, Some, None, Ok, Err, Option, Result}
use Rattle.laws.specs.declared.kind.KindLetter.{KindLetter}
use Rattle.rules.specs.declared.fault.Fault.{Fault}
use Rattle.rules.specs.declared.figures.PointFigures.{PointFigures}
use Rattle.rules.specs.declared.figures.Question.{Question}
use Rattle.rules.specs.Book.{Book, new_book}
use Rattle.text.specs.Files.{Plan, nothing, first, Entries, Accepts, FileFault}
use Rattle.runfile.specs.Sorts.{head_sort, point_sort, vehicle_sort, section_sort, question_sort}
use Rattle.runfile.specs.declared.head.Head.{Head}

-- what a run file says beside the book: the kind of brake, the points of the pull table, and the questions
pub record Request : Type 0 where
  pub kind : KindLetter
  pub points : List PointFigures
  pub questions : List Question

abbrev pub request : KindLetter → List PointFigures → List Question → Request
request k ps qs = record { kind = k; points = ps; questions = qs }

-- the questions of a run file, none where nothing was read
abbrev pub questions_of : Option Request → List Question
questions_of (Some q) = q.questions
questions_of None = []

-- its five sections in their order
abbrev pub run_plan : Plan
run_plan = first head_sort (first point_sort (first vehicle_sort (first section_sort (first question_sort nothing))))

-- the line under RUN
abbrev pub head : KindLetter → ℕ → Head
head k l = record { kind = k; distance = l }

-- what stands in each of them
abbrev pub entries_of : Request → Book → Entries run_plan
entries_of q b = (head q.kind b.distance ∷ [], (q.points, (b.vehicles, (b.sections, (q.questions, tt)))))

-- the text is the writing of a proper run, which says this
abbrev pub IsRun : List ℕ → Request → Book → Type 0
IsRun text q b = Accepts run_plan text (entries_of q b)

-- the text has this fault
abbrev pub IsFault : List ℕ → Fault → Type 0
IsFault = FileFault run_plan

-- what a text comes to: it is the writing of a run, which file and sheet then hold; or it has a fault, the file holds nothing, and the
-- sheet is as a new one
abbrev pub ReadFrom : List ℕ → Result ⊤ Fault → Option Request → Book → Type 0
ReadFrom text (Ok _) file b = (q : Request) × (file ≡ Some q) × IsRun text q b
ReadFrom text (Err f) file b = IsFault text f × (file ≡ None) × (b ≡ new_book)
