-- Histories: what the calls of a sheet do and answer, told by their arguments alone, and what is promised of every run of them.
use Rattle.std.specs.Prelude.{◌≡◌, ℕ, ◌⊎◌, ⊤, true, false, List, [], ◌∷◌, All}
use Rattle.rules.specs.declared.figures.SectionFigures.{SectionFigures}
use Rattle.rules.specs.declared.figures.StopFigures.{StopFigures}
use Rattle.rules.specs.declared.figures.VehicleFigures.{VehicleFigures}
use Rattle.rules.specs.declared.figures.Question.{Question as Asked}
use Rattle.rules.specs.declared.figures.Question.TheVariants.{Stop, Speed, Mass}
use Rattle.rules.specs.Book.{Book, coupled, uncoupled, cut_out, restored, appended, lifted, with_distance, OnlyBrakeOf}
use Rattle.rules.specs.Kind.{Kind, LawfulKind}
use Rattle.rules.specs.Law.{Stock, LawfulStock}
use Rattle.rules.specs.Mass.{mass_questions, hauled_mass, IsGreatestMass}
use Rattle.rules.specs.Promises.{NoFinerIsLonger, SurplusIsBounded}
use Rattle.rules.specs.Questions.{coupling, vehicle_there, appending, setting_distance, stop_questions, stop_figures}
use Rattle.rules.specs.Refusals.{Question, Refuses, Reply, passed, stops, runs, hauls, refused, first_no, decide, unless}
use Rattle.rules.specs.Speed.{speed_questions, permitted_speed, IsGreatestSpeed}
use Rattle.rules.specs.Stop.{approach_at}

-- a question with its own kind of brake and its own stock
pub record Inquiry : Type 0 where
  pub kind : Kind
  pub stock : Stock
  pub question : Asked

abbrev pub inquiry : Kind → Stock → Asked → Inquiry
inquiry k s q = record { kind = k; stock = s; question = q }

-- a call by its arguments: the seven edits, and a question
pub data Event : Type 0 where
  couple : VehicleFigures → Event
  uncouple : Event
  cut_out_brake : ℕ → Event
  restore_brake : ℕ → Event
  append : SectionFigures → Event
  lift : Event
  set_distance : ℕ → Event
  ask : Inquiry → Event

-- ---- what the book says of one call

-- the numbered questions before one of the three answers, and that answer
abbrev pub before_answer : Kind → Stock → Book → Asked → List Question
before_answer k s b (Stop q) = stop_questions k s b q.place q.speed q.factor
before_answer k s b (Speed q) = speed_questions k s b q
before_answer k s b (Mass q) = mass_questions s b q

abbrev pub answer : Kind → Stock → Book → Asked → Reply
answer k s b (Stop q) = stop_figures k (approach_at s b q.place q.factor) q.speed
answer k s b (Speed q) = runs (permitted_speed k s b q)
answer k s b (Mass q) = hauls (hauled_mass s b q)

-- the numbered questions before a call
abbrev pub questions : Book → Event → List Question
questions b (couple f) = coupling b.vehicles f
questions b uncouple = vehicle_there b.vehicles 0
questions b (cut_out_brake j) = vehicle_there b.vehicles j
questions b (restore_brake j) = vehicle_there b.vehicles j
questions b (append f) = appending b.sections f
questions b lift = []
questions b (set_distance l) = setting_distance l
questions b (ask i) = before_answer i.kind i.stock b i.question

-- what it does where none of them refuses
abbrev pub done : Book → Event → Book
done b (couple f) = coupled b f
done b uncouple = uncoupled b
done b (cut_out_brake j) = cut_out b j
done b (restore_brake j) = restored b j
done b (append f) = appended b f
done b lift = lifted b
done b (set_distance l) = with_distance b l
done b (ask i) = b

-- what it answers there
abbrev pub granted : Book → Event → Reply
granted b (ask i) = answer i.kind i.stock b i.question
granted b _ = passed

-- the first "no" decides
abbrev pub reply : Book → Event → Reply
reply b e = decide (first_no (questions b e)) (granted b e)

abbrev pub next : Book → Event → Book
next b e = unless (first_no (questions b e)) (done b e) b

-- ---- what it says of a history

abbrev pub replies : Book → List Event → List Reply
replies b [] = []
replies b (e ∷ es) = reply b e ∷ replies (next b e) es

abbrev pub after : Book → List Event → Book
after b [] = b
after b (e ∷ es) = after (next b e) es

-- ---- what is promised of every run

-- kind and stock of a question are lawful
abbrev pub LawfulEvent : Event → Type 0
LawfulEvent (ask i) = LawfulKind i.kind × LawfulStock i.stock
LawfulEvent _ = ⊤

-- a question is answered: no finer reckoning of the stop is longer, and its surplus is bounded; the speed is the greatest; the mass
-- is the greatest
abbrev pub Answers : Kind → Stock → Book → Asked → Reply → Type 0
Answers k s b (Stop q) r =
    (t : StopFigures) × (r ≡ stops t.distance t.least t.steps) × NoFinerIsLonger k s b q t × SurplusIsBounded k s b q t
Answers k s b (Speed q) r = (v : ℕ) × (r ≡ runs v) × IsGreatestSpeed k s b q v
Answers k s b (Mass q) r = (x : ℕ) × (r ≡ hauls x) × IsGreatestMass s b q x

-- a call that no numbered question refuses, from the book b to the book c: an edit passes and does what it is for; a question is answered and
-- changes nothing
abbrev pub Granted : Book → Event → Reply → Book → Type 0
Granted b (couple f) r c = (r ≡ passed) × (c ≡ coupled b f)
Granted b uncouple r c = (r ≡ passed) × (c ≡ uncoupled b)
Granted b (cut_out_brake j) r c = (r ≡ passed) × (c ≡ cut_out b j) × OnlyBrakeOf j false b.vehicles c.vehicles
Granted b (restore_brake j) r c = (r ≡ passed) × (c ≡ restored b j) × OnlyBrakeOf j true b.vehicles c.vehicles
Granted b (append f) r c = (r ≡ passed) × (c ≡ appended b f)
Granted b lift r c = (r ≡ passed) × (c ≡ lifted b)
Granted b (set_distance l) r c = (r ≡ passed) × (c ≡ with_distance b l)
Granted b (ask i) r c = Answers i.kind i.stock b i.question r × (c ≡ b)

-- a call is refused by the first "no" with its number and nothing changes, or there is no "no" and it is granted
abbrev pub RefusedOrGranted : Book → Event → Reply → Book → Type 0
RefusedOrGranted b e r c =
    ((n : ℕ) × (r ≡ refused n) × Refuses (questions b e) n × (c ≡ b))
    ⊎ (All (λ q. q.holds ≡ true) (questions b e) × Granted b e r c)

-- a call performed from the book b to the book c: its reply and the book c are what the book says, a question came with a lawful
-- kind and stock, and it is refused or granted as it should be
pub record Performed (b : Book) (e : Event) (r : Reply) (c : Book) : Type 0 where
  pub told : r ≡ reply b e
  pub held : c ≡ next b e
  pub lawful : LawfulEvent e
  pub promised : RefusedOrGranted b e r c

-- the calls of a run in their order, from the book b to the book c: each has one reply and is performed from the book that the one
-- before it left
abbrev pub Run : Book → List Event → List Reply → Book → Type 0
Run b [] [] c = c ≡ b
Run b [] (r ∷ rs) c = ⊥
Run b (e ∷ es) [] c = ⊥
Run b (e ∷ es) (r ∷ rs) c = (d : Book) × Performed b e r d × Run d es rs c

-- the whole promise about a history: its replies and its last book are those of the book that is fed the arguments of its calls
-- and nothing else, and each call of it is performed
pub record History (b : Book) (es : List Event) (rs : List Reply) (c : Book) : Type 0 where
  pub told : rs ≡ replies b es
  pub held : c ≡ after b es
  pub run : Run b es rs c
