-- The number by which each refusal is told, and how numbered questions decide.
use Rattle.std.specs.Prelude.{◌≡◌, ℕ, ◌⊎◌, Bool, true, false, cond, List, [], ◌∷◌, All, Some, None, Ok, Err, Option, Result}
use Rattle.rules.specs.declared.refusal.Refusal.{Refusal}
use Rattle.rules.specs.declared.refusal.Refusal.TheVariants.{UnlawfulVehicle, TrainFull, NoSuchVehicle, UnlawfulSection, LineFull, UnlawfulBrakingDistance, QuestionOutOfRange, NoLocomotive, LineTooShort, WeakBrake, WeakStep, StopsTooFar, HaulsNothing, UnlawfulLaw, MalformedLine, WrongCount, ShortBuffer}

abbrev pub number_of : Refusal → ℕ
number_of UnlawfulVehicle = 1
number_of TrainFull = 2
number_of NoSuchVehicle = 3
number_of UnlawfulSection = 4
number_of LineFull = 5
number_of UnlawfulBrakingDistance = 6
number_of QuestionOutOfRange = 7
number_of NoLocomotive = 8
number_of LineTooShort = 9
number_of WeakBrake = 10
number_of WeakStep = 11
number_of StopsTooFar = 12
number_of HaulsNothing = 13
number_of UnlawfulLaw = 14
number_of MalformedLine = 15
number_of WrongCount = 16
number_of ShortBuffer = 17

-- the number that a result tells: none where the call was not refused
abbrev pub told : {X : Type 0} → Result X Refusal → Option ℕ
told (Ok x) = None
told (Err e) = Some (number_of e)

-- what a maker answers: what it makes where the figures are lawful, else the refusal n alone
abbrev pub MadeOr : {X : Type 0} → ℕ → Type 0 → (X → Type 0) → Result X Refusal → Type 0
MadeOr n Lawful Made (Ok x) = Lawful × Made x
MadeOr n Lawful Made (Err e) = (number_of e ≡ n) × (Lawful → ⊥)

-- a maker of a law or a layer refuses with 14
abbrev pub MadeIf : {X : Type 0} → Type 0 → (X → Type 0) → Result X Refusal → Type 0
MadeIf Lawful Made r = MadeOr 14 Lawful Made r

-- a question with its number
pub record Question : Type 0 where
  pub holds : Bool
  pub number : ℕ

infix 20 ◌otherwise◌
abbrev pub ◌otherwise◌ : Bool → ℕ → Question
b otherwise n = record { holds = b; number = n }

-- the first question whose answer is "no" decides
abbrev pub first_no : List Question → Option ℕ
first_no [] = None
first_no (q ∷ qs) = cond q.holds (first_no qs) (Some q.number)

-- n is the number of the first question whose answer is "no"
abbrev pub Refuses : List Question → ℕ → Type 0
Refuses [] n = ⊥
Refuses (q ∷ qs) n = ((q.holds ≡ false) × (q.number ≡ n)) ⊎ ((q.holds ≡ true) × Refuses qs n)

-- every question is answered "yes" and none refuses, or one number refuses and no other does
abbrev pub DecidedOnce : List Question → Option ℕ → Type 0
DecidedOnce qs None = All (λ q. q.holds ≡ true) qs × ((n : ℕ) → Refuses qs n → ⊥)
DecidedOnce qs (Some m) = Refuses qs m × ((n : ℕ) → Refuses qs n → n ≡ m)

abbrev pub QuestionsDecideOnce : Type 0
QuestionsDecideOnce = (qs : List Question) → DecidedOnce qs (first_no qs)

-- what a call leaves: the changed value where it is not refused, else the old one
abbrev pub unless : {X : Type 0} → Option ℕ → X → X → X
unless None changed old = changed
unless (Some n) changed old = old

-- what comes back from a call: an edit passes; a stop is answered with its distance in millimetres, its least force and the number
-- of its steps; a speed and a mass with that one figure; or the call is refused with a number
pub data Reply : Type 0 where
  passed : Reply
  stops : ℕ → ℕ → ℕ → Reply
  runs : ℕ → Reply
  hauls : ℕ → Reply
  refused : ℕ → Reply

-- the reply that is due where no question refuses
abbrev pub decide : Option ℕ → Reply → Reply
decide None r = r
decide (Some n) r = refused n

-- the reply that a result is, by the reply that its answer is
abbrev pub reply_of : {X : Type 0} → (X → Reply) → Result X Refusal → Reply
reply_of answer (Ok x) = answer x
reply_of answer (Err e) = refused (number_of e)

-- of an edit, and of the three questions
abbrev pub edit_reply : {X : Type 0} → Result X Refusal → Reply
edit_reply = reply_of (λ _. passed)

abbrev pub stop_reply : Result (ℕ × ℕ × ℕ) Refusal → Reply
stop_reply = reply_of (λ t. stops t.0 t.1 t.2)

abbrev pub speed_reply : Result ℕ Refusal → Reply
speed_reply = reply_of runs

abbrev pub mass_reply : Result ℕ Refusal → Reply
mass_reply = reply_of hauls
