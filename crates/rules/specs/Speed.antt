-- The speed question: the greatest speed of which the train stops from it, and from every lower one, within the braking distance.
-- Speeds are the multiples of 50 tenths of km/h up to 1,600.
use Rattle.std.specs.Prelude.{◌≡◌, ℕ, zero, suc, ◌+◌, ◌*◌, ◌≤◌, Bool, cond, List, is_none}
use Rattle.rules.specs.declared.figures.SpeedQuestion.{SpeedQuestion}
use Rattle.rules.specs.Book.{Book}
use Rattle.rules.specs.Kind.{Kind}
use Rattle.rules.specs.Law.{Stock}
use Rattle.rules.specs.Questions.{stop_questions, asked_to_stop}
use Rattle.rules.specs.Refusals.{Question, Reply, stops, runs, refused, first_no, decide}

-- the stop at a speed, all else as the question has it
abbrev pub stop_at : Kind → Stock → Book → SpeedQuestion → ℕ → Reply
stop_at k s b q v = asked_to_stop k s b q.place v q.factor

-- no question refuses it
abbrev pub is_answered_at : Kind → Stock → Book → SpeedQuestion → ℕ → Bool
is_answered_at k s b q v = is_none (first_no (stop_questions k s b q.place v q.factor))

-- from v on the last speed before the first one that fails, in at most n steps of 50
unfoldable pub last_before_failure : (ℕ → Bool) → ℕ → ℕ → ℕ
last_before_failure ok v zero = v
last_before_failure ok v (suc n) = cond (ok (v + 50)) (last_before_failure ok (v + 50) n) v

-- the last speed before the first one at which a stop is refused; 32 steps of 50 lead from rest to 1,600
unfoldable pub permitted_speed : Kind → Stock → Book → SpeedQuestion → ℕ
permitted_speed k s b q = last_before_failure (is_answered_at k s b q) 0 32

-- it is refused where a stop at speed 0 is, with the same number
abbrev pub speed_questions : Kind → Stock → Book → SpeedQuestion → List Question
speed_questions k s b q = stop_questions k s b q.place 0 q.factor

-- what the book answers to a speed question
abbrev pub asked_for_speed : Kind → Stock → Book → SpeedQuestion → Reply
asked_for_speed k s b q = decide (first_no (speed_questions k s b q)) (runs (permitted_speed k s b q))

-- ---- what is promised of it

-- a reply answers a stop with a distance of at most L
abbrev pub StopsWithin : ℕ → Reply → Type 0
StopsWithin l r = (d m n : ℕ) × (r ≡ stops d m n) × (d ≤ 1000 * l)

abbrev pub IsRefused : Reply → Type 0
IsRefused r = (n : ℕ) × (r ≡ refused n)

-- v is a multiple of 50 up to 1,600; the stop from it and from each multiple under it is answered within the braking distance, and
-- the one from the next is refused, where that is not past 1,600
pub record IsGreatestSpeed (k : Kind) (s : Stock) (b : Book) (q : SpeedQuestion) (v : ℕ) : Type 0 where
  pub multiple : (j : ℕ) × (v ≡ 50 * j)
  pub most : v ≤ 1600
  pub lower : (j : ℕ) → 50 * j ≤ v → StopsWithin b.distance (stop_at k s b q (50 * j))
  pub next : v + 50 ≤ 1600 → IsRefused (stop_at k s b q (v + 50))
