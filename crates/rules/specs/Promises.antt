-- What a stop promises besides its figures.
use Rattle.std.specs.Prelude.{◌≡◌, ℕ, ◌+◌, ◌≤◌, List, length, pos, None}
use Rattle.rules.specs.declared.figures.SectionFigures.{SectionFigures}
use Rattle.rules.specs.declared.figures.StopFigures.{StopFigures}
use Rattle.rules.specs.declared.figures.StopQuestion.{StopQuestion}
use Rattle.rules.specs.Book.{Book}
use Rattle.rules.specs.Fraction.{Fraction, Proper, whole, ◌≤F◌, ◌+F◌, times, over}
use Rattle.rules.specs.Law.{Stock, LawfulStock}
use Rattle.rules.specs.Kind.{Kind, LawfulKind}
use Rattle.rules.specs.Grade.{lowest_low_grade}
use Rattle.rules.specs.Stop.{Approach, approach_at, stop_window, train_mass, distance}
use Rattle.rules.specs.Exact.{exact_sum}
use Rattle.rules.specs.Finer.{Reckoning, Finer, finer_distance, HasDistance}
use Rattle.rules.specs.Allowance.{combined_slack, allowance}
use Rattle.rules.specs.Questions.{LawfulSections, stopping, figures_of}
use Rattle.rules.specs.Refusals.{first_no}

-- ---- of a stop from v, by an approach over its window w

-- each finer reckoning has a distance, and none is longer than d
abbrev pub IsSafe : Kind → Approach → List SectionFigures → ℕ → ℕ → Type 0
IsSafe k a w v d =
    (r : Reckoning) → Finer w v r → HasDistance k a v r × (finer_distance k a v r ≤F whole (pos d))

-- the surplus that figures may have over the exact sum: 1 mm a step, 1 mm for the delay, and the share e/m of that sum
abbrev pub promised_surplus : Kind → Approach → List SectionFigures → ℕ → StopFigures → Fraction
promised_surplus k a w v s =
    whole (pos (s.steps + 1)) +F over (times (combined_slack a.laws) (exact_sum k a w v)) s.least

-- the least force is at least 1,000; the distance is never under the exact sum and exceeds it by no more than that surplus, and
-- the allowance in whole millimetres is never under the surplus
pub record IsClose (k : Kind) (a : Approach) (w : List SectionFigures) (v : ℕ) (s : StopFigures) : Type 0 where
  pub proper : Proper (exact_sum k a w v)
  pub strong : 1000 ≤ s.least
  pub covered : exact_sum k a w v ≤F whole (pos s.distance)
  pub bounded : whole (pos s.distance) ≤F exact_sum k a w v +F promised_surplus k a w v s
  pub allowed : promised_surplus k a w v s ≤F whole (pos (allowance (combined_slack a.laws) s))

-- ---- of the figures that a book answers

-- no finer reckoning is longer
abbrev pub NoFinerIsLonger : Kind → Stock → Book → StopQuestion → StopFigures → Type 0
NoFinerIsLonger k s b q t = IsSafe k (approach_at s b q.place q.factor) (stop_window b q.place) q.speed t.distance

-- the surplus is bounded
abbrev pub SurplusIsBounded : Kind → Stock → Book → StopQuestion → StopFigures → Type 0
SurplusIsBounded k s b q t = IsClose k (approach_at s b q.place q.factor) (stop_window b q.place) q.speed t

-- ---- which stops keep these

-- what every approach from a sheet keeps, and its window w
pub record LawfulApproach (a : Approach) (w : List SectionFigures) : Type 0 where
  pub factor : a.factor ≤ 10
  pub mass : 1 ≤ train_mass a
  pub pressed : a.pressure ≤ train_mass a
  pub least : 50 ≤ a.per_wagon
  pub most : a.per_wagon ≤ 2000
  pub some : 1 ≤ length w
  pub sections : LawfulSections w
  pub lowest : a.lowest ≡ lowest_low_grade w

pub record LawfulStop (k : Kind) (a : Approach) (w : List SectionFigures) (v : ℕ) : Type 0 where
  pub kind : LawfulKind k
  pub laws : LawfulStock a.laws
  pub approach : LawfulApproach a w
  pub speed : v ≤ 1600

-- no question refuses it
abbrev pub Answered : Kind → Approach → ℕ → Type 0
Answered k a v = first_no (stopping k a v) ≡ None

abbrev pub StopsAreSafe : Type 0
StopsAreSafe =
    (k : Kind) (a : Approach) (w : List SectionFigures) (v : ℕ) → LawfulStop k a w v → Answered k a v
    → IsSafe k a w v (distance k a v)

-- the exact sum is the distance of a finer reckoning
abbrev pub ExactSumsAreFiner : Type 0
ExactSumsAreFiner =
    (k : Kind) (a : Approach) (w : List SectionFigures) (v : ℕ) → LawfulApproach a w
    → (r : Reckoning) × Finer w v r × (finer_distance k a v r ≡ exact_sum k a w v)

abbrev pub StopsAreClose : Type 0
StopsAreClose =
    (k : Kind) (a : Approach) (w : List SectionFigures) (v : ℕ) → LawfulStop k a w v → Answered k a v
    → IsClose k a w v (figures_of k a v)
