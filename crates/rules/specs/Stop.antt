-- The stop question: how far a train runs from a place, at a speed, by a factor of full braking, until it stands.
-- Speeds are in tenths of km/h, forces in milli, distances in millimetres.
use Rattle.std.specs.Prelude.{◌≡◌, ℕ, zero, suc, ◌+◌, ◌-◌, ◌*◌, ◌/◌, ◌<◌, ◌≤◌, min, max, Bool, true, ◌&&◌, ◌↔◌, List, [], ◌∷◌, map, All, Contains, ℤ, pos, ◌+ℤ◌, int_le}
use Rattle.rules.specs.declared.figures.SectionFigures.{SectionFigures}
use Rattle.rules.specs.Fraction.{natural_of, fall_of}
use Rattle.rules.specs.Ratio.{ratio, rounded_down, rounded_up}
use Rattle.rules.specs.Law.{Stock, Drag}
use Rattle.rules.specs.Kind.{Kind}
use Rattle.rules.specs.Book.{Book, sum_of, hauling_mass, trailing_mass, brake_pressure, mass_per_wagon}
use Rattle.rules.specs.Grade.{lowest_low_grade}
use Rattle.rules.specs.Window.{window}

-- what a stop reads besides its kind of brake and its speed: the laws, the factor g in tenths of full braking, the masses
-- P and Q, the pressure K, the mass per wagon q, the braking distance L in metres, and the lowest low grade G of the window
pub record Approach : Type 0 where
  pub laws : Stock
  pub factor : ℕ
  pub hauling : ℕ
  pub trailing : ℕ
  pub pressure : ℕ
  pub per_wagon : ℕ
  pub reach : ℕ
  pub lowest : ℤ

-- the window of a stop from a place, in metres from the start of the line: the sections on one of which the train has to come to a stand
abbrev pub stop_window : Book → ℕ → List SectionFigures
stop_window b place = window place (place + b.distance) b.sections

-- from a place of the book
abbrev pub approach_at : Stock → Book → ℕ → ℕ → Approach
approach_at s b place factor =
    record {
      laws = s;
      factor = factor;
      hauling = hauling_mass b.vehicles;
      trailing = trailing_mass b.vehicles;
      pressure = brake_pressure b.vehicles;
      per_wagon = mass_per_wagon b.vehicles;
      reach = b.distance;
      lowest = lowest_low_grade (stop_window b place);
    }

-- M = P + Q
abbrev pub train_mass : Approach → ℕ
train_mass a = a.hauling + a.trailing

-- ---- steps

-- the speed edges: 0, 100, 200, 300, 400, 500, and then every 50
abbrev pub edge : ℕ → ℕ
edge k = min (100 * k) (250 + 50 * k)

-- how many edges lie below v (a difference of numbers is never under 0)
abbrev pub edges_below : ℕ → ℕ
edges_below v = max ((v + 99) / 100) ((v - 250 + 49) / 50)

-- the edges rise, and those below v are the lowest `edges_below v`
abbrev pub EdgesAreCounted : Type 0
EdgesAreCounted = (v k : ℕ) → (edge k < v ↔ k < edges_below v) × (edge k < edge (k + 1))

-- they are the multiples of 100 up to 500, and from there on each is 50 above the one before
abbrev pub EdgesAreSpeeds : Type 0
EdgesAreSpeeds = (k : ℕ) → (k ≤ 5 → edge k ≡ 100 * k) × (5 ≤ k → edge (k + 1) ≡ edge k + 50)

-- from a speed down to the next lower edge
pub record Step : Type 0 where
  pub top : ℕ
  pub bottom : ℕ

abbrev pub step : ℕ → ℕ → Step
step y z = record { top = y; bottom = z }

-- from y down through the lowest k edges
abbrev pub steps_through : ℕ → ℕ → List Step
steps_through y zero = []
steps_through y (suc k) = step y (edge k) ∷ steps_through (edge k) k

abbrev pub steps_from : ℕ → List Step
steps_from v = steps_through v (edges_below v)

-- ---- forces

-- B, the brake force at the speed y
unfoldable pub brake_force : Approach → ℕ → ℕ
brake_force a y = rounded_down (ratio (a.factor * a.pressure * a.laws.friction.below y) (10 * train_mass a))

-- a drag in a step is read at the lower speed
abbrev pub drag_in : Drag → Step → ℕ → ℕ
drag_in d s q = d.below s.bottom q

-- D, the drag of the coasting locomotives and the wagons
unfoldable pub train_drag : Approach → Step → ℕ
train_drag a s =
    rounded_down (ratio (a.hauling * drag_in a.laws.coasting s a.per_wagon + a.trailing * drag_in a.laws.wagon s a.per_wagon) (train_mass a))

-- N = B + D + G, the force that holds the train back in a step
unfoldable pub holding_force : Approach → Step → ℤ
holding_force a s = pos (brake_force a s.top) +ℤ pos (train_drag a s) +ℤ a.lowest

-- every N is at least 1,000
abbrev pub all_hold : (Step → ℤ) → List Step → Bool
all_hold force [] = true
all_hold force (s ∷ ss) = int_le (pos 1000) (force s) && all_hold force ss

-- the smallest of b and the numbers of a list
abbrev pub least_of : ℕ → List ℕ → ℕ
least_of b [] = b
least_of b (n ∷ ns) = min n (least_of b ns)

-- it is one of them, and none of them is under it
abbrev pub LeastIsLeast : Type 0
LeastIsLeast = (b : ℕ) (ns : List ℕ) → Contains (b ∷ ns) (least_of b ns) × All (λ n. least_of b ns ≤ n) (b ∷ ns)

-- m, the smallest of B at the speed asked and every N
abbrev pub least_force : Approach → ℕ → ℕ
least_force a v = least_of (brake_force a v) (map (λ s. natural_of (holding_force a s)) (steps_from v))

-- ---- distances

-- 41,700 (y² − z²)
abbrev pub braking_work : Step → ℕ
braking_work s = 41700 * (s.top * s.top - s.bottom * s.bottom)

-- a step under the force n: that over n, rounded up
unfoldable pub braking_run : Step → ℕ → ℕ
braking_run s n = rounded_up (ratio (braking_work s) n)

-- all steps
abbrev pub braking_distance : (Step → ℤ) → List Step → ℕ
braking_distance force = sum_of (λ s. braking_run s (natural_of (force s)))

-- before the brakes hold, at the speed v under the brake force b on the grade g: v (1,000 T b + 1,000 c d) / (36 b),
-- rounded up, where d is −g on a fall, else 0
unfoldable pub delay_run : Kind → ℕ → ℕ → ℤ → ℕ
delay_run k v b g = rounded_up (ratio (v * (1000 * k.seconds * b + 1000 * k.extra * fall_of g)) (36 * b))

-- the delay and all steps
abbrev pub distance : Kind → Approach → ℕ → ℕ
distance k a v = delay_run k v (brake_force a v) a.lowest + braking_distance (holding_force a) (steps_from v)
