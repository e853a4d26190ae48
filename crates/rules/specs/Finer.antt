-- Finer reckonings of a stop: of the same train over the same window, by exact fractions, through at least the same edges.
use Rattle.std.specs.Prelude.{◌≡◌, ℕ, ◌<◌, ◌≤◌, ◌↔◌, List, [], ◌∷◌, map, All, Contains}
use Rattle.rules.specs.declared.figures.SectionFigures.{SectionFigures}
use Rattle.rules.specs.Fraction.{Fraction, Proper, Positive, ◌+F◌, total}
use Rattle.rules.specs.Grade.{grade}
use Rattle.rules.specs.Kind.{Kind}
use Rattle.rules.specs.Stop.{Approach, Step, edge, steps_from}
use Rattle.rules.specs.Exact.{Readings, exact_brake_force, exact_holding_force, exact_run, exact_delay}

-- one part: from a speed down to a lower one, the speeds at which it reads friction and the drags, and the section whose
-- grade it reads
pub record Part : Type 0 where
  pub run : Step
  pub at : Readings
  pub on : SectionFigures

-- its parts, and the section whose grade the delay reads
pub record Reckoning : Type 0 where
  pub parts : List Part
  pub delayed_on : SectionFigures

-- from v each step begins where the one before ended, and the last ends at 0
abbrev pub FallsFrom : ℕ → List Step → Type 0
FallsFrom v [] = v ≡ 0
FallsFrom v (s ∷ ss) = (s.top ≡ v) × (s.bottom < v) × FallsFrom s.bottom ss

-- the steps of a stop fall from its speed to 0, through each edge below that and no other speed
abbrev pub StepsFall : Type 0
StepsFall =
    (v : ℕ) → FallsFrom v (steps_from v)
    × ((z : ℕ) → Contains (map (λ s. s.bottom) (steps_from v)) z ↔ ((k : ℕ) × (edge k < v) × (edge k ≡ z)))

-- a speed of the step, ends counted
abbrev pub IsIn : Step → ℕ → Type 0
IsIn s v = (s.bottom ≤ v) × (v ≤ s.top)

-- a part reads at speeds of its own and the grade of a section of the window
pub record ReadsIn (w : List SectionFigures) (p : Part) : Type 0 where
  pub friction : IsIn p.run p.at.friction
  pub coasting : IsIn p.run p.at.coasting
  pub wagon : IsIn p.run p.at.wagon
  pub grade : Contains w p.on

-- a finer reckoning of a stop from v over the window w
pub record Finer (w : List SectionFigures) (v : ℕ) (r : Reckoning) : Type 0 where
  pub falls : FallsFrom v (map (λ p. p.run) r.parts)
  pub edges : (k : ℕ) → edge k < v → Contains (map (λ p. p.run.bottom) r.parts) (edge k)
  pub reads : All (ReadsIn w) r.parts
  pub delay : Contains w r.delayed_on

-- the force that holds the train back in a part
abbrev pub part_force : Approach → Part → Fraction
part_force a p = exact_holding_force a p.at (grade p.on)

abbrev pub part_distance : Approach → Part → Fraction
part_distance a p = exact_run p.run (part_force a p)

-- its distance: the delay, which reads friction at v, and all parts
abbrev pub finer_distance : Kind → Approach → ℕ → Reckoning → Fraction
finer_distance k a v r =
    exact_delay k v (exact_brake_force a v) (grade r.delayed_on) +F total (map (part_distance a) r.parts)

-- every force that its distance is divided by is positive, and the distance is a proper fraction
pub record HasDistance (k : Kind) (a : Approach) (v : ℕ) (r : Reckoning) : Type 0 where
  pub brake : Positive (exact_brake_force a v)
  pub parts : All (λ p. Positive (part_force a p)) r.parts
  pub proper : Proper (finer_distance k a v r)
