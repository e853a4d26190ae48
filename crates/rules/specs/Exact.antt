-- A stop by exact fractions: the formulas of the stop question, unrounded.
use Rattle.std.specs.Prelude.{ℕ, ◌*◌, List, map, pos}
use Rattle.rules.specs.declared.figures.SectionFigures.{SectionFigures}
use Rattle.rules.specs.Fraction.{Fraction, fraction, signed, whole, lesser, ◌+F◌, ◌÷F◌, total, times, over, fall_of}
use Rattle.rules.specs.Kind.{Kind}
use Rattle.rules.specs.Grade.{grade, lowest}
use Rattle.rules.specs.Stop.{Approach, Step, train_mass, braking_work, steps_from}

-- ---- forces

-- the speeds at which friction, the coasting drag and the wagon drag are read
pub record Readings : Type 0 where
  pub friction : ℕ
  pub coasting : ℕ
  pub wagon : ℕ

-- where a step reads them: friction at its upper speed, the drags at its lower one
abbrev pub readings_in : Step → Readings
readings_in s = record { friction = s.top; coasting = s.bottom; wagon = s.bottom }

-- B
abbrev pub exact_brake_force : Approach → ℕ → Fraction
exact_brake_force a y = over (times (a.factor * a.pressure) (signed (a.laws.friction.exact y))) (10 * train_mass a)

-- D
abbrev pub exact_train_drag : Approach → Readings → Fraction
exact_train_drag a r =
    over (times a.hauling (signed (a.laws.coasting.exact r.coasting a.per_wagon))
    +F times a.trailing (signed (a.laws.wagon.exact r.wagon a.per_wagon))) (train_mass a)

-- N, on a grade
abbrev pub exact_holding_force : Approach → Readings → Fraction → Fraction
exact_holding_force a r g = exact_brake_force a r.friction +F exact_train_drag a r +F g

-- ---- distances

-- a step under the force n
abbrev pub exact_run : Step → Fraction → Fraction
exact_run s n = whole (pos (braking_work s)) ÷F n

-- how steep a grade falls, and 0 where it does not
abbrev pub exact_fall : Fraction → Fraction
exact_fall g = fraction (pos (fall_of g.num)) g.den

-- before the brakes hold, at the speed v under the brake force b on the grade g
abbrev pub exact_delay : Kind → ℕ → Fraction → Fraction → Fraction
exact_delay k v b g = times v (times (1000 * k.seconds) b +F times (1000 * k.extra) (exact_fall g)) ÷F times 36 b

-- ---- the exact sum

-- the lowest exact grade of some sections; of no section, 0
abbrev pub lowest_grade : List SectionFigures → Fraction
lowest_grade w = lowest lesser (whole (pos 0)) (map grade w)

-- the delay and all steps of a stop from v over the sections of the window w
abbrev pub exact_sum : Kind → Approach → List SectionFigures → ℕ → Fraction
exact_sum k a w v =
    exact_delay k v (exact_brake_force a v) (lowest_grade w)
    +F total (map (λ s. exact_run s (exact_holding_force a (readings_in s) (lowest_grade w))) (steps_from v))
