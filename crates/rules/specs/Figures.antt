-- Checked figures: known values of the definitions that the contracts cite.
use Rattle.std.specs.Prelude.{◌≡◌, ℕ, List, [], ◌∷◌, ℤ, pos, negsuc}
use Rattle.rules.specs.declared.figures.SectionFigures.{SectionFigures}
use Rattle.rules.specs.declared.figures.StopFigures.{StopFigures}
use Rattle.rules.specs.Fraction.{Fraction, floor, times}
use Rattle.rules.specs.Ratio.{Ratio, rounded_down, rounded_up}
use Rattle.rules.specs.Law.{Falling}
use Rattle.rules.specs.Formulas.{cast_iron, composite, adhesion, wagon_drag, df4}
use Rattle.rules.specs.Layers.{blend_down, blend_up}
use Rattle.rules.specs.Book.{cut_out}
use Rattle.rules.specs.Grade.{low_grade, high_grade}
use Rattle.rules.specs.Refusals.{stops, runs, hauls, refused}
use Rattle.rules.specs.Kind.{freight}
use Rattle.rules.specs.Stop.{Approach, approach_at, stop_window}
use Rattle.rules.specs.Exact.{exact_sum}
use Rattle.rules.specs.Finer.{finer_distance}
use Rattle.rules.specs.Promises.{promised_surplus}
use Rattle.rules.specs.Allowance.{allowance}
use Rattle.rules.specs.Given.{straight_section}
use Rattle.rules.specs.Sample.{long_section, example_book, full_pull, example_pull, example_stock, example_stop, example_speed, example_mass, six_locomotives, train_hauls}
use Rattle.rules.specs.Examples.{stretch, example_approach, five_parts}

-- x is rounded down to lo and up to hi
abbrev pub RoundsTo : Ratio → ℕ → ℕ → Type 0
RoundsTo x lo hi = (rounded_down x ≡ lo) × (rounded_up x ≡ hi)

-- 500 m, level, with a curve of 250 m and radius 300
abbrev pub curved_section : SectionFigures
curved_section = record { metres = 500; gradient = pos 0; curve = 250; radius = 300; stop = 0 }

-- the example train on the level, its window, and the figures that it is answered at 10 km/h
abbrev pub level_approach : Falling → Approach
level_approach pull = approach_at (example_stock pull) (example_book (pos 0)) 0 10

abbrev pub level_window : List SectionFigures
level_window = stop_window (example_book (pos 0)) 0

abbrev pub level_stop : StopFigures
level_stop = record { distance = 24917; least = 74250; steps = 1 }

-- a climb of 8 per mille, and one of 15, each by its stop mark
abbrev pub climb : ℕ → SectionFigures
climb mark = record (long_section (pos 80)) { stop = mark }

abbrev pub steep_climb : ℕ → SectionFigures
steep_climb mark = record (long_section (pos 150)) { stop = mark }

-- a length in millimetres, in thousandths of them and rounded down
abbrev pub micrometres : Fraction → ℤ
micrometres x = floor (times 1000 x)

-- the figures, each with its case
pub record CheckedFigures : Type 0 where
  pub cast_iron_at_500 : RoundsTo (cast_iron 500) 115714 115715
  pub composite_at_100 : RoundsTo (composite 100) 338823 338824
  pub blend_below_at_100 : blend_down 1 1 (rounded_down (cast_iron 100)) (rounded_down (composite 100)) ≡ 268411
  pub blend_above_at_100 : blend_up 1 1 (rounded_up (cast_iron 100)) (rounded_up (composite 100)) ≡ 268412
  pub wagon_drag_at_500 : RoundsTo (wagon_drag 500 600) 2555 2556
  pub df4_at_500 : RoundsTo (df4 500 600) 4190 4190
  pub adhesion_at_200 : RoundsTo (adhesion 1000 200) 26600 26600
  pub curve_low : low_grade curved_section ≡ pos 1166
  pub curve_high : high_grade curved_section ≡ pos 1167
  -- the example train, whatever its locomotive pulls: on a fall and a climb of 10 per mille, at rest, and on a fall of 40 per
  -- mille with brakes cut out
  pub on_a_fall : (pull : Falling) → example_stop pull (example_book (negsuc 99)) 100 ≡ stops 29484 66216 1
  pub on_a_climb : (pull : Falling) → example_stop pull (example_book (pos 100)) 100 ≡ stops 24282 74250 1
  pub at_rest : (pull : Falling) → example_stop pull (example_book (pos 0)) 0 ≡ stops 0 101250 0
  pub one_cut_out : (pull : Falling) → example_stop pull (cut_out (example_book (negsuc 399)) 0) 100 ≡ refused 11
  pub both_cut_out : (pull : Falling) → example_stop pull (cut_out (cut_out (example_book (negsuc 399)) 0) 1) 100 ≡ refused 10
  -- the stop on the level from 10 km/h reckoned exactly, its surplus and its allowance; and a finer reckoning of the stop from
  -- 25 km/h on a fall before the level
  pub exact_on_the_level : (pull : Falling) → micrometres (exact_sum freight (level_approach pull) level_window 100) ≡ pos 24915688
  pub surplus_on_the_level : (pull : Falling) → micrometres (promised_surplus freight (level_approach pull) level_window 100 level_stop) ≡ pos 3677
  pub allowance_on_the_level : allowance 5 level_stop ≡ 4
  pub finer_on_a_fall : micrometres (finer_distance freight (example_approach (negsuc 99)) 250 (five_parts (stretch (negsuc 99)) (stretch (pos 0)))) ≡ pos 90194290
  -- how fast that train may go on the level and on a fall of 10 per mille
  pub fast_on_the_level : (pull : Falling) → example_speed pull (example_book (pos 0)) ≡ runs 900
  pub fast_on_a_fall : (pull : Falling) → example_speed pull (example_book (negsuc 99)) ≡ runs 800
  -- what the locomotive hauls on a climb of 8 per mille: by its whole pull, there from a stand too, and by nine tenths of it
  pub hauled_on_a_climb : example_mass full_pull (climb 0 ∷ []) ≡ hauls 29000
  pub hauled_from_a_stop : example_mass full_pull (climb 1 ∷ []) ≡ hauls 28000
  pub hauled_by_less : example_mass example_pull (straight_section 1500 (pos 0) ∷ straight_section 1500 (pos 80) ∷ []) ≡ hauls 26000
  -- what six locomotives haul by their whole pull on a climb of 15 per mille: as much as a coupler takes, and from a stand what it
  -- takes there
  pub hauled_by_coupler : train_hauls six_locomotives full_pull (steep_climb 0 ∷ []) ≡ hauls 76500
  pub hauled_by_coupler_from_a_stop : train_hauls six_locomotives full_pull (steep_climb 1 ∷ []) ≡ hauls 45500
