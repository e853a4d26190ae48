-- Worked examples: small cases of the definitions, each worked out by hand from the rules.
use Rattle.std.specs.Prelude.{◌≡◌, ℕ, true, false, List, [], ◌∷◌, pos, negsuc, Some, None, codes, nat_le}
use Rattle.rules.specs.declared.figures.PointFigures.{PointFigures}
use Rattle.rules.specs.declared.figures.Question.TheVariants.{Stop}
use Rattle.rules.specs.declared.figures.SectionFigures.{SectionFigures}
use Rattle.rules.specs.declared.figures.VehicleFigures.{VehicleFigures}
use Rattle.rules.specs.declared.refusal.Refusal.TheVariants.{UnlawfulLaw, UnlawfulVehicle}
use Rattle.rules.specs.Ratio.{ratio}
use Rattle.rules.specs.Fraction.{fraction, natural_of, fall_of, lesser, ◌+F◌, ◌÷F◌, times, over, floor, ceiling}
use Rattle.rules.specs.Law.{Falling}
use Rattle.rules.specs.Formulas.{composite, adhesion, wagon_drag, quadratic_drag, df4}
use Rattle.rules.specs.Table.{first_break, table_pull}
use Rattle.rules.specs.Layers.{percent_down, percent_up, blend_down, blend_up, smaller_whole}
use Rattle.rules.specs.Kind.{freight, passenger}
use Rattle.rules.specs.Book.{vehicle, Book, book, new_book, cut_out, with_brake, without_rear, locomotives, wagons, hauling_mass, trailing_mass, brake_pressure, per_wagon, line_length}
use Rattle.rules.specs.Grade.{low_grade, high_grade, lowest_low_grade}
use Rattle.rules.specs.Window.{window}
use Rattle.rules.specs.Stop.{edge, edges_below, step, steps_from, brake_force, train_drag, holding_force, braking_run, delay_run}
use Rattle.rules.specs.Finer.{Reckoning, finer_distance}
use Rattle.rules.specs.Questions.{asked_to_stop}
use Rattle.rules.specs.Refusals.{◌otherwise◌, first_no, passed, stops, refused}
use Rattle.rules.specs.Reasons.{refusal_text, fault_text}
use Rattle.rules.specs.Speed.{last_before_failure}
use Rattle.rules.specs.Mass.{Engines, moving, starting, whole_ratio, read_cautiously, own_resistance, counted_pull, holds_cautiously}
use Rattle.rules.specs.History.{Event, couple, cut_out_brake, append, lift, set_distance, ask, inquiry, replies, after}
use Rattle.rules.specs.Printed.{vehicle_text, section_text, stop_text}
use Rattle.rules.specs.Given.{straight_section, full_braking}
use Rattle.rules.specs.Sample.{example_train, example_book, example_points, example_stock, example_stop, full_pull, long_section}
use Rattle.rules.specs.Examples.{part_from}
use Rattle.rules.specs.Figures.{RoundsTo, curved_section, level_approach, climb, micrometres}

-- the locomotive of the example and its wagon, as they are given
abbrev pub locomotive : VehicleFigures
locomotive = record { letter = 76; mass = 1000; pressure = 400 }

abbrev pub wagon : VehicleFigures
wagon = record { letter = 87; mass = 600; pressure = 200 }

-- three sections of 600 m: a level one, a fall and a climb of 10 per mille
abbrev pub level : SectionFigures
level = straight_section 600 (pos 0)

abbrev pub fall : SectionFigures
fall = straight_section 600 (negsuc 99)

abbrev pub rise : SectionFigures
rise = straight_section 600 (pos 100)

-- a point of a pull table
abbrev pub point : ℕ → ℕ → PointFigures
point v x = record { speed = v; value = x }

-- the stop from 10 km/h in two parts, which read friction at their upper and the drags at their lower speed, and in the same parts with
-- other readings
abbrev pub two_parts : Reckoning
two_parts =
    record {
      parts = part_from (long_section (pos 0)) 100 50 100 50 50 ∷ part_from (long_section (pos 0)) 50 0 50 0 0 ∷ [];
      delayed_on = long_section (pos 0);
    }

abbrev pub read_elsewhere : Reckoning
read_elsewhere =
    record {
      parts = part_from (long_section (pos 0)) 100 50 75 75 100 ∷ part_from (long_section (pos 0)) 50 0 25 0 25 ∷ [];
      delayed_on = long_section (pos 0);
    }

-- the example on the level, with its locomotive alone
abbrev pub alone : Book
alone = book (vehicle locomotive true ∷ []) (long_section (pos 0) ∷ []) 1000

-- one locomotive of 100 t, and six
abbrev pub one_engine : Engines
one_engine = record { count = 1; mass = 1000 }

abbrev pub six_engines : Engines
six_engines = record { count = 6; mass = 6000 }

-- a history from an empty sheet
abbrev pub short_history : Falling → List Event
short_history pull =
    couple locomotive
    ∷ append (long_section (pos 0))
    ∷ set_distance 399
    ∷ cut_out_brake 1
    ∷ ask (inquiry freight (example_stock pull) (Stop (full_braking 0 100)))
    ∷ lift
    ∷ ask (inquiry freight (example_stock pull) (Stop (full_braking 0 100)))
    ∷ []

-- the examples, each with its case
pub record WorkedExamples : Type 0 where
  -- ratios and fractions
  pub seven_halves : RoundsTo (ratio 7 2) 3 4
  pub six_halves : RoundsTo (ratio 6 2) 3 3
  pub under_zero : floor (fraction (negsuc 6) 2) ≡ negsuc 3
  pub under_zero_up : ceiling (fraction (negsuc 6) 2) ≡ negsuc 2
  pub whole_under_zero : floor (fraction (negsuc 5) 2) ≡ negsuc 2
  pub no_fall : fall_of (pos 3) ≡ 0
  pub falls_by : fall_of (negsuc 2) ≡ 3
  pub no_number : natural_of (negsuc 2) ≡ 0
  pub sum : fraction (pos 1) 2 +F fraction (negsuc 0) 3 ≡ fraction (pos 1) 6
  pub share : over (times 5 (fraction (pos 1) 2)) 3 ≡ fraction (pos 5) 6
  pub quotient : fraction (pos 1) 2 ÷F fraction (pos 3) 4 ≡ fraction (pos 4) 6
  pub by_none : fraction (pos 1) 2 ÷F fraction (negsuc 2) 4 ≡ fraction (pos 4) 0
  pub lesser_of_two : lesser (fraction (pos 1) 2) (fraction (negsuc 0) 3) ≡ fraction (negsuc 0) 3
  -- laws and layers
  pub composite_at_200 : RoundsTo (composite 200) 322105 322106
  pub adhesion_at_100 : RoundsTo (adhesion 1200 100) 33200 33200
  pub wagon_drag_at_rest : RoundsTo (wagon_drag 0 600) 1444 1445
  pub df4_at_100 : RoundsTo (df4 100 600) 2590 2591
  pub drag_by_constants : RoundsTo (quadratic_drag 1500000 20000 300 100 600) 1730 1730
  pub ninety_below : percent_down 90 115714 ≡ 104142
  pub ninety_above : percent_up 90 115715 ≡ 104144
  pub three_to_one_below : blend_down 3 1 115714 288000 ≡ 158785
  pub three_to_one_above : blend_up 3 1 115715 288000 ≡ 158787
  pub lesser_below : smaller_whole 35000 27666 ≡ 27666
  -- a pull table
  pub between_points : RoundsTo (table_pull example_points 100) 35000 35000
  pub at_the_last : RoundsTo (table_pull example_points 400) 20000 20000
  pub past_the_last : RoundsTo (table_pull example_points 401) 0 0
  pub unbroken : first_break example_points ≡ None
  pub rising_pull : first_break (point 0 40000 ∷ point 400 40001 ∷ point 300 0 ∷ []) ≡ Some 1
  pub first_late : first_break (point 1 40000 ∷ []) ≡ Some 0
  pub no_point : first_break [] ≡ Some 0
  -- the book
  pub engines : locomotives example_train ≡ 1
  pub cars : wagons example_train ≡ 1
  pub hauling : hauling_mass example_train ≡ 1000
  pub trailing : trailing_mass example_train ≡ 600
  pub pressed : brake_pressure example_train ≡ 600
  pub pressed_less : brake_pressure (with_brake false example_train 1) ≡ 400
  pub one_out : with_brake false example_train 1 ≡ vehicle locomotive true ∷ vehicle wagon false ∷ []
  pub without_wagon : without_rear example_train ≡ vehicle locomotive true ∷ []
  pub mean_mass : per_wagon 1213 2 ≡ 607
  pub no_wagon : per_wagon 0 0 ≡ 50
  pub metres : line_length (level ∷ fall ∷ rise ∷ []) ≡ 1800
  -- grades and windows
  pub falling_low : low_grade (record curved_section { gradient = negsuc 99 }) ≡ negsuc 8833
  pub falling_high : high_grade (record curved_section { gradient = negsuc 99 }) ≡ pos 0
  pub lowest : lowest_low_grade (level ∷ fall ∷ rise ∷ []) ≡ negsuc 9999
  pub first_two : window 0 1000 (level ∷ fall ∷ rise ∷ []) ≡ level ∷ fall ∷ []
  pub both_ends_touch : window 600 1200 (level ∷ fall ∷ rise ∷ []) ≡ level ∷ fall ∷ rise ∷ []
  pub behind_the_first : window 601 1601 (level ∷ fall ∷ rise ∷ []) ≡ fall ∷ rise ∷ []
  -- edges and steps
  pub edge_five : edge 5 ≡ 500
  pub edge_six : edge 6 ≡ 550
  pub edge_last : edge 27 ≡ 1600
  pub below_sixty : edges_below 600 ≡ 7
  pub from_twenty_five : steps_from 250 ≡ step 250 200 ∷ step 200 100 ∷ step 100 0 ∷ []
  -- forces and runs on the level
  pub force_at_250 : (pull : Falling) → brake_force (level_approach pull) 250 ≡ 56250
  pub drag_at_the_bottom : (pull : Falling) → train_drag (level_approach pull) (step 250 200) ≡ 2543
  pub held_by : (pull : Falling) → holding_force (level_approach pull) (step 250 200) ≡ pos 58793
  pub first_step : braking_run (step 250 200) 58793 ≡ 15959
  pub level_delay : delay_run freight 250 56250 (pos 0) ≡ 48612
  pub falling_delay : delay_run freight 100 74250 (negsuc 9999) ≡ 23186
  -- stops: from 25 km/h, by seven tenths of full braking, with the wagon's brake cut out, with the passenger brake, with the locomotive
  -- alone, and refused
  pub from_25 : (pull : Falling) → example_stop pull (example_book (pos 0)) 250 ≡ stops 89903 56250 3
  pub by_seven_tenths : (pull : Falling) → asked_to_stop freight (example_stock pull) (example_book (pos 0)) 0 250 7 ≡ stops 106671 39375 3
  pub less_pressed : (pull : Falling) → example_stop pull (cut_out (example_book (pos 0)) 1) 100 ≡ stops 27548 49500 1
  pub by_passenger_brake : (pull : Falling) → asked_to_stop passenger (example_stock pull) (example_book (pos 0)) 0 100 10 ≡ stops 16584 74250 1
  pub locomotive_alone : (pull : Falling) → example_stop pull alone 100 ≡ stops 24563 79200 1
  pub too_fast : (pull : Falling) → example_stop pull (example_book (pos 0)) 1601 ≡ refused 7
  pub line_ends : (pull : Falling) → asked_to_stop freight (example_stock pull) (example_book (pos 0)) 2001 100 10 ≡ refused 9
  pub too_far : (pull : Falling) → example_stop pull (example_book (pos 0)) 950 ≡ refused 12
  pub first_answers : first_no ((true otherwise 7) ∷ (false otherwise 8) ∷ (false otherwise 9) ∷ []) ≡ Some 8
  -- finer reckonings of the stop from 10 km/h
  pub finer_in_two : (pull : Falling) → micrometres (finer_distance freight (level_approach pull) 100 two_parts) ≡ pos 24738614
  pub finer_elsewhere : (pull : Falling) → micrometres (finer_distance freight (level_approach pull) 100 read_elsewhere) ≡ pos 24395063
  -- a speed
  pub before_failure : last_before_failure (λ v. nat_le v 120) 0 32 ≡ 100
  -- a mass on a climb of 8 per mille, by the whole pull of the example
  pub own : own_resistance one_engine (read_cautiously (example_stock full_pull) 600 (moving 200) (climb 0)) ≡ whole_ratio 10938000
  pub own_from_a_stand : own_resistance one_engine (read_cautiously (example_stock full_pull) 600 starting (climb 1)) ≡ whole_ratio 14591000
  pub one_pulls : counted_pull one_engine 130000 (read_cautiously (example_stock full_pull) 600 (moving 200) (climb 0)) ≡ whole_ratio 300000000
  pub six_pull : counted_pull six_engines 130000 (read_cautiously (example_stock full_pull) 600 (moving 200) (climb 0)) ≡ whole_ratio 1365628000
  pub holds : holds_cautiously (example_stock full_pull) (book example_train (climb 0 ∷ []) 1000) (record { speed = 200; gross = 600 }) 29000 ≡ true
  pub holds_no_more : holds_cautiously (example_stock full_pull) (book example_train (climb 0 ∷ []) 1000) (record { speed = 200; gross = 600 }) 29500 ≡ false
  -- a history
  pub replied : (pull : Falling) → replies new_book (short_history pull) ≡ passed ∷ passed ∷ refused 6 ∷ refused 3 ∷ stops 24563 79200 1 ∷ passed ∷ refused 9 ∷ []
  pub left : (pull : Falling) → after new_book (short_history pull) ≡ book (vehicle locomotive true ∷ []) [] 1000
  -- texts
  pub vehicle_printed : vehicle_text locomotive ≡ codes "L 1000 400"
  pub section_printed : section_text fall ≡ codes "600 -100 0 0 0"
  pub stop_printed : stop_text (record { distance = 24917; least = 74250; steps = 1 }) ≡ codes "24917 mm, least force 74250, steps 1"
  pub refusal_printed : refusal_text UnlawfulLaw ≡ codes "refused 14: a figure of a law, a layer or a pull table is out of range or order"
  pub fault_printed : fault_text (record { line = 7; refusal = UnlawfulVehicle }) ≡ codes "line 7 of the run file: refused 1: the letter, mass or pressure of a vehicle is out of range"
