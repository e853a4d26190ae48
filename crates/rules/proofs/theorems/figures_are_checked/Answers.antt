-- Each figure and each example is what its definition computes.
use Rattle.std.proofs.Common.{refl}
use Rattle.std.specs.Char.{encode_utf8}
use Rattle.std.specs.Fmt.{digits}
use Rattle.rules.specs.Stop.{brake_force, train_drag, holding_force, braking_run, delay_run}
use Rattle.rules.specs.Mass.{holds_cautiously, greatest_mass}
use Rattle.rules.specs.Speed.{permitted_speed, last_before_failure}
use Rattle.rules.specs.Reasons.{reason, refusal_text, fault_text}
use Rattle.rules.proofs.theorems.figures_are_checked.Goals as goal

pub returns-clause-figures : goal.returns-clause-figures
unfolding brake_force train_drag holding_force braking_run delay_run holds_cautiously greatest_mass permitted_speed last_before_failure
returns-clause-figures c =
    record {
      cast_iron_at_500 = (refl, refl);
      composite_at_100 = (refl, refl);
      blend_below_at_100 = refl;
      blend_above_at_100 = refl;
      wagon_drag_at_500 = (refl, refl);
      df4_at_500 = (refl, refl);
      adhesion_at_200 = (refl, refl);
      curve_low = refl;
      curve_high = refl;
      on_a_fall = λ _. refl;
      on_a_climb = λ _. refl;
      at_rest = λ _. refl;
      one_cut_out = λ _. refl;
      both_cut_out = λ _. refl;
      exact_on_the_level = λ _. refl;
      surplus_on_the_level = λ _. refl;
      allowance_on_the_level = refl;
      finer_on_a_fall = refl;
      fast_on_the_level = λ _. refl;
      fast_on_a_fall = λ _. refl;
      hauled_on_a_climb = refl;
      hauled_from_a_stop = refl;
      hauled_by_less = refl;
      hauled_by_coupler = refl;
      hauled_by_coupler_from_a_stop = refl;
    }

pub returns-clause-examples : goal.returns-clause-examples
unfolding brake_force train_drag holding_force braking_run delay_run holds_cautiously last_before_failure reason refusal_text fault_text digits encode_utf8
returns-clause-examples c =
    record {
      seven_halves = (refl, refl);
      six_halves = (refl, refl);
      under_zero = refl;
      under_zero_up = refl;
      whole_under_zero = refl;
      no_fall = refl;
      falls_by = refl;
      no_number = refl;
      sum = refl;
      share = refl;
      quotient = refl;
      by_none = refl;
      lesser_of_two = refl;
      composite_at_200 = (refl, refl);
      adhesion_at_100 = (refl, refl);
      wagon_drag_at_rest = (refl, refl);
      df4_at_100 = (refl, refl);
      drag_by_constants = (refl, refl);
      ninety_below = refl;
      ninety_above = refl;
      three_to_one_below = refl;
      three_to_one_above = refl;
      lesser_below = refl;
      between_points = (refl, refl);
      at_the_last = (refl, refl);
      past_the_last = (refl, refl);
      unbroken = refl;
      rising_pull = refl;
      first_late = refl;
      no_point = refl;
      engines = refl;
      cars = refl;
      hauling = refl;
      trailing = refl;
      pressed = refl;
      pressed_less = refl;
      one_out = refl;
      without_wagon = refl;
      mean_mass = refl;
      no_wagon = refl;
      metres = refl;
      falling_low = refl;
      falling_high = refl;
      lowest = refl;
      first_two = refl;
      both_ends_touch = refl;
      behind_the_first = refl;
      edge_five = refl;
      edge_six = refl;
      edge_last = refl;
      below_sixty = refl;
      from_twenty_five = refl;
      force_at_250 = λ _. refl;
      drag_at_the_bottom = λ _. refl;
      held_by = λ _. refl;
      first_step = refl;
      level_delay = refl;
      falling_delay = refl;
      from_25 = λ _. refl;
      by_seven_tenths = λ _. refl;
      less_pressed = λ _. refl;
      by_passenger_brake = λ _. refl;
      locomotive_alone = λ _. refl;
      too_fast = λ _. refl;
      line_ends = λ _. refl;
      too_far = λ _. refl;
      first_answers = refl;
      finer_in_two = λ _. refl;
      finer_elsewhere = λ _. refl;
      before_failure = refl;
      own = refl;
      own_from_a_stand = refl;
      one_pulls = refl;
      six_pull = refl;
      holds = refl;
      holds_no_more = refl;
      replied = λ _. refl;
      left = λ _. refl;
      vehicle_printed = refl;
      section_printed = refl;
      stop_printed = refl;
      refusal_printed = refl;
      fault_printed = refl;
    }
