-- The numbered questions before every answer, one list for each call, in the order in which they are asked.
use Rattle.std.specs.Prelude.{ℕ, ◌+◌, ◌*◌, Bool, cond, ◌&&◌, ◌||◌, leb, List, [], ◌∷◌, length, pos, negsuc, ◌==◌, int_le, nat_le, nat_lt, All, IsTrue}
use Rattle.rules.specs.declared.figures.VehicleFigures.{VehicleFigures}
use Rattle.rules.specs.declared.figures.SectionFigures.{SectionFigures}
use Rattle.rules.specs.declared.figures.StopFigures.{StopFigures}
use Rattle.rules.specs.Refusals.{Question, ◌otherwise◌, Reply, stops, decide, first_no}
use Rattle.rules.specs.Law.{Stock}
use Rattle.rules.specs.Kind.{Kind}
use Rattle.rules.specs.Book.{Book, Vehicle, locomotive_letter, wagon_letter, locomotives, line_length}
use Rattle.rules.specs.Stop.{Approach, approach_at, brake_force, holding_force, all_hold, steps_from, distance, least_force}

-- letter L or W
abbrev pub lawful_letter : ℕ → Bool
lawful_letter letter = letter == locomotive_letter || letter == wagon_letter

-- and mass 50 to 2,000, pressure up to the mass
abbrev pub lawful_vehicle : VehicleFigures → Bool
lawful_vehicle f =
    lawful_letter f.letter && (nat_le 50 f.mass && (nat_le f.mass 2000 && nat_le f.pressure f.mass))

abbrev pub coupling : List Vehicle → VehicleFigures → List Question
coupling vs f = (lawful_vehicle f otherwise 1) ∷ (nat_lt (length vs) 120 otherwise 2) ∷ []

-- uncoupling asks for vehicle 0, cutting out and restoring for the vehicle named
abbrev pub vehicle_there : List Vehicle → ℕ → List Question
vehicle_there vs k = (nat_lt k (length vs) otherwise 3) ∷ []

-- radius 100 to 20,000 with a curve, and 0 without
abbrev pub lawful_curve : ℕ → ℕ → Bool
lawful_curve curve radius = cond (curve == 0) (radius == 0) (nat_le 100 radius && nat_le radius 20000)

-- length 1 to 20,000, gradient −400 to 400, curve no longer than the section, stop mark 0 or 1
abbrev pub lawful_section : SectionFigures → Bool
lawful_section f =
    (nat_le 1 f.metres && nat_le f.metres 20000)
    && ((int_le (negsuc 399) f.gradient && int_le f.gradient (pos 400))
    && (nat_le f.curve f.metres && (lawful_curve f.curve f.radius && nat_le f.stop 1)))

-- every one of some sections is lawful
abbrev pub LawfulSections : List SectionFigures → Type 0
LawfulSections = All (λ f. IsTrue (lawful_section f))

abbrev pub appending : List SectionFigures → SectionFigures → List Question
appending ss f = (lawful_section f otherwise 4) ∷ (nat_lt (length ss) 200 otherwise 5) ∷ []

abbrev pub setting_distance : ℕ → List Question
setting_distance l = ((nat_le 400 l && nat_le l 4000) otherwise 6) ∷ []

-- ---- the stop question

abbrev pub place_in_range : ℕ → ℕ → Bool
place_in_range place factor = nat_le place 4000000 && (nat_le 1 factor && nat_le factor 10)

-- the line reaches from the place over the braking distance
abbrev pub reaches : Book → ℕ → Bool
reaches b place = nat_le (place + b.distance) (line_length b.sections)

-- what is asked of the place before any speed is tried
abbrev pub approaching : Bool → Book → ℕ → ℕ → List Question → List Question
approaching speed-in-range b place factor more =
    ((speed-in-range && place_in_range place factor) otherwise 7)
    ∷ (leb 1 (locomotives b.vehicles) otherwise 8)
    ∷ (reaches b place otherwise 9)
    ∷ more

-- what is asked of the forces
abbrev pub braking : Approach → ℕ → List Question → List Question
braking a v more =
    (leb 1000 (brake_force a v) otherwise 10)
    ∷ (all_hold (holding_force a) (steps_from v) otherwise 11)
    ∷ more

-- a distance in millimetres lies within the braking distance
abbrev pub within_reach : Approach → ℕ → Bool
within_reach a d = leb d (1000 * a.reach)

-- and of the distance
abbrev pub stopping : Kind → Approach → ℕ → List Question
stopping k a v = braking a v ((within_reach a (distance k a v) otherwise 12) ∷ [])

abbrev pub stop_questions : Kind → Stock → Book → ℕ → ℕ → ℕ → List Question
stop_questions k s b place speed factor =
    approaching (nat_le speed 1600) b place factor (stopping k (approach_at s b place factor) speed)

-- the three figures of an answered stop
abbrev pub figures_of : Kind → Approach → ℕ → StopFigures
figures_of k a v = record { distance = distance k a v; least = least_force a v; steps = length (steps_from v) }

-- three figures by their names
abbrev pub figures : ℕ × ℕ × ℕ → StopFigures
figures t = record { distance = t.0; least = t.1; steps = t.2 }

abbrev pub stop_figures : Kind → Approach → ℕ → Reply
stop_figures k a v = stops (distance k a v) (least_force a v) (length (steps_from v))

-- what the book answers to a stop question
abbrev pub asked_to_stop : Kind → Stock → Book → ℕ → ℕ → ℕ → Reply
asked_to_stop k s b place speed factor =
    decide (first_no (stop_questions k s b place speed factor)) (stop_figures k (approach_at s b place factor) speed)
