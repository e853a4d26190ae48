-- The book: the train, the line and the braking distance, each figure as it was given, and what the calls do in it.
-- Masses and pressures are in tenths of a tonne, lengths in metres.
use Rattle.std.specs.Prelude.{◌≡◌, ℕ, zero, suc, ◌+◌, ◌-◌, ◌<◌, Bool, true, false, cond, List, [], ◌∷◌, ◌++◌, length, take, ◌==◌, ◌≢◌, slice_index_or}
use Rattle.rules.specs.declared.figures.VehicleFigures.{VehicleFigures}
use Rattle.rules.specs.declared.figures.SectionFigures.{SectionFigures}
use Rattle.rules.specs.Ratio.{ratio, rounded_up}

pub record Vehicle : Type 0 where
  pub figures : VehicleFigures
  pub braked : Bool

abbrev pub vehicle : VehicleFigures → Bool → Vehicle
vehicle f on = record { figures = f; braked = on }

-- vehicles from the front, sections from the start of the line, and the braking distance L
pub record Book : Type 0 where
  pub vehicles : List Vehicle
  pub sections : List SectionFigures
  pub distance : ℕ

abbrev pub book : List Vehicle → List SectionFigures → ℕ → Book
book vs ss l = record { vehicles = vs; sections = ss; distance = l }

abbrev pub new_book : Book
new_book = book [] [] 1000

-- ---- what the calls do

-- the train with a vehicle coupled at the rear, its brake in
abbrev pub with_rear : List Vehicle → VehicleFigures → List Vehicle
with_rear vs f = vs ++ vehicle f true ∷ []

abbrev pub without_rear : List Vehicle → List Vehicle
without_rear vs = take (length vs - 1) vs

-- the train with the brake of vehicle k in or out, and every other vehicle as it was
abbrev pub with_brake : Bool → List Vehicle → ℕ → List Vehicle
with_brake on [] k = []
with_brake on (v ∷ vs) zero = vehicle v.figures on ∷ vs
with_brake on (v ∷ vs) (suc k) = v ∷ with_brake on vs k

abbrev pub coupled : Book → VehicleFigures → Book
coupled b f = book (with_rear b.vehicles f) b.sections b.distance

abbrev pub uncoupled : Book → Book
uncoupled b = book (without_rear b.vehicles) b.sections b.distance

abbrev pub cut_out : Book → ℕ → Book
cut_out b k = book (with_brake false b.vehicles k) b.sections b.distance

abbrev pub restored : Book → ℕ → Book
restored b k = book (with_brake true b.vehicles k) b.sections b.distance

abbrev pub appended : Book → SectionFigures → Book
appended b f = book b.vehicles (b.sections ++ f ∷ []) b.distance

abbrev pub lifted : Book → Book
lifted b = book b.vehicles [] b.distance

abbrev pub with_distance : Book → ℕ → Book
with_distance b l = book b.vehicles b.sections l

-- ---- sums over the train and the line

abbrev pub sum_of : {X : Type 0} → (X → ℕ) → List X → ℕ
sum_of f [] = 0
sum_of f (x ∷ xs) = f x + sum_of f xs

-- the letters of a locomotive and of a wagon, L and W
abbrev pub locomotive_letter : ℕ
locomotive_letter = 76

abbrev pub wagon_letter : ℕ
wagon_letter = 87

abbrev pub is_locomotive : Vehicle → Bool
is_locomotive v = v.figures.letter == locomotive_letter

abbrev pub locomotives : List Vehicle → ℕ
locomotives = sum_of (λ v. cond (is_locomotive v) 1 0)

abbrev pub wagons : List Vehicle → ℕ
wagons = sum_of (λ v. cond (is_locomotive v) 0 1)

-- P, the mass of the locomotives
abbrev pub hauling_mass : List Vehicle → ℕ
hauling_mass = sum_of (λ v. cond (is_locomotive v) v.figures.mass 0)

-- Q, the mass of the wagons
abbrev pub trailing_mass : List Vehicle → ℕ
trailing_mass = sum_of (λ v. cond (is_locomotive v) 0 v.figures.mass)

-- K, the pressure of the brakes that are in
abbrev pub brake_pressure : List Vehicle → ℕ
brake_pressure = sum_of (λ v. cond v.braked v.figures.pressure 0)

-- a mass over a number of wagons, rounded up, and 50 without wagons
abbrev pub per_wagon : ℕ → ℕ → ℕ
per_wagon mass n = cond (n == 0) 50 (rounded_up (ratio mass n))

-- q of a stop
abbrev pub mass_per_wagon : List Vehicle → ℕ
mass_per_wagon vs = per_wagon (trailing_mass vs) (wagons vs)

abbrev pub line_length : List SectionFigures → ℕ
line_length = sum_of (λ s. s.metres)

-- of two trains: no vehicle came or went, the brake of vehicle k is in or out, its figures stay, and each other vehicle is as it was
pub record OnlyBrakeOf (k : ℕ) (on : Bool) (old new : List Vehicle) : Type 0 where
  pub count : length new ≡ length old
  pub own : (d : Vehicle) → k < length old → slice_index_or new k d ≡ vehicle (slice_index_or old k d).figures on
  pub others : (j : ℕ) (d : Vehicle) → (j ≢ k) → slice_index_or new j d ≡ slice_index_or old j d
