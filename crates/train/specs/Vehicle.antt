-- The fields of a vehicle as the book's vehicle.
use Rattle.std.specs.Prelude.{◌≡◌, ◌≤◌, true, false, Result, MatchResult}
use Rattle.rules.specs.declared.figures.VehicleFigures.{VehicleFigures}
use Rattle.rules.specs.declared.refusal.Refusal.{Refusal}
use Rattle.rules.specs.declared.refusal.Refusal.TheVariants.{UnlawfulVehicle}
use Rattle.rules.specs.Book.{Vehicle as BookVehicle, vehicle}
use Rattle.rules.specs.Questions.{lawful_letter, lawful_vehicle}
use Rattle.train.specs.declared.vehicle.Vehicle.TheInside.{Inside}
use Rattle.train.specs.VehicleKind.{letter_of, kind_of}

abbrev pub vehicle_of : Inside → BookVehicle
vehicle_of v = vehicle (record { letter = letter_of v.kind; mass = v.mass; pressure = v.pressure }) v.braked

abbrev pub fields_of : BookVehicle → Inside
fields_of v =
    record { kind = kind_of v.figures.letter; mass = v.figures.mass; pressure = v.figures.pressure; braked = v.braked }

-- letter L or W, mass 50 to 2,000, pressure up to the mass
pub record IsLawful (figures : VehicleFigures) : Type 0 where
  pub lettered : lawful_letter figures.letter ≡ true
  pub least : 50 ≤ figures.mass
  pub most : figures.mass ≤ 2000
  pub weaker : figures.pressure ≤ figures.mass

-- the vehicle of lawful figures with its brake in, or the refusal of unlawful ones
abbrev pub IsNewlyMade : VehicleFigures → Result BookVehicle Refusal → Type 0
IsNewlyMade figures r =
    MatchResult r (λ v. (v ≡ vehicle figures true) × (lawful_vehicle figures ≡ true))
    (λ e. (e ≡ UnlawfulVehicle) × (lawful_vehicle figures ≡ false))
