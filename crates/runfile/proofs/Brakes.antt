-- The brake of the rear vehicle.
use Rattle.std.proofs.Common.{◌≡◌, Bool, List, [], ◌∷◌, ◌++◌, length, refl, ap}
use Rattle.rules.specs.Book.{Vehicle, vehicle, with_brake, with_rear}
use Rattle.rules.specs.declared.figures.VehicleFigures.{VehicleFigures}

pub rear_brake : (on : Bool) (vs : List Vehicle) (f : VehicleFigures) → with_brake on (with_rear vs f) (length vs) ≡ vs ++ vehicle f on ∷ []
rear_brake on [] f = refl
rear_brake on (v ∷ vs) f = ap (λ (t : List Vehicle). v ∷ t) (rear_brake on vs f)
