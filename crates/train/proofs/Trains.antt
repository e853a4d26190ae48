-- A train with the brake of one vehicle set.
use Rattle.std.proofs.Common.{◌≡◌, ℕ, zero, suc, ◌<◌, Bool, List, [], ◌∷◌, length, get_or, set, ap, arith}
use Rattle.rules.specs.Book.{Vehicle, vehicle, with_brake}

-- the vehicle x at k with its brake in or out
pub set_brake_at : (xs : List Vehicle) (k : ℕ) (x : Vehicle) (on : Bool) → k < length xs → x ≡ get_or xs k x
    → set xs k (vehicle x.figures on) ≡ with_brake on xs k
set_brake_at [] k x on h e = absurd (omega arith)
set_brake_at (y ∷ xs) zero x on h e = ap (λ (u : Vehicle). vehicle u.figures on ∷ xs) e
set_brake_at (y ∷ xs) (suc k) x on h e = ap (λ t. y ∷ t) (set_brake_at xs k x on (omega arith) e)
