-- Bounds and order of the formulas.
use Rattle.std.specs.Prelude.{ℕ, ◌*◌, ◌≤◌}
use Rattle.std.proofs.Common.{arith, mul-le-mul, mul-le-mul_left, mul-le-mul_right}
use Rattle.rules.specs.Ratio.{AtMost}
use Rattle.rules.specs.Formulas.{adhesion, AdhesionRange, wagon_drag, quadratic_drag, QuadraticRange}

pub adhesion_cap : (m v : ℕ) → AdhesionRange m → (adhesion m v).num ≤ 1000000 * (adhesion m v).den
adhesion_cap m v lawful = omega (arith, mul-le-mul_right v lawful.1)

pub adhesion_falls : (m v w : ℕ) → v ≤ w → AtMost (adhesion m w) (adhesion m v)
adhesion_falls m v w h = omega (arith, mul-le-mul_left m h)

pub wagon_rises : (v w q : ℕ) → v ≤ w → AtMost (wagon_drag v q) (wagon_drag w q)
wagon_rises v w q h = omega (arith, mul-le-mul_left q h)

-- it is at most 1,000,000 milli
pub quadratic_cap : (a b c v q : ℕ) → QuadraticRange a b c → v ≤ 1600 → (quadratic_drag a b c v q).num ≤ 100000000000
quadratic_cap a b c v q lawful h =
    omega (arith, mul-le-mul lawful.1 h, mul-le-mul lawful.2 (mul-le-mul h h))

pub quadratic_rises : (a b c v w q : ℕ) → v ≤ w → AtMost (quadratic_drag a b c v q) (quadratic_drag a b c w q)
quadratic_rises a b c v w q h = omega (arith, mul-le-mul_left b h, mul-le-mul_left c (mul-le-mul h h))
