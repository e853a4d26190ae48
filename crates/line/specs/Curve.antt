-- A curve as its figures.
use Rattle.std.specs.Prelude.{ℕ, ◌≤◌}

-- its length and its radius in metres
pub record CurveFigures : Type 0 where
  pub metres : ℕ
  pub radius : ℕ

abbrev pub curve_of : ℕ → ℕ → CurveFigures
curve_of metres radius = record { metres = metres; radius = radius }

-- the ranges of a curve's figures
pub record IsCurve (c : CurveFigures) : Type 0 where
  pub some : 1 ≤ c.metres
  pub short : c.metres ≤ 20000
  pub wide : 100 ≤ c.radius
  pub bent : c.radius ≤ 20000
