-- A speed between two points of a table, which lie in their ranges.
use Rattle.std.specs.Prelude.{ℕ, ◌<◌, ◌≤◌}
use Rattle.rules.specs.declared.figures.PointFigures.{PointFigures}

pub record Between (p n : PointFigures) (v : ℕ) : Type 0 where
  pub small : p.value ≤ 1000000
  pub fall : n.value ≤ p.value
  pub from : p.speed ≤ v
  pub to : v < n.speed
  pub within : n.speed ≤ 1600
