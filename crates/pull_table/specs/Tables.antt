-- The points of a table.
use Rattle.std.specs.Prelude.{List, take}
use Rattle.rules.specs.declared.figures.PointFigures.{PointFigures}
use Rattle.pull_table.specs.declared.table.PullTable.{PullTable}

abbrev pub points_of : PullTable → List PointFigures
points_of t = take t.count t.points
