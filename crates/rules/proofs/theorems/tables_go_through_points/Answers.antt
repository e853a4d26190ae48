use Rattle.rules.proofs.PullTables.{goes_through}
use Rattle.rules.proofs.theorems.tables_go_through_points.Goals as goal

pub returns : goal.returns
returns c = goes_through
