use Rattle.std.proofs.Common.{drop}
use Rattle.pull_table.specs.Tables.{points_of}
use Rattle.rules.proofs.PullTables.{Reached}
use Rattle.pull_table.proofs.table.PullTableFormula.exactly.Given as goal

abbrev pub invariant-loop-next : goal.invariant-loop-next
invariant-loop-next l = Reached (points_of l.self) l.v l.last (drop l.next-index l.rest)
