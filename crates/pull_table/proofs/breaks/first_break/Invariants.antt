use Rattle.std.proofs.Common.{◌≡◌, ◌+◌, drop}
use Rattle.rules.specs.Table.{breaks_after, first_break}
use Rattle.pull_table.proofs.breaks.first_break.Given as goal

-- what is left breaks where the whole does
abbrev pub invariant-loop-before : goal.invariant-loop-before
invariant-loop-before l = breaks_after (l.before + 1) l.last (drop l.before l.rest) ≡ first_break l.points
