use Rattle.std.proofs.Common.{◌≡◌, ◌+◌, Some, None, sym, arith}
use Rattle.std.proofs.lemmas.Grind.{common_steps}
use Rattle.rules.specs.Table.{first_break}
use Rattle.rules.proofs.Breaks.{no_break, break_says}
use Rattle.pull_table.proofs.breaks.first_break.Goals as goal

pub returns-then-not-can_come_next-clause-says : goal.returns-then-not-can_come_next-clause-says
returns-then-not-can_come_next-clause-says c =
    let here : Some (c.loop-before.before + 1) ≡ first_break c.args.points.now = grind (arith, common_steps) in
    break_says c.args.points.now _ (sym here)

pub returns-clause-says : goal.returns-clause-says
returns-clause-says c =
    let none : None ≡ first_break c.args.points.now = grind (arith, common_steps) in
    no_break c.args.points.now (sym none)
