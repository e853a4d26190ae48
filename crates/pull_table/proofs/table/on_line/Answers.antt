-- The line lies under the value of its first point.
use Rattle.std.proofs.Common.{◌-◌, mul-le-mul_right, arith, rules}
use Rattle.rules.proofs.PullTables.{line_cap}
use Rattle.pull_table.proofs.table.on_line.Goals as goal

pub unwrap-requires : goal.unwrap-requires
unwrap-requires c =
    let p = c.args.p in
    let n = c.args.n in
    let cap = line_cap p n c.args.v c.requires.fall c.requires.from (omega arith) in
    search (rules, cap, mul-le-mul_right (n.speed - p.speed) c.requires.small)
