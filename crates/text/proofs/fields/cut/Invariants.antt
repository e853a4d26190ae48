use Rattle.std.proofs.Common.{take}
use Rattle.text.specs.Numerals.{Lacks}
use Rattle.text.proofs.fields.cut.Given as goal

-- the mark has not come yet
abbrev pub invariant-loop-i : goal.invariant-loop-i
invariant-loop-i l = Lacks l.mark (take l.i l.text)
