use Rattle.std.proofs.Common.{take}
use Rattle.text.specs.Numerals.{ValueOf}
use Rattle.text.proofs.numbers.value_of.Given as goal

-- the bytes so far are digits, and n is their value
abbrev pub invariant-loop-b : goal.invariant-loop-b
invariant-loop-b l = ValueOf (take l.b-index l.digits) l.n
