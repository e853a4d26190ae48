use Rattle.std.proofs.Common.{get_or, arith, rules}
use Rattle.std.specs.Int.{IsInRange}
use Rattle.std.proofs.lemmas.Str.Parse.{digit_at}
use Rattle.text.proofs.Numerals.{front_small, front_more}
use Rattle.text.proofs.numbers.value_of.Goals as goal

-- a byte that is no digit
pub returns-then-not-is_ascii_digit : goal.returns-then-not-is_ascii_digit
returns-then-not-is_ascii_digit c n h =
    let digit : IsInRange 48 57 (get_or c.args.digits.now c.loop-b.b-index 0) = digit_at c.args.digits.now c.loop-b.b-index h.0 (omega arith) in
    search rules

-- seven digits are below ten million
pub overflow_mul-n : goal.overflow_mul-n
overflow_mul-n c = omega (arith, front_small c.args.digits.now c.loop-b.b-index 6 (omega arith) c.loop-b.invariant.0)

pub overflow_add-n : goal.overflow_add-n
overflow_add-n c = omega (arith, front_small c.args.digits.now c.loop-b.b-index 6 (omega arith) c.loop-b.invariant.0)

pub loop-b-preserved : goal.loop-b-preserved
loop-b-preserved c =
    front_more c.args.digits.now c.loop-b.b-index c.loop-b.n c.from.result (omega arith) (search rules) c.from.ensures c.loop-b.invariant
