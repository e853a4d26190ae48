-- How ratios are ordered and rounded.
use Rattle.std.proofs.Common.{◌≡◌, ℕ, zero, suc, ◌+◌, ◌*◌, ◌/◌, ◌%◌, ◌<◌, ◌≤◌, min, mul-le-mul_right, mod-lt, lt_of_mul-lt-mul_right, div-add-mod', div-mul-le_self, le_of_mul-le-mul_right, arith}
use Rattle.rules.specs.Ratio.{Ratio, ratio, AtMost, rounded_down, rounded_up}

pub down_under : (x : Ratio) → rounded_down x * x.den ≤ x.num
down_under x = div-mul-le_self x.num x.den

ceil_over : (q r d n : ℕ) → q * d + r ≡ n → r < d → n ≤ (q + min 1 r) * d
ceil_over q zero d n e h = omega arith
ceil_over q (suc r) d n e h = let m : min 1 (suc r) ≡ 1 = omega arith in rw m (omega arith)

ceil_least : (q r d n k : ℕ) → q * d + r ≡ n → 1 ≤ d → n ≤ k * d → q + min 1 r ≤ k
ceil_least q zero d n k e h le = let less : q ≤ k = le_of_mul-le-mul_right {k = d} (omega arith) h in omega arith
ceil_least q (suc r) d n k e h le = let less : q < k = lt_of_mul-lt-mul_right d (omega arith) in omega arith

module _ (x : Ratio) (proper : 1 ≤ x.den) where
  pub up_over : x.num ≤ rounded_up x * x.den
  up_over = ceil_over (x.num / x.den) (x.num % x.den) x.den x.num (div-add-mod' x.num x.den) (mod-lt _ proper)

  -- past the whole number rounded down lies the ratio
  down_next : x.num ≤ (rounded_down x + 1) * x.den
  down_next = omega (arith, div-add-mod' x.num x.den, mod-lt x.num proper)

  -- no whole number over the ratio is under the one rounded up
  pub up_least : (k : ℕ) → x.num ≤ k * x.den → rounded_up x ≤ k
  up_least k = ceil_least (x.num / x.den) (x.num % x.den) x.den x.num k (div-add-mod' x.num x.den) proper

pub up_close : (x : Ratio) → rounded_up x ≤ rounded_down x + 1
up_close x = omega arith

-- over one denominator, figures at most k apart are rounded to whole numbers at most k + 1 apart
pub up_near : (n m d k : ℕ) → 1 ≤ d → m ≤ n + k * d → rounded_up (ratio m d) ≤ rounded_down (ratio n d) + (k + 1)
up_near n m d k h le = up_least (ratio m d) h _ (omega (arith, down_next (ratio n d) h))

pub at_most_trans : (x y z : Ratio) → 1 ≤ y.den → AtMost x y → AtMost y z → AtMost x z
at_most_trans x y z h xy yz =
    le_of_mul-le-mul_right {k = y.den} (omega (arith, mul-le-mul_right z.den xy, mul-le-mul_right x.den yz)) h

-- a whole number over y is over what is at most y
pub whole_over : (x y : Ratio) (k : ℕ) → 1 ≤ y.den → AtMost x y → y.num ≤ k * y.den → x.num ≤ k * x.den
whole_over x y k h le over = le_of_mul-le-mul_right {k = y.den} (omega (arith, mul-le-mul_right x.den over)) h
