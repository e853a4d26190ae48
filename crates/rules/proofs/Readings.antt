-- What it takes to read a law.
use Rattle.std.proofs.Common.{ℕ, ◌+◌, ◌*◌, ◌≤◌, mul-le-mul_right, le_of_mul-le-mul_right, arith}
use Rattle.rules.specs.Ratio.{Ratio, rounded_down, rounded_up}
use Rattle.rules.specs.Law.{Reads}
use Rattle.rules.proofs.Ratios.{down_under, up_over, up_least, up_close}

-- the order of the two values follows from the exact one between them
pub reading : (x : Ratio) (lo hi s : ℕ) → 1 ≤ x.den → lo * x.den ≤ x.num → x.num ≤ hi * x.den → hi ≤ 1000000
    → hi ≤ lo + s → Reads x lo hi s
reading x lo hi s proper under over capped close =
    record {
      proper = proper;
      under = under;
      over = over;
      capped = capped;
      order = le_of_mul-le-mul_right {k = x.den} (omega arith) proper;
      close = close;
    }

-- values further off, and a larger slack
pub looser : {x : Ratio} {lo hi s : ℕ} (lo' hi' t : ℕ) → Reads x lo hi s → lo' ≤ lo → hi ≤ hi' → hi' ≤ 1000000 → hi' ≤ lo' + t
    → Reads x lo' hi' t
looser {x} {lo} {hi} lo' hi' t r low high capped close =
    reading x lo' hi' t r.proper (omega (arith, mul-le-mul_right x.den low, r.under)) (omega (arith, mul-le-mul_right x.den high, r.over)) capped close

pub wider : {x : Ratio} {lo hi s : ℕ} (t : ℕ) → Reads x lo hi s → s ≤ t → Reads x lo hi t
wider {x} {lo} {hi} t r h = looser lo hi t r (omega arith) (omega arith) r.capped (omega (arith, r.close))

-- a ratio of at most 1,000,000, rounded down and up
pub rounded_reads : (x : Ratio) → 1 ≤ x.den → x.num ≤ 1000000 * x.den → Reads x (rounded_down x) (rounded_up x) 1
rounded_reads x proper cap =
    reading x _ _ 1 proper (down_under x) (up_over x proper) (up_least x proper 1000000 cap) (up_close x)
