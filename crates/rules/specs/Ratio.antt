-- Exact figures that are never negative: ratios of two whole numbers, the lower at least 1. They are compared by
-- cross-multiplying, and rounded down or up to whole numbers.
use Rattle.std.specs.Prelude.{ℕ, ◌+◌, ◌*◌, ◌/◌, ◌%◌, ◌≤◌, min}

pub record Ratio : Type 0 where
  pub num : ℕ
  pub den : ℕ

abbrev pub ratio : ℕ → ℕ → Ratio
ratio n d = record { num = n; den = d }

-- x is at most y
abbrev pub AtMost : Ratio → Ratio → Type 0
AtMost x y = x.num * y.den ≤ y.num * x.den

abbrev pub rounded_down : Ratio → ℕ
rounded_down x = x.num / x.den

-- one more where something is left over
abbrev pub rounded_up : Ratio → ℕ
rounded_up x = x.num / x.den + min 1 (x.num % x.den)
