-- Layers over laws, value by value: what each makes of the exact ratios underneath, of the whole values below or above them,
-- and of their slacks. A falling law and a drag are layered by the same operations.
use Rattle.std.specs.Prelude.{ℕ, ◌+◌, ◌*◌, ◌≤◌, min, max, cond, nat_le}
use Rattle.rules.specs.Ratio.{Ratio, ratio, rounded_down, rounded_up}
use Rattle.rules.specs.Law.{Falling, falling}

-- ---- scale: p/100 of a law

abbrev pub PercentRange : ℕ → Type 0
PercentRange p = (1 ≤ p) × (p ≤ 100)

-- of an exact value
abbrev pub percent_of : ℕ → Ratio → Ratio
percent_of p x = ratio (p * x.num) (100 * x.den)

-- of a value below, and of one above
abbrev pub percent_down : ℕ → ℕ → ℕ
percent_down p n = rounded_down (ratio (p * n) 100)

abbrev pub percent_up : ℕ → ℕ → ℕ
percent_up p n = rounded_up (ratio (p * n) 100)

abbrev pub percent_slack : ℕ → ℕ
percent_slack s = s + 1

-- of a falling law whole
abbrev pub scaled : ℕ → Falling → Falling
scaled p f =
    falling (λ v. percent_of p (f.exact v)) (λ v. percent_down p (f.below v)) (λ v. percent_up p (f.above v)) (percent_slack f.slack)

-- ---- blend: two laws mixed a to b

abbrev pub BlendRange : ℕ → ℕ → Type 0
BlendRange a b = (1 ≤ a) × (a ≤ 100) × (1 ≤ b) × (b ≤ 100)

-- of two exact values: (a x + b y) / (a + b)
abbrev pub blend_of : ℕ → ℕ → Ratio → Ratio → Ratio
blend_of a b x y = ratio (a * (x.num * y.den) + b * (y.num * x.den)) ((a + b) * (x.den * y.den))

-- of two values below, and of two above
abbrev pub blend_down : ℕ → ℕ → ℕ → ℕ → ℕ
blend_down a b m n = rounded_down (ratio (a * m + b * n) (a + b))

abbrev pub blend_up : ℕ → ℕ → ℕ → ℕ → ℕ
blend_up a b m n = rounded_up (ratio (a * m + b * n) (a + b))

abbrev pub blend_slack : ℕ → ℕ → ℕ
blend_slack s t = max s t + 1

-- ---- lesser of two laws

-- of two exact values
abbrev pub smaller_of : Ratio → Ratio → Ratio
smaller_of x y = cond (nat_le (x.num * y.den) (y.num * x.den)) x y

-- of two values below, or of two above
abbrev pub smaller_whole : ℕ → ℕ → ℕ
smaller_whole m n = min m n

abbrev pub smaller_slack : ℕ → ℕ → ℕ
smaller_slack s t = max s t
