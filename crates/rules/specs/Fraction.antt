-- Exact figures of either sign: fractions whose upper number is signed. They are compared and summed by cross-multiplying, which
-- means something where the lower number is at least 1 (`Proper`).
use Rattle.std.specs.Prelude.{ℕ, suc, ◌*◌, ◌/◌, ◌≤◌, List, [], ◌∷◌, ℤ, pos, negsuc, ◌+ℤ◌, ◌*ℤ◌, ◌≤ℤ◌, neg_ℤ, cond, int_lt}
use Rattle.rules.specs.Ratio.{Ratio}

pub record Fraction : Type 0 where
  pub num : ℤ
  pub den : ℕ

abbrev pub fraction : ℤ → ℕ → Fraction
fraction z d = record { num = z; den = d }

abbrev pub whole : ℤ → Fraction
whole z = fraction z 1

-- a figure that is never negative
abbrev pub signed : Ratio → Fraction
signed x = fraction (pos x.num) x.den

-- the lower number is at least 1
abbrev pub Proper : Fraction → Type 0
Proper x = 1 ≤ x.den

-- ---- whole numbers

-- a number that is not negative, and 0 in the place of a negative one
abbrev pub natural_of : ℤ → ℕ
natural_of (pos n) = n
natural_of (negsuc n) = 0

-- how far a number lies under 0, and 0 where it does not
abbrev pub fall_of : ℤ → ℕ
fall_of (pos n) = 0
fall_of (negsuc n) = suc n

-- a proper fraction over 0
abbrev pub Positive : Fraction → Type 0
Positive x = Proper x × (1 ≤ natural_of x.num)

-- ---- order and sums

-- x is at most y
infix 50 ◌≤F◌
pub record ◌≤F◌ (x y : Fraction) : Type 0 where
  pub cross : (x.num *ℤ pos y.den) ≤ℤ (y.num *ℤ pos x.den)

-- the lesser of two
abbrev pub lesser : Fraction → Fraction → Fraction
lesser x y = cond (int_lt (y.num *ℤ pos x.den) (x.num *ℤ pos y.den)) y x

infixl 60 ◌+F◌
abbrev pub ◌+F◌ : Fraction → Fraction → Fraction
x +F y = fraction (x.num *ℤ pos y.den +ℤ y.num *ℤ pos x.den) (x.den * y.den)

abbrev pub total : List Fraction → Fraction
total [] = whole (pos 0)
total (x ∷ xs) = x +F total xs

-- n times x
abbrev pub times : ℕ → Fraction → Fraction
times n x = fraction (pos n *ℤ x.num) x.den

-- x divided by a whole number of at least 1
abbrev pub over : Fraction → ℕ → Fraction
over x n = fraction x.num (x.den * n)

-- x divided by a positive y; by another the lower number is 0, and that is no figure
infixl 70 ◌÷F◌
abbrev pub ◌÷F◌ : Fraction → Fraction → Fraction
x ÷F y = fraction (x.num *ℤ pos y.den) (x.den * natural_of y.num)

-- ---- rounding

-- z over d, rounded down
abbrev pub floored : ℤ → ℕ → ℤ
floored (pos n) d = pos (n / d)
floored (negsuc n) d = negsuc (n / d)

abbrev pub floor : Fraction → ℤ
floor x = floored x.num x.den

-- rounded up: the negative of its negative rounded down
abbrev pub ceiling : Fraction → ℤ
ceiling x = neg_ℤ (floored (neg_ℤ x.num) x.den)

-- rounded down a figure is the greatest whole number that is not over it, and rounded up the least that is not under it
pub record RoundedRight (x : Fraction) : Type 0 where
  pub under : whole (floor x) ≤F x
  pub greatest : (z : ℤ) → whole z ≤F x → z ≤ℤ floor x
  pub over : x ≤F whole (ceiling x)
  pub least : (z : ℤ) → x ≤F whole z → ceiling x ≤ℤ z

abbrev pub FiguresAreRoundedRight : Type 0
FiguresAreRoundedRight = (x : Fraction) → Proper x → RoundedRight x
