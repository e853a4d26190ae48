-- Figures are rounded to the next whole number.
use Rattle.std.proofs.Common.{◌≡◌, ℕ, ◌+◌, ◌*◌, ◌<◌, ◌≤◌, ℤ, neg_ℤ, ◌≤ℤ◌, ap, lt_of_mul-lt-mul_right, arith}
use borrow.Author.Differences.{up, down, le_out, at_most_in, neg_is}
use Rattle.rules.specs.Fraction.{Fraction, fraction, whole, Proper, ◌≤F◌, floor, ceiling, FiguresAreRoundedRight}
use Rattle.rules.proofs.Floors.{floor_is}
use Rattle.rules.proofs.Fractions.{opened, made, floor_under}

not_over : (q p d up-z down-z down-q down-p : ℕ) → q * d + down-z ≤ up-z + down-q * d → up-z + down-p * d < p * d + d + down-z → q + down-p < p + down-q + 1
not_over q p d up-z down-z down-q down-p h k = lt_of_mul-lt-mul_right d (omega arith)

greatest_floor : (x : Fraction) → Proper x → (z : ℤ) → whole z ≤F x → z ≤ℤ floor x
greatest_floor x h z k =
    let q = floor x in
    let f = floor_is x.num x.den h in
    at_most_in z q (omega (arith, not_over (up z) (up q) x.den (up x.num) (down x.num) (down z) (down q) (omega (arith, opened _ _ k)) f.1))

abbrev negative : Fraction → Fraction
negative x = fraction (neg_ℤ x.num) x.den

times_den : (x : Fraction) (z : ℤ) → (up (neg_ℤ z) * x.den ≡ down z * x.den) × (down (neg_ℤ z) * x.den ≡ up z * x.den)
times_den x z = (ap (λ (t : ℕ). t * x.den) (neg_is z).0, ap (λ (t : ℕ). t * x.den) (neg_is z).1)

turned : (x : Fraction) (z : ℤ) → x ≤F whole z → whole (neg_ℤ z) ≤F negative x
turned x z h = made _ _ (omega (arith, opened _ _ h, times_den x z, neg_is x.num))

least_ceiling : (x : Fraction) → Proper x → (z : ℤ) → x ≤F whole z → ceiling x ≤ℤ z
least_ceiling x h z k =
    let q = floor (negative x) in
    at_most_in (ceiling x) z (omega (arith, le_out _ _ (greatest_floor (negative x) h (neg_ℤ z) (turned x z k)), neg_is z, neg_is q))

ceiling_over : (x : Fraction) → Proper x → x ≤F whole (ceiling x)
ceiling_over x h = made _ _ (omega (arith, opened _ _ (floor_under (negative x) h), neg_is x.num, times_den x (floor (negative x))))

pub rounded_right : FiguresAreRoundedRight
rounded_right x h = record { under = floor_under x h; greatest = greatest_floor x h; over = ceiling_over x h; least = least_ceiling x h }
