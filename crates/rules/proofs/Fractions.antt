-- Signed fractions: their order, sums and quotients. A numerator z is read as up z less down z, so that its order is one of
-- naturals; each arithmetic core is a lemma over naturals alone.
use Rattle.std.proofs.Common.{◌≡◌, ℕ, ◌+◌, ◌*◌, ◌≤◌, ℤ, pos, ◌+ℤ◌, ◌*ℤ◌, ◌≤ℤ◌, ap, mul-le-mul_left, mul-le-mul_right, arith}
use native.Mathlib.Nat.{le_of_mul-le-mul_left}
use borrow.Author.Differences.{up, down, le_out, at_most_in, sum_is_lem, product_is}
use Rattle.rules.specs.Fraction.{Fraction, fraction, whole, Proper, ◌≤F◌, ◌+F◌, ◌÷F◌, floor}
use Rattle.rules.proofs.Floors.{floor_is}

-- the order in naturals
abbrev pub Below : Fraction → Fraction → Type 0
Below a b = up a.num * b.den + down b.num * a.den ≤ up b.num * a.den + down a.num * b.den

pub opened : (a b : Fraction) → a ≤F b → Below a b
opened a b h = omega (arith, le_out _ _ h.cross, product_is a.num (pos b.den), product_is b.num (pos a.den))

pub made : (a b : Fraction) → Below a b → a ≤F b
made a b h = record { cross = at_most_in _ _ (omega (arith, product_is a.num (pos b.den), product_is b.num (pos a.den))) }

pub same : (a : Fraction) → a ≤F a
same a = made a a (omega arith)

-- the numerator of a sum
pub sum_num : (a b : Fraction)
    → up (a +F b).num + (down a.num * b.den + down b.num * a.den) ≡ down (a +F b).num + (up a.num * b.den + up b.num * a.den)
sum_num a b = omega (arith, sum_is_lem (a.num *ℤ pos b.den) (b.num *ℤ pos a.den), product_is a.num (pos b.den), product_is b.num (pos a.den))

pub at_most : (a b c : Fraction) → Proper b → a ≤F b → b ≤F c → a ≤F c
at_most a b c n h k =
    made a c (le_of_mul-le-mul_left {k = b.den} (omega (arith, mul-le-mul_left c.den (opened a b h), mul-le-mul_left a.den (opened b c k))) n)

by_four : (k a b c d : ℕ) → a + b ≤ c + d → a * k + b * k ≤ c * k + d * k
by_four k a b c d h = omega (arith, mul-le-mul_right k h)

by_six : (k a b c d e f : ℕ) → a + (b + c) ≡ d + (e + f) → a * k + (b * k + c * k) ≡ d * k + (e * k + f * k)
by_six k a b c d e f h = omega (arith, ap (λ (t : ℕ). t * k) h)

crossed_right : (a y z w : ℕ) → a * y * (z * w) ≡ a * z * (y * w)
crossed_right a y z w = omega arith

crossed_left : (a x z w : ℕ) → a * x * (z * w) ≡ a * w * (x * z)
crossed_left a x z w = omega arith

sums_last : (au ad x bu bd y cu cd z du dd w su sd tu td : ℕ)
    → au * y * (z * w) + bd * x * (z * w) ≤ bu * x * (z * w) + ad * y * (z * w)
    → cu * w * (x * y) + dd * z * (x * y) ≤ du * z * (x * y) + cd * w * (x * y)
    → su * (y * w) + (ad * z * (y * w) + cd * x * (y * w)) ≡ sd * (y * w) + (au * z * (y * w) + cu * x * (y * w))
    → tu * (x * z) + (bd * w * (x * z) + dd * y * (x * z)) ≡ td * (x * z) + (bu * w * (x * z) + du * y * (x * z))
    → su * (y * w) + td * (x * z) ≤ tu * (x * z) + sd * (y * w)
sums_last au ad x bu bd y cu cd z du dd w su sd tu td h k e f =
    omega (arith, crossed_right au y z w, crossed_left bd x z w, crossed_left bu x z w, crossed_right ad y z w, crossed_left cu w x y, crossed_right dd z x y, crossed_right du z x y, crossed_left cd w x y)

sums : (au ad x bu bd y cu cd z du dd w su sd tu td : ℕ)
    → au * y + bd * x ≤ bu * x + ad * y → cu * w + dd * z ≤ du * z + cd * w
    → su + (ad * z + cd * x) ≡ sd + (au * z + cu * x) → tu + (bd * w + dd * y) ≡ td + (bu * w + du * y)
    → su * (y * w) + td * (x * z) ≤ tu * (x * z) + sd * (y * w)
sums au ad x bu bd y cu cd z du dd w su sd tu td h k e f =
    sums_last au ad x bu bd y cu cd z du dd w su sd tu td (by_four (z * w) _ _ _ _ h) (by_four (x * y) _ _ _ _ k)
    (by_six (y * w) _ _ _ _ _ _ e) (by_six (x * z) _ _ _ _ _ _ f)

pub plus : (a b c d : Fraction) → a ≤F b → c ≤F d → a +F c ≤F b +F d
plus a b c d h k =
    made (a +F c) (b +F d)
    (sums (up a.num) (down a.num) a.den (up b.num) (down b.num) b.den
    (up c.num) (down c.num) c.den (up d.num) (down d.num) d.den
    (up (a +F c).num) (down (a +F c).num) (up (b +F d).num) (down (b +F d).num)
    (opened a b h) (opened c d k) (sum_num a c) (sum_num b d))

-- ---- whole numbers

pub apart : (a b : ℤ) → whole (a +ℤ b) ≤F whole a +F whole b
apart a b = made (whole (a +ℤ b)) (whole a +F whole b) (omega (arith, sum_num (whole a) (whole b), sum_is_lem a b))

pub joined : (a b : ℤ) → whole a +F whole b ≤F whole (a +ℤ b)
joined a b = made (whole a +F whole b) (whole (a +ℤ b)) (omega (arith, sum_num (whole a) (whole b), sum_is_lem a b))

pub wholes : (a b : ℤ) → a ≤ℤ b → whole a ≤F whole b
wholes a b h = made (whole a) (whole b) (omega (arith, le_out a b h))

-- ---- fractions that are not negative

abbrev pub part : ℕ → ℕ → Fraction
part n d = fraction (pos n) d

pub parts : (a b n : ℕ) → part a n +F part b n ≤F part (a + b) n
parts a b n = made (part a n +F part b n) (part (a + b) n) (omega arith)

-- ---- rounded down

pub floor_under : (a : Fraction) → Proper a → whole (floor a) ≤F a
floor_under a h = made (whole (floor a)) a (omega (arith, (floor_is a.num a.den h).0))

pub floor_near : (a : Fraction) → Proper a → a ≤F whole (floor a) +F whole (pos 1)
floor_near a h =
    let s = sum_num (whole (floor a)) (whole (pos 1)) in
    made a (whole (floor a) +F whole (pos 1)) (omega (arith, (floor_is a.num a.den h).1, ap (λ (t : ℕ). t * a.den) s))

-- ---- quotients

-- what is at least n ≥ 1 has a positive numerator
pub positive : (n : ℕ) (a : Fraction) → whole (pos n) ≤F a → 1 ≤ n → Proper a → n * a.den ≤ up a.num
positive n a w h k = omega (arith, opened (whole (pos n)) a w)

-- y divided by what is at least n
pub divided : (y n : ℕ) (a : Fraction) → whole (pos n) ≤F a → whole (pos y) ÷F a ≤F part y n
divided y n a w = made (whole (pos y) ÷F a) (part y n) (omega (arith, mul-le-mul_left y (opened (whole (pos n)) a w)))
