-- Near figures: a whole number that is at most a multiple of a fraction and a few more. Sums of near figures are near, and from
-- nearness comes a surplus with its share.
use Rattle.std.proofs.Common.{◌≡◌, ℕ, ◌+◌, ◌*◌, ◌≤◌, pos, ap, mul-le-mul_left, mul-le-mul_right, arith}
use borrow.Author.Differences.{up, down, product_is}
use Rattle.rules.specs.Ratio.{ratio, rounded_up}
use Rattle.rules.specs.Fraction.{Fraction, whole, ◌≤F◌, ◌+F◌, times, over}
use Rattle.rules.proofs.Ratios.{up_over}
use Rattle.rules.proofs.Fractions.{made, opened, sum_num}

-- c is at most k/m of a fraction, and j more
abbrev pub Near : ℕ → ℕ → ℕ → ℕ → Fraction → Type 0
Near k m c j x = m * c * x.den + k * down x.num ≤ k * up x.num + m * j * x.den

swapped : (a d e : ℕ) → a * d * e ≡ a * (d * e)
swapped a d e = omega arith

swapped_over : (a d e : ℕ) → a * e * d ≡ a * (d * e)
swapped_over a d e = omega arith

near_by : (a b c e d w : ℕ) → a * d + b ≤ c + e * d → a * d * w + b * w ≤ c * w + e * d * w
near_by a b c e d w h = omega (arith, mul-le-mul_right w h)

near_last : (a a' e e' d w u v u' v' s t : ℕ) → a * d + v ≤ u + e * d → a' * w + v' ≤ u' + e' * w → s + (v * w + v' * d) ≡ t + (u * w + u' * d)
    → a * (d * w) + a' * (d * w) + t ≤ s + (e * (d * w) + e' * (d * w))
near_last a a' e e' d w u v u' v' s t h k i =
    omega (arith, near_by a v u e d w h, near_by a' v' u' e' w d k, swapped a d w, swapped e d w, swapped_over a' d w, swapped_over e' d w)

sum_scaled : (k : ℕ) (a b : Fraction) → k * up (a +F b).num + (k * down a.num * b.den + k * down b.num * a.den)
    ≡ k * down (a +F b).num + (k * up a.num * b.den + k * up b.num * a.den)
sum_scaled k a b = scale k _ _ (down a.num) (down b.num) (up a.num) (up b.num) a.den b.den (sum_num a b)
  where
    scale : (k s t da db ua ub x y : ℕ) → s + (da * y + db * x) ≡ t + (ua * y + ub * x) → k * s + (k * da * y + k * db * x) ≡ k * t + (k * ua * y + k * ub * x)
    scale k s t da db ua ub x y h = omega (arith, ap (λ (t : ℕ). k * t) h)

pub near_sum : (k m c j c' j' : ℕ) (a b : Fraction) → Near k m c j a → Near k m c' j' b → Near k m (c + c') (j + j') (a +F b)
near_sum k m c j c' j' a b h i =
    let e = near_last (m * c) (m * c') (m * j) (m * j') a.den b.den (k * up a.num) (k * down a.num) (k * up b.num) (k * down b.num)
    (k * up (a +F b).num) (k * down (a +F b).num) h i (sum_scaled k a b) in
    let d = a.den * b.den in
    let p : m * (c + c') * d ≡ m * c * d + m * c' * d = spread m c c' d in
    let r : m * (j + j') * d ≡ m * j * d + m * j' * d = spread m j j' d in
    omega (arith, e, p, r)
  where
    spread : (m c e d : ℕ) → m * (c + e) * d ≡ m * c * d + m * e * d
    spread m c e d = omega arith

-- ---- from nearness to the surplus

near_nat : (c m e j d su sd bu bd tu td : ℕ) → m * c * d + (m + e) * sd ≤ (m + e) * su + m * j * d
    → bu + e * sd ≡ bd + (j * (d * m) + e * su) → tu + (sd * (d * m) + bd * d) ≡ td + (su * (d * m) + bu * d)
    → c * (d * (d * m)) + td ≤ tu
near_nat c m e j d su sd bu bd tu td h i k = omega (arith, mul-le-mul_right d h, ap (λ (t : ℕ). t * d) i)

pub near_done : (c m e j : ℕ) (x : Fraction) → Near (m + e) m c j x → whole (pos c) ≤F x +F (whole (pos j) +F over (times e x) m)
near_done c m e j x h =
    let r = over (times e x) m in
    let b = whole (pos j) +F r in
    let d = x.den in
    let p = product_is (pos e) x.num in
    let s₁ : up b.num + e * down x.num ≡ down b.num + (j * (d * m) + e * up x.num) = omega (arith, p, sum_num (whole (pos j)) r) in
    let s₂ : up (x +F b).num + (down x.num * (d * m) + down b.num * d) ≡ down (x +F b).num + (up x.num * (d * m) + up b.num * d) = omega (arith, sum_num x b) in
    let k = near_nat c m e j d (up x.num) (down x.num) (up b.num) (down b.num) (up (x +F b).num) (down (x +F b).num) h s₁ s₂ in
    made (whole (pos c)) (x +F b) (omega (arith, k))

-- the share of what is at most d is at most the share of d, rounded up
share_nat : (e d m n u v x : ℕ) → u ≤ d * x + v → e * d ≤ n * m → e * u ≤ n * (x * m) + e * v
share_nat e d m n u v x h i = omega (arith, mul-le-mul_left e h, mul-le-mul_right x i)

pub share_allowed : (e d m : ℕ) (x : Fraction) → 1 ≤ m → x ≤F whole (pos d) → over (times e x) m ≤F whole (pos (rounded_up (ratio (e * d) m)))
share_allowed e d m x one h =
    let n = rounded_up (ratio (e * d) m) in
    let k = share_nat e d m n (up x.num) (down x.num) x.den (omega (arith, opened x (whole (pos d)) h)) (up_over (ratio (e * d) m) one) in
    made (over (times e x) m) (whole (pos n)) (omega (arith, k, product_is (pos e) x.num))
