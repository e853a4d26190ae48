-- The delay of a whole brake force b and a whole grade beside that of the exact ones: the arithmetic over naturals alone. The exact
-- brake force is b₁/b₂, the exact fall d₁/d₂.
use Rattle.std.proofs.Common.{ℕ, ◌+◌, ◌*◌, ◌≤◌, ℤ, pos, negsuc, ap, mul-le-mul, mul-le-mul_left, mul-le-mul_right, arith}
use native.Mathlib.Nat.{le_of_mul-le-mul_left}
use borrow.Author.Differences.{up, down}
use Rattle.rules.specs.Fraction.{Fraction, whole, ◌≤F◌, ◌+F◌}
use Rattle.rules.proofs.Fractions.{opened, sum_num}

-- ---- never under the exact delay

fall_num : (g n : ℤ) (d : ℕ) → up g * d + down n ≤ up n + down g * d → down n ≤ down g * d
fall_num g (pos n) d h = omega arith
fall_num g (negsuc n) d h = omega arith

-- over what is at least g, a fall is at most that of g
pub fall_under : (g : ℤ) (x : Fraction) → whole g ≤F x → down x.num ≤ down g * x.den
fall_under g x h = fall_num g x.num x.den (omega (arith, opened (whole g) x h))

delay_fall : (b b₁ b₂ d d₁ d₂ : ℕ) → b * b₂ ≤ b₁ → d₁ ≤ d * d₂ → d₁ * b₂ * b ≤ d * (b₁ * d₂)
delay_fall b b₁ b₂ d d₁ d₂ h k = omega (arith, mul-le-mul k h)

delay_parts : (t c b d r u : ℕ) → u * b ≤ d * r → (t * r + c * u) * b ≤ (t * b + c * d) * r
delay_parts t c b d r u h = omega (arith, mul-le-mul_left c h)

delay_cancelled : (v e s b r k : ℕ) → 1 ≤ b → e * b ≤ s * r → v * s ≤ k * (36 * b) → v * e ≤ k * (36 * r)
delay_cancelled v e s b r k one h i = le_of_mul-le-mul_left {k = b} (omega (arith, mul-le-mul_left v h, mul-le-mul_right r i)) one

delay_grouped : (v k t c b₁ b₂ d₁ d₂ : ℕ) → v * (1000 * t * (b₁ * d₂) + 1000 * c * (d₁ * b₂)) ≤ k * (36 * (b₁ * d₂))
    → v * (1000 * t * b₁ * d₂ + 1000 * c * d₁ * b₂) * b₂ ≤ k * (b₂ * d₂ * (36 * b₁))
delay_grouped v k t c b₁ b₂ d₁ d₂ h = omega (arith, mul-le-mul_right b₂ h)

-- over any brake force b₁/b₂ of at least b and fall d₁/d₂ of at most d
pub delay_covers : (v t c b b₁ b₂ d d₁ d₂ k : ℕ) → 1 ≤ b → b * b₂ ≤ b₁ → d₁ ≤ d * d₂ → v * (1000 * t * b + 1000 * c * d) ≤ k * (36 * b)
    → v * (1000 * t * b₁ * d₂ + 1000 * c * d₁ * b₂) * b₂ ≤ k * (b₂ * d₂ * (36 * b₁))
delay_covers v t c b b₁ b₂ d d₁ d₂ k one h i j =
    delay_grouped v k t c b₁ b₂ d₁ d₂
    (delay_cancelled v (1000 * t * (b₁ * d₂) + 1000 * c * (d₁ * b₂)) (1000 * t * b + 1000 * c * d) b (b₁ * d₂) k one
    (delay_parts (1000 * t) (1000 * c) b d (b₁ * d₂) (d₁ * b₂) (delay_fall b b₁ b₂ d d₁ d₂ h i)) j)

-- ---- not far over it

fall_by : (g n : ℤ) (d : ℕ) → up n + down g * d ≤ up g * d + d + down n → down g * d ≤ down n + d
fall_by (pos g) n d h = omega arith
fall_by (negsuc g) n d h = omega arith

-- under what is at most g + 1, a fall is at most 1 less than that of g
pub fall_near : (g : ℤ) (x : Fraction) → x ≤F whole g +F whole (pos 1) → down g * x.den ≤ down x.num + x.den
fall_near g x h =
    let s = sum_num (whole g) (whole (pos 1)) in
    fall_by g x.num x.den (omega (arith, opened x (whole g +F whole (pos 1)) h, ap (λ (t : ℕ). t * x.den) s))

near_fall : (m c b₁ d d₁ d₂ : ℕ) → d * d₂ ≤ d₁ + d₂ → m * c * d * (b₁ * d₂) ≤ m * c * (b₁ * d₁) + m * c * (b₁ * d₂)
near_fall m c b₁ d d₁ d₂ h = omega (arith, mul-le-mul_left (m * c * b₁) h)

near_whole : (m c b e t r : ℕ) → m ≤ b → c ≤ 2 * t → 2 ≤ e → m * c * r ≤ b * e * t * r
near_whole m c b e t r h i j =
    let k : c ≤ e * t = omega (arith, mul-le-mul_right t j) in
    omega (arith, mul-le-mul_right r (mul-le-mul h k))

near_brake : (m c b b₁ b₂ d₁ s : ℕ) → b₁ ≤ (b + s) * b₂ → m * c * (b₁ * d₁) ≤ m * c * (d₁ * b₂) * b + m * c * (d₁ * b₂) * s
near_brake m c b b₁ b₂ d₁ s h = omega (arith, mul-le-mul_left (m * c * d₁) h)

near_slack : (m c b e u s : ℕ) → m ≤ b → s ≤ e → m * c * u * s ≤ b * e * c * u
near_slack m c b e u s h i = omega (arith, mul-le-mul_right (c * u) (mul-le-mul h i))

near_parts : (m e t c b d r u s w : ℕ) → m * c * d * r ≤ w + m * c * r → m * c * r ≤ b * e * t * r → w ≤ m * c * u * b + m * c * u * s → m * c * u * s ≤ b * e * c * u
    → m * (t * b + c * d) * r ≤ b * ((m + e) * (t * r + c * u))
near_parts m e t c b d r u s w h i j k = omega arith

near_cancelled : (y b v n m r k p : ℕ) → 1 ≤ b → y * (36 * b) ≤ v * (1000 * n) + 36 * b → m * n * r ≤ b * (k * p) → m * y * (36 * r) ≤ k * (v * (1000 * p)) + m * (36 * r)
near_cancelled y b v n m r k p one h i =
    le_of_mul-le-mul_left {k = b} (omega (arith, mul-le-mul_right (m * r) h, mul-le-mul_left (1000 * v) i)) one

near_grouped : (m y k v t c b₁ b₂ d₁ d₂ : ℕ) → m * y * (36 * (b₁ * d₂)) ≤ k * (v * (1000 * (t * (b₁ * d₂) + c * (d₁ * b₂)))) + m * (36 * (b₁ * d₂))
    → m * y * (b₂ * d₂ * (36 * b₁)) ≤ k * (v * (1000 * t * b₁ * d₂ + 1000 * c * d₁ * b₂) * b₂) + m * 1 * (b₂ * d₂ * (36 * b₁))
near_grouped m y k v t c b₁ b₂ d₁ d₂ h = omega (arith, mul-le-mul_right b₂ h)

pub delay_surplus : (m e v t c b b₁ b₂ d d₁ d₂ s y : ℕ) → 1 ≤ b → m ≤ b → c ≤ 2 * t → 2 ≤ e → s ≤ e → b₁ ≤ (b + s) * b₂ → d * d₂ ≤ d₁ + d₂
    → y * (36 * b) ≤ v * (1000 * (t * b + c * d)) + 36 * b
    → m * y * (b₂ * d₂ * (36 * b₁)) ≤ (m + e) * (v * (1000 * t * b₁ * d₂ + 1000 * c * d₁ * b₂) * b₂) + m * 1 * (b₂ * d₂ * (36 * b₁))
delay_surplus m e v t c b b₁ b₂ d d₁ d₂ s y one mb ct e2 se bb dd yy =
    near_grouped m y (m + e) v t c b₁ b₂ d₁ d₂
    (near_cancelled y b v (t * b + c * d) m (b₁ * d₂) (m + e) (t * (b₁ * d₂) + c * (d₁ * b₂)) one yy
    (near_parts m e t c b d (b₁ * d₂) (d₁ * b₂) s (m * c * (b₁ * d₁)) (near_fall m c b₁ d d₁ d₂ dd) (near_whole m c b e t (b₁ * d₂) mb ct e2)
    (near_brake m c b b₁ b₂ d₁ s bb) (near_slack m c b e (d₁ * b₂) s mb se)))
