-- Signed fractions rounded down and up. An integer z is read as up z less down z, so that its order is one of naturals.
use Rattle.std.proofs.Common.{◌≡◌, ℕ, zero, suc, ◌+◌, ◌*◌, ◌/◌, ◌%◌, ◌<◌, ◌≤◌, min, ℤ, pos, negsuc, ◌+ℤ◌, ◌*ℤ◌, neg_ℤ, ap, ◌∙◌, lt_of_mul-lt-mul_right, div-add-mod', div-mul-le_self, arith}
use native.Mathlib.Nat.{lt-div-mul-add}
use borrow.Author.Differences.{up, down, same_in, sum_is_lem, product_is, neg_is}
use Rattle.rules.specs.Fraction.{floored}
use Rattle.rules.specs.Ratio.{ratio}
use Rattle.rules.proofs.Ratios.{up_over}

-- q d ≤ z < (q + 1) d
abbrev pub FloorOf : ℤ → ℕ → ℤ → Type 0
FloorOf z d q = (up q * d + down z ≤ up z + down q * d) × (up z + down q * d < up q * d + d + down z)

pub floor_is : (z : ℤ) (d : ℕ) → 1 ≤ d → FloorOf z d (floored z d)
floor_is (pos n) d h = (omega (arith, div-mul-le_self n d), omega (arith, lt-div-mul-add {a = n} h))
floor_is (negsuc n) d h = (omega (arith, lt-div-mul-add {a = n} h), omega (arith, div-mul-le_self n d))

not_over : (q p d up-z down-z down-q down-p : ℕ) → q * d + down-z ≤ up-z + down-q * d → up-z + down-p * d < p * d + d + down-z → q + down-p < p + down-q + 1
not_over q p d up-z down-z down-q down-p h k = lt_of_mul-lt-mul_right d (omega arith)

-- there is one such q
pub one_floor : (z : ℤ) (d : ℕ) (p : ℤ) → 1 ≤ d → FloorOf z d p → floored z d ≡ p
one_floor z d p h f =
    let q = floored z d in
    let g = floor_is z d h in
    let below = not_over (up q) (up p) d (up z) (down z) (down q) (down p) g.0 f.1 in
    let above = not_over (up p) (up q) d (up z) (down z) (down p) (down q) f.0 g.1 in
    same_in q p (omega arith)

shifted_low : (d k n zu zd wu wd xu xd : ℕ) → k * d ≤ n → wu + zd ≡ wd + zu + k → xu + zd * d ≡ xd + zu * d + n → wu * d + xd ≤ xu + wd * d
shifted_low d k n zu zd wu wd xu xd h e f = omega (arith, ap (λ (t : ℕ). t * d) e)

shifted_high : (d k n zu zd wu wd xu xd : ℕ) → n < k * d + d → wu + zd ≡ wd + zu + k → xu + zd * d ≡ xd + zu * d + n → xu + wd * d < wu * d + d + xd
shifted_high d k n zu zd wu wd xu xd h e f = omega (arith, ap (λ (t : ℕ). t * d) e)

-- rounded up, likewise
pub ceil_under : (q r d n : ℕ) → 1 ≤ d → q * d + r ≡ n → (q + min 1 r) * d < n + d
ceil_under q zero d n h e = omega arith
ceil_under q (suc r) d n h e = let m : min 1 (suc r) ≡ 1 = omega arith in rw m (omega arith)

raised_low : (d k n zu zd wu wd xu xd : ℕ) → n ≤ k * d → wu + zd ≡ wd + zu + k → xu + zd * d ≡ xd + zu * d + n → wd * d + xu ≤ xd + wu * d
raised_low d k n zu zd wu wd xu xd h e f = omega (arith, ap (λ (t : ℕ). t * d) e)

raised_high : (d k n zu zd wu wd xu xd : ℕ) → k * d < n + d → wu + zd ≡ wd + zu + k → xu + zd * d ≡ xd + zu * d + n → xd + wu * d < wd * d + d + xu
raised_high d k n zu zd wu wd xu xd h e f = omega (arith, ap (λ (t : ℕ). t * d) e)

neg_neg : (z : ℤ) → neg_ℤ (neg_ℤ z) ≡ z
neg_neg z = same_in (neg_ℤ (neg_ℤ z)) z (omega (arith, neg_is z, neg_is (neg_ℤ z)))

module _ (z : ℤ) (n d : ℕ) (some : 1 ≤ d) where
  sum : up (z *ℤ pos d +ℤ pos n) + down z * d ≡ down (z *ℤ pos d +ℤ pos n) + up z * d + n
  sum = omega (arith, sum_is_lem (z *ℤ pos d) (pos n), product_is z (pos d))

  -- whole parts stay when a sum is rounded
  pub floor_shift : floored (z *ℤ pos d +ℤ pos n) d ≡ z +ℤ pos (n / d)
  floor_shift =
      let w = z +ℤ pos (n / d) in
      let x = z *ℤ pos d +ℤ pos n in
      let e : up w + down z ≡ down w + up z + n / d = omega (arith, sum_is_lem z (pos (n / d))) in
      one_floor x d w some (
        shifted_low d (n / d) n (up z) (down z) (up w) (down w) (up x) (down x) (div-mul-le_self n d) e sum,
        shifted_high d (n / d) n (up z) (down z) (up w) (down w) (up x) (down x) (lt-div-mul-add {a = n} some) e sum,
      )

  pub ceiling_shift : neg_ℤ (floored (neg_ℤ (z *ℤ pos d +ℤ pos n)) d) ≡ z +ℤ pos (n / d + min 1 (n % d))
  ceiling_shift =
      let k = n / d + min 1 (n % d) in
      let w = z +ℤ pos k in
      let x = z *ℤ pos d +ℤ pos n in
      let e : up w + down z ≡ down w + up z + k = omega (arith, sum_is_lem z (pos k)) in
      let over = up_over (ratio n d) some in
      let under = ceil_under (n / d) (n % d) d n some (div-add-mod' n d) in
      let f = one_floor (neg_ℤ x) d (neg_ℤ w) some (
        omega (arith, ap (λ (t : ℕ). t * d) (neg_is w).0, ap (λ (t : ℕ). t * d) (neg_is w).1, neg_is x, raised_low d k n (up z) (down z) (up w) (down w) (up x) (down x) over e sum),
        omega (arith, ap (λ (t : ℕ). t * d) (neg_is w).0, ap (λ (t : ℕ). t * d) (neg_is w).1, neg_is x, raised_high d k n (up z) (down z) (up w) (down w) (up x) (down x) under e sum),
      ) in
      ap neg_ℤ f ∙ neg_neg w

pub floor_whole : (z : ℤ) → floored z 1 ≡ z
floor_whole z = one_floor z 1 z (omega arith) (omega arith, omega arith)

pub ceiling_whole : (z : ℤ) → neg_ℤ (floored (neg_ℤ z) 1) ≡ z
ceiling_whole z = ap neg_ℤ (floor_whole (neg_ℤ z)) ∙ neg_neg z
