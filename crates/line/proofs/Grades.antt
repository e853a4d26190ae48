-- The grade of a section as 100 times its gradient and what its curve adds, rounded.
use Rattle.std.proofs.Common.{◌≡◌, ℕ, ◌*◌, ◌≤◌, Bool, true, false, cond, eqb, ℤ, pos, ◌+ℤ◌, ◌*ℤ◌, ap, ◌∙◌, refl, mul-le-mul, arith}
use Rattle.std.specs.Int.{int_max}
use Rattle.std.proofs.lemmas.Bool.{eq-eqb}
use Rattle.std.proofs.lemmas.Int.{ints}
use Rattle.rules.specs.declared.figures.SectionFigures.{SectionFigures}
use Rattle.rules.specs.Fraction.{fraction, whole, floor, ceiling}
use Rattle.rules.specs.Grade.{low_grade, high_grade}
use Rattle.rules.specs.Ratio.{Ratio, ratio, rounded_down, rounded_up}
use Rattle.rules.proofs.Floors.{floor_shift, ceiling_shift, floor_whole, ceiling_whole}
use Rattle.rules.proofs.Ratios.{up_least}

level : (z : ℤ) → z ≡ z +ℤ pos 0
level z = omega (arith, ints)

low_by : (b : Bool) (z : ℤ) (n d : ℕ) → 1 ≤ (cond b (ratio 0 1) (ratio n d)).den
    → floor (cond b (whole z) (fraction (z *ℤ pos d +ℤ pos n) d)) ≡ z +ℤ pos (rounded_down (cond b (ratio 0 1) (ratio n d)))
low_by true z n d h = floor_whole z ∙ level z
low_by false z n d h = floor_shift z n d h

high_by : (b : Bool) (z : ℤ) (n d : ℕ) → 1 ≤ (cond b (ratio 0 1) (ratio n d)).den
    → ceiling (cond b (whole z) (fraction (z *ℤ pos d +ℤ pos n) d)) ≡ z +ℤ pos (rounded_up (cond b (ratio 0 1) (ratio n d)))
high_by true z n d h = ceiling_whole z ∙ level z
high_by false z n d h = ceiling_shift z n d h

-- without a curve the grade is that of the gradient
pub low_straight : (f : SectionFigures) → f.curve ≡ 0 → low_grade f ≡ pos 100 *ℤ f.gradient +ℤ pos 0
low_straight f e = rw (eq-eqb f.curve 0 e) (floor_whole (pos 100 *ℤ f.gradient) ∙ level (pos 100 *ℤ f.gradient))

pub high_straight : (f : SectionFigures) → f.curve ≡ 0 → high_grade f ≡ int_max (pos 100 *ℤ f.gradient +ℤ pos 0) (pos 0)
high_straight f e = rw (eq-eqb f.curve 0 e) (ap (λ (t : ℤ). int_max t (pos 0)) (ceiling_whole (pos 100 *ℤ f.gradient) ∙ level (pos 100 *ℤ f.gradient)))

-- what the curve adds to a section's grade; without a curve 0
abbrev pub curve_grade : SectionFigures → Ratio
curve_grade f = cond (eqb f.curve 0) (ratio 0 1) (ratio (700000 * f.curve) (f.metres * f.radius))

module _ (f : SectionFigures) (proper : 1 ≤ (curve_grade f).den) where
  pub low_by_curve : low_grade f ≡ pos 100 *ℤ f.gradient +ℤ pos (rounded_down (curve_grade f))
  low_by_curve = low_by (eqb f.curve 0) (pos 100 *ℤ f.gradient) (700000 * f.curve) (f.metres * f.radius) proper

  pub high_by_curve : high_grade f ≡ int_max (pos 100 *ℤ f.gradient +ℤ pos (rounded_up (curve_grade f))) (pos 0)
  high_by_curve = ap (λ (t : ℤ). int_max t (pos 0)) (high_by (eqb f.curve 0) (pos 100 *ℤ f.gradient) (700000 * f.curve) (f.metres * f.radius) proper)

-- what a curve adds is at most 7,000
pub bend_small : (s run : ℕ) → (s ≡ 0 → ⊥) → 100 * s ≤ run → rounded_up (ratio (700000 * s) run) ≤ 7000
bend_small s run n h =
    let some : 1 ≤ run = omega arith in
    up_least (ratio (700000 * s) run) some 7000 (omega arith)

pub run_wide : (s l r : ℕ) → s ≤ l → 100 ≤ r → 100 * s ≤ l * r
run_wide s l r h k = omega (arith, mul-le-mul h k)

small_by : (b : Bool) (s run : ℕ) → (b ≡ false → (s ≡ 0 → ⊥) × (100 * s ≤ run)) → rounded_up (cond b (ratio 0 1) (ratio (700000 * s) run)) ≤ 7000
small_by true s run h = omega arith
small_by false s run h = let p = h refl in bend_small s run p.0 p.1

-- the same of a section whose curve, if there is one, has a radius of at least 100 and lies in it
pub curve_small : (f : SectionFigures) → (eqb f.curve 0 ≡ false → (f.curve ≡ 0 → ⊥) × (100 ≤ f.radius) × (f.curve ≤ f.metres)) → rounded_up (curve_grade f) ≤ 7000
curve_small f h = small_by (eqb f.curve 0) f.curve (f.metres * f.radius) (λ e. let p = h e in (p.0, run_wide f.curve f.metres f.radius p.2 p.1))
