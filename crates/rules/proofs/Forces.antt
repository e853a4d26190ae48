-- The forces of a step: the whole force is at most the exact one, wherever in the step that is read.
use Rattle.std.proofs.Common.{◌≡◌, ℕ, ◌+◌, ◌*◌, ◌≤◌, List, ℤ, pos, negsuc, ◌≤ℤ◌, refl, ◌+ℤ◌, mul-le-mul_left, mul-le-mul_right, mul-pos, div-mul-le_self, arith}
use native.Mathlib.Nat.{le_of_mul-le-mul_left}
use borrow.Author.Differences.{up, le_out}
use Rattle.rules.specs.declared.figures.SectionFigures.{SectionFigures}
use Rattle.rules.specs.Law.{Falling, LawfulFalling, Drag, LawfulDrag, LawfulStock}
use Rattle.rules.specs.Fraction.{Fraction, whole, Proper, ◌≤F◌, ◌+F◌}
use Rattle.rules.specs.Stop.{Approach, Step, train_mass, brake_force, train_drag, holding_force}
use Rattle.rules.specs.Exact.{Readings, exact_brake_force, exact_train_drag, exact_holding_force}
use Rattle.rules.specs.Finer.{IsIn}
use Rattle.rules.specs.Promises.{LawfulApproach}
use Rattle.rules.proofs.Fractions.{made, at_most, plus, apart}

-- a force of at least 1,000 is a natural number
pub as_natural : (z : ℤ) → pos 1000 ≤ℤ z → (pos (up z) ≡ z) × (1000 ≤ up z)
as_natural (pos n) h = (refl, omega (arith, le_out (pos 1000) (pos n) h))
as_natural (negsuc n) h = absurd (omega (arith, le_out (pos 1000) (negsuc n) h))

-- a value below at the end of a step is under the exact one at each speed of the step
friction_under : (f : Falling) → LawfulFalling f → (s y : ℕ) → s ≤ y → y ≤ 1600 → f.below y * (f.exact s).den ≤ (f.exact s).num
friction_under f l s y h k =
    le_of_mul-le-mul_left {k = (f.exact y).den}
    (omega (arith, mul-le-mul_right (f.exact s).den (l.reads y k).under, l.falls s y h k)) (l.reads y k).proper

drag_under : (d : Drag) → LawfulDrag d → (z c q : ℕ) → z ≤ c → c ≤ 1600 → 50 ≤ q → q ≤ 2000 → d.below z q * (d.exact c q).den ≤ (d.exact c q).num
drag_under d l z c q h k light laden =
    let r = l.reads z q (omega arith) light laden in
    le_of_mul-le-mul_left {k = (d.exact z q).den}
    (omega (arith, mul-le-mul_right (d.exact c q).den r.under, l.rises z c q h k light laden)) r.proper

-- ---- arithmetic

quotient_under : (b k l n d m : ℕ) → b * m ≤ k * l → l * d ≤ n → b * (d * m) ≤ k * n
quotient_under b k l n d m h i = omega (arith, mul-le-mul_right d h, mul-le-mul_left k i)

first_under : (p b d n w : ℕ) → b * d ≤ n → p * b * (d * w) ≤ p * n * w
first_under p b d n w h = omega (arith, mul-le-mul_left (p * w) h)

second_under : (p b d n w : ℕ) → b * w ≤ n → p * b * (d * w) ≤ p * n * d
second_under p b d n w h = omega (arith, mul-le-mul_left (p * d) h)

mean_under : (d m a b k u v : ℕ) → d * m ≤ a + b → a * k ≤ u → b * k ≤ v → d * (k * m) ≤ u + v
mean_under d m a b k u v h i j = omega (arith, mul-le-mul_right k h)

-- ---- forces

module _ (a : Approach) (w : List SectionFigures) (laws : LawfulStock a.laws) (l : LawfulApproach a w) where
  pub brake_under : (s y : ℕ) → s ≤ y → y ≤ 1600 → whole (pos (brake_force a y)) ≤F exact_brake_force a s
  unfolding brake_force
  brake_under s y h k =
      let f = a.laws.friction in
      let e = quotient_under (brake_force a y) (a.factor * a.pressure) (f.below y) (f.exact s).num (f.exact s).den (10 * train_mass a)
      (div-mul-le_self (a.factor * a.pressure * f.below y) (10 * train_mass a)) (friction_under f laws.friction s y h k) in
      made (whole (pos (brake_force a y))) (exact_brake_force a s) (omega (arith, e))

  drag_mean_under : (s : Step) (r : Readings) → s.bottom ≤ r.coasting → s.bottom ≤ r.wagon → r.coasting ≤ 1600 → r.wagon ≤ 1600
      → whole (pos (train_drag a s)) ≤F exact_train_drag a r
  unfolding train_drag
  drag_mean_under s r h i hc hw =
      let q = a.per_wagon in
      let c = a.laws.coasting in
      let g = a.laws.wagon in
      let cx = c.exact r.coasting q in
      let gx = g.exact r.wagon q in
      let e = mean_under (train_drag a s) (train_mass a) (a.hauling * c.below s.bottom q) (a.trailing * g.below s.bottom q) (cx.den * gx.den)
      (a.hauling * cx.num * gx.den) (a.trailing * gx.num * cx.den)
      (div-mul-le_self (a.hauling * c.below s.bottom q + a.trailing * g.below s.bottom q) (train_mass a))
      (first_under a.hauling (c.below s.bottom q) cx.den cx.num gx.den (drag_under c laws.coasting s.bottom r.coasting q h hc l.least l.most))
      (second_under a.trailing (g.below s.bottom q) cx.den gx.num gx.den (drag_under g laws.wagon s.bottom r.wagon q i hw l.least l.most)) in
      made (whole (pos (train_drag a s))) (exact_train_drag a r) (omega (arith, e))

  pub force_under : (s : Step) (r : Readings) (g : Fraction) → s.top ≤ 1600 → IsIn s r.friction → IsIn s r.coasting → IsIn s r.wagon → whole a.lowest ≤F g
      → whole (holding_force a s) ≤F exact_holding_force a r g
  unfolding holding_force
  force_under s r g t hf hc hw e =
      let b = pos (brake_force a s.top) in
      let d = pos (train_drag a s) in
      at_most (whole (holding_force a s)) (whole (b +ℤ d) +F whole a.lowest) (exact_holding_force a r g) (omega arith) (apart (b +ℤ d) a.lowest)
      (plus (whole (b +ℤ d)) (exact_brake_force a r.friction +F exact_train_drag a r) (whole a.lowest) g
      (at_most (whole (b +ℤ d)) (whole b +F whole d) (exact_brake_force a r.friction +F exact_train_drag a r) (omega arith) (apart b d)
      (plus (whole b) (exact_brake_force a r.friction) (whole d) (exact_train_drag a r)
      (brake_under r.friction s.top hf.1 t)
      (drag_mean_under s r hc.0 hw.0 (omega arith) (omega arith))))
      e)

  -- ---- their denominators

  pub brake_proper : (f : ℕ) → f ≤ 1600 → Proper (exact_brake_force a f)
  brake_proper f h = let p : 1 ≤ 10 * train_mass a = omega (arith, l.mass) in mul-pos (laws.friction.reads f h).proper p

  pub force_proper : (r : Readings) (g : Fraction) → r.friction ≤ 1600 → r.coasting ≤ 1600 → r.wagon ≤ 1600 → Proper g → Proper (exact_holding_force a r g)
  force_proper r g hf hc hw p =
      let c = (laws.coasting.reads r.coasting a.per_wagon hc l.least l.most).proper in
      let d = (laws.wagon.reads r.wagon a.per_wagon hw l.least l.most).proper in
      mul-pos (mul-pos (brake_proper r.friction hf) (mul-pos (mul-pos c d) l.mass)) p
