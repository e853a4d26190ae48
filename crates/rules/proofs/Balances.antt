-- The balance of pull and resistance: ratios that are summed keep their order, and what balances cautiously balances exactly.
use Rattle.std.proofs.Common.{◌≡◌, ℕ, ◌*◌, ◌≤◌, Bool, true, false, cond, leb, refl, mul-pos, mul-le-mul_left, mul-le-mul_right, le_of_mul-le-mul_right, arith}
use Rattle.std.proofs.lemmas.Bool.{le-leb, leb-true, leb-false}
use Rattle.rules.specs.Ratio.{Ratio, AtMost}
use Rattle.rules.specs.Layers.{smaller_of}
use Rattle.rules.specs.Mass.{whole_ratio, ◌+R◌, times_ratio, HaulReadings, ProperReadings, Engines, own_resistance, balanced}
use Rattle.rules.proofs.Ratios.{at_most_trans}

-- ---- sums of ratios

pub plus_under : (a b c d : Ratio) → AtMost a b → AtMost c d → AtMost (a +R c) (b +R d)
plus_under a b c d h k = omega (arith, mul-le-mul_right (c.den * d.den) h, mul-le-mul_right (a.den * b.den) k)

times_under : (n : ℕ) (a b : Ratio) → AtMost a b → AtMost (times_ratio n a) (times_ratio n b)
times_under n a b h = omega (arith, mul-le-mul_left n h)

-- what is added on both sides makes no difference
without : (o a k : Ratio) → 1 ≤ o.den → AtMost (o +R a) (k +R o) → AtMost a k
without o a k h le = le_of_mul-le-mul_right {k = o.den * o.den} (omega (arith, le)) (mul-pos h h)

with_both : (o a k : Ratio) → AtMost a k → AtMost (o +R a) (k +R o)
with_both o a k le = omega (arith, mul-le-mul_right (o.den * o.den) le)

-- ---- the lesser of two ratios

module _ (a x y : Ratio) where
  under_smaller_by : (b : Bool) → leb (x.num * y.den) (y.num * x.den) ≡ b → 1 ≤ x.den → 1 ≤ y.den → AtMost a (cond b x y) → AtMost a x × AtMost a y
  under_smaller_by true e h k le = (le, at_most_trans a x y h le (leb-true _ _ e))
  under_smaller_by false e h k le = (at_most_trans a y x k le (omega (arith, leb-false _ _ e)), le)

  under_smaller : 1 ≤ x.den → 1 ≤ y.den → AtMost a (smaller_of x y) → AtMost a x × AtMost a y
  under_smaller = under_smaller_by (leb (x.num * y.den) (y.num * x.den)) refl

  under_both_by : (b : Bool) → AtMost a x → AtMost a y → AtMost a (cond b x y)
  under_both_by true h k = h
  under_both_by false h k = k

  under_both : AtMost a x → AtMost a y → AtMost a (smaller_of x y)
  under_both = under_both_by (leb (x.num * y.den) (y.num * x.den))

-- ---- the balance by other readings

module _ (e : Engines) (coupler : ℕ) (r s : HaulReadings) (x : ℕ) (pr : ProperReadings r) (ps : ProperReadings s)
    (pull : AtMost r.pull s.pull) (pulling : AtMost s.pulling r.pulling) (wagon : AtMost s.wagon r.wagon) (grade : AtMost s.grade r.grade) where
  abbrev own : HaulReadings → Ratio
  own t = own_resistance e t

  abbrev wagons : HaulReadings → Ratio
  wagons t = times_ratio x (t.wagon +R t.grade)

  abbrev pulled : HaulReadings → Ratio
  pulled t = times_ratio (10000 * e.count) t.pull

  abbrev most : Ratio
  most = whole_ratio (10000 * coupler)

  own_proper : (t : HaulReadings) → ProperReadings t → 1 ≤ (own t).den
  own_proper t p = mul-pos p.pulling p.grade

  own_under : AtMost (own s) (own r)
  own_under = times_under e.mass _ _ (plus_under s.pulling r.pulling s.grade r.grade pulling grade)

  wagons_under : AtMost (wagons s) (wagons r)
  wagons_under = times_under x _ _ (plus_under s.wagon r.wagon s.grade r.grade wagon grade)

  sum_proper : (t : HaulReadings) → ProperReadings t → 1 ≤ (own t +R wagons t).den
  sum_proper t p = mul-pos (own_proper t p) (mul-pos p.wagon p.grade)

  -- more pull and less resistance balance too
  pub balances : balanced e coupler r x ≡ true → balanced e coupler s x ≡ true
  balances b =
      let two = under_smaller (own r +R wagons r) (pulled r) (most +R own r) pr.pull (mul-pos (omega arith) (own_proper r pr)) (leb-true _ _ b) in
      let full = at_most_trans (own s +R wagons s) (own r +R wagons r) (pulled s) (sum_proper r pr)
      (plus_under (own s) (own r) (wagons s) (wagons r) own_under wagons_under)
      (at_most_trans (own r +R wagons r) (pulled r) (pulled s) pr.pull two.0 (times_under (10000 * e.count) r.pull s.pull pull)) in
      let held = at_most_trans (wagons s) (wagons r) most (mul-pos pr.wagon pr.grade) wagons_under (without (own r) (wagons r) most (own_proper r pr) two.1) in
      le-leb _ _ (under_both (own s +R wagons s) (pulled s) (most +R own s) full (with_both (own s) (wagons s) most held))
