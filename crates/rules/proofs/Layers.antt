-- Layers keep the facts of a law: what is read of one value is read of its share, of a blend and of the lesser of two, and the
-- order of exact values stays.
use Rattle.std.proofs.Common.{ℕ, ◌+◌, ◌*◌, ◌≤◌, min, max, leb, mul-le-mul_right, mul-le-mul, mul-le-mul_left, mul-pos, mul_left_comm, arith}
use Rattle.std.proofs.lemmas.Bool.{leb-true, leb-false, cond_both}
use Rattle.rules.specs.Ratio.{Ratio, ratio, AtMost}
use Rattle.rules.specs.Law.{Reads}
use Rattle.rules.specs.Layers.{PercentRange, percent_of, percent_down, percent_up, percent_slack, BlendRange, blend_of, blend_down, blend_up, blend_slack, smaller_of, smaller_whole, smaller_slack}
use Rattle.rules.proofs.Ratios.{down_under, up_over, up_least, up_near, at_most_trans, whole_over}
use Rattle.rules.proofs.Readings.{reading}

-- ---- scale

pub percent_reads : {x : Ratio} {lo hi s : ℕ} (p : ℕ) → PercentRange p → Reads x lo hi s
    → Reads (percent_of p x) (percent_down p lo) (percent_up p hi) (percent_slack s)
percent_reads {x} {lo} {hi} {s} p ok r =
    let low = ratio (p * lo) 100 in
    let high = ratio (p * hi) 100 in
    reading (percent_of p x) _ _ (s + 1) (omega (arith, r.proper))
    (omega (arith, mul-le-mul_right x.den (down_under low), mul-le-mul_left p r.under))
    (omega (arith, mul-le-mul_right x.den (up_over high (omega arith)), mul-le-mul_left p r.over))
    (up_least high (omega arith) 1000000 (omega (arith, mul-le-mul ok.1 r.capped)))
    (up_near (p * lo) (p * hi) 100 s (omega arith) (omega (arith, mul-le-mul_left p r.close, mul-le-mul_right s ok.1)))

pub percent_at_most : (p : ℕ) (x y : Ratio) → AtMost x y → AtMost (percent_of p x) (percent_of p y)
percent_at_most p x y h = omega (arith, mul-le-mul_left p h)

-- ---- blend

-- a mixture of two numbers is at most what both are at most
pub mixture_within : (a b m n : ℕ) → m ≤ 1000000 → n ≤ 1000000 → a * m + b * n ≤ 1000000 * (a + b)
mixture_within a b m n h k = omega (arith, mul-le-mul_left a h, mul-le-mul_left b k)

mixed_close : (a b hi hi' lo lo' s s' : ℕ) → hi ≤ lo + s → hi' ≤ lo' + s' → a * hi + b * hi' ≤ a * lo + b * lo' + max s s' * (a + b)
mixed_close a b hi hi' lo lo' s s' h k =
    let h' : hi ≤ lo + max s s' = omega arith in
    let k' : hi' ≤ lo' + max s s' = omega arith in
    omega (arith, mul-le-mul_left a h', mul-le-mul_left b k')

pub blend_reads : {x y : Ratio} {lo hi s lo' hi' s' : ℕ} (a b : ℕ) → BlendRange a b → Reads x lo hi s → Reads y lo' hi' s'
    → Reads (blend_of a b x y) (blend_down a b lo lo') (blend_up a b hi hi') (blend_slack s s')
blend_reads {x} {y} {lo} {hi} {s} {lo'} {hi'} {s'} a b ok r r' =
    let low = ratio (a * lo + b * lo') (a + b) in
    let high = ratio (a * hi + b * hi') (a + b) in
    let some : 1 ≤ a + b = omega arith in
    reading (blend_of a b x y) _ _ (max s s' + 1) (mul-pos some (mul-pos r.proper r'.proper))
    (omega (arith, mul-le-mul_right (x.den * y.den) (down_under low), mul-le-mul_left (a * y.den) r.under, mul-le-mul_left (b * x.den) r'.under))
    (omega (arith, mul-le-mul_right (x.den * y.den) (up_over high some), mul-le-mul_left (a * y.den) r.over, mul-le-mul_left (b * x.den) r'.over))
    (up_least high some 1000000 (mixture_within a b hi hi' r.capped r'.capped))
    (up_near (a * lo + b * lo') (a * hi + b * hi') (a + b) (max s s') some (mixed_close a b hi hi' lo lo' s s' r.close r'.close))

mixed : (a b n d m e n' d' m' e' : ℕ) → n * d' ≤ n' * d → m * e' ≤ m' * e
    → (a * (n * e) + b * (m * d)) * (d' * e') ≤ (a * (n' * e') + b * (m' * d')) * (d * e)
mixed a b n d m e n' d' m' e' h k = omega (arith, mul-le-mul_left (a * (e * e')) h, mul-le-mul_left (b * (d * d')) k)

pub blend_at_most : (a b : ℕ) (x y x' y' : Ratio) → AtMost x x' → AtMost y y' → AtMost (blend_of a b x y) (blend_of a b x' y')
blend_at_most a b x y x' y' h k =
    rw (mul_left_comm _ (a + b) (x'.den * y'.den), mul_left_comm _ (a + b) (x.den * y.den))
    (mul-le-mul_left (a + b) (mixed a b x.num x.den y.num y.den x'.num x'.den y'.num y'.den h k))

-- ---- lesser

-- a reading with other values
read_as : {x : Ratio} {lo hi s : ℕ} (lo' hi' s' : ℕ) → Reads x lo hi s → lo' ≤ lo → x.num ≤ hi' * x.den → hi' ≤ hi → hi' ≤ lo' + s' → Reads x lo' hi' s'
read_as {x} lo' hi' s' r low over high close =
    reading x lo' hi' s' r.proper (omega (arith, mul-le-mul_right x.den low)) over (omega arith) close

min_over : (a b d n : ℕ) → n ≤ a * d → n ≤ b * d → n ≤ min a b * d
min_over a b d n h k = grind arith

module _ {x y : Ratio} {lo hi s lo' hi' s' : ℕ} (r : Reads x lo hi s) (r' : Reads y lo' hi' s') where
  pub smaller_reads : Reads (smaller_of x y) (smaller_whole lo lo') (smaller_whole hi hi') (smaller_slack s s')
  smaller_reads =
      cond_both (leb (x.num * y.den) (y.num * x.den)) x y (λ z. Reads z (min lo lo') (min hi hi') (max s s'))
      (λ e.
      let over = whole_over x y hi' r'.proper (leb-true _ _ e) r'.over in
      read_as _ _ _ r (omega arith) (min_over hi hi' x.den x.num r.over over) (omega arith) (omega arith))
      (λ e.
      let over = whole_over y x hi r.proper (omega (arith, leb-false _ _ e)) r.over in
      read_as _ _ _ r' (omega arith) (min_over hi hi' y.den y.num over r'.over) (omega arith) (omega arith))

smaller_under : (x y : Ratio) → AtMost (smaller_of x y) x × AtMost (smaller_of x y) y
smaller_under x y =
    cond_both (leb (x.num * y.den) (y.num * x.den)) x y (λ z. AtMost z x × AtMost z y)
    (λ e. (omega arith, leb-true _ _ e))
    (λ e. (omega (arith, leb-false _ _ e), omega arith))

pub smaller_at_most : (x y x' y' : Ratio) → 1 ≤ x.den → 1 ≤ y.den → AtMost x x' → AtMost y y' → AtMost (smaller_of x y) (smaller_of x' y')
smaller_at_most x y x' y' hx hy h k =
    let low = smaller_under x y in
    cond_both (leb (x'.num * y'.den) (y'.num * x'.den)) x' y' (λ z. AtMost (smaller_of x y) z)
    (λ _. at_most_trans (smaller_of x y) x x' hx low.0 h)
    (λ _. at_most_trans (smaller_of x y) y y' hy low.1 k)
