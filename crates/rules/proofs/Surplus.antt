-- The distance exceeds the exact sum by at most 1 mm a step, 1 mm for the delay, and the share of that sum.
use Rattle.std.proofs.Common.{◌≡◌, ℕ, zero, suc, ◌+◌, ◌*◌, ◌/◌, ◌%◌, ◌<◌, ◌≤◌, inl, inr, max, List, [], ◌∷◌, map, length, ℤ, pos, negsuc, ◌+ℤ◌, ◌≤ℤ◌, sym, refl, ap, subst, mul-le-mul, mul-le-mul_left, mul-le-mul_right, mul-pos, div-add-mod', arith}
use native.Mathlib.Nat.{le_of_mul-le-mul_left, lt-div-mul-add}
use borrow.Author.Differences.{up, down, at_most_in, sum_is_lem}
use Rattle.rules.specs.declared.figures.SectionFigures.{SectionFigures}
use Rattle.rules.specs.Ratio.{ratio, rounded_up}
use Rattle.rules.specs.Fraction.{Fraction, whole, Proper, ◌≤F◌, ◌+F◌, total, times, over, natural_of, fall_of}
use Rattle.rules.specs.Law.{LawfulStock}
use Rattle.rules.specs.Kind.{Kind, LawfulKind}
use Rattle.rules.specs.Stop.{Approach, Step, step, edge, edges_below, steps_through, steps_from, train_mass, brake_force, train_drag, holding_force, braking_work, braking_run, braking_distance, least_of, least_force, delay_run, distance}
use Rattle.rules.specs.Exact.{readings_in, exact_brake_force, exact_train_drag, exact_holding_force, exact_run, exact_delay, lowest_grade, exact_sum}
use Rattle.rules.specs.Allowance.{combined_slack}
use Rattle.rules.specs.Promises.{LawfulApproach, StopsAreClose}
use Rattle.rules.proofs.Floors.{ceil_under}
use Rattle.rules.proofs.Fractions.{made, opened, at_most, same, plus, wholes, joined, positive}
use Rattle.rules.proofs.Delays.{fall_near, delay_surplus}
use Rattle.rules.proofs.Nearness.{Near, near_sum, near_done, share_allowed}
use Rattle.rules.proofs.Members.{In}
use Rattle.rules.proofs.Asked.{answered}
use Rattle.rules.proofs.Grades.{lowest_proper, lowest_over, lowest_near}
use Rattle.rules.proofs.Forces.{as_natural, force_under, force_proper}
use Rattle.rules.proofs.Safe.{delay_under, stops_are_safe}
use Rattle.rules.proofs.Steps.{counted}
use Rattle.rules.proofs.Exacts.{exact_sums_are_finer}

-- ---- the exact forces are at most the slack above the whole ones

brake_nat : (b k l s n d m : ℕ) → k ≤ m → k * l ≤ b * m + m → n ≤ (l + s) * d → k * n ≤ (b + s + 1) * (d * m)
brake_nat b k l s n d m h i j = omega (arith, mul-le-mul_left k j, mul-le-mul_right d i, mul-le-mul_right (s * d) h)

first_near : (p n d l s w : ℕ) → n ≤ (l + s) * d → p * n * w ≤ p * l * (d * w) + p * s * (d * w)
first_near p n d l s w h = omega (arith, mul-le-mul_left (p * w) h)

second_near : (p n d l s w : ℕ) → n ≤ (l + s) * w → p * n * d ≤ p * l * (d * w) + p * s * (d * w)
second_near p n d l s w h = omega (arith, mul-le-mul_left (p * d) h)

mean_nat : (d a b s p r k u v : ℕ) → a + b ≤ d * (p + r) + (p + r) → u ≤ a * k + p * s * k → v ≤ b * k + r * s * k → u + v ≤ (d + s + 1) * (k * (p + r))
mean_nat d a b s p r k u v h i j = omega (arith, mul-le-mul_right k h)

-- an exact value is at most the value below and a slack over it
slack_over : (n d l h s t : ℕ) → n ≤ h * d → h ≤ l + s → s ≤ t → n ≤ (l + t) * d
slack_over n d l h s t over close le = let k : h ≤ l + t = omega arith in omega (arith, mul-le-mul_right d k)

-- ---- one step

up_near : (n d : ℕ) → 1 ≤ d → rounded_up (ratio n d) * d ≤ n + d
up_near n d h = omega (arith, ceil_under (n / d) (n % d) d n h (div-add-mod' n d))

step_nat : (m e n c y a b : ℕ) → m ≤ n → 1 ≤ n → c * n ≤ y + n → a ≤ (n + e) * b → m * c * a ≤ (m + e) * (y * b) + m * a
step_nat m e n c y a b h one i j =
    le_of_mul-le-mul_left {k = n}
    (omega (arith, mul-le-mul_right (m * a) i, mul-le-mul_left (y * m) j, mul-le-mul_left (y * e * b) h)) one

positive_down : (z : ℤ) → 1 ≤ up z → down z ≡ 0
positive_down (pos n) h = refl
positive_down (negsuc n) h = absurd (omega arith)

-- ---- the least force

pub least_base : (b : ℕ) (ns : List ℕ) → least_of b ns ≤ b
least_base b [] = omega arith
least_base b (n ∷ ns) = omega (arith, least_base b ns)

least_each : {X : Type 0} (f : X → ℕ) (b : ℕ) (x : X) (xs : List X) → In x xs → least_of b (map f xs) ≤ f x
least_each f b x [] i = absurd i
least_each f b x (y ∷ ys) (inl e) = let p = ap f e in omega arith
least_each f b x (y ∷ ys) (inr i) = omega (arith, least_each f b x ys i)

least_over : {X : Type 0} (f : X → ℕ) (b n : ℕ) (xs : List X) → n ≤ b → ((x : X) → In x xs → n ≤ f x) → n ≤ least_of b (map f xs)
least_over f b n [] h k = h
least_over f b n (x ∷ xs) h k = let r = least_over f b n xs h (λ y i. k y (inr i)) in let s = k x (inl refl) in omega arith

module _ (a : Approach) (w : List SectionFigures) (laws : LawfulStock a.laws) (l : LawfulApproach a w) where
  abbrev slack : ℕ
  slack = combined_slack a.laws

  abbrev drag_slack : ℕ
  drag_slack = max a.laws.coasting.slack a.laws.wagon.slack

  brake_near : (y : ℕ) → y ≤ 1600 → exact_brake_force a y ≤F whole (pos (brake_force a y + a.laws.friction.slack + 1))
  unfolding brake_force
  brake_near y h =
      let m = l.mass in
      let f = a.laws.friction in
      let x = f.exact y in
      let r = laws.friction.reads y h in
      let p : 1 ≤ 10 * train_mass a = omega arith in
      let km : a.factor * a.pressure ≤ 10 * train_mass a = mul-le-mul l.factor l.pressed in
      let n : x.num ≤ (f.below y + f.slack) * x.den = slack_over x.num x.den (f.below y) (f.above y) f.slack f.slack r.over r.close (omega arith) in
      let i = lt-div-mul-add {a = a.factor * a.pressure * f.below y} p in
      let e = brake_nat (brake_force a y) (a.factor * a.pressure) (f.below y) f.slack x.num x.den (10 * train_mass a) km (omega (arith, i)) n in
      made (exact_brake_force a y) (whole (pos (brake_force a y + f.slack + 1))) (omega (arith, e))

  drag_near : (s : Step) → s.bottom ≤ 1600 → exact_train_drag a (readings_in s) ≤F whole (pos (train_drag a s + drag_slack + 1))
  unfolding train_drag
  drag_near s h =
      let q = a.per_wagon in
      let z = s.bottom in
      let m = l.mass in
      let c = a.laws.coasting in
      let g = a.laws.wagon in
      let cx = c.exact z q in
      let gx = g.exact z q in
      let cr = laws.coasting.reads z q h l.least l.most in
      let gr = laws.wagon.reads z q h l.least l.most in
      let cn : cx.num ≤ (c.below z q + drag_slack) * cx.den = slack_over cx.num cx.den (c.below z q) (c.above z q) c.slack drag_slack cr.over cr.close (omega arith) in
      let gn : gx.num ≤ (g.below z q + drag_slack) * gx.den = slack_over gx.num gx.den (g.below z q) (g.above z q) g.slack drag_slack gr.over gr.close (omega arith) in
      let i = lt-div-mul-add {a = a.hauling * c.below z q + a.trailing * g.below z q} m in
      let e = mean_nat (train_drag a s) (a.hauling * c.below z q) (a.trailing * g.below z q) drag_slack a.hauling a.trailing (cx.den * gx.den)
      (a.hauling * cx.num * gx.den) (a.trailing * gx.num * cx.den) (omega (arith, i))
      (first_near a.hauling cx.num cx.den (c.below z q) drag_slack gx.den cn) (second_near a.trailing gx.num cx.den (g.below z q) drag_slack gx.den gn) in
      made (exact_train_drag a (readings_in s)) (whole (pos (train_drag a s + drag_slack + 1))) (omega (arith, e))

  -- N with its slack, part by part
  abbrev slackened : Step → ℤ
  slackened s = pos (brake_force a s.top + a.laws.friction.slack + 1) +ℤ pos (train_drag a s + drag_slack + 1) +ℤ (a.lowest +ℤ pos 1)

  slack_sum : (s : Step) → pos 1000 ≤ℤ holding_force a s → slackened s ≤ℤ pos (natural_of (holding_force a s) + slack)
  unfolding holding_force
  slack_sum s h =
      let e = as_natural (holding_force a s) h in
      let z = ap down e.0 in
      at_most_in (slackened s) (pos (natural_of (holding_force a s) + slack))
      (omega (
        arith,
        z,
        sum_is_lem (pos (brake_force a s.top) +ℤ pos (train_drag a s)) a.lowest,
        sum_is_lem a.lowest (pos 1),
        sum_is_lem (pos (brake_force a s.top + a.laws.friction.slack + 1) +ℤ pos (train_drag a s + drag_slack + 1)) (a.lowest +ℤ pos 1),
      ))

  force_near : (s : Step) → s.top ≤ 1600 → s.bottom ≤ 1600 → pos 1000 ≤ℤ holding_force a s
      → exact_holding_force a (readings_in s) (lowest_grade w) ≤F whole (pos (natural_of (holding_force a s) + slack))
  force_near s h k n =
      let b = pos (brake_force a s.top + a.laws.friction.slack + 1) in
      let d = pos (train_drag a s + drag_slack + 1) in
      let g = a.lowest +ℤ pos 1 in
      let low = lowest_grade w in
      let eb = exact_brake_force a s.top in
      let ed = exact_train_drag a (readings_in s) in
      at_most (exact_holding_force a (readings_in s) low) (whole (b +ℤ d) +F whole g) (whole (pos (natural_of (holding_force a s) + slack))) (omega arith)
      (plus (eb +F ed) (whole (b +ℤ d)) low (whole g)
      (at_most (eb +F ed) (whole b +F whole d) (whole (b +ℤ d)) (omega arith)
      (plus eb (whole b) ed (whole d) (brake_near s.top h) (drag_near s k))
      (joined b d))
      (at_most low (whole a.lowest +F whole (pos 1)) (whole g) (omega arith) (lowest_near a w l) (joined a.lowest (pos 1))))
      (at_most (whole (b +ℤ d) +F whole g) (whole (b +ℤ d +ℤ g)) (whole (pos (natural_of (holding_force a s) + slack))) (omega arith)
      (joined (b +ℤ d) g) (wholes (b +ℤ d +ℤ g) (pos (natural_of (holding_force a s) + slack)) (slack_sum s n)))

  abbrev exact_step : Step → Fraction
  exact_step s = exact_run s (exact_holding_force a (readings_in s) (lowest_grade w))

  abbrev run : Step → ℕ
  run s = braking_run s (natural_of (holding_force a s))

  step_near : (m : ℕ) (s : Step) → s.bottom ≤ s.top → s.top ≤ 1600 → pos 1000 ≤ℤ holding_force a s → m ≤ natural_of (holding_force a s)
      → Proper (exact_step s) × Near (m + slack) m (run s) 1 (exact_step s)
  unfolding braking_run
  step_near m s bt t h least =
      let low = lowest_grade w in
      let x = exact_holding_force a (readings_in s) low in
      let n = natural_of (holding_force a s) in
      let e = as_natural (holding_force a s) h in
      let lo : whole (holding_force a s) ≤F x =
      force_under a w laws l s (readings_in s) low t (bt, omega arith) (omega arith, bt) (omega arith, bt) (lowest_over a w l) in
      let lo' : whole (pos n) ≤F x = subst (λ (z : ℤ). whole z ≤F x) (sym e.0) lo in
      let pr : Proper x = force_proper a w laws l (readings_in s) low t (omega arith) (omega arith) (lowest_proper a w l) in
      let one : 1 ≤ n = omega (arith, e.1) in
      let big = positive n x lo' one pr in
      let some : 1 ≤ up x.num = omega (arith, mul-pos one pr, big) in
      let none = positive_down x.num some in
      let hi = opened x (whole (pos (n + slack))) (force_near s t (omega arith) h) in
      let hi' : up x.num ≤ (n + slack) * x.den = omega (arith, hi, none) in
      let y = braking_work s in
      let k = step_nat m slack n (run s) y (up x.num) x.den least one (up_near y n one) hi' in
      (omega arith, omega (arith, k))

  steps_near : (m k y : ℕ) → y ≤ 1600 → ((j : ℕ) → j < k → edge j < y)
      → ((s : Step) → In s (steps_through y k) → pos 1000 ≤ℤ holding_force a s) → ((s : Step) → In s (steps_through y k) → m ≤ natural_of (holding_force a s))
      → Proper (total (map exact_step (steps_through y k)))
      × Near (m + slack) m (braking_distance (holding_force a) (steps_through y k)) (length (steps_through y k)) (total (map exact_step (steps_through y k)))
  steps_near m zero y h edges every least = (omega arith, omega arith)
  steps_near m (suc k) y h edges every least =
      let s = step y (edge k) in
      let below = edges k (omega arith) in
      let first = step_near m s (omega arith) h (every s (inl refl)) (least s (inl refl)) in
      let rest = steps_through (edge k) k in
      let r = steps_near m k (edge k) (omega arith) (λ j i. omega arith) (λ t i. every t (inr i)) (λ t i. least t (inr i)) in
      let n = near_sum (m + slack) m (run s) 1 (braking_distance (holding_force a) rest) (length rest) (exact_step s) (total (map exact_step rest)) first.1 r.1 in (
        mul-pos first.0 r.0,
        subst (λ (j : ℕ). Near (m + slack) m (braking_distance (holding_force a) (steps_through y (suc k))) j (total (map exact_step (steps_through y (suc k))))) (one_more (length rest)) n,
      )
    where
      one_more : (n : ℕ) → 1 + n ≡ suc n
      one_more n = omega arith

  delay_near : (kind : Kind) → LawfulKind kind → (v : ℕ) → v ≤ 1600 → 1000 ≤ brake_force a v → (m : ℕ) → m ≤ brake_force a v
      → Near (m + slack) m (delay_run kind v (brake_force a v) a.lowest) 1 (exact_delay kind v (exact_brake_force a v) (lowest_grade w))
  unfolding delay_run
  delay_near kind lk v slow strong m h =
      let b = brake_force a v in
      let t = kind.seconds in
      let c = kind.extra in
      let g = lowest_grade w in
      let x = a.laws.friction.exact v in
      let b₁ = a.factor * a.pressure * x.num in
      let b₂ = x.den * (10 * train_mass a) in
      let s = a.laws.friction.slack + 1 in
      let one : 1 ≤ b = omega (arith, strong) in
      let n : 1 ≤ 36 * b = omega arith in
      let hi = opened (exact_brake_force a v) (whole (pos (b + a.laws.friction.slack + 1))) (brake_near v slow) in
      let bb : b₁ ≤ (b + s) * b₂ = omega (arith, hi) in
      let y = up_near (v * (1000 * t * b + 1000 * c * fall_of a.lowest)) (36 * b) n in
      let yy : delay_run kind v b a.lowest * (36 * b) ≤ v * (1000 * (t * b + c * fall_of a.lowest)) + 36 * b = omega (arith, y) in
      let e = delay_surplus m slack v t c b b₁ b₂ (fall_of a.lowest) (fall_of g.num) g.den s (delay_run kind v b a.lowest) one h lk.mild (omega arith) (omega arith) bb
      (fall_near a.lowest g (lowest_near a w l)) yy in
      omega (arith, e)

-- ---- the theorem

pub stops_are_close : StopsAreClose
stops_are_close k a w v l none =
    let h = answered k a v none in
    let m = least_force a v in
    let e = combined_slack a.laws in
    let ss = steps_from v in
    let n = length ss in
    let b = brake_force a v in
    let d = distance k a v in
    let x = exact_sum k a w v in
    let dp = delay_under k a w v l.laws l.approach l.speed h.strong (lowest_grade w) (lowest_proper a w l.approach) (lowest_over a w l.approach) in
    let dn = delay_near a w l.laws l.approach k l.kind v l.speed h.strong m (least_base b (map (λ s. natural_of (holding_force a s)) ss)) in
    let sn = steps_near a w l.laws l.approach m (edges_below v) v l.speed (λ j i. (counted v j).1 i) h.every
    (λ s i. least_each (λ s. natural_of (holding_force a s)) b s ss i) in
    let near = near_sum (m + e) m (delay_run k v b a.lowest) 1 (braking_distance (holding_force a) ss) n
    (exact_delay k v (exact_brake_force a v) (lowest_grade w)) (total (map (exact_step a w l.laws l.approach) ss)) dn sn.1 in
    let strong = least_over (λ s. natural_of (holding_force a s)) b 1000 ss h.strong (λ s i. (as_natural (holding_force a s) (h.every s i)).1) in
    let j : 1 + n ≡ n + 1 = omega arith in
    let own = exact_sums_are_finer k a w v l.approach in
    let under : x ≤F whole (pos d) = subst (λ (t : Fraction). t ≤F whole (pos d)) own.2 (stops_are_safe k a w v l none own.0 own.1).1 in
    let share = over (times e x) m in
    let up-share = rounded_up (ratio (e * d) m) in
    record {
      proper = mul-pos dp.0 sn.0;
      strong = strong;
      covered = under;
      bounded = near_done d m e (n + 1) x (subst (λ (i : ℕ). Near (m + e) m d i x) j near);
      allowed =
          at_most (whole (pos (n + 1)) +F share) (whole (pos (n + 1)) +F whole (pos up-share)) (whole (pos (n + 1 + up-share))) (omega arith)
          (plus (whole (pos (n + 1))) (whole (pos (n + 1))) share (whole (pos up-share)) (same (whole (pos (n + 1)))) (share_allowed e d m x (omega arith) under))
          (joined (pos (n + 1)) (pos up-share));
    }
