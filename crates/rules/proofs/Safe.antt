-- No finer reckoning is longer: its parts stay under the steps, and its delay under the delay run.
use Rattle.std.proofs.Common.{ℕ, ◌+◌, ◌*◌, ◌≤◌, inl, inr, List, [], ◌∷◌, map, pos, sym, refl, subst, mul-pos, ap, eq-zero-or-pos, arith}
use borrow.Author.Differences.{up}
use Rattle.rules.specs.declared.figures.SectionFigures.{SectionFigures}
use Rattle.rules.specs.Ratio.{ratio}
use Rattle.rules.specs.Fraction.{Fraction, whole, Proper, Positive, ◌≤F◌, ◌+F◌, total, fall_of}
use Rattle.rules.specs.Law.{LawfulStock}
use Rattle.rules.specs.Kind.{Kind}
use Rattle.rules.specs.Grade.{grade}
use Rattle.rules.specs.Stop.{Approach, edges_below, steps_from, train_mass, brake_force, holding_force, braking_distance, delay_run, distance}
use Rattle.rules.specs.Exact.{exact_brake_force, exact_delay}
use Rattle.rules.specs.Finer.{Part, FallsFrom, ReadsIn, part_force, part_distance, finer_distance}
use Rattle.rules.specs.Promises.{LawfulApproach, StopsAreSafe}
use Rattle.rules.proofs.Ratios.{up_over}
use Rattle.rules.proofs.Fractions.{made, opened, at_most, plus, part, parts, positive}
use Rattle.rules.proofs.Members.{In, in_list, of_all, to_all}
use Rattle.rules.proofs.Asked.{answered}
use Rattle.rules.proofs.Grades.{grade_proper_of, low_under}
use Rattle.rules.proofs.Delays.{fall_under, delay_covers}
use Rattle.rules.proofs.Forces.{brake_under, brake_proper, force_proper}
use Rattle.rules.proofs.Parts.{runs, parts_under}

-- ---- the delay

module _ (k : Kind) (a : Approach) (w : List SectionFigures) (v : ℕ) (laws : LawfulStock a.laws) (l : LawfulApproach a w) (slow : v ≤ 1600) (strong : 1000 ≤ brake_force a v) where
  abbrev delay : ℕ
  delay = delay_run k v (brake_force a v) a.lowest

  pub delay_under : (g : Fraction) → Proper g → whole a.lowest ≤F g
      → Proper (exact_delay k v (exact_brake_force a v) g) × (exact_delay k v (exact_brake_force a v) g ≤F part delay 1)
  unfolding delay_run
  delay_under g p h =
      let b = brake_force a v in
      let t = k.seconds in
      let c = k.extra in
      let x = a.laws.friction.exact v in
      let b₁ = a.factor * a.pressure * x.num in
      let b₂ = x.den * (10 * train_mass a) in
      let one : 1 ≤ b = omega (arith, strong) in
      let big : b * b₂ ≤ b₁ = omega (arith, opened (whole (pos b)) (exact_brake_force a v) (brake_under a w laws l v v (omega arith) slow)) in
      let pb : 1 ≤ b₂ = brake_proper a w laws l v slow in
      let pb₁ : 1 ≤ b₁ = omega (arith, mul-pos one pb) in
      let n : 1 ≤ 36 * b = omega arith in
      let over = up_over (ratio (v * (1000 * t * b + 1000 * c * fall_of a.lowest)) (36 * b)) n in
      let e = delay_covers v t c b b₁ b₂ (fall_of a.lowest) (fall_of g.num) g.den delay one big (fall_under a.lowest g h) over in
      let p36 : 1 ≤ 36 * b₁ = omega arith in
      (mul-pos (mul-pos pb p) p36, made (exact_delay k v (exact_brake_force a v) g) (part delay 1) (omega (arith, e)))

-- ---- positive forces

factors : (m n : ℕ) → 1 ≤ m * n → (1 ≤ m) × (1 ≤ n)
factors m n h =
    elim (eq-zero-or-pos m) [
      | inl e ↦ absurd (omega (arith, subst (λ (t : ℕ). 1 ≤ t * n) e h))
      | inr some ↦
          elim (eq-zero-or-pos n) [
            | inl e ↦ absurd (omega (arith, subst (λ (t : ℕ). 1 ≤ m * t) e h))
            | inr more ↦ (some, more)
          ]
    ]

-- each part of a proper sum is proper
each_proper : (f : Part → Fraction) (ps : List Part) → Proper (total (map f ps)) → (p : Part) → In p ps → Proper (f p)
each_proper f [] h p i = absurd i
each_proper f (q ∷ ps) h p (inl e) = subst (λ (t : Part). Proper (f t)) (sym e) (factors (f q).den (total (map f ps)).den h).0
each_proper f (q ∷ ps) h p (inr i) = each_proper f ps (factors (f q).den (total (map f ps)).den h).1 p i

tops_under : (v : ℕ) (ps : List Part) → FallsFrom v (runs ps) → (p : Part) → In p ps → p.run.top ≤ v
tops_under v [] f p i = absurd i
tops_under v (q ∷ ps) f p (inl e) = let top = f.0 in let same' = ap (λ (t : Part). t.run.top) e in omega arith
tops_under v (q ∷ ps) f p (inr i) = let lt = f.1 in let r = tops_under q.run.bottom ps f.2 p i in omega arith

module _ (a : Approach) (w : List SectionFigures) (laws : LawfulStock a.laws) (l : LawfulApproach a w) where
  part_positive : (p : Part) → p.run.top ≤ 1600 → ReadsIn w p → Proper (part_distance a p) → Positive (part_force a p)
  part_positive p t r h =
      let rf = r.friction in
      let rc = r.coasting in
      let rw' = r.wagon in (
        force_proper a w laws l p.at (grade p.on) (omega arith) (omega arith) (omega arith) (grade_proper_of a w l p.on r.grade),
        (factors 1 (up (part_force a p).num) h).1,
      )

  brake_positive : (v : ℕ) → v ≤ 1600 → 1000 ≤ brake_force a v → Positive (exact_brake_force a v)
  brake_positive v slow strong =
      let b = brake_force a v in
      let pr = brake_proper a w laws l v slow in
      let one : 1 ≤ b = omega (arith, strong) in
      let big = positive b (exact_brake_force a v) (brake_under a w laws l v v (omega arith) slow) one pr in
      (pr, omega (arith, big, mul-pos one pr))

-- ---- the theorem

pub stops_are_safe : StopsAreSafe
stops_are_safe k a w v l none r f =
    let h = answered k a v none in
    let at = f.delay in
    let g = grade r.delayed_on in
    let d = delay_under k a w v l.laws l.approach l.speed h.strong g (grade_proper_of a w l.approach r.delayed_on at) (low_under a w l.approach r.delayed_on at) in
    let t = parts_under a w l.laws l.approach v (edges_below v) l.speed refl r.parts h.every f.falls
    (λ j i. in_list _ _ (f.edges j i)) (of_all (ReadsIn w) r.parts f.reads) in
    let c = braking_distance (holding_force a) (steps_from v) in
    let y = delay_run k v (brake_force a v) a.lowest in (
      record {
        brake = brake_positive a w l.laws l.approach v l.speed h.strong;
        parts =
            to_all (λ p. Positive (part_force a p)) r.parts (λ p i.
            let top = tops_under v r.parts f.falls p i in
            part_positive a w l.laws l.approach p (omega (arith, top, l.speed)) (of_all (ReadsIn w) r.parts f.reads p i)
            (each_proper (part_distance a) r.parts t.0 p i));
        proper = mul-pos d.0 t.0;
      },
      at_most (finer_distance k a v r) (part y 1 +F part c 1) (whole (pos (distance k a v))) (omega arith)
          (plus (exact_delay k v (exact_brake_force a v) g) (part y 1) (total (map (part_distance a) r.parts)) (part c 1) d.1 t.1)
          (parts y c 1),
    )
