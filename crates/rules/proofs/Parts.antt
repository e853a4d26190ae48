-- The parts of a finer reckoning, added up, stay under what is left of the step that they begin in, and of the steps below that.
use Rattle.std.proofs.Common.{◌≡◌, ℕ, zero, suc, ◌+◌, ◌*◌, ◌<◌, ◌≤◌, inl, inr, List, [], ◌∷◌, map, ℤ, pos, ◌≤ℤ◌, sym, refl, subst, mul-le-mul, mul-pos, arith}
use native.Mathlib.Decide.{dec_lt}
use Rattle.rules.specs.declared.figures.SectionFigures.{SectionFigures}
use Rattle.rules.specs.Ratio.{ratio}
use Rattle.rules.specs.Fraction.{Fraction, whole, Proper, ◌≤F◌, ◌+F◌, total, natural_of}
use Rattle.rules.specs.Law.{LawfulStock}
use Rattle.rules.specs.Grade.{grade}
use Rattle.rules.specs.Stop.{Approach, Step, step, edge, edges_below, steps_through, holding_force, braking_work, braking_run, braking_distance}
use Rattle.rules.specs.Exact.{exact_holding_force}
use Rattle.rules.specs.Finer.{Part, FallsFrom, ReadsIn, part_distance}
use Rattle.rules.specs.Promises.{LawfulApproach}
use Rattle.rules.proofs.Ratios.{up_over}
use Rattle.rules.proofs.Fractions.{made, at_most, same, plus, part, parts, positive, divided}
use Rattle.rules.proofs.Members.{In}
use Rattle.rules.proofs.Grades.{grade_proper_of, low_under}
use Rattle.rules.proofs.Forces.{as_natural, force_under, force_proper}

square : (a b : ℕ) → a ≤ b → a * a ≤ b * b
square a b h = mul-le-mul h h

-- what is left of a step is the sum of its parts
work_joined : (a b z : ℕ) → z ≤ b → b ≤ a → braking_work (step a b) + braking_work (step b z) ≡ braking_work (step a z)
work_joined a b z h k = omega (arith, square z b h, square b a k)

add_whole : (a c n : ℕ) → 1 ≤ n → part a n +F part c 1 ≤F part (a + c * n) n
add_whole a c n h = made (part a n +F part c 1) (part (a + c * n) n) (omega arith)

at_end : (a c n : ℕ) → 1 ≤ n → a ≤ c * n → part a n ≤F part c 1
at_end a c n h k = made (part a n) (part c 1) (omega arith)

-- ---- lists of parts

abbrev pub runs : List Part → List Step
runs = map (λ p. p.run)

abbrev ends : List Part → List ℕ
ends = map (λ p. p.run.bottom)

-- the parts below b end below b
ends_below : (b e : ℕ) (ps : List Part) → FallsFrom b (runs ps) → In e (ends ps) → e < b
ends_below b e [] f i = absurd i
ends_below b e (p ∷ ps) f (inl i) = let h = f.1 in omega arith
ends_below b e (p ∷ ps) f (inr i) = let h = f.1 in let r = ends_below p.run.bottom e ps f.2 i in omega arith

-- a part does not run past an edge
stops_at : (e : ℕ) (p : Part) (ps : List Part) → FallsFrom p.run.bottom (runs ps) → In e (ends (p ∷ ps)) → e ≤ p.run.bottom
stops_at e p ps f (inl i) = omega arith
stops_at e p ps f (inr i) = let r = ends_below p.run.bottom e ps f i in omega arith

later_edge : (e : ℕ) (p : Part) (ps : List Part) → e < p.run.bottom → In e (ends (p ∷ ps)) → In e (ends ps)
later_edge e p ps h (inl i) = absurd (omega arith)
later_edge e p ps h (inr i) = i

none_left : (ps : List Part) → FallsFrom 0 (runs ps) → ps ≡ []
none_left [] f = refl
none_left (p ∷ ps) f = let h = f.1 in absurd (omega arith)

-- ---- edges

edge_under : (v k : ℕ) → edges_below v ≡ suc k → edge k < v
edge_under v k e = omega arith

no_edge : (v : ℕ) → edges_below v ≡ 0 → v ≡ 0
no_edge v e = omega arith

module _ (a : Approach) (w : List SectionFigures) (laws : LawfulStock a.laws) (l : LawfulApproach a w) where
  abbrev force : Step → ℕ
  force s = natural_of (holding_force a s)

  abbrev below : List Step → ℕ
  below = braking_distance (holding_force a)

  abbrev Strong : Step → Type 0
  Strong s = pos 1000 ≤ℤ holding_force a s

  abbrev sum : List Part → Fraction
  sum ps = total (map (part_distance a) ps)

  some_force : (s : Step) → Strong s → 1 ≤ force s
  some_force s h = omega (arith, (as_natural (holding_force a s) h).1)

  -- ---- one part

  part_under : (s : Step) (p : Part) → Strong s → s.top ≤ 1600 → p.run.top ≤ s.top → s.bottom ≤ p.run.bottom → ReadsIn w p
      → Proper (part_distance a p) × (part_distance a p ≤F part (braking_work p.run) (force s))
  part_under s p h m t b r =
      let g = grade p.on in
      let n = exact_holding_force a p.at g in
      let e = as_natural (holding_force a s) h in
      let rf = r.friction in
      let rc = r.coasting in
      let rw' = r.wagon in
      let f : whole (holding_force a s) ≤F n =
      force_under a w laws l s p.at g m (omega arith, omega arith) (omega arith, omega arith) (omega arith, omega arith) (low_under a w l p.on r.grade) in
      let f' : whole (pos (force s)) ≤F n = subst (λ (z : ℤ). whole z ≤F n) (sym e.0) f in
      let pr : Proper n = force_proper a w laws l p.at g (omega arith) (omega arith) (omega arith) (grade_proper_of a w l p.on r.grade) in
      let one : 1 ≤ force s = some_force s h in
      let k = positive (force s) n f' one pr in
      let j = mul-pos one pr in
      (omega (arith, j, k), divided (braking_work p.run) (force s) n f')

  -- ---- all parts

  -- the bound from the speed y, within the step s and with the steps after it
  abbrev Left : ℕ → Step → List Step → Fraction
  Left y s after = part (braking_work (step y s.bottom) + below after * force s) (force s)

  -- a part that ends inside the step
  stays : (s : Step) (after : List Step) (y b : ℕ) (d t : Fraction) → 1 ≤ force s → s.bottom ≤ b → b ≤ y
      → d ≤F part (braking_work (step y b)) (force s) → t ≤F Left b s after → d +F t ≤F Left y s after
  stays s after y b d t n h k i j =
      let wj = work_joined y b s.bottom h k in
      let m = force s in
      let c = below after in
      let u = braking_work (step y b) in
      let v = braking_work (step b s.bottom) in
      at_most (d +F t) (part u m +F Left b s after) (Left y s after) (mul-pos n n)
      (plus d (part u m) t (Left b s after) i j)
      (at_most (part u m +F Left b s after) (part (u + (v + c * m)) m) (Left y s after) n (parts u (v + c * m) m)
      (let e : u + (v + c * m) ≡ braking_work (step y s.bottom) + c * m = omega (arith, wj) in
      subst (λ (x : ℕ). part (u + (v + c * m)) m ≤F part x m) e (same (part (u + (v + c * m)) m))))

  -- a part that ends with its step
  crosses : (s : Step) (after : List Step) (y : ℕ) (d t : Fraction) → 1 ≤ force s
      → d ≤F part (braking_work (step y s.bottom)) (force s) → t ≤F part (below after) 1 → d +F t ≤F Left y s after
  crosses s after y d t n i j =
      let m = force s in
      let c = below after in
      let u = braking_work (step y s.bottom) in
      at_most (d +F t) (part u m +F part c 1) (Left y s after) (omega arith)
      (plus d (part u m) t (part c 1) i j) (add_whole u c m n)

  -- at the top of a step the bound is at most the distance given
  begins : (s : Step) (after : List Step) (t : Fraction) → 1 ≤ force s → t ≤F Left s.top s after → t ≤F part (below (s ∷ after)) 1
  unfolding braking_run
  begins s after t n h =
      let m = force s in
      at_most t (Left s.top s after) (part (below (s ∷ after)) 1) n h
      (at_end (braking_work s + below after * m) (below (s ∷ after)) m n
      (omega (arith, up_over (ratio (braking_work s) m) n)))

  no_parts : (ps : List Part) → ps ≡ [] → Proper (sum ps) × (sum ps ≤F part 0 1)
  no_parts [] e = (omega arith, same (part 0 1))
  no_parts (p ∷ ps) e = absurd (let z : ◌≡◌ {A = ℕ} 0 1 = cc in omega arith)

  -- one part that begins at x, within the step from y to the edge k
  part_at : (k x y : ℕ) (p : Part) → Strong (step y (edge k)) → p.run.top ≡ x → x ≤ y → edge k ≤ p.run.bottom → y ≤ 1600 → ReadsIn w p
      → Proper (part_distance a p) × (part_distance a p ≤F part (braking_work (step x p.run.bottom)) (force (step y (edge k))))
  part_at k x y p h e t b m r =
      subst (λ (u : ℕ). Proper (part_distance a p) × (part_distance a p ≤F part (braking_work (step u p.run.bottom)) (force (step y (edge k))))) e
      (part_under (step y (edge k)) p h m (omega arith) b r)

  walk : (k : ℕ) (ps : List Part) (x y : ℕ) → x ≤ y → y ≤ 1600 → edge k < x
      → Strong (step y (edge k)) → ((s : Step) → In s (steps_through (edge k) k) → Strong s)
      → FallsFrom x (runs ps) → ((j : ℕ) → edge j < x → In (edge j) (ends ps)) → ((p : Part) → In p ps → ReadsIn w p)
      → Proper (sum ps) × (sum ps ≤F Left x (step y (edge k)) (steps_through (edge k) k))
  walk k [] x y xy ym kx now after f edges reads = absurd (omega arith)
  walk zero (p ∷ ps) x y xy ym kx now after f edges reads =
      let e = f.0 in
      let lt = f.1 in
      let b = p.run.bottom in
      let s = step y (edge zero) in
      let kb : edge zero ≤ b = omega arith in
      let one = some_force s now in
      let d = part_at zero x y p now e xy kb ym (reads p (inl refl)) in
      elim (dec_lt (edge zero) b) [
        | yes inside ↦
            let t = walk zero ps b y (omega arith) ym inside now after f.2
            (λ j h. later_edge (edge j) p ps h (edges j (omega arith))) (λ r i. reads r (inr i)) in
            (mul-pos d.0 t.0, stays s [] x b (part_distance a p) (sum ps) one kb (omega arith) d.1 t.1)
        | no end ↦
            let z : b ≡ 0 = omega arith in
            let t = no_parts ps (none_left ps (subst (λ (u : ℕ). FallsFrom u (runs ps)) z f.2)) in (
              mul-pos d.0 t.0,
              crosses s [] x (part_distance a p) (sum ps) one
                  (subst (λ (u : ℕ). part_distance a p ≤F part (braking_work (step x u)) (force s)) z d.1) t.1,
            )
      ]
  walk (suc k) (p ∷ ps) x y xy ym kx now after f edges reads =
      let e = f.0 in
      let lt = f.1 in
      let b = p.run.bottom in
      let s = step y (edge (suc k)) in
      let kb : edge (suc k) ≤ b = stops_at (edge (suc k)) p ps f.2 (edges (suc k) kx) in
      let one = some_force s now in
      let d = part_at (suc k) x y p now e xy kb ym (reads p (inl refl)) in
      elim (dec_lt (edge (suc k)) b) [
        | yes inside ↦
            let t = walk (suc k) ps b y (omega arith) ym inside now after f.2
            (λ j h. later_edge (edge j) p ps h (edges j (omega arith))) (λ r i. reads r (inr i)) in
            (mul-pos d.0 t.0, stays s (steps_through (edge (suc k)) (suc k)) x b (part_distance a p) (sum ps) one kb (omega arith) d.1 t.1)
        | no end ↦
            let z : b ≡ edge (suc k) = omega arith in
            let next = after (step (edge (suc k)) (edge k)) (inl refl) in
            let one' = some_force (step (edge (suc k)) (edge k)) next in
            let t = walk k ps (edge (suc k)) (edge (suc k)) (omega arith) (omega arith) (omega arith) next (λ s i. after s (inr i))
            (subst (λ (u : ℕ). FallsFrom u (runs ps)) z f.2)
            (λ j h. later_edge (edge j) p ps (omega arith) (edges j (omega arith))) (λ r i. reads r (inr i)) in (
              mul-pos d.0 t.0,
              crosses s (steps_through (edge (suc k)) (suc k)) x (part_distance a p) (sum ps) one
                  (subst (λ (u : ℕ). part_distance a p ≤F part (braking_work (step x u)) (force s)) z d.1)
                  (begins (step (edge (suc k)) (edge k)) (steps_through (edge k) k) (sum ps) one' t.1),
            )
      ]

  pub parts_under : (v n : ℕ) → v ≤ 1600 → edges_below v ≡ n → (ps : List Part) → ((s : Step) → In s (steps_through v n) → Strong s)
      → FallsFrom v (runs ps) → ((j : ℕ) → edge j < v → In (edge j) (ends ps)) → ((p : Part) → In p ps → ReadsIn w p)
      → Proper (sum ps) × (sum ps ≤F part (below (steps_through v n)) 1)
  parts_under v zero m e ps every f edges reads = no_parts ps (none_left ps (subst (λ (u : ℕ). FallsFrom u (runs ps)) (no_edge v e) f))
  parts_under v (suc k) m e ps every f edges reads =
      let s = step v (edge k) in
      let now = every s (inl refl) in
      let t = walk k ps v v (omega arith) m (edge_under v k e) now (λ s i. every s (inr i)) f edges reads in
      (t.0, begins s (steps_through (edge k) k) (sum ps) (some_force s now) t.1)
