-- The steps of a stop fall from its speed to 0 through the edges below it.
use Rattle.std.proofs.Common.{◌≡◌, ℕ, zero, suc, ◌+◌, ◌<◌, ◌≤◌, ◌⊎◌, inl, inr, min, Bool, true, false, ◌&&◌, List, ◌∷◌, map, ℤ, pos, int_le, sym, refl, ap, ◌∙◌, subst, arith}
use native.Mathlib.Decide.{dec_lt}
use Rattle.rules.specs.Stop.{Step, step, edge, edges_below, steps_through, steps_from, all_hold}
use Rattle.rules.specs.Finer.{FallsFrom, StepsFall}
use Rattle.rules.proofs.Members.{In, in_list, contained}

pub counted : (v k : ℕ) → (edge k < v → k < edges_below v) × (k < edges_below v → edge k < v)
counted v k = (λ h. omega arith, λ h. omega arith)

through : (k y : ℕ) → ((j : ℕ) → j < k → edge j < y) → (k ≡ 0 → y ≡ 0) → FallsFrom y (steps_through y k)
through zero y h e = e refl
through (suc k) y h e = (refl, h k (omega arith), through k (edge k) (λ j i. omega arith) (λ i. omega arith))

abbrev bottoms : List Step → List ℕ
bottoms = map (λ s. s.bottom)

at_edge : (k y z : ℕ) → In z (bottoms (steps_through y k)) → (j : ℕ) × (j < k) × (edge j ≡ z)
at_edge zero y z i = absurd i
at_edge (suc k) y z (inl e) = (k, omega arith, sym e)
at_edge (suc k) y z (inr i) = let r = at_edge k (edge k) z i in let lt = r.1 in (r.0, omega arith, r.2)

each_edge : (k y j : ℕ) → j < k → In (edge j) (bottoms (steps_through y k))
each_edge zero y j h = absurd (omega arith)
each_edge (suc k) y j h =
    elim (last_or j k h) [
      | inl e ↦ inl (ap edge e)
      | inr lt ↦ inr (each_edge k (edge k) j lt)
    ]
  where
    last_or : (j k : ℕ) → j < suc k → (j ≡ k) ⊎ (j < k)
    last_or zero zero h = inl refl
    last_or zero (suc k) h = inr (omega arith)
    last_or (suc j) zero h = absurd (omega arith)
    last_or (suc j) (suc k) h =
        elim (last_or j k (omega arith)) [
          | inl e ↦ inl (ap suc e)
          | inr lt ↦ inr (omega arith)
        ]

pub steps_fall : StepsFall
steps_fall v = (
  through (edges_below v) v (λ j h. (counted v j).1 h) (λ e. omega arith),
  λ z. (
    λ at. let r = at_edge (edges_below v) v z (in_list _ z at) in (r.0, (counted v r.0).1 r.1, r.2),
    λ r. contained _ z (subst (λ (t : ℕ). In t (bottoms (steps_from v))) r.2 (each_edge (edges_below v) v r.0 ((counted v r.0).0 r.1))),
  ),
)

-- ---- a step that does not hold

module _ (force : Step → ℤ) where
  abbrev holds_in : Step → Bool
  holds_in s = int_le (pos 1000) (force s)

  weak_first : (y z y' z' : ℕ) (rest : List Step) → y ≡ y' → z ≡ z' → holds_in (step y z) ≡ false → all_hold force (step y' z' ∷ rest) ≡ false
  weak_first y z y' z' rest top bottom weak =
      let here : holds_in (step y' z') ≡ false =
      ap (λ (t : ℕ). holds_in (step t z')) (sym top) ∙ ap (λ (t : ℕ). holds_in (step y t)) (sym bottom) ∙ weak
      in
      ap (λ (t : Bool). t && all_hold force rest) here

  weak_rest : (b rest : Bool) → rest ≡ false → (b && rest) ≡ false
  weak_rest true rest weak = weak
  weak_rest false rest weak = refl

  weak_between : (k n y : ℕ) → n < k → y ≡ edge (n + 1) → holds_in (step y (edge n)) ≡ false → all_hold force (steps_through (edge k) k) ≡ false
  weak_between zero n y under top weak = absurd (omega arith)
  weak_between (suc k) n y under top weak =
      elim (dec_lt n k) [
        | yes p ↦ weak_rest (holds_in (step (edge (suc k)) (edge k))) _ (weak_between k n y p top weak)
        | no p ↦
            let last : n ≡ k = omega arith in
            weak_first y (edge n) (edge (suc k)) (edge k) (steps_through (edge k) k) (omega (arith, top, last)) (ap edge last) weak
      ]

  weak_within : (k v n y : ℕ) → edges_below v ≡ k → n < k → y ≡ min (edge (n + 1)) v → holds_in (step y (edge n)) ≡ false
      → all_hold force (steps_through v k) ≡ false
  weak_within zero v n y count under top weak = absurd (omega arith)
  weak_within (suc k) v n y count under top weak =
      elim (dec_lt n k) [
        | yes p ↦
            let inner : edge (n + 1) < v = (counted v (n + 1)).1 (omega (arith, count)) in
            weak_rest (holds_in (step v (edge k))) _ (weak_between k n y p (omega (arith, top, inner)) weak)
        | no p ↦
            let last : n ≡ k = omega arith in
            let outer : v ≤ edge (n + 1) = outer_edge v (n + 1) (omega (arith, count)) in
            weak_first y (edge n) v (edge k) (steps_through (edge k) k) (omega (arith, top, outer)) (ap edge last) weak
      ]
    where
      outer_edge : (v k : ℕ) → edges_below v ≤ k → v ≤ edge k
      outer_edge v k few = elim (dec_lt (edge k) v) [ yes p ↦ absurd (omega (arith, (counted v k).0 p)) | no p ↦ omega arith ]

  -- where the step between an edge below the speed and the next edge or the speed does not hold, not every step does
  pub weak_below : (v n y : ℕ) → edge n < v → y ≡ min (edge (n + 1)) v → holds_in (step y (edge n)) ≡ false → all_hold force (steps_from v) ≡ false
  weak_below v n y under top weak = weak_within (edges_below v) v n y refl ((counted v n).0 under) top weak
