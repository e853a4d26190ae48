-- The least of some numbers is one of them, and none of them is under it.
use Rattle.std.proofs.Common.{◌≡◌, ℕ, ◌≤◌, ◌⊎◌, inl, inr, min, List, [], ◌∷◌, refl, sym, subst, arith}
use native.Mathlib.Decide.{dec_le}
use Rattle.rules.specs.Stop.{least_of, LeastIsLeast}
use Rattle.rules.proofs.Members.{In, contained, to_all}

picks : (m n : ℕ) → (min m n ≡ m) ⊎ (min m n ≡ n)
picks m n =
    elim (dec_le m n) [
      | yes h ↦ inl (omega arith)
      | no h ↦ inr (omega arith)
    ]

one_of : (b : ℕ) (ns : List ℕ) → In (least_of b ns) (b ∷ ns)
one_of b [] = inl refl
one_of b (n ∷ ns) =
    elim (picks n (least_of b ns)) [
      | inl e ↦ inr (inl e)
      | inr e ↦ subst (λ (t : ℕ). In t (b ∷ n ∷ ns)) (sym e) (further (one_of b ns))
    ]
  where
    further : {x : ℕ} → In x (b ∷ ns) → In x (b ∷ n ∷ ns)
    further (inl e) = inl e
    further (inr i) = inr (inr i)

not_over : (b : ℕ) (ns : List ℕ) (x : ℕ) → In x (b ∷ ns) → least_of b ns ≤ x
not_over b [] x (inl e) = omega arith
not_over b [] x (inr i) = absurd i
not_over b (n ∷ ns) x (inl e) = omega (arith, not_over b ns x (inl e))
not_over b (n ∷ ns) x (inr (inl e)) = omega arith
not_over b (n ∷ ns) x (inr (inr i)) = omega (arith, not_over b ns x (inr i))

pub least_is_least : LeastIsLeast
least_is_least b ns = (contained (b ∷ ns) (least_of b ns) (one_of b ns), to_all _ (b ∷ ns) (not_over b ns))
