-- The members of a list, told by recursion; and the lowest of a list is one of them, and under each.
use Rattle.std.proofs.Common.{◌≡◌, ℕ, zero, suc, ◌<◌, ◌⊎◌, inl, inr, List, [], ◌∷◌, map, length, get_or, All, Contains, sym, refl, ap, subst, arith}
use Rattle.rules.specs.Grade.{lowest}

-- x is a member
abbrev pub In : {X : Type 0} → X → List X → Type 0
In x [] = ⊥
In x (y ∷ ys) = (x ≡ y) ⊎ In x ys

in_at : {X : Type 0} (xs : List X) (x : X) (k : ℕ) → k < length xs → get_or xs k x ≡ x → In x xs
in_at [] x k h e = absurd (omega arith)
in_at (y ∷ ys) x zero h e = inl (sym e)
in_at (y ∷ ys) x (suc k) h e = inr (in_at ys x k (omega arith) e)

pub in_list : {X : Type 0} (xs : List X) (x : X) → Contains xs x → In x xs
in_list xs x at = in_at xs x at.0 at.1 at.2

pub contained : {X : Type 0} (xs : List X) (x : X) → In x xs → Contains xs x
contained [] x i = absurd i
contained (y ∷ ys) x (inl e) = (0, omega arith, sym e)
contained (y ∷ ys) x (inr i) = let at = contained ys x i in let lt = at.1 in (suc at.0, omega arith, at.2)

pub of_all : {X : Type 0} (P : X → Type 0) (xs : List X) → All P xs → (x : X) → In x xs → P x
of_all P xs h x i = let at = contained xs x i in subst P at.2 (h at.0 x at.1)

pub to_all : {X : Type 0} (P : X → Type 0) (xs : List X) → ((x : X) → In x xs → P x) → All P xs
to_all P xs h k d lt = h (get_or xs k d) (reads xs k d lt)
  where
    reads : {X : Type 0} (xs : List X) (k : ℕ) (d : X) → k < length xs → In (get_or xs k d) xs
    reads [] k d lt = absurd (omega arith)
    reads (y ∷ ys) zero d lt = inl refl
    reads (y ∷ ys) (suc k) d lt = inr (reads ys k d (omega arith))

pub in_map : {X Y : Type 0} (f : X → Y) (x : X) (xs : List X) → In x xs → In (f x) (map f xs)
in_map f x [] i = i
in_map f x (y ∷ ys) (inl e) = inl (ap f e)
in_map f x (y ∷ ys) (inr i) = inr (in_map f x ys i)

pub map_in : {X Y : Type 0} (f : X → Y) (y : Y) (xs : List X) → In y (map f xs) → (x : X) × In x xs × (y ≡ f x)
map_in f y [] i = absurd i
map_in f y (x ∷ xs) (inl e) = (x, inl refl, e)
map_in f y (x ∷ xs) (inr i) = let r = map_in f y xs i in (r.0, inr r.1, r.2)

-- ---- the lowest of a list

module _ {X : Type 0} (lesser : X → X → X) (none : X) (picks : (a b : X) → (lesser a b ≡ a) ⊎ (lesser a b ≡ b)) where
  pub lowest_in : (x : X) (xs : List X) → In (lowest lesser none (x ∷ xs)) (x ∷ xs)
  lowest_in x [] = inl refl
  lowest_in x (y ∷ ys) =
      elim (picks x (lowest lesser none (y ∷ ys))) [
        | inl e ↦ inl e
        | inr e ↦ inr (subst (λ (t : X). In t (y ∷ ys)) (sym e) (lowest_in y ys))
      ]

  pub lowest_some : (x : X) (xs : List X) → In x xs → In (lowest lesser none xs) xs
  lowest_some x [] i = absurd i
  lowest_some x (y ∷ ys) i = lowest_in y ys

  -- under each, in an order that goes on over members that are good
  module _ (Good : X → Type 0) (R : X → X → Type 0) (same : (a : X) → R a a)
      (left : (a b : X) → R (lesser a b) a) (right : (a b : X) → R (lesser a b) b)
      (on : (a b c : X) → Good b → R a b → R b c → R a c) where
    pub lowest_under : (xs : List X) → ((y : X) → In y xs → Good y) → (x : X) → In x xs → R (lowest lesser none xs) x
    lowest_under [] g x i = absurd i
    lowest_under (y ∷ []) g x (inl e) = subst (λ (t : X). R y t) (sym e) (same y)
    lowest_under (y ∷ []) g x (inr i) = absurd i
    lowest_under (y ∷ z ∷ zs) g x (inl e) = subst (λ (t : X). R (lesser y (lowest lesser none (z ∷ zs))) t) (sym e) (left y (lowest lesser none (z ∷ zs)))
    lowest_under (y ∷ z ∷ zs) g x (inr i) =
        on (lesser y (lowest lesser none (z ∷ zs))) (lowest lesser none (z ∷ zs)) x
        (g (lowest lesser none (z ∷ zs)) (inr (lowest_in z zs)))
        (right y (lowest lesser none (z ∷ zs))) (lowest_under (z ∷ zs) (λ t j. g t (inr j)) x i)
