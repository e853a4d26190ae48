-- What a slice pattern with named first bytes says of a text.
use Rattle.std.proofs.Common.{◌≡◌, ℕ, ◌-◌, ◌≤◌, List, [], ◌∷◌, length, get_or, take, drop, arith}
use Rattle.std.proofs.lemmas.List.{take_rest}

-- the one byte
pub only_one : (xs : List ℕ) (a : ℕ) → length xs ≡ 1 → get_or xs 0 0 ≡ a → xs ≡ a ∷ []
only_one [] a l p = absurd (omega arith)
only_one (x ∷ []) a l p = cc
only_one (x ∷ (y ∷ ys)) a l p = absurd (omega arith)

-- one byte or two, and the rest
pub after_first : (xs : List ℕ) (a : ℕ) → 1 ≤ length xs → get_or xs 0 0 ≡ a → xs ≡ a ∷ take (length xs - 1) (drop 1 xs)
after_first xs a some e = rw take_rest (go xs some e)
  where
    go : (ys : List ℕ) → 1 ≤ length ys → get_or ys 0 0 ≡ a → ys ≡ a ∷ drop 1 ys
    go [] l p = absurd (omega arith)
    go (w ∷ zs) l p = cc

pub after_two : (xs : List ℕ) (a b : ℕ) → 2 ≤ length xs → get_or xs 0 0 ≡ a → get_or xs 1 0 ≡ b
    → xs ≡ a ∷ (b ∷ take (length xs - 2) (drop 2 xs))
after_two xs a b l p q = rw take_rest (go xs l p q)
  where
    go : (ys : List ℕ) → 2 ≤ length ys → get_or ys 0 0 ≡ a → get_or ys 1 0 ≡ b → ys ≡ a ∷ (b ∷ drop 2 ys)
    go [] l p q = absurd (omega arith)
    go (w ∷ []) l p q = absurd (omega arith)
    go (w ∷ (x ∷ zs)) l p q = cc
