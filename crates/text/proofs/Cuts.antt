-- A text is cut at a mark in one way.
use Rattle.std.proofs.Common.{◌≡◌, ℕ, suc, ◌^◌, ◌<◌, List, [], ◌∷◌, ◌++◌, ℤ, pos, negsuc, decimal, refl, arith}
use Rattle.std.proofs.ByRecursion.{All-from_get_or}
use lib.Signed.{mag}
use Rattle.std.specs.Fmt.{signed_decimal}
use Rattle.std.proofs.lemmas.Fmt.{signed_decimal_injective}
use Rattle.text.specs.Numerals.{Numeral, Short, ShortSigned, Lacks}
use Rattle.text.specs.Fields.{Leads, LeadsSigned}
use Rattle.text.proofs.Numerals.{numeral_byte, numeral_same}

-- a text with a mark is cut at its first mark in one way
pub same_cut : (m : ℕ) (a b r s : List ℕ) → Lacks m a → Lacks m b → a ++ m ∷ r ≡ b ++ m ∷ s → (a ≡ b) × (r ≡ s)
same_cut m [] [] r s p q e = (refl, cc)
same_cut m [] (y ∷ b) r s p q e = let h : y ≡ m = cc in absurd (q.0 h)
same_cut m (x ∷ a) [] r s p q e = let h : x ≡ m = cc in absurd (p.0 h)
same_cut m (x ∷ a) (y ∷ b) r s p q e =
    let h : x ≡ y = cc in
    let t : a ++ m ∷ r ≡ b ++ m ∷ s = cc in
    let rec = same_cut m a b r s p.1 q.1 t in
    let f = rec.0 in
    (cc, rec.1)

-- a text that has a mark does not lack it
pub not_lacks : (m : ℕ) (a r : List ℕ) → Lacks m (a ++ m ∷ r) → ⊥
not_lacks m [] r h = h.0 refl
not_lacks m (x ∷ a) r h = not_lacks m a r h.1

-- a numeral has neither space nor line feed
numeral_lacks : (m : ℕ) (f : List ℕ) (n : ℕ) → m < 48 → Numeral f n → Lacks m f
numeral_lacks m f n h e = All-from_get_or _ f 0 (λ i l same. omega (arith, numeral_byte f n i e l))

pub decimal_lacks : (m n : ℕ) → m < 48 → Short n → Lacks m (decimal n)
decimal_lacks m n h s = numeral_lacks m (decimal n) n h (s, refl)

-- what a text begins with is one number
pub leads_same : (t : List ℕ) (m n : ℕ) (r s : List ℕ) → Leads t m r → Leads t n s → (m ≡ n) × (r ≡ s)
leads_same t m n r s (p, e) (q, f) =
    let both : decimal m ++ 32 ∷ r ≡ decimal n ++ 32 ∷ s = cc in
    let k = same_cut 32 (decimal m) (decimal n) r s (decimal_lacks 32 m (omega arith) p) (decimal_lacks 32 n (omega arith) q) both in
    (numeral_same (decimal m) m n (p, refl) (q, k.0), k.1)

-- the same of a signed number
pub signed_lacks : (m : ℕ) (z : ℤ) → m < 45 → ShortSigned z → Lacks m (signed_decimal z)
signed_lacks m (pos n) h s = decimal_lacks m n (omega arith) s
signed_lacks m (negsuc n) h s = ((λ e. omega arith), decimal_lacks m (suc n) (omega arith) s)

signed_small : (z : ℤ) → ShortSigned z → mag z < 2 ^ 63
signed_small (pos n) s = omega arith
signed_small (negsuc n) s = omega arith

pub leads_signed_same : (t : List ℕ) (y z : ℤ) (r s : List ℕ) → LeadsSigned t y r → LeadsSigned t z s → (y ≡ z) × (r ≡ s)
leads_signed_same t y z r s (p, e) (q, f) =
    let both : signed_decimal y ++ 32 ∷ r ≡ signed_decimal z ++ 32 ∷ s = cc in
    let k = same_cut 32 (signed_decimal y) (signed_decimal z) r s
    (signed_lacks 32 y (omega arith) p) (signed_lacks 32 z (omega arith) q) both in
    (signed_decimal_injective y z (signed_small y p) (signed_small z q) k.0, k.1)
