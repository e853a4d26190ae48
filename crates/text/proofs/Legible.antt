-- Lines of numbers are clear: they hold no line feed, and no two rows of numbers have the same line.
use Rattle.std.proofs.Common.{◌≡◌, ℕ, Bool, true, false, List, [], ◌∷◌, ◌++◌, ℤ, decimal, refl, arith}
use Rattle.std.specs.Fmt.{signed_decimal}
use Rattle.std.proofs.ByRecursion.{All-append}
use Rattle.text.specs.Numerals.{Short, ShortSigned, Lacks}
use Rattle.text.specs.Fields.{flag, spaced}
use Rattle.text.proofs.Numerals.{numeral_same}
use Rattle.text.proofs.Cuts.{decimal_lacks, signed_lacks, leads_same}

-- ---- no line feed

-- a field, and a rest after a space
pub field_plain : (f r : List ℕ) → Lacks 10 f → Lacks 10 r → Lacks 10 (f ++ 32 ∷ r)
field_plain f r h k = All-append _ f (32 ∷ r) h ((λ e. omega arith), k)

pub decimal_plain : (n : ℕ) → Short n → Lacks 10 (decimal n)
decimal_plain n h = decimal_lacks 10 n (omega arith) h

pub signed_plain : (z : ℤ) → ShortSigned z → Lacks 10 (signed_decimal z)
signed_plain z h = signed_lacks 10 z (omega arith) h

pub flag_plain : (b : Bool) → Lacks 10 (flag b)
flag_plain true = ((λ e. omega arith), tt)
flag_plain false = ((λ e. omega arith), tt)

pub two_plain : (m n : ℕ) → Short m → Short n → Lacks 10 (spaced (decimal m ∷ decimal n ∷ []))
two_plain m n h k = field_plain (decimal m) (decimal n) (decimal_plain m h) (decimal_plain n k)

pub three_plain : (l m n : ℕ) → Short l → Short m → Short n → Lacks 10 (spaced (decimal l ∷ decimal m ∷ decimal n ∷ []))
three_plain l m n h k j = field_plain (decimal l) (spaced (decimal m ∷ decimal n ∷ [])) (decimal_plain l h) (two_plain m n k j)

-- ---- the same line is of the same numbers

pub decimal_same : (m n : ℕ) → Short m → Short n → decimal m ≡ decimal n → m ≡ n
decimal_same m n h k e = numeral_same (decimal m) m n (h, refl) (k, e)

pub flag_same : (a b : Bool) → flag a ≡ flag b → a ≡ b
flag_same true true e = refl
flag_same true false e = let h : ◌≡◌ {A = ℕ} 49 48 = cc in absurd (omega arith)
flag_same false true e = let h : ◌≡◌ {A = ℕ} 48 49 = cc in absurd (omega arith)
flag_same false false e = refl

pub two_same : (a b c d : ℕ) → Short a → Short b → Short c → Short d
    → spaced (decimal a ∷ decimal b ∷ []) ≡ spaced (decimal c ∷ decimal d ∷ []) → (a ≡ c) × (b ≡ d)
two_same a b c d p q r s e =
    let k = leads_same _ a c (decimal b) (decimal d) (p, refl) (r, e) in (k.0, decimal_same b d q s k.1)

pub three_same : (a b c x y z : ℕ) → Short a → Short b → Short c → Short x → Short y → Short z
    → spaced (decimal a ∷ decimal b ∷ decimal c ∷ []) ≡ spaced (decimal x ∷ decimal y ∷ decimal z ∷ [])
    → (a ≡ x) × (b ≡ y) × (c ≡ z)
three_same a b c x y z p q r s t u e =
    let k = leads_same _ a x (spaced (decimal b ∷ decimal c ∷ [])) (spaced (decimal y ∷ decimal z ∷ [])) (p, refl) (s, e) in
    let l = two_same b c y z q r t u k.1 in
    (k.0, l.0, l.1)
