-- How fields stand in a line.
use Rattle.std.specs.Prelude.{◌≡◌, ℕ, Bool, cond, List, [], ◌∷◌, ◌++◌, ℤ, decimal}
use Rattle.std.specs.Fmt.{signed_decimal}
use Rattle.text.specs.Numerals.{Short, ShortSigned}

-- fields parted by one space
abbrev pub spaced : List (List ℕ) → List ℕ
spaced [] = []
spaced (f ∷ []) = f
spaced (f ∷ (g ∷ fs)) = f ++ 32 ∷ spaced (g ∷ fs)

-- 1 or 0
abbrev pub flag : Bool → List ℕ
flag b = cond b 49 48 ∷ []

-- text begins with the numeral of n and a space, and goes on with rest
abbrev pub Leads : List ℕ → ℕ → List ℕ → Type 0
Leads text n rest = Short n × (text ≡ decimal n ++ 32 ∷ rest)

abbrev pub LeadsSigned : List ℕ → ℤ → List ℕ → Type 0
LeadsSigned text z rest = ShortSigned z × (text ≡ signed_decimal z ++ 32 ∷ rest)

-- text is two numerals, or three
abbrev pub Two : List ℕ → ℕ × ℕ → Type 0
Two text p = Short p.0 × Short p.1 × (text ≡ spaced (decimal p.0 ∷ decimal p.1 ∷ []))

abbrev pub Three : List ℕ → ℕ × ℕ × ℕ → Type 0
Three text p = Short p.0 × Short p.1 × Short p.2 × (text ≡ spaced (decimal p.0 ∷ decimal p.1 ∷ decimal p.2 ∷ []))
