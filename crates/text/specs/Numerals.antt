-- How a number stands in a field.
use Rattle.std.specs.Prelude.{◌≡◌, ℕ, suc, ◌^◌, ◌<◌, ◌≤◌, List, ◌∷◌, ◌++◌, length, get_or, ℤ, pos, negsuc, neg_ℤ, Ok, Err, decimal, Result, ◌≢◌}
use Rattle.rules.specs.declared.fault.Fault.{Fault}
use Rattle.rules.specs.declared.refusal.Refusal.TheVariants.{MalformedLine}
use Rattle.std.specs.Fmt.{signed_decimal}
use Rattle.std.specs.List.{AllByRecursion}
use Rattle.std.specs.Str.Parse.{AllDigits, digits_value}

-- n is written with at most seven digits
abbrev pub Short : ℕ → Type 0
Short n = n < 10 ^ 7

-- field is the numeral of n: its decimal digits, without a leading zero
abbrev pub Numeral : List ℕ → ℕ → Type 0
Numeral field n = Short n × (field ≡ decimal n)

abbrev pub ShortSigned : ℤ → Type 0
ShortSigned (pos n) = Short n
ShortSigned (negsuc n) = Short (suc n)

-- the same with a minus before the digits of a number below 0
abbrev pub SignedNumeral : List ℕ → ℤ → Type 0
SignedNumeral field z = ShortSigned z × (field ≡ signed_decimal z)

-- field has as many bytes as a numeral, and no zero before others
pub record Plain (field : List ℕ) : Type 0 where
  pub some : 1 ≤ length field
  pub few : length field ≤ 7
  pub lead : get_or field 0 0 ≡ 48 → length field ≡ 1

-- digits have the value n, with or without leading zeros
abbrev pub ValueOf : List ℕ → ℕ → Type 0
ValueOf digits n = AllDigits 10 digits × (n ≡ digits_value 10 digits)

-- z is the number below 0 whose digits these are
abbrev pub Below : List ℕ → ℤ → Type 0
Below digits z = (n : ℕ) × (0 < n) × Numeral digits n × (z ≡ neg_ℤ (pos n))

-- what was read is what is meant, or there is an error and nothing is meant
abbrev pub FieldRead : {X E : Type 0} → (X → Type 0) → Result X E → Type 0
FieldRead Means (Ok x) = Means x
FieldRead {X = X} Means (Err e) = (x : X) → Means x → ⊥

-- a line that is not of its form
abbrev pub malformed : ℕ → Fault
malformed line = record { line = line; refusal = MalformedLine }

-- what was read of a line is what is meant, or the line is told as not of its form, and nothing is meant
abbrev pub LineRead : {X : Type 0} → ℕ → (X → Type 0) → Result X Fault → Type 0
LineRead line Means (Ok x) = Means x
LineRead {X = X} line Means (Err f) = (f ≡ malformed line) × ((x : X) → Means x → ⊥)

-- mark does not stand in text
abbrev pub Lacks : ℕ → List ℕ → Type 0
Lacks mark text = AllByRecursion (λ b. b ≢ mark) text

-- mark first stands in text between front and rest
pub record Cut (mark : ℕ) (text front rest : List ℕ) : Type 0 where
  pub whole : text ≡ front ++ mark ∷ rest
  pub first : Lacks mark front
