-- Numerals of at most seven digits.
use Rattle.std.proofs.Common.{◌≡◌, ℕ, zero, suc, ◌+◌, ◌-◌, ◌*◌, ◌^◌, ◌<◌, ◌≤◌, List, ◌∷◌, length, get_or, take, ℤ, pos, negsuc, Ok, Err, decimal, Result, sym, refl, ap, ◌∙◌, ⊎_elim, arith, length-take, rules}
use Rattle.std.specs.Int.{IsInRange}
use Rattle.std.specs.Char.{digit_value as digitValue}
use Rattle.std.specs.Str.Parse.{AllDigits, digits_value}
use Rattle.std.proofs.lemmas.Bool.{cases_lt}
use Rattle.std.proofs.lemmas.Int.Digits.{digits_value_more, digits_more}
use Rattle.std.proofs.lemmas.Str.Parse.{numerals_by_value, tells_digits, digit_at, digits_value_short}
use Rattle.std.proofs.lemmas.Fmt.{length-decimal-le, decimal_digit, first_decimal, decimal_is_IsNumeral, decimal-digits_value}
use Rattle.text.specs.Numerals.{Numeral, SignedNumeral, Plain, ValueOf, Below, FieldRead}
use Rattle.text.specs.declared.malformed.Malformed.{Malformed}

-- a numeral's value fits 64 bits
fits64 : (n : ℕ) → n < 10 ^ 7 → n < 2 ^ 64
fits64 n h = omega arith

-- a numeral is digits, and its value is its number
pub numeral_digits : (f : List ℕ) (n : ℕ) → Numeral f n → (0 < length f) × AllDigits 10 f × (digits_value 10 f ≡ n)
numeral_digits f n (small, e) =
    let r = decimal_is_IsNumeral n (fits64 n small) in rw e (r.0.0, r.0.1, r.1)

-- it is short
pub numeral_short : (f : List ℕ) (n : ℕ) → Numeral f n → length f ≤ 7
numeral_short f n (small, e) = rw e (length-decimal-le 7 n (omega arith) small (fits64 n small))

-- each byte of a numeral is a digit
pub numeral_byte : (f : List ℕ) (n i : ℕ) → Numeral f n → i < length f → IsInRange 48 57 (get_or f i 0)
numeral_byte f n i h l = digit_at f i (numeral_digits f n h).1 l

numeral_first : (f : List ℕ) (n : ℕ) → Numeral f n → IsInRange 48 57 (get_or f 0 0)
numeral_first f n h = numeral_byte f n 0 h (numeral_digits f n h).0

-- only the numeral of 0 begins with a zero
pub numeral_zero : (f : List ℕ) (n : ℕ) → Numeral f n → get_or f 0 0 ≡ 48 → length f ≡ 1
numeral_zero f n (small, e) z =
    ⊎_elim (λ tiny. ap length (e ∙ decimal_digit n tiny)) large (cases_lt n 10)
  where
    large : 10 ≤ n → length f ≡ 1
    large l =
        let p : 48 < get_or (decimal n) 0 0 = first_decimal n (omega arith) (fits64 n small) in
        absurd (omega (arith, ap (λ l. get_or l 0 0) e))

-- digits without a leading zero are a numeral
pub numeral_from_digits : (f : List ℕ) → AllDigits 10 f → 0 < length f → length f ≤ 7 → (get_or f 0 0 ≡ 48 → length f ≡ 1)
    → Numeral f (digits_value 10 f)
numeral_from_digits f ds some short lead =
    let small : digits_value 10 f < 10 ^ 7 = digits_value_short (numerals_by_value _ tells_digits) f 7 ds short in
    (small, sym (decimal-digits_value (numerals_by_value _ tells_digits) f ds some lead (omega arith)))

-- what a digit adds
digit_value : (b : ℕ) → IsInRange 48 57 b → digitValue b ≡ b - 48
digit_value b h = search rules

-- the first digits of a field, and one digit more
pub front_small : (f : List ℕ) (i k : ℕ) → i ≤ k → AllDigits 10 (take i f) → digits_value 10 (take i f) < 10 ^ k
front_small f i k l ds = digits_value_short (numerals_by_value _ tells_digits) (take i f) k ds (simp length-take (omega arith))

pub front_more : (f : List ℕ) (i n d : ℕ) → i < length f → IsInRange 48 57 (get_or f i 0) → d ≡ get_or f i 0 - 48
    → AllDigits 10 (take i f) × (n ≡ digits_value 10 (take i f))
    → AllDigits 10 (take (i + 1) f) × (n * 10 + d ≡ digits_value 10 (take (i + 1) f))
front_more f i n d l isDigit dIs (ds, e) =
    let v = digit_value (get_or f i 0) isDigit in
    (digits_more 10 f i l ds (omega arith), omega (arith, digits_value_more 10 f i l))

-- one text writes one number
pub numeral_same : (f : List ℕ) (m n : ℕ) → Numeral f m → Numeral f n → m ≡ n
numeral_same f m n a b = omega (arith, (numeral_digits f m a).2, (numeral_digits f n b).2)

-- a numeral is plain, and a plain field of digits is a numeral
pub numeral_plain : (f : List ℕ) (n : ℕ) → Numeral f n → Plain f
numeral_plain f n h = record { some = (numeral_digits f n h).0; few = numeral_short f n h; lead = numeral_zero f n h }

pub plain_numeral : (f : List ℕ) (r : Result ℕ Malformed) → Plain f → FieldRead (ValueOf f) r → FieldRead (Numeral f) r
plain_numeral f (Ok n) plain (ds, e) = rw e (numeral_from_digits f ds plain.some plain.few plain.lead)
plain_numeral f (Err e) plain none = λ n h. let d = numeral_digits f n h in none n (d.1, sym d.2)

-- after a minus stands the numeral of a number above 0
pub minus_reads : (f r : List ℕ) (result : Result ℤ Malformed) → f ≡ 45 ∷ r → FieldRead (Below r) result → FieldRead (SignedNumeral f) result
minus_reads f r (Ok z) e below = writes f r z e below
  where
    writes : (f r : List ℕ) (z : ℤ) → f ≡ 45 ∷ r → Below r z → SignedNumeral f z
    writes f r z e (zero, some, h, is) = absurd (omega arith)
    writes f r z e (suc n, some, (small, digits), is) = rw is (small, cc)
minus_reads f r (Err e) is none = λ z h. none z (reads f r z is h)
  where
    reads : (f r : List ℕ) (z : ℤ) → f ≡ 45 ∷ r → SignedNumeral f z → Below r z
    reads f r (pos n) e h =
        let first : get_or f 0 0 ≡ 45 = ap (λ l. get_or l 0 0) e in absurd (omega (arith, numeral_first f n h))
    reads f r (negsuc n) e (small, is) = (suc n, omega arith, (small, cc), refl)
