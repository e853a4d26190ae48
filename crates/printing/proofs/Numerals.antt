-- A numeral is put two digits at a time.
use Rattle.std.proofs.Common.{◌≡◌, ℕ, ◌+◌, ◌/◌, ◌%◌, ◌^◌, ◌<◌, ◌≤◌, List, [], ◌∷◌, ◌++◌, length, set, decimal, ap, ◌∙◌, arith, length-append, append_assoc}
use Rattle.std.proofs.lemmas.Fmt.{decimal_step, decimal_digit, length-decimal-le}
use Rattle.printing.specs.Puts.{Puts}
use Rattle.printing.proofs.Puts.{one, joined}

-- numerals of two digits, and the last two digits of others
two_digits : (n : ℕ) → 10 ≤ n → n < 100 → decimal n ≡ (48 + n / 10) ∷ (48 + n % 10) ∷ []
two_digits n big small = decimal_step n big (omega arith) ∙ ap (λ l. l ++ (48 + n % 10) ∷ []) (decimal_digit (n / 10) (omega arith))

last_digits : (n : ℕ) → 100 ≤ n → n < 2 ^ 32 → decimal n ≡ decimal (n / 100) ++ (48 + n % 100 / 10) ∷ (48 + n % 100 % 10) ∷ []
last_digits n big fits =
    let last = (48 + n % 10) ∷ [] in
    decimal_step n (omega arith) (omega arith) ∙ ap (λ l. l ++ last) (decimal_step (n / 10) (omega arith) (omega arith))
    ∙ append_assoc (decimal (n / 10 / 10)) ((48 + n / 10 % 10) ∷ []) last ∙ ap (λ (m : ℕ). decimal m ++ (48 + n / 10 % 10) ∷ last) (omega arith)
    ∙ ap (λ (m : ℕ). decimal (n / 100) ++ (48 + m) ∷ last) (omega arith)
    ∙ ap (λ (m : ℕ). decimal (n / 100) ++ (48 + n % 100 / 10) ∷ (48 + m) ∷ []) (omega arith)

-- so put
pub puts_one_digit : (n : ℕ) (xs : List ℕ) (at : ℕ) → n < 10 → at < length xs → Puts (decimal n) at xs (at + 1) (set xs at (48 + n))
puts_one_digit n xs at small lt = rw (decimal_digit n small) (one xs at (48 + n) lt)

pub puts_two_digits : (n : ℕ) (xs zs : List ℕ) (at e : ℕ) → 10 ≤ n → n < 100 → Puts ((48 + n / 10) ∷ (48 + n % 10) ∷ []) at xs e zs → Puts (decimal n) at xs e zs
puts_two_digits n xs zs at e big small p = rw (two_digits n big small) p

pub puts_last_digits : (n : ℕ) (xs ys zs : List ℕ) (at e f : ℕ) → 100 ≤ n → n < 2 ^ 32 → Puts (decimal (n / 100)) at xs e ys
    → Puts ((48 + n % 100 / 10) ∷ (48 + n % 100 % 10) ∷ []) e ys f zs → Puts (decimal n) at xs f zs
puts_last_digits n xs ys zs at e f big fits p q = joined (decimal (n / 100)) _ (decimal n) xs ys zs at e f p q (last_digits n big fits)

-- how long they are
pub one_long : (n : ℕ) → n < 10 → length (decimal n) ≡ 1
one_long n small = ap length (decimal_digit n small)

pub two_long : (n : ℕ) → 10 ≤ n → n < 100 → length (decimal n) ≡ 2
two_long n big small = ap length (two_digits n big small)

pub two_longer : (n : ℕ) → 100 ≤ n → n < 2 ^ 32 → length (decimal n) ≡ length (decimal (n / 100)) + 2
two_longer n big fits = ap length (last_digits n big fits) ∙ length-append (decimal (n / 100)) _

pub eight_before : (n : ℕ) → n < 2 ^ 32 → length (decimal (n / 100)) ≤ 8
eight_before n fits = length-decimal-le 8 (n / 100) (omega arith) (omega arith) (omega arith)

pub ruleset numerals = (puts_one_digit, puts_two_digits, puts_last_digits, one_long, two_long, two_longer, eight_before)
