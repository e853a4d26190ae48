-- Products and quotients of the forces stay small.
use Rattle.std.proofs.Common.{◌≡◌, ℕ, ◌+◌, ◌*◌, ◌/◌, ◌<◌, ◌≤◌, Bool, true, false, cond, eqb, ℤ, pos, negsuc, ◌≤ℤ◌, refl, mul-le-mul, mul-le-mul_right, le-div_iff_mul-le, arith}
use Rattle.std.proofs.lemmas.Bool.{eqb-false}
use Rattle.std.proofs.lemmas.Int.{ints}
use Rattle.rules.specs.Book.{per_wagon}
use Rattle.rules.specs.Fraction.{fall_of}
use Rattle.rules.specs.Kind.{kind, LawfulKind}
use Rattle.rules.specs.Ratio.{ratio, rounded_up}
use Rattle.rules.specs.Stop.{delay_run}
use Rattle.rules.proofs.Ratios.{up_least}

pub parts_small : (t c b d : ℕ) → t ≤ 60 → c ≤ 2 * t → b < 4294967296 → d < 4294967296 → 1000 * t * b + 1000 * c * d ≤ 180000 * 4294967296
parts_small t c b d ht hc hb hd =
    let p : 1000 * t ≤ 60000 = omega arith in
    let q : 1000 * c ≤ 120000 = omega arith in
    let r : b ≤ 4294967296 = omega arith in
    let s : d ≤ 4294967296 = omega arith in
    omega (arith, mul-le-mul p r, mul-le-mul q s)

pub delay_small : (v t c b d : ℕ) → v ≤ 1600 → t ≤ 60 → c ≤ 2 * t → b < 4294967296 → d < 4294967296
    → v * (1000 * t * b + 1000 * c * d) ≤ 1600 * (180000 * 4294967296)
delay_small v t c b d hv ht hc hb hd = mul-le-mul hv (parts_small t c b d ht hc hb hd)

shallow : (g : ℤ) → negsuc 39999 ≤ℤ g → fall_of g ≤ 40000
shallow (pos n) h = omega arith
shallow (negsuc n) h = omega (arith, ints, h)

-- a delay before brakes of at least 1,000 milli, on a fall of at most 40,000, in parts of 36 b
pub delay_short : (v t c b d : ℕ) → v ≤ 1600 → t ≤ 60 → c ≤ 2 * t → 1000 ≤ b → d ≤ 40000
    → v * (1000 * t * b + 1000 * c * d) ≤ 216000000 * (36 * b)
delay_short v t c b d hv ht hc hb hd =
    let p : 1000 * t ≤ 60000 = omega arith in
    let q : 1000 * c ≤ 120000 = omega arith in
    let parts : 1000 * t * b + 1000 * c * d ≤ 60000 * b + 120000 * 40000 = omega (arith, mul-le-mul_right b p, mul-le-mul q hd) in
    omega (arith, mul-le-mul hv parts)

-- so it is at most 216 m
pub delay_most : (t c v b : ℕ) (g : ℤ) → LawfulKind (kind t c) → v ≤ 1600 → 1000 ≤ b → negsuc 39999 ≤ℤ g → delay_run (kind t c) v b g ≤ 216000000
unfolding delay_run
delay_most t c v b g lawful hv hb hg =
    up_least (ratio (v * (1000 * t * b + 1000 * c * fall_of g)) (36 * b)) (omega arith) 216000000
    (delay_short v t c b (fall_of g) hv lawful.few lawful.mild hb (shallow g hg))

by_wagons : (b : Bool) (m n : ℕ) → eqb n 0 ≡ b → 50 * n ≤ m → m ≤ 2000 * n → (50 ≤ cond b 50 (rounded_up (ratio m n))) × (cond b 50 (rounded_up (ratio m n)) ≤ 2000)
by_wagons true m n e h k = (omega arith, omega arith)
by_wagons false m n e h k =
    let some : 1 ≤ n = omega (arith, eqb-false n 0 e) in
    let down : 50 ≤ m / n = (le-div_iff_mul-le {k = n} some).1 h in
    (omega arith, up_least (ratio m n) some 2000 k)

-- the mass per wagon of wagons of 50 to 2,000 is 50 to 2,000
pub per_wagon_range : (m n : ℕ) → 50 * n ≤ m → m ≤ 2000 * n → (50 ≤ per_wagon m n) × (per_wagon m n ≤ 2000)
per_wagon_range m n h k = by_wagons (eqb n 0) m n refl h k
