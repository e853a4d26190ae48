-- The formulas of the laws, as exact ratios, and the ranges of their figures.
use Rattle.std.specs.Prelude.{ℕ, ◌+◌, ◌*◌, ◌≤◌}
use Rattle.rules.specs.Ratio.{Ratio, ratio}

-- friction of cast iron blocks, in millionths
abbrev pub cast_iron : ℕ → Ratio
cast_iron v = ratio (270000 * (v + 1000)) (5 * v + 1000)

-- friction of composite blocks, in millionths
abbrev pub composite : ℕ → Ratio
composite v = ratio (360000 * (v + 1500)) (2 * v + 1500)

-- pull that adhesion allows at an adhesive mass m in tenths of a tonne, in kgf: 25 m + 400 m / (50 + v)
abbrev pub adhesion : ℕ → ℕ → Ratio
adhesion m v = ratio (25 * m * (50 + v) + 400 * m) (50 + v)

-- the adhesive masses that it is given for
abbrev pub AdhesionRange : ℕ → Type 0
AdhesionRange m = (1 ≤ m) × (m ≤ 20000)

-- the pull of a vehicle without traction
abbrev pub no_pull : Ratio
no_pull = ratio 0 1

-- drag of wagons of gross mass q, in milli
abbrev pub wagon_drag : ℕ → ℕ → Ratio
wagon_drag v q = ratio (100000 * (v + 650)) (12000 + 55 * q)

-- drag by three constants, in milli
abbrev pub quadratic_drag : ℕ → ℕ → ℕ → ℕ → ℕ → Ratio
quadratic_drag a b c v q = ratio (100 * a + 10 * (b * v) + c * (v * v)) 100000

-- their ranges
abbrev pub QuadraticRange : ℕ → ℕ → ℕ → Type 0
QuadraticRange a b c = (a ≤ 100000000) × (b ≤ 1000000) × (c ≤ 10000)

-- the constants of the diesel locomotive DF4
abbrev pub df4_a : ℕ
df4_a = 2280000

abbrev pub df4_b : ℕ
df4_b = 29300

abbrev pub df4_c : ℕ
df4_c = 178

-- its drag at a speed and a gross mass
abbrev pub df4 : ℕ → ℕ → Ratio
df4 = quadratic_drag df4_a df4_b df4_c
