-- How long steps are at the most.
use Rattle.std.specs.Prelude.{ℕ}

-- 41,700 × 1,600² / 1,000, in millimetres
abbrev pub step_limit : ℕ
step_limit = 106752000
