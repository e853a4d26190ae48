-- By how much the distance of a stop, made of whole values, may exceed its exact sum.
use Rattle.std.specs.Prelude.{ℕ, ◌+◌, ◌*◌, ◌^◌, max, Some, None, Option, ◌==◌, cond, nat_lt}
use Rattle.rules.specs.declared.figures.StopFigures.{StopFigures}
use Rattle.rules.specs.Law.{Stock}
use Rattle.rules.specs.Ratio.{ratio, rounded_up}

-- e, by how much in milli a holding force may fall short of the exact one: the slack of friction, the greater slack of coasting
-- drag and wagon drag, and 1 each for rounding B, D and the grade
abbrev pub combined_slack : Stock → ℕ
combined_slack s = s.friction.slack + max s.coasting.slack s.wagon.slack + 3

-- in whole millimetres: 1 for each step, 1 for the delay, and the share e/m of the distance, rounded up
abbrev pub allowance : ℕ → StopFigures → ℕ
allowance e s = s.steps + 1 + rounded_up (ratio (e * s.distance) s.least)

-- ---- as it is told where a program runs

-- a number, where 32 bits hold it
abbrev pub as_u32 : ℕ → Option ℕ
as_u32 n = cond (nat_lt n (2 ^ 32)) (Some n) None

-- the allowance by a slack that 32 bits hold, of a stop that has a force
abbrev pub told_allowance : ℕ → StopFigures → Option ℕ
told_allowance e s = cond (nat_lt e (2 ^ 32)) (cond (s.least == 0) None (Some (allowance e s))) None
