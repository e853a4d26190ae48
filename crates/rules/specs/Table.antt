-- A pull table: points of speed, in tenths of km/h, and pull, in kgf, with straight lines between them.
use Rattle.std.specs.Prelude.{◌≡◌, ℕ, ◌+◌, ◌-◌, ◌*◌, ◌<◌, ◌≤◌, Bool, true, false, cond, ◌&&◌, List, [], ◌∷◌, length, take, Some, None, Option, ◌==◌, nat_le, nat_lt, slice_index_or}
use Rattle.rules.specs.declared.figures.PointFigures.{PointFigures}
use Rattle.rules.specs.Ratio.{Ratio, ratio}

-- a table may begin with p: its speed is 0, its value in range
abbrev pub may_begin : PointFigures → Bool
may_begin p = p.speed == 0 && nat_le p.value 1000000

-- n may come next after p: its speed is higher and in range, its value is not higher
abbrev pub may_follow : PointFigures → PointFigures → Bool
may_follow p n = (nat_lt p.speed n.speed && nat_le n.speed 1600) && nat_le n.value p.value

-- each point may come next after the one before it, the first of them after p
abbrev pub orderly_after : PointFigures → List PointFigures → Bool
orderly_after p [] = true
orderly_after p (n ∷ rest) = may_follow p n && orderly_after n rest

-- 1 to 16 points from speed 0 on, the speeds strictly rising and the values never
abbrev pub lawful_table : List PointFigures → Bool
lawful_table [] = false
lawful_table (p ∷ rest) = may_begin p && (nat_le (length rest) 15 && orderly_after p rest)

-- ---- the point that breaks a table, counted from 0

-- the first that may not come next, or has 16 before it, where k points stand already and p is the last of them
abbrev pub breaks_after : ℕ → PointFigures → List PointFigures → Option ℕ
breaks_after k p [] = None
breaks_after k p (n ∷ rest) = cond (nat_lt k 16 && may_follow p n) (breaks_after (k + 1) n rest) (Some k)

-- without any point it is 0, the one that is missing
abbrev pub first_break : List PointFigures → Option ℕ
first_break [] = Some 0
first_break (p ∷ rest) = cond (may_begin p) (breaks_after 1 p rest) (Some 0)

-- the points before it make a table, if there are any; together with it they do not, nor do all of them
pub record BreaksFirst (ps : List PointFigures) (k : ℕ) : Type 0 where
  pub before : 1 ≤ k → lawful_table (take k ps) ≡ true
  pub broken : lawful_table (take (k + 1) ps) ≡ false
  pub whole : lawful_table ps ≡ false

-- ---- the pull by a table

-- on the straight line from p to n
abbrev pub between_points : PointFigures → PointFigures → ℕ → Ratio
between_points p n v = ratio (p.value * (n.speed - v) + n.value * (v - p.speed)) (n.speed - p.speed)

-- from p on, at a speed not under that of p: past the last point there is no pull
abbrev pub pull_after : PointFigures → List PointFigures → ℕ → Ratio
pull_after p [] v = ratio (cond (nat_le v p.speed) p.value 0) 1
pull_after p (n ∷ rest) v = cond (nat_lt v n.speed) (between_points p n v) (pull_after n rest v)

-- by a table, from speed 0 on
abbrev pub table_pull : List PointFigures → ℕ → Ratio
table_pull [] v = ratio 0 1
table_pull (p ∷ rest) v = pull_after p rest v

-- it goes through its points, straight from one to the next, and is 0 past the last
pub record GoesThrough (ps : List PointFigures) : Type 0 where
  pub at_points : (k : ℕ) (d : PointFigures) → k < length ps
      → (table_pull ps (slice_index_or ps k d).speed).num ≡ (slice_index_or ps k d).value * (table_pull ps (slice_index_or ps k d).speed).den
  pub between : (k v : ℕ) (d : PointFigures) → k + 1 < length ps → (slice_index_or ps k d).speed ≤ v → v < (slice_index_or ps (k + 1) d).speed
      → table_pull ps v ≡ between_points (slice_index_or ps k d) (slice_index_or ps (k + 1) d) v
  pub past_last : (v : ℕ) (d : PointFigures) → (slice_index_or ps (length ps - 1) d).speed < v → (table_pull ps v).num ≡ 0

abbrev pub TablesGoThroughPoints : Type 0
TablesGoThroughPoints = (ps : List PointFigures) → lawful_table ps ≡ true → GoesThrough ps
