-- What a law of friction, pull or drag means. At each speed v, in tenths of km/h up to 1,600, it has an exact ratio and two
-- whole values, one below and one above it. A falling law is friction, in millionths, or the pull of one locomotive, in kgf.
-- A drag, in milli (thousandths of kgf/t), is read also at q, the gross mass per wagon in tenths of a tonne, 50 to 2,000.
use Rattle.std.specs.Prelude.{ℕ, ◌+◌, ◌*◌, ◌≤◌}
use Rattle.rules.specs.Ratio.{Ratio, AtMost, rounded_down, rounded_up}

-- below ≤ exact ≤ above ≤ 1,000,000, and above exceeds below by at most the slack
pub record Reads (exact : Ratio) (below above slack : ℕ) : Type 0 where
  pub proper : 1 ≤ exact.den
  pub under : below * exact.den ≤ exact.num
  pub over : exact.num ≤ above * exact.den
  pub capped : above ≤ 1000000
  pub order : below ≤ above
  pub close : above ≤ below + slack

-- friction or pull at each speed
pub record Falling : Type 0 where
  pub exact : ℕ → Ratio
  pub below : ℕ → ℕ
  pub above : ℕ → ℕ
  pub slack : ℕ

abbrev pub falling : (ℕ → Ratio) → (ℕ → ℕ) → (ℕ → ℕ) → ℕ → Falling
falling e b a s = record { exact = e; below = b; above = a; slack = s }

-- by an exact value alone: the whole values are it rounded down and up
abbrev pub rounded_falling : (ℕ → Ratio) → Falling
rounded_falling e = falling e (λ v. rounded_down (e v)) (λ v. rounded_up (e v)) 1

-- it never rises with speed
pub record LawfulFalling (f : Falling) : Type 0 where
  pub reads : (v : ℕ) → v ≤ 1600 → Reads (f.exact v) (f.below v) (f.above v) f.slack
  pub falls : (v w : ℕ) → v ≤ w → w ≤ 1600 → AtMost (f.exact w) (f.exact v)

-- drag at each speed and gross mass
pub record Drag : Type 0 where
  pub exact : ℕ → ℕ → Ratio
  pub below : ℕ → ℕ → ℕ
  pub above : ℕ → ℕ → ℕ
  pub slack : ℕ

abbrev pub drag : (ℕ → ℕ → Ratio) → (ℕ → ℕ → ℕ) → (ℕ → ℕ → ℕ) → ℕ → Drag
drag e b a s = record { exact = e; below = b; above = a; slack = s }

-- likewise by an exact value alone
abbrev pub rounded_drag : (ℕ → ℕ → Ratio) → Drag
rounded_drag e = drag e (λ v q. rounded_down (e v q)) (λ v q. rounded_up (e v q)) 1

-- it never falls as the speed grows
pub record LawfulDrag (d : Drag) : Type 0 where
  pub reads : (v q : ℕ) → v ≤ 1600 → 50 ≤ q → q ≤ 2000 → Reads (d.exact v q) (d.below v q) (d.above v q) d.slack
  pub rises : (v w q : ℕ) → v ≤ w → w ≤ 1600 → 50 ≤ q → q ≤ 2000 → AtMost (d.exact v q) (d.exact w q)

-- the laws of a train: brake friction, the pull of one locomotive, its drag when pulling and when coasting, the wagons' drag
pub record Stock : Type 0 where
  pub friction : Falling
  pub pull : Falling
  pub pulling : Drag
  pub coasting : Drag
  pub wagon : Drag

abbrev pub stock : Falling → Falling → Drag → Drag → Drag → Stock
stock f l p c w = record { friction = f; pull = l; pulling = p; coasting = c; wagon = w }

pub record LawfulStock (s : Stock) : Type 0 where
  pub friction : LawfulFalling s.friction
  pub pull : LawfulFalling s.pull
  pub pulling : LawfulDrag s.pulling
  pub coasting : LawfulDrag s.coasting
  pub wagon : LawfulDrag s.wagon
