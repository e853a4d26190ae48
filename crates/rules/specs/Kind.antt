-- Kinds of brake by their two constants, T and c: before the brakes hold, T + c d / B seconds pass, where d is how steep the
-- fall is and B the brake force.
use Rattle.std.specs.Prelude.{ℕ, ◌*◌, ◌≤◌}

pub record Kind : Type 0 where
  pub seconds : ℕ
  pub extra : ℕ

abbrev pub kind : ℕ → ℕ → Kind
kind t c = record { seconds = t; extra = c }

pub record LawfulKind (k : Kind) : Type 0 where
  pub some : 1 ≤ k.seconds
  pub few : k.seconds ≤ 60
  pub mild : k.extra ≤ 2 * k.seconds

abbrev pub freight : Kind
freight = kind 7 10

abbrev pub passenger : Kind
passenger = kind 4 5

abbrev pub electro_pneumatic : Kind
electro_pneumatic = kind 2 0

abbrev pub freight_by_hand : Kind
freight_by_hand = kind 30 0

abbrev pub passenger_by_hand : Kind
passenger_by_hand = kind 60 0
