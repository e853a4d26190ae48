-- The sums over a train, vehicle by vehicle.
use Rattle.std.specs.Prelude.{◌≡◌, ◌+◌, cond}
use Rattle.rules.specs.Book.{Vehicle, is_locomotive}
use Rattle.train.specs.declared.totals.Totals.{Totals}

-- the sums over no vehicle
pub record Empty (t : Totals) : Type 0 where
  pub locomotives : t.locomotives ≡ 0
  pub wagons : t.wagons ≡ 0
  pub hauling : t.hauling ≡ 0
  pub trailing : t.trailing ≡ 0
  pub pressure : t.pressure ≡ 0

-- the sums with one vehicle more
pub record Adds (v : Vehicle) (old new : Totals) : Type 0 where
  pub locomotives : new.locomotives ≡ old.locomotives + cond (is_locomotive v) 1 0
  pub wagons : new.wagons ≡ old.wagons + cond (is_locomotive v) 0 1
  pub hauling : new.hauling ≡ old.hauling + cond (is_locomotive v) v.figures.mass 0
  pub trailing : new.trailing ≡ old.trailing + cond (is_locomotive v) 0 v.figures.mass
  pub pressure : new.pressure ≡ old.pressure + cond v.braked v.figures.pressure 0
