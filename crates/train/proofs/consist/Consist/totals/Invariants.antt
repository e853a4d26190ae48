use Rattle.std.proofs.Common.{◌≡◌, ◌+◌, drop}
use Rattle.rules.specs.Book.{locomotives, wagons, hauling_mass, trailing_mass, brake_pressure}
use Rattle.train.proofs.consist.Consist.totals.Given as goal

-- the sums so far and those over the vehicles left make the sums over the train
abbrev pub invariant-loop-vehicle : goal.invariant-loop-vehicle
invariant-loop-vehicle l = record {
  counted : l.totals.locomotives + l.totals.wagons ≡ l.vehicle-index;
  locomotives : l.totals.locomotives + locomotives (drop l.vehicle-index l.vehicle-items) ≡ locomotives l.vehicle-items;
  wagons : l.totals.wagons + wagons (drop l.vehicle-index l.vehicle-items) ≡ wagons l.vehicle-items;
  hauling : l.totals.hauling + hauling_mass (drop l.vehicle-index l.vehicle-items) ≡ hauling_mass l.vehicle-items;
  trailing : l.totals.trailing + trailing_mass (drop l.vehicle-index l.vehicle-items) ≡ trailing_mass l.vehicle-items;
  pressure : l.totals.pressure + brake_pressure (drop l.vehicle-index l.vehicle-items) ≡ brake_pressure l.vehicle-items;
}
