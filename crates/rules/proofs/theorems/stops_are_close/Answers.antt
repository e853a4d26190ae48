use Rattle.rules.proofs.Surplus.{stops_are_close}
use Rattle.rules.proofs.theorems.stops_are_close.Goals as goal

pub returns : goal.returns
returns c = stops_are_close
