use Rattle.rules.proofs.Safe.{stops_are_safe}
use Rattle.rules.proofs.theorems.stops_are_safe.Goals as goal

pub returns : goal.returns
returns c = stops_are_safe
