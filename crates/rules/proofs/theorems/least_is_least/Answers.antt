use Rattle.rules.proofs.Leasts.{least_is_least}
use Rattle.rules.proofs.theorems.least_is_least.Goals as goal

pub returns : goal.returns
returns c = least_is_least
