use Rattle.rules.proofs.Exacts.{exact_sums_are_finer}
use Rattle.rules.proofs.theorems.exact_sums_are_finer.Goals as goal

pub returns : goal.returns
returns c = exact_sums_are_finer
