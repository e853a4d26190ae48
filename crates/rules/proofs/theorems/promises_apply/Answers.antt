use Rattle.rules.proofs.Examples.{promises_apply}
use Rattle.rules.proofs.theorems.promises_apply.Goals as goal

pub returns : goal.returns
returns c = promises_apply
