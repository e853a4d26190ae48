use Rattle.rules.proofs.Steps.{steps_fall}
use Rattle.rules.proofs.theorems.steps_fall.Goals as goal

pub returns : goal.returns
returns c = steps_fall
