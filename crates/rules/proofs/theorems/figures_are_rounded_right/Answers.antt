use Rattle.rules.proofs.Rounded.{rounded_right}
use Rattle.rules.proofs.theorems.figures_are_rounded_right.Goals as goal

pub returns : goal.returns
returns c = rounded_right
