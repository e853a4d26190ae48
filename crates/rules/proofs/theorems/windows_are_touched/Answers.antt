use Rattle.rules.proofs.Windows.{windows_are_touched}
use Rattle.rules.proofs.theorems.windows_are_touched.Goals as goal

pub returns : goal.returns
returns c = windows_are_touched
