use Rattle.text.proofs.Outcomes.{one_outcome}
use Rattle.runfile.specs.Run.{run_plan}
use Rattle.runfile.proofs.Legible.{all_clear}
use Rattle.runfile.proofs.theorems.texts_have_one_outcome.Goals as goal

pub returns : goal.returns
returns c = one_outcome run_plan all_clear
