use Rattle.rules.proofs.Decisions.{decided_once}
use Rattle.rules.proofs.theorems.questions_decide_once.Goals as goal

pub returns : goal.returns
returns c = decided_once
