use Rattle.std.proofs.Common.{rules}
use Rattle.history.proofs.Exchanges.{turn}
use Rattle.history.proofs.histories.perform.Goals as goal

pub loop-exchange-preserved : goal.loop-exchange-preserved
loop-exchange-preserved g c = search (rules, turn)
