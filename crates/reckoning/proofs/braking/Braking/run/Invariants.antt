use Rattle.std.proofs.Common.{◌-◌}
use Rattle.rules.specs.Stop.{holding_force}
use Rattle.reckoning.specs.Brakings.{train_of, Climbs}
use Rattle.reckoning.proofs.braking.Braking.run.Given as goal

abbrev pub invariant-loop-v : goal.invariant-loop-v
invariant-loop-v g l = Climbs (holding_force (train_of g.S.StockLaws.meaning l.self)) l.v l.run

abbrev pub decreases-loop-v : goal.decreases-loop-v
decreases-loop-v g l = 27 - l.run.steps
