use Rattle.haulage.specs.Haulers.{holds_over}
use Rattle.haulage.proofs.Loads.{load_in}
use Rattle.haulage.proofs.hauler.Hauler.load.Goals as goal

pub returns : goal.returns
returns c = load_in (holds_over c.args.self.now c.args.sections.now) _ _ c.limit_over.ensures c.within_limit.ensures
