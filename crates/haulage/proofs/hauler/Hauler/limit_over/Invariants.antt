use Rattle.std.proofs.Common.{drop}
use Rattle.haulage.specs.Haulers.{holds_by}
use Rattle.haulage.proofs.Limits.{Kept}
use Rattle.haulage.proofs.hauler.Hauler.limit_over.Given as goal

abbrev pub invariant-loop-section : goal.invariant-loop-section
invariant-loop-section l = Kept (holds_by l.self) l.sections (drop l.section-index l.sections) l.least
