use Rattle.std.proofs.Common.{rules}
use Rattle.runfile.proofs.points.PointLineEntry.read.Goals as goal

pub returns-in_default : goal.returns-in_default
returns-in_default c = (search rules, λ x (form, e). c.in_default.ensures.1 (x.speed, x.value) (form.0, form.1, e))
