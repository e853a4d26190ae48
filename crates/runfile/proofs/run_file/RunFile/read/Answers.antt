use Rattle.std.proofs.Common.{refl, ap, Some, Err}
use Rattle.runfile.specs.Run.{request}
use Rattle.runfile.proofs.Runs.{one_run, no_fault, one_fault, makes_table}
use Rattle.runfile.proofs.run_file.RunFile.read.Goals as goal

pub invariant_of-self : goal.invariant_of-self
invariant_of-self c =
    makes_table c.args.text.now (request c.in-Ok.kind c.read_sections.new.points c.read_sections.new.questions) c.read_sections.new.sheet c.in-Ok.ensures

pub returns-in-Ok-clause-accepts : goal.returns-in-Ok-clause-accepts
returns-in-Ok-clause-accepts c q b is =
    let same =
    one_run c.args.text.now (request c.in-Ok.kind c.read_sections.new.points c.read_sections.new.questions) q c.read_sections.new.sheet b c.in-Ok.ensures
    is in
    (refl, ap Some same.0, same.1)

pub returns-in-Ok-clause-refuses : goal.returns-in-Ok-clause-refuses
returns-in-Ok-clause-refuses c f is =
    absurd (no_fault c.args.text.now (request c.in-Ok.kind c.read_sections.new.points c.read_sections.new.questions) c.read_sections.new.sheet f c.in-Ok.ensures is)

pub returns-in-Err-clause-accepts : goal.returns-in-Err-clause-accepts
returns-in-Err-clause-accepts c q b is = absurd (no_fault c.args.text.now q b c.in-Err.fault is c.in-Err.ensures)

pub returns-in-Err-clause-refuses : goal.returns-in-Err-clause-refuses
returns-in-Err-clause-refuses c f is = ap Err (one_fault c.args.text.now c.in-Err.fault f c.in-Err.ensures is)
