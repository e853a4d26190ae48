use Rattle.std.proofs.Common.{rules}
use Rattle.text.proofs.Numerals.{minus_reads}
use Rattle.text.proofs.Patterns.{after_first}
use Rattle.text.proofs.numbers.signed_number.Goals as goal

-- after a minus
pub returns : goal.returns
returns c = minus_reads c.args.field.now _ c.negative.result (after_first c.args.field.now 45 (search rules) (search rules)) c.negative.ensures
