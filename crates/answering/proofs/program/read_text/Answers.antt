use Rattle.answering.proofs.Inputs.{taken}
use Rattle.answering.proofs.program.read_text.Goals as goal

pub returns : goal.returns
returns g c =
    taken g.R.Read.remaining c.args.input c.take.result.inner c.take.result.limit 65537 c.in_ok-text.text.items c.read_to_end.new.buf.items
    c.take.ensures.inner c.take.ensures.limit c.in_ok-text.ensures.items c.in_ok-read_to_end.ensures.bytes
