use Rattle.history.proofs.Exchanges.{Kept}
use Rattle.history.proofs.histories.perform.Given as goal

abbrev pub invariant-loop-exchange : goal.invariant-loop-exchange
invariant-loop-exchange g l = Kept g.Q.Inquiry.inquiry l.initial.sheet l.initial.calls l.exchange-index l.calls l.sheet
