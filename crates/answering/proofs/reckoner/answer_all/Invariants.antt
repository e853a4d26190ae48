use Rattle.answering.proofs.Turns.{Kept}
use Rattle.answering.proofs.reckoner.answer_all.Given as goal

abbrev pub invariant-loop-i : goal.invariant-loop-i
invariant-loop-i g l = Kept (g.S.StockLaws.meaning l.stock) l.sheet l.kind l.questions l.i l.output
