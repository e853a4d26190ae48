use Rattle.rules.specs.Kind.{kind}
use Rattle.rules.proofs.Histories.{stop_performed}
use Rattle.history.specs.Replies.{reply_told}
use Rattle.history.proofs.asked.Asked.stop.Goals as goal

pub returns-clause-performed : goal.returns-clause-performed
returns-clause-performed g c =
    stop_performed (kind g.K.BrakeKind.T g.K.BrakeKind.C) (g.S.StockLaws.meaning c.args.self.now.stock.now) c.args.sheet.now
    g.met.K.BrakeKind.lawful (g.met.S.StockLaws.lawful c.args.self.now.stock.now) c.args.question c.stop.result (reply_told c.from.result)
    c.stop.ensures.safe c.stop.ensures.close c.from.ensures c.stop.ensures.figures
