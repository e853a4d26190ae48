use Rattle.rules.specs.Kind.{kind}
use Rattle.rules.proofs.Histories.{speed_performed}
use Rattle.history.specs.Replies.{reply_told}
use Rattle.history.proofs.asked.Asked.speed.Goals as goal

pub returns-clause-performed : goal.returns-clause-performed
returns-clause-performed g c =
    speed_performed (kind g.K.BrakeKind.T g.K.BrakeKind.C) (g.S.StockLaws.meaning c.args.self.now.stock.now) c.args.sheet.now
    g.met.K.BrakeKind.lawful (g.met.S.StockLaws.lawful c.args.self.now.stock.now) c.args.question c.speed.result (reply_told c.from.result) c.from.ensures
    c.speed.ensures.figure c.speed.ensures.greatest
