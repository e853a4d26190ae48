use Rattle.rules.specs.Kind.{kind}
use Rattle.rules.proofs.Histories.{mass_performed}
use Rattle.history.specs.Replies.{reply_told}
use Rattle.history.proofs.asked.Asked.mass.Goals as goal

pub returns-clause-performed : goal.returns-clause-performed
returns-clause-performed g c =
    mass_performed (kind g.K.BrakeKind.T g.K.BrakeKind.C) (g.S.StockLaws.meaning c.args.self.now.stock.now) c.args.sheet.now
    g.met.K.BrakeKind.lawful (g.met.S.StockLaws.lawful c.args.self.now.stock.now) c.args.question c.mass.result (reply_told c.from.result) c.from.ensures
    c.mass.ensures.figure c.mass.ensures.greatest
