use Rattle.std.proofs.Common.{◌≡◌, rules}
use Rattle.rules.specs.Mass.{asked_for_mass}
use Rattle.rules.specs.Refusals.{mass_reply}
use Rattle.rules.proofs.Masses.{decides, answered}
use Rattle.haulage.proofs.Loads.{figure}
use Rattle.haulage.proofs.questions.mass.Goals as goal

pub returns : goal.returns
returns g c =
    let s = g.S.StockLaws.meaning c.args.stock.now in
    let b = c.args.sheet.now in
    let q = c.args.question in
    let here = c.in_ok-hauler.ensures in
    let line : c.sections.result.now ≡ b.sections = search rules in
    let reply : mass_reply c.load.result ≡ asked_for_mass s b q = figure s b q c.in_ok-hauler.hauler here.0 here.1 c.sections.result.now c.load.result line c.load.ensures in
    record {
      figure = reply;
      decided = decides s b q c.load.result reply;
      greatest = answered s b q (g.met.S.StockLaws.lawful c.args.stock.now) (search rules) c.load.result reply;
    }
