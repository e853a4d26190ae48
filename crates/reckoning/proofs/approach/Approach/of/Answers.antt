use Rattle.std.proofs.Common.{◌+◌, ◌≤◌, rules}
use Rattle.rules.specs.Book.{hauling_mass, trailing_mass, brake_pressure, mass_per_wagon, line_length}
use Rattle.rules.specs.Questions.{LawfulSections}
use Rattle.rules.proofs.Promised.{lawful_approach}
use Rattle.reckoning.proofs.approach.Approach.of.Goals as goal

pub returns-clause-lawful : goal.returns-clause-lawful
returns-clause-lawful c =
    let b = c.args.sheet.now in
    let few : c.args.factor ≤ 10 = search rules in
    let heavy : 1 ≤ hauling_mass b.vehicles = search rules in
    let pressed : brake_pressure b.vehicles ≤ hauling_mass b.vehicles + trailing_mass b.vehicles = search rules in
    let light : 50 ≤ mass_per_wagon b.vehicles = search rules in
    let laden : mass_per_wagon b.vehicles ≤ 2000 = search rules in
    let some : 1 ≤ b.distance = search rules in
    let reached : c.args.place + b.distance ≤ line_length b.sections = search rules in
    let sections : LawfulSections b.sections = search rules in
    λ s. lawful_approach s b c.args.place c.args.factor few heavy pressed light laden some reached sections
