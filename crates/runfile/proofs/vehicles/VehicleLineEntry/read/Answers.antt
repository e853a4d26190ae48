use Rattle.std.proofs.Common.{◌++◌, ◌∷◌, get_or, decimal, rules}
use Rattle.text.specs.Fields.{flag}
use Rattle.text.proofs.Cuts.{leads_same}
use Rattle.text.proofs.Patterns.{after_two}
use Rattle.runfile.proofs.vehicles.VehicleLineEntry.read.Goals as goal

pub returns-in_default-leading_number : goal.returns-in_default-leading_number
returns-in_default-leading_number c = (
  search rules,
  λ v (form, e).
      let first = after_two c.args.text.now (get_or c.args.text.now 0 0) 32 (search rules) (search rules) (search rules) in
      c.in_default-leading_number.ensures.1 v.figures.mass (decimal v.figures.pressure ++ 32 ∷ flag v.braked) (form.1, cc),
)

pub returns-in_default-leading_number-2 : goal.returns-in_default-leading_number-2
returns-in_default-leading_number-2 c = (
  search rules,
  λ v (form, e).
      let first = after_two c.args.text.now (get_or c.args.text.now 0 0) 32 (search rules) (search rules) (search rules) in
      let k = leads_same _ _ v.figures.mass _ (decimal v.figures.pressure ++ 32 ∷ flag v.braked) c.in-Ok-leading_number.ensures (form.1, cc) in
      c.in_default-leading_number-2.ensures.1 v.figures.pressure (flag v.braked) (form.2, k.1),
)

pub returns-in_default-switch : goal.returns-in_default-switch
returns-in_default-switch c = (
  search rules,
  λ v (form, e).
      let first = after_two c.args.text.now (get_or c.args.text.now 0 0) 32 (search rules) (search rules) (search rules) in
      let k = leads_same _ _ v.figures.mass _ (decimal v.figures.pressure ++ 32 ∷ flag v.braked) c.in-Ok-leading_number.ensures (form.1, cc) in
      let l = leads_same _ _ v.figures.pressure _ (flag v.braked) c.in-Ok-leading_number-2.ensures (form.2, k.1) in
      c.in_default-switch.ensures v.braked l.1,
)

pub returns : goal.returns
returns c =
    let first = after_two c.args.text.now (get_or c.args.text.now 0 0) 32 (search rules) (search rules) (search rules) in
    let letter = c.in-Ok.ensures in
    let mass = c.in-Ok-leading_number.ensures in
    let pressure = c.in-Ok-leading_number-2.ensures in
    let brake = c.in-Ok-switch.ensures in
    let m = mass.1 in
    let p = pressure.1 in
    ((search rules, mass.0, pressure.0), cc)
