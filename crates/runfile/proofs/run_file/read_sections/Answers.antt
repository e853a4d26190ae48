use Rattle.std.proofs.Common.{◌≡◌, [], ◌∷◌, inr, Err, rules}
use Rattle.runfile.specs.Sorts.{head_sort, point_sort, vehicle_sort, section_sort, question_sort}
use Rattle.runfile.proofs.Reading.{first_wrong, third_wrong, fourth_wrong, fifth_wrong, left_over}
use Rattle.runfile.proofs.run_file.read_sections.Goals as goal

-- what is at fault stands behind sections that have nothing wrong
pub returns-in_err-head : goal.returns-in_err-head
returns-in_err-head c =
    let f = c.in_err-head.field-0.0 in
    let is : c.from_residual-in_err-head.result ≡ Err f = search rules in
    rw is (inr (search rules, first_wrong head_sort point_sort vehicle_sort section_sort question_sort f c.args.text.now (search rules)))

pub returns-in_err-text-2 : goal.returns-in_err-text-2
returns-in_err-text-2 c =
    let f = c.in_err-text-2.field-0.0 in
    let is : c.from_residual-in_err-text-2.result ≡ Err f = search rules in
    rw is (inr (
      search rules,
      third_wrong head_sort point_sort vehicle_sort section_sort question_sort f
          c.args.text.now c.in_ok-head.text.rest c.in_ok-head.text.line (c.in_ok-head.head ∷ []) (search rules) (search rules)
          c.in_ok-text.text.rest c.in_ok-text.text.line c.section.new.into (search rules) (search rules)
          (search rules),
    ))

pub returns-in_err-text-3 : goal.returns-in_err-text-3
returns-in_err-text-3 c =
    let f = c.in_err-text-3.field-0.0 in
    let is : c.from_residual-in_err-text-3.result ≡ Err f = search rules in
    rw is (inr (
      search rules,
      fourth_wrong head_sort point_sort vehicle_sort section_sort question_sort f
          c.args.text.now c.in_ok-head.text.rest c.in_ok-head.text.line (c.in_ok-head.head ∷ []) (search rules) (search rules)
          c.in_ok-text.text.rest c.in_ok-text.text.line c.section.new.into (search rules) (search rules)
          c.in_ok-text-2.text.rest c.in_ok-text-2.text.line c.section-2.new.into.vehicles (search rules) (search rules)
          (search rules),
    ))

pub returns-in_err-text-4 : goal.returns-in_err-text-4
returns-in_err-text-4 c =
    let f = c.in_err-text-4.field-0.0 in
    let is : c.from_residual-in_err-text-4.result ≡ Err f = search rules in
    rw is (inr (
      search rules,
      fifth_wrong head_sort point_sort vehicle_sort section_sort question_sort f
          c.args.text.now c.in_ok-head.text.rest c.in_ok-head.text.line (c.in_ok-head.head ∷ []) (search rules) (search rules)
          c.in_ok-text.text.rest c.in_ok-text.text.line c.section.new.into (search rules) (search rules)
          c.in_ok-text-2.text.rest c.in_ok-text-2.text.line c.section-2.new.into.vehicles (search rules) (search rules)
          c.in_ok-text-3.text.rest c.in_ok-text-3.text.line c.section-3.new.into.sections (search rules) (search rules)
          (search rules),
    ))

pub returns-in_err-end : goal.returns-in_err-end
returns-in_err-end c =
    let f = c.in_err-end.field-0.0 in
    let is : c.from_residual-in_err-end.result ≡ Err f = search rules in
    rw is (inr (
      search rules,
      left_over head_sort point_sort vehicle_sort section_sort question_sort f
          c.args.text.now c.in_ok-head.text.rest c.in_ok-head.text.line (c.in_ok-head.head ∷ []) (search rules) (search rules)
          c.in_ok-text.text.rest c.in_ok-text.text.line c.section.new.into (search rules) (search rules)
          c.in_ok-text-2.text.rest c.in_ok-text-2.text.line c.section-2.new.into.vehicles (search rules) (search rules)
          c.in_ok-text-3.text.rest c.in_ok-text-3.text.line c.section-3.new.into.sections (search rules) (search rules)
          c.in_ok-text-4.text.rest c.in_ok-text-4.text.line c.section-4.new.into (search rules) (search rules)
          (search rules),
    ))
