use Rattle.std.proofs.Common.{◌≡◌, ◌≤◌, rules}
use Rattle.line.proofs.Grades.{curve_grade, low_by_curve, high_by_curve, curve_small}
use Rattle.line.proofs.section.Section.curve_grade.Goals as goal

pub returns : goal.returns
returns c =
    let same : c.unwrap.result ≡ curve_grade c.args.self.now = search rules in
    let proper : 1 ≤ (curve_grade c.args.self.now).den = search rules in
    record {
      low = rw same (low_by_curve c.args.self.now proper);
      high = rw same (high_by_curve c.args.self.now proper);
      small = rw same (curve_small c.args.self.now (λ e. search rules));
    }
