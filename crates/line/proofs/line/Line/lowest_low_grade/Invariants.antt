use Rattle.std.proofs.Common.{◌≡◌, ◌*◌, ◌≤◌}
use Rattle.rules.specs.Grade.{lowest_low_grade}
use Rattle.rules.specs.Window.{window}
use Rattle.line.proofs.Windows.{lowest_with, grades_left, InRange}
use Rattle.line.proofs.line.Line.lowest_low_grade.Given as goal

abbrev pub invariant-loop-section : goal.invariant-loop-section
invariant-loop-section l =
    record {
      start : l.start ≤ 20000 * l.section-index;
      lowest : lowest_with l.lowest (grades_left l.from l.to l.start l.section-index l.section-items) ≡ lowest_low_grade (window l.from l.to l.section-items);
      range : InRange l.lowest;
    }
