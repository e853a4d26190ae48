use Rattle.std.proofs.Common.{◌≡◌, ◌+◌, ◌∙◌, ap, arith}
use Rattle.line.proofs.Windows.{turn_takes, turn_passes, lower_in_range}
use Rattle.line.proofs.line.Line.lowest_low_grade.Goals as goal
use Rattle.line.proofs.line.Line.lowest_low_grade.Goals.{then-meets, else-meets}

pub loop-section-preserved : goal.loop-section-preserved
loop-section-preserved c =
    let l = c.loop-section in
    let end : l.start + c.metres.result ≡ l.start + c.section-item.result.metres = ap (λ t. l.start + t) c.metres.ensures.value in
    elim c.if-meets.branch [
      | then-meets w ↦ record {
        start = omega (arith, w.start-is, c.metres.ensures.most);
        lowest = rw (w.lowest-is, w.start-is) (turn_takes c.args.from c.args.to l.start _ l.section-index c.deref-section-items.result.now c.section-item.result c.loop-section-test.true c.section-item.is
            end l.lowest c.meets.result c.meets.ensures _ _ w.if-meets.true w.low_grade.ensures.value w.lower_of.ensures ∙ l.invariant.lowest);
        range = rw w.lowest-is (lower_in_range _ _ _ l.invariant.range (w.low_grade.ensures.least, w.low_grade.ensures.most) w.lower_of.ensures);
      }
      | else-meets w ↦ record {
        start = omega (arith, w.start-is, c.metres.ensures.most);
        lowest = rw (w.lowest-is, w.start-is) (turn_passes c.args.from c.args.to l.start _ l.section-index c.deref-section-items.result.now c.section-item.result c.loop-section-test.true c.section-item.is
            end l.lowest c.meets.result c.meets.ensures w.if-meets.false ∙ l.invariant.lowest);
        range = rw w.lowest-is l.invariant.range;
      }
    ]
