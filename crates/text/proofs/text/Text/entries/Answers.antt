use Rattle.std.proofs.Common.{◌≡◌, length, sym, ap, ◌∙◌, subst, Err, arith, rules}
use Rattle.std.proofs.lemmas.List.{length_push}
use Rattle.text.specs.Sorts.{Begins}
use Rattle.text.proofs.Sections.{begins_more}
use Rattle.text.proofs.text.Text.entries.Goals as goal

-- one entry more is held, and the text began with it too
pub loop-preserved : goal.loop-preserved
loop-preserved g c =
    let old = c.loop.invariant in let s = g.X.Entry.sort in let before = g.D.Store.held c.loop.into in
    let (x, next, pushed, line) = c.in_ok-entry.ensures.read in
    record {
      held = omega (arith, ap length pushed, length_push before x, old.held);
      begins =
          subst (λ xs. Begins s c.args.self.now.rest xs c.entry.new.self.rest) (sym pushed)
          (begins_more s c.args.self.now.rest before c.loop.self.rest x c.entry.new.self.rest old.begins next);
      line = omega (arith, line, old.line);
      others = c.entry.ensures.others ∙ old.others;
    }

-- those that are held stand before the line at fault
pub returns-in_err-entry-clause-read : goal.returns-in_err-entry-clause-read
returns-in_err-entry-clause-read g c =
    let old = c.loop.invariant in
    let f = c.in_err-entry.field-0.0 in
    let is : c.from_residual.result ≡ Err f = search rules in
    let (fault, line, same) = c.in_err-entry.ensures.read in
    let len = ap length same in
    rw is (
      record {
        done = g.D.Store.held c.loop.into;
        rest = c.loop.self.rest;
        begins = old.begins;
        counted = len;
        fewer = omega (arith, old.held);
        fault = fault;
      },
      sym same,
      omega (arith, line, len, old.held, old.line),
    )
