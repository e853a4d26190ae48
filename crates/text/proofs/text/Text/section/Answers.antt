use Rattle.std.proofs.Common.{◌≡◌, ◌+◌, length, Err, arith, rules}
use Rattle.text.proofs.Sections.{read_section, wrong_entry}
use Rattle.text.proofs.text.Text.section.Goals as goal

-- a heading and the entries that it tells are a section
pub returns-clause-read : goal.returns-clause-read
returns-clause-read g c =
    let head = c.in_ok-count.ensures in
    let (len, begins, line) = c.in_ok-entries.ensures.read in
    (read_section g.X.Entry.sort _ _ _ _ (g.D.Store.held c.entries.new.into) head.0 len begins, omega (arith, head.1, line, len))

-- an entry at fault is a fault of the section, behind the heading and the entries that are held
pub returns-in_err-entries-clause-read : goal.returns-in_err-entries-clause-read
returns-in_err-entries-clause-read g c =
    let f = c.in_err-entries.field-0.0 in
    let is : c.from_residual-in_err-entries.result ≡ Err f = search rules in
    let head = c.in_ok-count.ensures in
    let held = g.D.Store.held c.entries.new.into in
    let (fault, same, line) = c.in_err-entries.ensures.read in
    let (wrong, say) = wrong_entry g.X.Entry.sort c.args.self.rest _ _ held f.refusal head.0 fault same in
    rw is (length held + 1, wrong, say, omega (arith, head.1, line))
