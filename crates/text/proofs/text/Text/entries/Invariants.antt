use Rattle.std.proofs.Common.{◌≡◌, ◌+◌, length}
use Rattle.text.specs.Sorts.{Begins}
use Rattle.text.proofs.text.Text.entries.Given as goal

-- the text began with the entries that are held, one for each line read
abbrev pub invariant-loop : goal.invariant-loop
invariant-loop g l = record {
  held : length (g.D.Store.held l.into) ≡ l.counter;
  begins : Begins g.X.Entry.sort l.initial.self.rest (g.D.Store.held l.into) l.self.rest;
  line : l.self.line ≡ l.initial.self.line + l.counter;
  others : g.D.Store.emptied l.into ≡ g.D.Store.emptied l.initial.into;
}
