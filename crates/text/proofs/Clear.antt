-- What makes a text readable in one way.
use Rattle.std.proofs.Common.{◌≡◌}
use Rattle.text.specs.Numerals.{Short, Lacks}
use Rattle.text.specs.Sorts.{Sort}
use Rattle.text.specs.Files.{Plan, nothing, first}

-- no line holds a line feed, a count that is allowed can be written, and no two entries have the same line
pub record Clear {X : Type 0} (s : Sort X) : Type 0 where
  pub named : Lacks 10 s.name
  pub short : Short s.most
  pub whole : (x : X) → s.Formed x → Lacks 10 (s.written x)
  pub same : (x y : X) → s.Formed x → s.Formed y → s.written x ≡ s.written y → x ≡ y

abbrev pub ClearAll : Plan → Type 0
ClearAll nothing = Unit {0}
ClearAll (first s more) = Clear s × ClearAll more
