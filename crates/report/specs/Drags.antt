-- Quadratic drags at the limits of their constants.
use Rattle.std.specs.Prelude.{ℕ, List, [], ◌∷◌, Some, None, Option}
use Rattle.rules.specs.Refusals.{told}
use Rattle.report.specs.declared.drags.TriedDrag.{TriedDrag}

-- the constants of a drag, and the number that refuses them
pub record Tried : Type 0 where
  pub a : ℕ
  pub b : ℕ
  pub c : ℕ
  pub refused : Option ℕ

abbrev pub tried : TriedDrag → Tried
tried d = record { a = d.a; b = d.b; c = d.c; refused = told d.outcome.0 }

-- the greatest constants together, and one more than the greatest of each alone
abbrev pub tried_at_limits : List Tried
tried_at_limits =
    record { a = 100000000; b = 1000000; c = 10000; refused = None }
    ∷ record { a = 100000001; b = 0; c = 0; refused = Some 14 }
    ∷ record { a = 0; b = 1000001; c = 0; refused = Some 14 }
    ∷ record { a = 0; b = 0; c = 10001; refused = Some 14 }
    ∷ []
