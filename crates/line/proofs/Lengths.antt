-- The book's length of a line as a sum of std's.
use Rattle.std.proofs.Common.{◌≡◌, ℕ, ◌+◌, List, [], ◌∷◌, arith}
use Rattle.std.specs.List.{fold, sum_by}
use Rattle.rules.specs.declared.figures.SectionFigures.{SectionFigures}
use Rattle.rules.specs.Book.{line_length}

fold-line_length : (fs : List SectionFigures) (n : ℕ) → fold (λ a f. a + f.metres) n fs ≡ n + line_length fs
fold-line_length [] n = omega arith
fold-line_length (f ∷ fs) n = omega (arith, fold-line_length fs (n + f.metres))

pub sum_by-line_length : (fs : List SectionFigures) → sum_by (λ f. f.metres) fs ≡ line_length fs
sum_by-line_length fs = omega (arith, fold-line_length fs 0)
