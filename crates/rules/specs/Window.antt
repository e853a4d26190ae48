-- The window: the sections that share a point with a stretch of the line.
use Rattle.std.specs.Prelude.{◌≡◌, ℕ, ◌+◌, ◌<◌, ◌≤◌, ◌↔◌, Bool, cond, ◌&&◌, List, [], ◌∷◌, length, map, take, Contains, nat_le, slice_index_or}
use Rattle.rules.specs.declared.figures.SectionFigures.{SectionFigures}
use Rattle.rules.specs.Book.{line_length}

-- a section and the place where it begins
pub record Located : Type 0 where
  pub start : ℕ
  pub section : SectionFigures

-- the sections of a line that begins at `start`, each behind the one before
abbrev pub located : ℕ → List SectionFigures → List Located
located start [] = []
located start (f ∷ fs) = record { start = start; section = f } ∷ located (start + f.metres) fs

-- it shares a point with the stretch from..to, every end counted
abbrev pub shares_point : ℕ → ℕ → Located → Bool
shares_point from to x = nat_le x.start to && nat_le from (x.start + x.section.metres)

abbrev pub those : {X : Type 0} → (X → Bool) → List X → List X
those p [] = []
those p (x ∷ xs) = cond (p x) (x ∷ those p xs) (those p xs)

-- the sections that do so, of a line that begins at `start`, and of one that begins at 0
abbrev pub window_from : ℕ → ℕ → ℕ → List SectionFigures → List SectionFigures
window_from start from to fs = map (λ x. x.section) (those (shares_point from to) (located start fs))

abbrev pub window : ℕ → ℕ → List SectionFigures → List SectionFigures
window from to fs = window_from 0 from to fs

-- section k of a line is f, and a place lies on it, its ends counted: it begins where those before it end
pub record LiesOn (fs : List SectionFigures) (k : ℕ) (f : SectionFigures) (place : ℕ) : Type 0 where
  pub there : k < length fs
  pub is : slice_index_or fs k f ≡ f
  pub from : line_length (take k fs) ≤ place
  pub to : place ≤ line_length (take k fs) + f.metres

-- a window has just those sections on which a place of the stretch lies
abbrev pub WindowsAreTouched : Type 0
WindowsAreTouched =
    (from to : ℕ) (fs : List SectionFigures) (f : SectionFigures) → from ≤ to
    → Contains (window from to fs) f ↔ ((k : ℕ) × (place : ℕ) × LiesOn fs k f place × (from ≤ place) × (place ≤ to))
