-- A train of the code that hauls.
use Rattle.std.specs.Prelude.{◌≡◌, ℕ, Bool, true, cond, ◌&&◌, List, [], ◌==◌, Some, None, Ok, Err, Result}
use Rattle.rules.specs.declared.figures.MassQuestion.{MassQuestion}
use Rattle.rules.specs.declared.figures.SectionFigures.{SectionFigures}
use Rattle.rules.specs.declared.refusal.Refusal.{Refusal}
use Rattle.rules.specs.Book.{Book, locomotives, hauling_mass}
use Rattle.rules.specs.Refusals.{number_of, first_no}
use Rattle.rules.specs.Law.{Stock}
use Rattle.rules.specs.Fraction.{natural_of}
use Rattle.rules.specs.Grade.{high_grade}
use Rattle.rules.specs.Mass.{balanced, moving, starting, on_every, hauling}
use Rattle.haulage.specs.declared.hauler.Hauler.{Hauler}
use Rattle.haulage.specs.Haulings.{cautious, readings_on, engines_of}
use Rattle.haulage.specs.declared.hauling.Hauling.{Hauling}

-- the balance of one of its ways of hauling on a section
abbrev pub balanced_by : Hauler → Hauling → SectionFigures → ℕ → Bool
balanced_by h m f x = balanced (engines_of h.train) m.coupler (readings_on m (natural_of (high_grade f))) x

-- a mass holds on a section
abbrev pub holds_by : Hauler → SectionFigures → ℕ → Bool
holds_by h f x = balanced_by h h.moving f x && cond (f.stop == 0) true (balanced_by h h.starting f x)

-- and on every one of some sections
abbrev pub holds_over : Hauler → List SectionFigures → ℕ → Bool
holds_over h fs x = on_every (λ f. holds_by h f x) fs

-- it has the locomotives of a book, and reads a stock cautiously
pub record IsHauler (s : Stock) (b : Book) (q : MassQuestion) (h : Hauler) : Type 0 where
  pub count : h.train.locomotives ≡ locomotives b.vehicles
  pub mass : h.train.hauling ≡ hauling_mass b.vehicles
  pub moves : h.moving ≡ cautious s q.gross (moving q.speed)
  pub starts : h.starting ≡ cautious s q.gross starting

-- a hauler that is asked for: refused by the first "no", else as the book has it
abbrev pub IsAskedFor : Stock → Book → MassQuestion → Result Hauler Refusal → Type 0
IsAskedFor s b q (Ok h) = (first_no (hauling b q []) ≡ None) × IsHauler s b q h
IsAskedFor s b q (Err e) = first_no (hauling b q []) ≡ Some (number_of e)
