-- Concrete stops to which the promises apply: each is answered, and each has a finer reckoning that is not the stop itself.
use Rattle.std.specs.Prelude.{ℕ, List, [], ◌∷◌, ℤ, pos, negsuc}
use Rattle.rules.specs.declared.figures.SectionFigures.{SectionFigures}
use Rattle.rules.specs.Given.{straight_section}
use Rattle.rules.specs.Law.{rounded_falling}
use Rattle.rules.specs.Book.{Book, book}
use Rattle.rules.specs.Formulas.{no_pull}
use Rattle.rules.specs.Kind.{freight}
use Rattle.rules.specs.Stop.{Approach, approach_at, stop_window, step}
use Rattle.rules.specs.Finer.{Part, Reckoning, Finer}
use Rattle.rules.specs.Promises.{LawfulStop, Answered}
use Rattle.rules.specs.Sample.{example_train, example_stock}

-- 600 m on a gradient
abbrev pub stretch : ℤ → SectionFigures
stretch = straight_section 600

-- the example train before a stretch of a gradient and a level one
abbrev pub train_before : ℤ → Book
train_before i = book example_train (stretch i ∷ stretch (pos 0) ∷ []) 1000

-- asked at its start for full braking, without a pull, and its window
abbrev pub example_approach : ℤ → Approach
example_approach i = approach_at (example_stock (rounded_falling (λ _. no_pull))) (train_before i) 0 10

abbrev pub example_window : ℤ → List SectionFigures
example_window i = stop_window (train_before i) 0

-- a part on a section from y down to z that reads friction at the speed f and the drags at c and g
abbrev pub part_from : SectionFigures → ℕ → ℕ → ℕ → ℕ → ℕ → Part
part_from s y z f c g = record { run = step y z; at = record { friction = f; coasting = c; wagon = g }; on = s }

-- from 25 km/h in five parts on one section and another, with the delay on the other
abbrev pub five_parts : SectionFigures → SectionFigures → Reckoning
five_parts one other =
    record {
      parts =
          part_from one 250 200 225 240 200
          ∷ part_from other 200 150 150 160 170
          ∷ part_from one 150 100 100 150 150
          ∷ part_from other 100 1 50 50 50
          ∷ part_from one 1 0 0 0 1
          ∷ [];
      delayed_on = other;
    }

-- the promises apply to the stop from 25 km/h on this gradient
pub record Applies (i : ℤ) : Type 0 where
  pub lawful : LawfulStop freight (example_approach i) (example_window i) 250
  pub answered : Answered freight (example_approach i) 250
  pub finer : Finer (example_window i) 250 (five_parts (stretch i) (stretch (pos 0)))

-- on a fall and on a climb of 10 per mille, each before the level
pub record PromisesApply : Type 0 where
  pub falling : Applies (negsuc 99)
  pub rising : Applies (pos 100)
