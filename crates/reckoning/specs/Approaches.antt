-- An approach of the code, with the laws that it reads, as an approach of the rules.
use Rattle.std.specs.Prelude.{◌≡◌, ℕ, true, [], Some, None, Ok, Err, Result}
use Rattle.rules.specs.declared.refusal.Refusal.{Refusal}
use Rattle.rules.specs.Law.{Stock}
use Rattle.rules.specs.Book.{Book}
use Rattle.rules.specs.Questions.{approaching}
use Rattle.rules.specs.Refusals.{number_of, first_no}
use Rattle.rules.specs.Stop.{Approach as RuleApproach, approach_at}
use Rattle.reckoning.specs.declared.approach.Approach.{Approach}

abbrev pub approach_of : Approach → Stock → RuleApproach
approach_of a s =
    record {
      laws = s;
      factor = a.factor;
      hauling = a.hauling;
      trailing = a.trailing;
      pressure = a.pressure;
      per_wagon = a.gross;
      reach = a.reach;
      lowest = a.lowest;
    }

-- it is that of a place that may be approached, by a factor: no question refuses that, and it is as the book has it, for every stock
pub record IsApproach (b : Book) (place factor : ℕ) (a : Approach) : Type 0 where
  pub reached : first_no (approaching true b place factor []) ≡ None
  pub same : (s : Stock) → approach_of a s ≡ approach_at s b place factor

-- an approach asked for at a place of the book, or the first "no"
abbrev pub Approached : Book → ℕ → ℕ → Result Approach Refusal → Type 0
Approached b place factor (Ok a) = IsApproach b place factor a
Approached b place factor (Err e) = first_no (approaching true b place factor []) ≡ Some (number_of e)
