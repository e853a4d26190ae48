-- What is printed of an outcome, of an allowance, of what is read of a law, and of the constants of a drag.
use Rattle.std.specs.Prelude.{ℕ, List, [], ◌++◌, Some, None, Ok, Err, Option, Result, codes, decimal}
use Rattle.std.specs.Fmt.{◌++?◌}
use Rattle.rules.specs.declared.refusal.Refusal.{Refusal}
use Rattle.rules.specs.Printed.{◌then◌}
use Rattle.rules.specs.Reasons.{refusal_text}

abbrev pub outcome_text : {T : Type 0} → (T → Option (List ℕ)) → Result T Refusal → Option (List ℕ)
outcome_text answer (Ok x) = answer x
outcome_text answer (Err e) = Some (refusal_text e)

-- of a call that has no figures and passes
abbrev pub passed_text : List ℕ
passed_text = codes "passed"

-- behind the figures of a stop, where it is told
abbrev pub allowance_text : Option ℕ → List ℕ
allowance_text None = []
allowance_text (Some n) = codes ", at most " ++ (decimal n ++ codes " mm over the exact sum")

-- a place, and both whole values there
abbrev pub reading_text : Option (List ℕ) → ℕ → ℕ → Option (List ℕ)
reading_text place below above = Some (codes "at ") ++? (place ++? Some (codes ": " ++ (decimal below then decimal above)))

-- three constants, and what comes of them
abbrev pub tried_text : ℕ → ℕ → ℕ → Option (List ℕ) → Option (List ℕ)
tried_text a b c outcome = Some (codes "quadratic drag " ++ ((decimal a then (decimal b then decimal c)) ++ codes ": ")) ++? outcome
