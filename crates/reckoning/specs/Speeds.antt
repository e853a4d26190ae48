-- The speeds at which a stop over an approach is answered.
use Rattle.std.specs.Prelude.{◌≡◌, ℕ, Bool, is_none, Result}
use Rattle.rules.specs.declared.refusal.Refusal.{Refusal}
use Rattle.rules.specs.Kind.{Kind}
use Rattle.rules.specs.Questions.{stopping}
use Rattle.rules.specs.Refusals.{runs, first_no, decide, speed_reply}
use Rattle.rules.specs.Speed.{last_before_failure}
use Rattle.rules.specs.Stop.{Approach}

-- no question refuses the stop from v
unfoldable pub is_answered : Kind → Approach → ℕ → Bool
is_answered k a v = is_none (first_no (stopping k a v))

-- the last speed before the first one from which the stop is refused
abbrev pub last_answered : Kind → Approach → ℕ
last_answered k a = last_before_failure (is_answered k a) 0 32

-- what is replied to a speed question over an approach
pub record PermitsOver (k : Kind) (a : Approach) (r : Result ℕ Refusal) : Type 0 where
  pub reply : speed_reply r ≡ decide (first_no (stopping k a 0)) (runs (last_answered k a))
