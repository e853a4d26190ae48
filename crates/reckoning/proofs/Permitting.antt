-- A speed that is asked for at a place that is approached, by stops over the approach.
use Rattle.std.proofs.Common.{◌≡◌, ℕ, ◌+◌, ◌-◌, ◌*◌, ◌/◌, ◌≤◌, true, cond, ◌==◌, ℤ, is_none, Result, IfOk, sym, refl, ap, ◌∙◌, subst, arith, rules}
use Rattle.rules.specs.declared.figures.SpeedQuestion.{SpeedQuestion}
use Rattle.rules.specs.declared.refusal.Refusal.{Refusal}
use Rattle.rules.specs.Book.{Book}
use Rattle.rules.specs.Kind.{Kind}
use Rattle.rules.specs.Law.{Stock}
use Rattle.rules.specs.Questions.{stopping, stop_questions}
use Rattle.rules.specs.Refusals.{Reply, runs, first_no, decide, speed_reply, told, DecidedOnce}
use Rattle.rules.specs.Speed.{last_before_failure, is_answered_at, permitted_speed, speed_questions, asked_for_speed, IsGreatestSpeed}
use Rattle.rules.specs.Stop.{Approach as RuleApproach, approach_at, edge, steps_from, holding_force, delay_run}
use Rattle.rules.proofs.Speeds.{same_last, search_goes_on, speed_decides, speed_promised}
use Rattle.reckoning.specs.declared.approach.Approach.{Approach}
use Rattle.reckoning.specs.Approaches.{approach_of, IsApproach}
use Rattle.reckoning.specs.declared.run.Run.{Run}
use Rattle.reckoning.specs.Brakings.{no_less, RunsThrough, IsBelow}
use Rattle.reckoning.specs.Speeds.{is_answered, last_answered, PermitsOver}
use Rattle.reckoning.proofs.Asking.{approached}
use Rattle.reckoning.proofs.Brakings.{starts, moves_on}

-- at rest nothing is run before the brakes hold
pub delay_at_rest : (k : Kind) (b : ℕ) (g : ℤ) → delay_run k 0 b g ≡ 0
unfolding delay_run
delay_at_rest k b g = search rules

-- a search for the last speed at which a stop is answered
module _ (k : Kind) (a : RuleApproach) where
  -- the stop from each speed up to the greatest is answered, and the run is from the next edge below the speed after that
  pub record Tried (greatest : ℕ) (under : Run) : Type 0 where
    pub answered : last_before_failure (is_answered k a) greatest ((1600 - greatest) / 50) ≡ last_answered k a
    pub multiple : 50 * (greatest / 50) ≡ greatest
    pub below : IsBelow (holding_force a) (greatest + 50) under

  pub begins : (none : Run) → none.distance ≡ 0 → none.least ≡ no_less → none.steps ≡ 0 → Tried 0 none
  begins none distance least steps = record { answered = refl; multiple = refl; below = starts (holding_force a) none distance least steps }

  pub goes_on : (greatest v : ℕ) (below run next : Run) → Tried greatest below → v ≡ greatest + 50 → v ≤ 1600 → is_answered k a v ≡ true
      → RunsThrough (holding_force a) (steps_from v) run → next ≡ cond (v == edge run.steps) run below → Tried v next
  goes_on greatest v below run next tried is room here through kept =
      let multiple : 50 * (v / 50) ≡ v = omega (arith, is, tried.multiple) in
      let more = search_goes_on (is_answered k a) 1600 greatest (omega (arith, is, room)) (subst (λ (x : ℕ). is_answered k a x ≡ true) is here) in
      record {
        answered = subst (λ (x : ℕ). last_before_failure (is_answered k a) x ((1600 - x) / 50) ≡ last_answered k a) (sym is) (sym more ∙ tried.answered);
        multiple = multiple;
        below = moves_on (holding_force a) v below run next multiple (subst (λ (x : ℕ). IsBelow (holding_force a) x below) (sym is) tried.below) through kept;
      }

-- what is promised of a speed that is replied over the approach of the code
module _ (k : Kind) (s : Stock) (b : Book) (q : SpeedQuestion) (a : Approach) (here : IsApproach b q.place q.factor a) where
  stop_over : (v : ℕ) → v ≤ 1600 → first_no (stop_questions k s b q.place v q.factor) ≡ first_no (stopping k (approach_of a s) v)
  stop_over v slow =
      let x = approach_at s b q.place q.factor in
      approached b q.place v q.factor (stopping k x v) slow here.reached ∙ ap (λ (y : RuleApproach). first_no (stopping k y v)) (sym (here.same s))

  same_test : (v : ℕ) → v ≤ 1600 → is_answered k (approach_of a s) v ≡ is_answered_at k s b q v
  unfolding is_answered
  same_test v slow = ap is_none (sym (stop_over v slow))

  same_speed : last_answered k (approach_of a s) ≡ permitted_speed k s b q
  unfolding permitted_speed
  same_speed = same_last (is_answered k (approach_of a s)) (is_answered_at k s b q) 32 0 (λ i some few. same_test (0 + 50 * i) (omega arith))

  speed_asked : (r : Reply) → r ≡ decide (first_no (stopping k (approach_of a s) 0)) (runs (last_answered k (approach_of a s))) → r ≡ asked_for_speed k s b q
  speed_asked r reply = reply ∙ rw (← stop_over 0 (omega arith), same_speed)

  pub figure_kept : (r : Result ℕ Refusal) → PermitsOver k (approach_of a s) r → speed_reply r ≡ asked_for_speed k s b q
  figure_kept r over = speed_asked (speed_reply r) over.reply

  pub decided_kept : (r : Result ℕ Refusal) → PermitsOver k (approach_of a s) r → DecidedOnce (speed_questions k s b q) (told r)
  decided_kept r over = speed_decides k s b q r (figure_kept r over)

  pub greatest_kept : (r : Result ℕ Refusal) → PermitsOver k (approach_of a s) r → IfOk r (IsGreatestSpeed k s b q)
  greatest_kept r over = speed_promised k s b q r (figure_kept r over)
