-- The answer to a speed question is the greatest speed.
use Rattle.std.proofs.Common.{◌≡◌, ℕ, zero, suc, ◌+◌, ◌-◌, ◌*◌, ◌/◌, ◌<◌, ◌≤◌, ◌⊎◌, inl, inr, Bool, true, false, ◌&&◌, leb, nat_le, Some, None, Option, is_none, length, Result, Ok, Err, IfOk, sym, refl, ap, ◌∙◌, subst, true≢false, arith}
use Rattle.rules.specs.declared.figures.SpeedQuestion.{SpeedQuestion}
use Rattle.rules.specs.declared.refusal.Refusal.{Refusal}
use Rattle.rules.specs.Book.{Book, locomotives}
use Rattle.rules.specs.Kind.{Kind}
use Rattle.rules.specs.Law.{Stock}
use Rattle.rules.specs.Questions.{place_in_range, reaches, stop_questions, stop_figures}
use Rattle.rules.specs.Refusals.{Reply, runs, first_no, decide, DecidedOnce, speed_reply, told}
use Rattle.rules.specs.Speed.{last_before_failure, stop_at, is_answered_at, permitted_speed, speed_questions, asked_for_speed, StopsWithin, IsRefused, IsGreatestSpeed}
use Rattle.rules.specs.Stop.{approach_at, steps_from, distance, least_force}
use Rattle.rules.proofs.Asked.{holds, answered}
use Rattle.rules.proofs.Decisions.{decided_once, told_decides, answer_due, same_speed}

-- ---- the last speed before the first failure

-- a step more, or none
module _ (ok : ℕ → Bool) (v n : ℕ) where
  pub goes_on : ok (v + 50) ≡ true → last_before_failure ok v (suc n) ≡ last_before_failure ok (v + 50) n
  unfolding last_before_failure
  goes_on e = rw e

  pub stays : ok (v + 50) ≡ false → last_before_failure ok v (suc n) ≡ v
  unfolding last_before_failure
  stays e = rw e

pub ends : (ok : ℕ → Bool) (v : ℕ) → last_before_failure ok v 0 ≡ v
unfolding last_before_failure
ends ok v = refl

-- v lies some steps above w, at most n: after w each step up to v is answered, and the next one is not unless there are n
pub record IsLast (ok : ℕ → Bool) (w n v : ℕ) : Type 0 where
  pub steps : ℕ
  pub place : v ≡ w + 50 * steps
  pub few : steps ≤ n
  pub passed : (i : ℕ) → 1 ≤ i → i ≤ steps → ok (w + 50 * i) ≡ true
  pub fails : steps < n → ok (v + 50) ≡ false

-- the first step leads on to those after it
module _ (ok : ℕ → Bool) (w : ℕ) where
  first : (i steps : ℕ) → ok (w + 50) ≡ true → ((j : ℕ) → 1 ≤ j → j ≤ steps → ok (w + 50 + 50 * j) ≡ true) → 1 ≤ i → i ≤ suc steps
      → ok (w + 50 * i) ≡ true
  first zero steps here more some few = absurd (omega arith)
  first (suc zero) steps here more some few = here
  first (suc (suc i)) steps here more some few =
      let same : w + 50 + 50 * suc i ≡ w + 50 * suc (suc i) = omega arith in
      subst (λ (x : ℕ). ok x ≡ true) same (more (suc i) (omega arith) (omega arith))

  none_more : (n : ℕ) → (n ≡ 0) ⊎ (ok (w + 50) ≡ false) → IsLast ok w n w
  none_more n e =
      record {
        steps = 0;
        place = omega arith;
        few = omega arith;
        passed = λ i some few. absurd (omega arith);
        fails = λ some. elim e [ inl none ↦ absurd (omega (arith, none)) | inr fails ↦ fails ];
      }

  one_more : (n : ℕ) (b : Bool) → ok (w + 50) ≡ b → IsLast ok (w + 50) n (last_before_failure ok (w + 50) n)
      → IsLast ok w (suc n) (last_before_failure ok w (suc n))
  one_more n true e l =
      rw (goes_on ok w n e) (record {
        steps = suc l.steps;
        place = omega (arith, l.place);
        few = omega (arith, l.few);
        passed = λ i. first i l.steps e l.passed;
        fails = λ few. l.fails (omega arith);
      })
  one_more n false e l = rw (stays ok w n e) (none_more (suc n) (inr e))

pub is_last : (ok : ℕ → Bool) (n w : ℕ) → IsLast ok w n (last_before_failure ok w n)
is_last ok zero w = rw (ends ok w) (none_more ok w 0 (inl refl))
is_last ok (suc n) w = one_more ok w n (ok (w + 50)) refl (is_last ok n (w + 50))

-- two tests that agree at each step have the same last speed
module _ (ok ko : ℕ → Bool) where
  same_step : (w n : ℕ) (b : Bool) → ok (w + 50) ≡ b → ok (w + 50) ≡ ko (w + 50)
      → last_before_failure ok (w + 50) n ≡ last_before_failure ko (w + 50) n → last_before_failure ok w (suc n) ≡ last_before_failure ko w (suc n)
  same_step w n true e next more = goes_on ok w n e ∙ more ∙ sym (goes_on ko w n (sym next ∙ e))
  same_step w n false e next more = stays ok w n e ∙ sym (stays ko w n (sym next ∙ e))

  pub same_last : (n w : ℕ) → ((i : ℕ) → 1 ≤ i → i ≤ n → ok (w + 50 * i) ≡ ko (w + 50 * i))
      → last_before_failure ok w n ≡ last_before_failure ko w n
  same_last zero w agree = ends ok w ∙ sym (ends ko w)
  same_last (suc n) w agree = same_step w n (ok (w + 50)) refl (agree 1 (omega arith) (omega arith)) (same_last n (w + 50) more)
    where
      more : (i : ℕ) → 1 ≤ i → i ≤ n → ok (w + 50 + 50 * i) ≡ ko (w + 50 + 50 * i)
      more i some few =
          let same : w + 50 * suc i ≡ w + 50 + 50 * i = omega arith in
          subst (λ (x : ℕ). ok x ≡ ko x) same (agree (suc i) (omega arith) (omega arith))

-- ---- a search from v on, up to a greatest speed m

module _ (ok : ℕ → Bool) (m v : ℕ) where
  pub search_goes_on : v + 50 ≤ m → ok (v + 50) ≡ true → last_before_failure ok v ((m - v) / 50) ≡ last_before_failure ok (v + 50) ((m - (v + 50)) / 50)
  search_goes_on room here = let more : (m - v) / 50 ≡ suc ((m - (v + 50)) / 50) = omega arith in rw more (goes_on ok v _ here)

  pub search_fails : v + 50 ≤ m → ok (v + 50) ≡ false → last_before_failure ok v ((m - v) / 50) ≡ v
  search_fails room here = let more : (m - v) / 50 ≡ suc ((m - (v + 50)) / 50) = omega arith in rw more (stays ok v _ here)

  pub search_ends : m < v + 50 → last_before_failure ok v ((m - v) / 50) ≡ v
  search_ends out = let none : (m - v) / 50 ≡ 0 = omega arith in rw none (ends ok v)

-- ---- the answer to the question

none_is : (o : Option ℕ) → is_none o ≡ true → o ≡ None
none_is None e = refl
none_is (Some n) e = absurd (true≢false (sym e))

refused_is : (o : Option ℕ) (due : Reply) → is_none o ≡ false → IsRefused (decide o due)
refused_is None due e = absurd (true≢false e)
refused_is (Some n) due e = (n, refl)

module _ (k : Kind) (s : Stock) (b : Book) (q : SpeedQuestion) where
  within : (v : ℕ) → first_no (stop_questions k s b q.place v q.factor) ≡ None → StopsWithin b.distance (stop_at k s b q v)
  within v none =
      let a = approach_at s b q.place q.factor in
      let seven = holds (nat_le v 1600 && place_in_range q.place q.factor) 7 _ none in
      let eight = holds (leb 1 (locomotives b.vehicles)) 8 _ seven.1 in
      let nine = holds (reaches b q.place) 9 _ eight.1 in
      (distance k a v, least_force a v, length (steps_from v), ap (λ (o : Option ℕ). decide o (stop_figures k a v)) none, (answered k a v nine.1).near)

  greatest : is_answered_at k s b q 0 ≡ true → IsGreatestSpeed k s b q (permitted_speed k s b q)
  unfolding permitted_speed
  greatest at_rest =
      let last = is_last (is_answered_at k s b q) 32 0 in
      record {
        multiple = (last.steps, omega (arith, last.place));
        most = omega (arith, last.place, last.few);
        lower = λ j under. within (50 * j) (none_is _ (upto j (omega (arith, last.place))));
        next = λ some. refused_is _ _ (last.fails (omega (arith, last.place)));
      }
    where
      upto : (j : ℕ) → j ≤ (is_last (is_answered_at k s b q) 32 0).steps → is_answered_at k s b q (50 * j) ≡ true
      upto zero few = at_rest
      upto (suc i) few =
          let same : 0 + 50 * suc i ≡ 50 * suc i = omega arith in
          subst (λ (x : ℕ). is_answered_at k s b q x ≡ true) same ((is_last (is_answered_at k s b q) 32 0).passed (suc i) (omega arith) few)

  pub speed_decides : (r : Result ℕ Refusal) → speed_reply r ≡ asked_for_speed k s b q → DecidedOnce (speed_questions k s b q) (told r)
  speed_decides r reply =
      subst (DecidedOnce (speed_questions k s b q)) (sym (told_decides runs (λ v. refl) (first_no (speed_questions k s b q)) (runs (permitted_speed k s b q)) refl r reply))
      (decided_once (speed_questions k s b q))

  pub speed_promised : (r : Result ℕ Refusal) → speed_reply r ≡ asked_for_speed k s b q → IfOk r (IsGreatestSpeed k s b q)
  speed_promised (Err e) reply = tt
  speed_promised (Ok v) reply =
      let due = answer_due runs (λ v. refl) (first_no (speed_questions k s b q)) (runs (permitted_speed k s b q)) refl v reply in
      rw (same_speed v (permitted_speed k s b q) due.1) (greatest (ap is_none due.0))
