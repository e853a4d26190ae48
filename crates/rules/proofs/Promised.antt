-- The answer to a stop question keeps its promises.
use Rattle.std.proofs.Common.{◌≡◌, ℕ, ◌+◌, ◌≤◌, ◌&&◌, leb, List, length, None, Result, Ok, Err, IfOk, IsTrue, sym, refl, subst, arith}
use Rattle.std.proofs.lemmas.Bool.{leb-true}
use Rattle.rules.specs.declared.figures.StopQuestion.{StopQuestion}
use Rattle.rules.specs.declared.refusal.Refusal.{Refusal}
use Rattle.rules.specs.Book.{Book, locomotives, hauling_mass, trailing_mass, brake_pressure, mass_per_wagon, line_length}
use Rattle.rules.specs.Kind.{Kind, LawfulKind}
use Rattle.rules.specs.Law.{Stock, LawfulStock}
use Rattle.rules.specs.Questions.{figures, lawful_section, LawfulSections, place_in_range, reaches, stop_questions, stop_figures, asked_to_stop}
use Rattle.rules.specs.Refusals.{Question, stops, first_no, DecidedOnce, stop_reply, told}
use Rattle.rules.specs.Stop.{Approach, approach_at, stop_window, steps_from, distance, least_force}
use Rattle.rules.specs.Promises.{LawfulApproach, LawfulStop, Answered, NoFinerIsLonger, SurplusIsBounded}
use Rattle.rules.proofs.Asked.{both, holds}
use Rattle.rules.proofs.Decisions.{decided_once, told_decides, answer_due, same_stop}
use Rattle.rules.proofs.Windows.{some_section, all_in_window}
use Rattle.rules.proofs.Safe.{stops_are_safe}
use Rattle.rules.proofs.Surplus.{stops_are_close}

-- an approach over a line that reaches
pub lawful_approach : (s : Stock) (b : Book) (place factor : ℕ) → factor ≤ 10 → 1 ≤ hauling_mass b.vehicles
    → brake_pressure b.vehicles ≤ hauling_mass b.vehicles + trailing_mass b.vehicles
    → 50 ≤ mass_per_wagon b.vehicles → mass_per_wagon b.vehicles ≤ 2000
    → 1 ≤ b.distance → place + b.distance ≤ line_length b.sections → LawfulSections b.sections
    → LawfulApproach (approach_at s b place factor) (stop_window b place)
lawful_approach s b place factor few heavy pressed light laden some reached lawful =
    record {
      factor = few;
      mass = omega (arith, heavy);
      pressed = pressed;
      least = light;
      most = laden;
      some = some_section place (place + b.distance) b.sections (omega arith) (omega arith);
      sections = all_in_window (λ f. IsTrue (lawful_section f)) place (place + b.distance) b.sections lawful;
      lowest = refl;
    }

module _ (k : Kind) (s : Stock) (b : Book) (q : StopQuestion) where
  abbrev a : Approach
  a = approach_at s b q.place q.factor

  abbrev questions : List Question
  questions = stop_questions k s b q.place q.speed q.factor

  pub decides : (r : Result (ℕ × ℕ × ℕ) Refusal) → stop_reply r ≡ asked_to_stop k s b q.place q.speed q.factor → DecidedOnce questions (told r)
  decides r reply =
      subst (DecidedOnce questions) (sym (told_decides (λ t. stops t.0 t.1 t.2) (λ t. refl) (first_no questions) (stop_figures k a q.speed) refl r reply)) (decided_once questions)

  module _ (lk : LawfulKind k) (ls : LawfulStock s) (la : LawfulApproach a (stop_window b q.place)) where
    none : first_no questions ≡ None → LawfulStop k a (stop_window b q.place) q.speed × Answered k a q.speed
    none e =
        let seven = holds (leb q.speed 1600 && place_in_range q.place q.factor) 7 _ e in
        let eight = holds (leb 1 (locomotives b.vehicles)) 8 _ seven.1 in
        let nine = holds (reaches b q.place) 9 _ eight.1 in
        let slow = leb-true q.speed 1600 (both (leb q.speed 1600) (place_in_range q.place q.factor) seven.0).0 in
        (record { kind = lk; laws = ls; approach = la; speed = slow }, nine.1)

    pub promised : (r : Result (ℕ × ℕ × ℕ) Refusal) → stop_reply r ≡ asked_to_stop k s b q.place q.speed q.factor
        → IfOk r (λ t. NoFinerIsLonger k s b q (figures t)) × IfOk r (λ t. SurplusIsBounded k s b q (figures t))
    promised (Err e) reply = (tt, tt)
    promised (Ok t) reply =
        let due = answer_due (λ t. stops t.0 t.1 t.2) (λ t. refl) (first_no questions) (stop_figures k a q.speed) refl t reply in
        let is = same_stop t (distance k a q.speed) (least_force a q.speed) (length (steps_from q.speed)) due.1 in
        let n = none due.0 in (
          rw is.0 (stops_are_safe k a (stop_window b q.place) q.speed n.0 n.1),
          rw (is.0, is.1, is.2) (stops_are_close k a (stop_window b q.place) q.speed n.0 n.1),
        )
