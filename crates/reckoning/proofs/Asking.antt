-- A stop that is asked for at a place that is approached, by its reckoning over the approach.
use Rattle.std.proofs.Common.{◌≡◌, ℕ, ◌≤◌, true, false, leb, List, [], None, Option, Result, IfOk, sym, ap, ◌∙◌, arith}
use Rattle.std.proofs.lemmas.Bool.{le-leb}
use Rattle.rules.specs.declared.figures.StopQuestion.{StopQuestion}
use Rattle.rules.specs.declared.refusal.Refusal.{Refusal}
use Rattle.rules.specs.Book.{Book, locomotives}
use Rattle.rules.specs.Kind.{Kind, LawfulKind}
use Rattle.rules.specs.Law.{Stock, LawfulStock}
use Rattle.rules.specs.Questions.{approaching, braking, within_reach, place_in_range, reaches, stopping, stop_questions, stop_figures, asked_to_stop, figures as figures_named}
use Rattle.rules.specs.Promises.{LawfulApproach, NoFinerIsLonger, SurplusIsBounded}
use Rattle.rules.specs.Refusals.{Question, Reply, refused, stops, number_of, first_no, decide, stop_reply, told, DecidedOnce}
use Rattle.rules.specs.Stop.{Approach as RuleApproach, approach_at, stop_window}
use Rattle.rules.proofs.Asked.{holds}
use Rattle.rules.proofs.Promised.{decides, promised}
use Rattle.reckoning.specs.declared.approach.Approach.{Approach}
use Rattle.reckoning.specs.Approaches.{approach_of, IsApproach}

-- questions that are answered "yes" leave the decision to those after them: of a place that is approached, at a speed in its range
pub approached : (b : Book) (place speed factor : ℕ) (more : List Question) → speed ≤ 1600 → first_no (approaching true b place factor []) ≡ None
    → first_no (approaching (leb speed 1600) b place factor more) ≡ first_no more
approached b place speed factor more slow none =
    let seven = holds (place_in_range place factor) 7 _ none in
    let eight = holds (leb 1 (locomotives b.vehicles)) 8 _ seven.1 in
    let nine = holds (reaches b place) 9 _ eight.1 in
    rw (le-leb speed 1600 slow, seven.0, eight.0, nine.0)

-- the reply to a stop over an approach
abbrev pub replied : Kind → RuleApproach → ℕ → Reply
replied k a v = decide (first_no (stopping k a v)) (stop_figures k a v)

-- what is promised of a stop that is replied over the approach of the code
module _ (k : Kind) (s : Stock) (b : Book) (q : StopQuestion) (a : Approach) (v : ℕ) (speed : v ≡ q.speed) (slow : q.speed ≤ 1600)
    (here : IsApproach b q.place q.factor a) (lk : LawfulKind k) (ls : LawfulStock s)
    (la : LawfulApproach (approach_at s b q.place q.factor) (stop_window b q.place)) where
  pub asked : (r : Reply) → r ≡ replied k (approach_of a s) v → r ≡ asked_to_stop k s b q.place q.speed q.factor
  asked r reply =
      let x = approach_at s b q.place q.factor in
      reply ∙ ap (λ (y : RuleApproach). replied k y v) (here.same s) ∙ ap (replied k x) speed
      ∙ ap (λ (o : Option ℕ). decide o (stop_figures k x q.speed)) (sym (approached b q.place q.speed q.factor (stopping k x q.speed) slow here.reached))

  pub record Kept (r : Result (ℕ × ℕ × ℕ) Refusal) : Type 0 where
    pub figures : stop_reply r ≡ asked_to_stop k s b q.place q.speed q.factor
    pub decided : DecidedOnce (stop_questions k s b q.place q.speed q.factor) (told r)
    pub safe : IfOk r (λ t. NoFinerIsLonger k s b q (figures_named t))
    pub close : IfOk r (λ t. SurplusIsBounded k s b q (figures_named t))

  pub kept : (r : Result (ℕ × ℕ × ℕ) Refusal) → stop_reply r ≡ replied k (approach_of a s) v → Kept r
  kept r reply =
      let figures = asked (stop_reply r) reply in
      let worth = promised k s b q lk ls la r figures in
      record { figures = figures; decided = decides k s b q r figures; safe = worth.0; close = worth.1 }

-- its reckoning is the reply where that refuses or its distance lies within reach; else it stops too far
module _ (k : Kind) (a : RuleApproach) (v : ℕ) where
  abbrev reckoned : Reply → Type 0
  reckoned r = r ≡ decide (first_no (braking a v [])) (stop_figures k a v)

  pub weak : (e : Refusal) → reckoned (refused (number_of e)) → refused (number_of e) ≡ replied k a v
  weak e reply = grind arith

  pub far : (d m n : ℕ) → reckoned (stops d m n) → within_reach a d ≡ false → refused 12 ≡ replied k a v
  far d m n reply out = grind arith

  pub near : (d m n : ℕ) → reckoned (stops d m n) → within_reach a d ≡ true → stops d m n ≡ replied k a v
  near d m n reply in_reach = grind arith
