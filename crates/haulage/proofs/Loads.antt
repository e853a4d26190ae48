-- The load that is answered is what the rules answer.
use Rattle.std.proofs.Common.{◌≡◌, ℕ, ◌*◌, ◌/◌, ◌<◌, ◌≤◌, min, Bool, leb, List, [], ◌∷◌, length, None, Option, Ok, Err, Result, sym, refl, ap, ◌∙◌, arith}
use Rattle.std.proofs.Math.Path.{fun_ext}
use Rattle.std.proofs.lemmas.Bool.{le-leb, lt-leb}
use native.Mathlib.Decide.{dec_lt}
use Rattle.rules.specs.declared.figures.MassQuestion.{MassQuestion}
use Rattle.rules.specs.declared.figures.SectionFigures.{SectionFigures}
use Rattle.rules.specs.declared.refusal.Refusal.{Refusal}
use Rattle.rules.specs.Law.{Stock}
use Rattle.rules.specs.Book.{Book, locomotives}
use Rattle.rules.specs.Refusals.{◌otherwise◌, Question, Reply, hauls, refused, first_no, decide, mass_reply, MadeOr}
use Rattle.rules.specs.Mass.{holds_cautiously, hauling, mass_question_in_range, asked_for_mass, greatest_mass}
use Rattle.rules.proofs.Asked.{holds as answers}
use Rattle.haulage.specs.declared.hauler.Hauler.{Hauler}
use Rattle.haulage.specs.Haulers.{IsHauler, holds_over}
use Rattle.haulage.specs.Limits.{IsLimit, IsLoad}
use Rattle.haulage.proofs.Limits.{multiples}

-- what is made of a limit is the greatest multiple of 500 within it, refused where that is 0
within : (n : ℕ) (r : Result ℕ Refusal) → n ≤ 100000 → MadeOr 13 (500 ≤ n) (λ x. x ≡ 500 * (min n 100000 / 500)) r
    → mass_reply r ≡ decide (first_no ((leb 500 n otherwise 13) ∷ [])) (hauls (500 * (n / 500)))
within n (Ok x) most (some, is) =
    let capped : min n 100000 ≡ n = omega arith in
    rw (le-leb 500 n some) (ap hauls (is ∙ ap (λ (t : ℕ). 500 * (t / 500)) capped))
within n (Err e) most (is, none) =
    let few : n < 500 = elim (dec_lt n 500) [ yes h ↦ h | no h ↦ absurd (none (omega (arith, h))) ] in
    rw (lt-leb 500 n few) (ap refused is)

-- the load within the limit of what holds
pub load_in : (ok : ℕ → Bool) (n : ℕ) (r : Result ℕ Refusal) → IsLimit ok n → MadeOr 13 (500 ≤ n) (λ x. x ≡ 500 * (min n 100000 / 500)) r → IsLoad ok r
load_in ok n r limit load =
    within n r limit.most load ∙ ap (λ (t : Bool). decide (first_no ((t otherwise 13) ∷ [])) (hauls (500 * (n / 500)))) (sym (limit.up_to 500 (omega arith) (omega arith)))
    ∙ ap (λ (x : ℕ). decide (first_no ((ok 500 otherwise 13) ∷ [])) (hauls x)) (sym (multiples ok n limit))

-- the first three questions leave the decision to those after them
asked : (b : Book) (q : MassQuestion) (more : List Question) → first_no (hauling b q []) ≡ None → first_no (hauling b q more) ≡ first_no more
asked b q more none =
    let seven = answers (mass_question_in_range q) 7 _ none in
    let eight = answers (leb 1 (locomotives b.vehicles)) 8 _ seven.1 in
    let nine = answers (leb 1 (length b.sections)) 9 _ eight.1 in
    rw (seven.0, eight.0, nine.0) refl

module _ (s : Stock) (b : Book) (q : MassQuestion) (h : Hauler) (none : first_no (hauling b q []) ≡ None) (is : IsHauler s b q h) where
  -- the hauler holds what the rules hold cautiously
  holds_too : (x : ℕ) → holds_over h b.sections x ≡ holds_cautiously s b q x
  unfolding holds_cautiously
  holds_too x = rw (is.count, is.mass, is.moves, is.starts) refl

  pub figure : (fs : List SectionFigures) (r : Result ℕ Refusal) → fs ≡ b.sections → IsLoad (holds_over h fs) r → mass_reply r ≡ asked_for_mass s b q
  figure fs r line load =
      let reply : (ℕ → Bool) → Reply = λ ok. decide (first_no ((ok 500 otherwise 13) ∷ [])) (hauls (greatest_mass ok)) in
      load
      ∙ ap (λ (t : List SectionFigures). reply (holds_over h t)) line
      ∙ ap reply (fun_ext holds_too)
      ∙ ap (λ (o : Option ℕ). decide o (hauls (greatest_mass (holds_cautiously s b q)))) (sym (asked b q ((holds_cautiously s b q 500 otherwise 13) ∷ []) none))
