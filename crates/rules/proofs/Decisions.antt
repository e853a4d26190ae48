-- Numbered questions decide once.
use Rattle.std.proofs.Common.{◌≡◌, ℕ, inl, inr, Bool, true, false, cond, List, [], ◌∷◌, Some, None, Option, Result, Ok, Err, sym, refl, ap, ◌∙◌, true≢false}
use Rattle.std.proofs.lemmas.List.Elements.{All-nil, All-cons}
use Rattle.rules.specs.declared.refusal.Refusal.{Refusal}
use Rattle.rules.specs.Refusals.{Question, first_no, DecidedOnce, QuestionsDecideOnce, Reply, decide, reply_of, stops, runs, hauls, refused, told}

pub decided_once : QuestionsDecideOnce
decided_once [] = (All-nil (λ q. q.holds ≡ true), λ n i. i)
decided_once (q ∷ qs) = by_first q.holds q qs refl (first_no qs) (decided_once qs)
  where
    by_first : (b : Bool) (q : Question) (qs : List Question) → q.holds ≡ b → (o : Option ℕ) → DecidedOnce qs o → DecidedOnce (q ∷ qs) (cond b o (Some q.number))
    by_first true q qs e None d =
        (All-cons (λ q. q.holds ≡ true) q qs e d.0, λ n r. elim r [ inl here ↦ true≢false (sym e ∙ here.0) | inr later ↦ d.1 n later.1 ])
    by_first true q qs e (Some m) d =
        (inr (e, d.0), λ n r. elim r [ inl here ↦ absurd (true≢false (sym e ∙ here.0)) | inr later ↦ d.1 n later.1 ])
    by_first false q qs e o d =
        (inl (e, refl), λ n r. elim r [ inl here ↦ sym here.1 | inr later ↦ absurd (true≢false (sym later.0 ∙ e)) ])

-- ---- a result, by its reply

-- the number in a reply, where it is a refusal
abbrev pub number_in : Reply → Option ℕ
number_in (refused e) = Some e
number_in _ = None

number_decided : (o : Option ℕ) (due : Reply) → number_in due ≡ None → number_in (decide o due) ≡ o
number_decided None due h = h
number_decided (Some n) due h = refl

module _ {X : Type 0} (answer : X → Reply) (answers : (x : X) → number_in (answer x) ≡ None) (o : Option ℕ) (due : Reply) (is_due : number_in due ≡ None) where
  number_told : (r : Result X Refusal) → number_in (reply_of answer r) ≡ told r
  number_told (Ok x) = answers x
  number_told (Err e) = refl

  -- the number told is the one that decides
  pub told_decides : (r : Result X Refusal) → reply_of answer r ≡ decide o due → told r ≡ o
  told_decides r e = sym (number_told r) ∙ ap number_in e ∙ number_decided o due is_due

  -- an answer is the one that is due where no question refuses
  pub answer_due : (x : X) → answer x ≡ decide o due → (o ≡ None) × (answer x ≡ due)
  answer_due x e = let none : o ≡ None = sym (told_decides (Ok x) e) in (none, e ∙ ap (λ (t : Option ℕ). decide t due) none)

-- ---- the figures in a reply

abbrev distance_in : Reply → ℕ
distance_in (stops d m n) = d
distance_in _ = 0

abbrev least_in : Reply → ℕ
least_in (stops d m n) = m
least_in _ = 0

abbrev steps_in : Reply → ℕ
steps_in (stops d m n) = n
steps_in _ = 0

abbrev figure_in : Reply → ℕ
figure_in (runs v) = v
figure_in (hauls x) = x
figure_in _ = 0

pub same_stop : (t : ℕ × ℕ × ℕ) (d m n : ℕ) → stops t.0 t.1 t.2 ≡ stops d m n → (t.0 ≡ d) × (t.1 ≡ m) × (t.2 ≡ n)
same_stop t d m n e = (ap distance_in e, ap least_in e, ap steps_in e)

pub same_speed : (v w : ℕ) → runs v ≡ runs w → v ≡ w
same_speed v w e = ap figure_in e

pub same_mass : (x y : ℕ) → hauls x ≡ hauls y → x ≡ y
same_mass x y e = ap figure_in e
