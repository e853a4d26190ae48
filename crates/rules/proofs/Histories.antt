-- Calls and histories keep their promise.
use Rattle.std.proofs.Common.{◌≡◌, ℕ, inl, inr, List, [], ◌∷◌, ◌++◌, Some, None, Option, Result, Ok, Err, IfOk, sym, refl, ap, ◌∙◌, subst, arith}
use Rattle.rules.specs.declared.figures.MassQuestion.{MassQuestion}
use Rattle.rules.specs.declared.figures.SpeedQuestion.{SpeedQuestion}
use Rattle.rules.specs.declared.figures.StopQuestion.{StopQuestion}
use Rattle.rules.specs.declared.figures.Question.{Question as Asked}
use Rattle.rules.specs.declared.figures.Question.TheVariants.{Stop, Speed, Mass}
use Rattle.rules.specs.declared.refusal.Refusal.{Refusal}
use Rattle.rules.specs.Book.{Book}
use Rattle.rules.specs.History.{Event, ask, inquiry, questions, before_answer, done, granted, answer, reply, next, LawfulEvent, Answers, Granted, RefusedOrGranted, Performed, Run, replies, after}
use Rattle.rules.specs.Kind.{Kind, LawfulKind}
use Rattle.rules.specs.Law.{Stock, LawfulStock}
use Rattle.rules.specs.Mass.{asked_for_mass, IsGreatestMass}
use Rattle.rules.specs.Promises.{NoFinerIsLonger, SurplusIsBounded}
use Rattle.rules.specs.Questions.{figures, asked_to_stop}
use Rattle.rules.specs.Refusals.{DecidedOnce, Reply, passed, stops, runs, hauls, refused, number_of, edit_reply, stop_reply, speed_reply, mass_reply, first_no, decide, unless, told}
use Rattle.rules.specs.Speed.{asked_for_speed, IsGreatestSpeed}
use Rattle.rules.proofs.Decisions.{decided_once}

-- a call whose reply and book are decided by its numbered questions
module _ (b : Book) (e : Event) (r : Reply) (c : Book) (lawful : LawfulEvent e) (is : r ≡ reply b e) (held : c ≡ next b e) where
  by_first : (o : Option ℕ) → first_no (questions b e) ≡ o → DecidedOnce (questions b e) o
      → (first_no (questions b e) ≡ None → r ≡ granted b e → c ≡ done b e → Granted b e r c) → RefusedOrGranted b e r c
  by_first None none d g =
      let due : r ≡ granted b e = is ∙ ap (λ (t : Option ℕ). decide t (granted b e)) none in
      let changed : c ≡ done b e = held ∙ ap (λ (t : Option ℕ). unless t (done b e) b) none in
      inr (d.0, g none due changed)
  by_first (Some n) some d g =
      inl (n, is ∙ ap (λ (t : Option ℕ). decide t (granted b e)) some, d.0, held ∙ ap (λ (t : Option ℕ). unless t (done b e) b) some)

  pub performed : (first_no (questions b e) ≡ None → r ≡ granted b e → c ≡ done b e → Granted b e r c) → Performed b e r c
  performed g =
      record { told = is; held = held; lawful = lawful; promised = by_first (first_no (questions b e)) refl (decided_once (questions b e)) g }

reply_of_edit : {X : Type 0} (made : Result X Refusal) → edit_reply made ≡ decide (told made) passed
reply_of_edit (Ok x) = refl
reply_of_edit (Err n) = refl

-- an edit
pub edit_performed : {X : Type 0} (b : Book) (e : Event) (made : Result X Refusal) (r : Reply) (c : Book) → r ≡ edit_reply made
    → told made ≡ first_no (questions b e) → c ≡ unless (told made) (done b e) b → granted b e ≡ passed → LawfulEvent e
    → (r ≡ passed → c ≡ done b e → Granted b e r c) → Performed b e r c
edit_performed b e made r c is answered held due lawful g =
    let by_answer : edit_reply made ≡ decide (first_no (questions b e)) passed = reply_of_edit made ∙ ap (λ (t : Option ℕ). decide t passed) answered in
    performed b e r c lawful
    (is ∙ by_answer ∙ ap (decide (first_no (questions b e))) (sym due))
    (held ∙ ap (λ (t : Option ℕ). unless t (done b e) b) answered)
    (λ none passes changed. g (passes ∙ due) changed)

-- ---- questions

-- a refusal is no answer
never : (e : Refusal) (d m n : ℕ) → refused (number_of e) ≡ stops d m n → ⊥
never e d m n h = let z : ◌≡◌ {A = ℕ} 0 1 = cc in omega arith

never_runs : (e : Refusal) (v : ℕ) → refused (number_of e) ≡ runs v → ⊥
never_runs e v h = let z : ◌≡◌ {A = ℕ} 0 1 = cc in omega arith

never_hauls : (e : Refusal) (x : ℕ) → refused (number_of e) ≡ hauls x → ⊥
never_hauls e x h = let z : ◌≡◌ {A = ℕ} 0 1 = cc in omega arith

module _ (k : Kind) (s : Stock) (b : Book) (lawful_kind : LawfulKind k) (lawful_stock : LawfulStock s) where
  -- a question, answered as the book does
  asked : (q : Asked) (r : Reply) → r ≡ reply b (ask (inquiry k s q)) → (r ≡ answer k s b q → Answers k s b q r) → Performed b (ask (inquiry k s q)) r b
  asked q r is answers =
      performed b (ask (inquiry k s q)) r b (lawful_kind, lawful_stock) is (unchanged (first_no (before_answer k s b q))) (λ none due same. (answers due, refl))
    where
      unchanged : (o : Option ℕ) → b ≡ unless o b b
      unchanged None = refl
      unchanged (Some n) = refl

  pub stop_performed : (q : StopQuestion) (made : Result (ℕ × ℕ × ℕ) Refusal) (r : Reply) → IfOk made (λ t. NoFinerIsLonger k s b q (figures t))
      → IfOk made (λ t. SurplusIsBounded k s b q (figures t)) → r ≡ stop_reply made
      → stop_reply made ≡ asked_to_stop k s b q.place q.speed q.factor → Performed b (ask (inquiry k s (Stop q))) r b
  stop_performed q (Ok t) r safe close tells is = asked (Stop q) r (tells ∙ is) (λ due. (figures t, tells, safe, close))
  stop_performed q (Err e) r safe close tells is = asked (Stop q) r (tells ∙ is) (λ due. absurd (never e _ _ _ (sym tells ∙ due)))

  pub speed_performed : (q : SpeedQuestion) (made : Result ℕ Refusal) (r : Reply) → r ≡ speed_reply made
      → speed_reply made ≡ asked_for_speed k s b q → IfOk made (IsGreatestSpeed k s b q) → Performed b (ask (inquiry k s (Speed q))) r b
  speed_performed q (Ok v) r tells is greatest = asked (Speed q) r (tells ∙ is) (λ due. (v, tells, greatest))
  speed_performed q (Err e) r tells is greatest = asked (Speed q) r (tells ∙ is) (λ due. absurd (never_runs e _ (sym tells ∙ due)))

  pub mass_performed : (q : MassQuestion) (made : Result ℕ Refusal) (r : Reply) → r ≡ mass_reply made
      → mass_reply made ≡ asked_for_mass s b q → IfOk made (IsGreatestMass s b q) → Performed b (ask (inquiry k s (Mass q))) r b
  mass_performed q (Ok x) r tells is greatest = asked (Mass q) r (tells ∙ is) (λ due. (x, tells, greatest))
  mass_performed q (Err e) r tells is greatest = asked (Mass q) r (tells ∙ is) (λ due. absurd (never_hauls e _ (sym tells ∙ due)))

-- ---- one call more at the end of a history

pub replies_more : (b : Book) (es : List Event) (e : Event) → replies b (es ++ e ∷ []) ≡ replies b es ++ reply (after b es) e ∷ []
replies_more b [] e = refl
replies_more b (f ∷ es) e = ap (λ (t : List Reply). reply b f ∷ t) (replies_more (next b f) es e)

pub after_more : (b : Book) (es : List Event) (e : Event) → after b (es ++ e ∷ []) ≡ next (after b es) e
after_more b [] e = refl
after_more b (f ∷ es) e = after_more (next b f) es e

pub run_more : (b c d : Book) (es : List Event) (rs : List Reply) (e : Event) (r : Reply) → Run b es rs c → Performed c e r d → Run b (es ++ e ∷ []) (rs ++ r ∷ []) d
run_more b c d [] [] e r is p = (d, subst (λ (t : Book). Performed t e r d) is p, refl)
run_more b c d [] (q ∷ rs) e r h p = absurd h
run_more b c d (f ∷ es) [] e r h p = absurd h
run_more b c d (f ∷ es) (q ∷ rs) e r h p = (h.0, h.1, run_more h.0 c d es rs e r h.2 p)
