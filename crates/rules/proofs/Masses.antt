-- The mass that is answered keeps its promises: it holds by exact values, and no greater one holds by cautious ones.
use Rattle.std.proofs.Common.{◌≡◌, ℕ, zero, suc, ◌+◌, ◌*◌, ◌<◌, ◌≤◌, ◌⊎◌, inl, inr, Bool, true, false, cond, leb, eqb, List, [], ◌∷◌, length, IsTrue, true≢false, ℤ, pos, negsuc, neg_ℤ, int_lt, Result, Ok, Err, IfOk, sym, refl, ap, subst, ◌∙◌, arith}
use Rattle.std.proofs.lemmas.Bool.{leb-true, leb-false}
use Rattle.std.specs.Int.{int_max}
use native.Mathlib.Decide.{dec_le}
use borrow.Author.Differences.{up, down, neg_is, lt-false}
use Rattle.rules.specs.declared.figures.MassQuestion.{MassQuestion}
use Rattle.rules.specs.declared.figures.SectionFigures.{SectionFigures}
use Rattle.rules.specs.declared.refusal.Refusal.{Refusal}
use Rattle.rules.specs.Ratio.{ratio, AtMost}
use Rattle.rules.specs.Fraction.{Fraction, Proper, natural_of, floored, ceiling}
use Rattle.rules.specs.Law.{Stock, LawfulStock}
use Rattle.rules.specs.Grade.{grade, high_grade}
use Rattle.rules.specs.Book.{Book, locomotives, hauling_mass}
use Rattle.rules.specs.Questions.{lawful_section, LawfulSections}
use Rattle.rules.specs.Refusals.{Question, hauls, first_no, DecidedOnce, mass_reply, told}
use Rattle.rules.specs.Mass.{whole_ratio, ProperReadings, Engines, balanced, Hauling, moving, starting, holds_on, on_every, read_cautiously, read_exactly, holds_cautiously, holds_exactly, greatest, greatest_mass, hauled_mass, mass_question_in_range, mass_questions, asked_for_mass, IsGreatestMass}
use Rattle.rules.proofs.Asked.{both, holds as answers}
use Rattle.rules.proofs.Balances.{balances}
use Rattle.rules.proofs.Decisions.{decided_once, told_decides, answer_due, same_mass}
use Rattle.rules.proofs.Floors.{floor_is}
use Rattle.rules.proofs.Grades.{grade_proper}
use Rattle.rules.proofs.Members.{In, of_all, to_all}
use Rattle.rules.proofs.Windows.{both_true}

-- ---- the high grade lies over the exact one

ceiling_over : (x : Fraction) → Proper x → up x.num + down (ceiling x) * x.den ≤ down x.num + up (ceiling x) * x.den
ceiling_over x p =
    let q = floored (neg_ℤ x.num) x.den in
    omega (arith, (floor_is (neg_ℤ x.num) x.den p).0, neg_is x.num, ap (λ (t : ℕ). t * x.den) (neg_is q).0, ap (λ (t : ℕ). t * x.den) (neg_is q).1)

one_part : (z : ℤ) → (up z ≡ 0) ⊎ (down z ≡ 0)
one_part (pos n) = inr refl
one_part (negsuc n) = inl refl

natural_by : (b : Bool) (z : ℤ) → int_lt (pos 0) z ≡ b → natural_of (cond b z (pos 0)) ≡ up z
natural_by true z e = refl
natural_by false z e = elim (one_part z) [ inl none ↦ sym none | inr none ↦ omega (arith, lt-false (pos 0) z e) ]

natural_max : (z : ℤ) → natural_of (int_max z (pos 0)) ≡ up z
natural_max z = natural_by (int_lt (pos 0) z) z refl

over_parts : (xu xd cu cd d : ℕ) → (xu ≡ 0) ⊎ (xd ≡ 0) → xu + cd * d ≤ xd + cu * d → xu ≤ cu * d
over_parts xu xd cu cd d (inl none) h = omega arith
over_parts xu xd cu cd d (inr none) h = omega arith

high_over : (f : SectionFigures) → Proper (grade f) → AtMost (ratio (natural_of (grade f).num) (grade f).den) (whole_ratio (natural_of (high_grade f)))
high_over f p =
    let x = grade f in
    let over = over_parts (up x.num) (down x.num) (up (ceiling x)) (down (ceiling x)) x.den (one_part x.num) (ceiling_over x p) in
    rw (natural_max (ceiling x)) (omega (arith, over))

-- ---- the greatest number of which something is true

module _ (ok : ℕ → Bool) where
  most_by : (b : Bool) (n m : ℕ) → m ≤ n → cond b (suc n) m ≤ suc n
  most_by true n m h = omega arith
  most_by false n m h = omega arith

  pub greatest_most : (n : ℕ) → greatest ok n ≤ n
  greatest_most zero = omega arith
  greatest_most (suc n) = most_by (ok (suc n)) n (greatest ok n) (greatest_most n)

  true_by : (b : Bool) (n m : ℕ) → ok (suc n) ≡ b → (1 ≤ m → ok m ≡ true) → 1 ≤ cond b (suc n) m → ok (cond b (suc n) m) ≡ true
  true_by true n m e on h = e
  true_by false n m e on h = on h

  pub greatest_true : (n : ℕ) → 1 ≤ greatest ok n → ok (greatest ok n) ≡ true
  greatest_true zero h = absurd (omega arith)
  greatest_true (suc n) h = true_by (ok (suc n)) n (greatest ok n) refl (greatest_true n) h

  none_by : (b : Bool) (n m j : ℕ) → ok (suc n) ≡ b → (m < j → j ≤ n → ok j ≡ false) → cond b (suc n) m < j → j ≤ suc n → ok j ≡ false
  none_by true n m j e on h k = absurd (omega arith)
  none_by false n m j e on h k = elim (dec_le j n) [ yes p ↦ on h p | no p ↦ let last : j ≡ suc n = omega arith in rw last e ]

  pub none_over : (n j : ℕ) → greatest ok n < j → j ≤ n → ok j ≡ false
  none_over zero j h k = absurd (omega arith)
  none_over (suc n) j h k = none_by (ok (suc n)) n (greatest ok n) j refl (none_over n j) h k

  -- what is true up to k, and no further
  last_by : (b : Bool) (k n : ℕ) → b ≡ leb (suc n) k → (k ≤ n → greatest ok n ≡ k) → k ≤ suc n → cond b (suc n) (greatest ok n) ≡ k
  last_by true k n is before h = omega (arith, leb-true (suc n) k (sym is))
  last_by false k n is before h = before (omega (arith, leb-false (suc n) k (sym is)))

  pub greatest_is : (k n : ℕ) → k ≤ n → ((j : ℕ) → 1 ≤ j → j ≤ n → ok j ≡ leb j k) → greatest ok n ≡ k
  greatest_is k zero h is = omega arith
  greatest_is k (suc n) h is =
      last_by (ok (suc n)) k n (is (suc n) (omega arith) (omega arith)) (λ under. greatest_is k n under (λ j low high. is j low (omega arith))) h

-- ---- over the line

every : (ok better : SectionFigures → Bool) (fs : List SectionFigures) → ((f : SectionFigures) → In f fs → ok f ≡ true → better f ≡ true)
    → on_every ok fs ≡ true → on_every better fs ≡ true
every ok better [] on h = refl
every ok better (f ∷ fs) on h =
    let two = both (ok f) (on_every ok fs) h in
    both_true _ _ (on f (inl refl) two.0) (every ok better fs (λ g i. on g (inr i)) two.1)

-- from a stand only where a section is marked
where_marked : (b c d : Bool) → (c ≡ true → d ≡ true) → cond b true c ≡ true → cond b true d ≡ true
where_marked true c d on h = h
where_marked false c d on h = on h

module _ (s : Stock) (b : Book) (q : MassQuestion) (laws : LawfulStock s) (sections : LawfulSections b.sections)
    (slow : q.speed ≤ 1600) (light : 50 ≤ q.gross) (laden : q.gross ≤ 2000) where
  abbrev engines : Engines
  engines = record { count = locomotives b.vehicles; mass = hauling_mass b.vehicles }

  lawful : (f : SectionFigures) → In f b.sections → Proper (grade f)
  lawful f i = grade_proper f (of_all (λ f. IsTrue (lawful_section f)) b.sections sections f i)

  module _ (m : Hauling) (f : SectionFigures) (pull_slow : m.pull_at ≤ 1600) (drag_slow : m.drag_at ≤ 1600) (proper : Proper (grade f)) where
    pub exact_proper : ProperReadings (read_exactly s q.gross m f)
    exact_proper =
        record {
          pull = (laws.pull.reads m.pull_at pull_slow).proper;
          pulling = (laws.pulling.reads m.drag_at q.gross drag_slow light laden).proper;
          wagon = (laws.wagon.reads m.drag_at q.gross drag_slow light laden).proper;
          grade = omega arith;
        }

    cautious_proper : ProperReadings (read_cautiously s q.gross m f)
    cautious_proper = record { pull = omega arith; pulling = omega arith; wagon = omega arith; grade = omega arith }

    -- what balances cautiously balances exactly
    exactly : (coupler x : ℕ) → balanced engines coupler (read_cautiously s q.gross m f) x ≡ true → balanced engines coupler (read_exactly s q.gross m f) x ≡ true
    exactly coupler x =
        balances engines coupler (read_cautiously s q.gross m f) (read_exactly s q.gross m f) x cautious_proper exact_proper
        (omega (arith, (laws.pull.reads m.pull_at pull_slow).under))
        (omega (arith, (laws.pulling.reads m.drag_at q.gross drag_slow light laden).over))
        (omega (arith, (laws.wagon.reads m.drag_at q.gross drag_slow light laden).over))
        (omega (arith, high_over f proper))

  pub holds_exactly_too : (x : ℕ) → holds_cautiously s b q x ≡ true → holds_exactly s b q x ≡ true
  unfolding holds_cautiously
  holds_exactly_too x = every _ _ b.sections on
    where
      on : (f : SectionFigures) → In f b.sections → holds_on (read_cautiously s q.gross) engines q.speed x f ≡ true → holds_on (read_exactly s q.gross) engines q.speed x f ≡ true
      on f i h =
          let two = both (balanced engines (moving q.speed).coupler (read_cautiously s q.gross (moving q.speed) f) x) _ h in
          both_true _ _
          (exactly (moving q.speed) f slow slow (lawful f i) (moving q.speed).coupler x two.0)
          (where_marked (eqb f.stop 0) _ _ (exactly starting f (omega arith) (omega arith) (lawful f i) starting.coupler x) two.1)

  abbrev ok : ℕ → Bool
  ok j = holds_cautiously s b q (500 * j)

  pub is_greatest : holds_cautiously s b q 500 ≡ true → IsGreatestMass s b q (hauled_mass s b q)
  unfolding greatest_mass
  is_greatest first =
      let some : 1 ≤ greatest ok 200 = by_first (dec_le 1 (greatest ok 200)) in
      let holds = greatest_true ok 200 some in
      record {
        multiple = (greatest ok 200, refl);
        most = omega (arith, greatest_most ok 200);
        cautious = holds;
        none_greater = λ j over under. none_over ok 200 j (omega arith) (omega arith);
        proper_moving = to_all _ b.sections (λ f i. exact_proper (moving q.speed) f slow slow (lawful f i));
        proper_starting = to_all _ b.sections (λ f i. exact_proper starting f (omega arith) (omega arith) (lawful f i));
        exact = holds_exactly_too (hauled_mass s b q) holds;
      }
    where
      by_first : Dec (1 ≤ greatest ok 200) → 1 ≤ greatest ok 200
      by_first (yes p) = p
      by_first (no p) = absurd (true≢false (sym first ∙ none_over ok 200 1 (omega arith) (omega arith)))

-- ---- the answer

module _ (s : Stock) (b : Book) (q : MassQuestion) where
  abbrev questions : List Question
  questions = mass_questions s b q

  pub decides : (r : Result ℕ Refusal) → mass_reply r ≡ asked_for_mass s b q → DecidedOnce questions (told r)
  decides r reply =
      subst (DecidedOnce questions) (sym (told_decides hauls (λ x. refl) (first_no questions) (hauls (hauled_mass s b q)) refl r reply)) (decided_once questions)

  pub answered : LawfulStock s → LawfulSections b.sections → (r : Result ℕ Refusal) → mass_reply r ≡ asked_for_mass s b q → IfOk r (IsGreatestMass s b q)
  answered laws sections (Err e) reply = tt
  answered laws sections (Ok x) reply =
      let due = answer_due hauls (λ x. refl) (first_no questions) (hauls (hauled_mass s b q)) refl x reply in
      let seven = answers (mass_question_in_range q) 7 _ due.0 in
      let eight = answers (leb 1 (locomotives b.vehicles)) 8 _ seven.1 in
      let nine = answers (leb 1 (length b.sections)) 9 _ eight.1 in
      let thirteen = answers (holds_cautiously s b q 500) 13 _ nine.1 in
      let speed = both (leb q.speed 1600) _ seven.0 in
      let gross = both (leb 50 q.gross) (leb q.gross 2000) speed.1 in
      rw (same_mass x (hauled_mass s b q) due.1)
      (is_greatest s b q laws sections (leb-true _ _ speed.0) (leb-true _ _ gross.0) (leb-true _ _ gross.1) thirteen.0)
