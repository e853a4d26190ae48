-- The point that breaks a table: without one the points are a table, and else those before it are one and with it they are not.
use Rattle.std.proofs.Common.{◌≡◌, ℕ, suc, ◌+◌, ◌≤◌, Bool, true, false, cond, ◌&&◌, ltb, leb, List, [], ◌∷◌, length, take, Some, None, Option, sym, refl, ◌∙◌, ⊎_elim, add-one, arith}
use Rattle.std.proofs.lemmas.Bool.Decides.{nat_tests}
use Rattle.std.proofs.lemmas.List.{length-take}
use Rattle.std.proofs.lemmas.Bool.{both_ways, ltb-true, ltb-false, leb-true, lt-ltb, le-leb, lt-leb, and_parts, and_cases, and_from, and_left, and_right}
use Rattle.rules.specs.declared.figures.PointFigures.{PointFigures}
use Rattle.rules.specs.Table.{may_begin, may_follow, orderly_after, lawful_table, breaks_after, first_break, BreaksFirst}
use Rattle.rules.proofs.Tables.{none_some}

-- what a test that ends in `Some` says
taken : (b : Bool) (x : Option ℕ) (k : ℕ) → cond b x (Some k) ≡ None → (b ≡ true) × (x ≡ None)
taken true x k e = (refl, e)
taken false x k e = absurd (none_some k (sym e))

-- k points stand already, p is the last of them
none_after : (k : ℕ) (p : PointFigures) (rest : List PointFigures) → k ≤ 16 → breaks_after k p rest ≡ None
    → (orderly_after p rest ≡ true) × (k + length rest ≤ 16)
none_after k p [] h e = (refl, omega arith)
none_after k p (n ∷ rest) h e =
    let test = taken (ltb k 16 && may_follow p n) (breaks_after (k + 1) n rest) k e in
    let parts = and_parts (ltb k 16) (may_follow p n) test.0 in
    let more = none_after (k + 1) n rest (omega (arith, ltb-true _ _ parts.0)) test.1 in
    (and_from _ _ parts.1 more.0, omega (arith, more.1))

-- points of which none breaks the table make one
pub no_break : (ps : List PointFigures) → first_break ps ≡ None → lawful_table ps ≡ true
no_break [] e = absurd (none_some 0 (sym e))
no_break (p ∷ rest) e =
    let test = taken (may_begin p) (breaks_after 1 p rest) 0 e in
    let more = none_after 1 p rest (omega arith) test.1 in
    and_from _ _ test.0 (and_from _ _ (le-leb _ _ (omega (arith, more.1))) more.0)

-- a lawful table has no break
none_of : (k : ℕ) (p : PointFigures) (rest : List PointFigures) → k + length rest ≤ 16 → orderly_after p rest ≡ true → breaks_after k p rest ≡ None
none_of k p [] h e = refl
none_of k p (n ∷ rest) h e =
    let parts = and_parts (may_follow p n) (orderly_after n rest) e in
    rw (lt-ltb k 16 (omega arith), parts.0) (none_of (k + 1) n rest (omega arith) parts.1)

pub lawful_unbroken : (ps : List PointFigures) → lawful_table ps ≡ true → first_break ps ≡ None
lawful_unbroken [] e = absurd (both_ways _ refl e)
lawful_unbroken (p ∷ rest) e =
    let parts = and_parts (may_begin p) (leb (length rest) 15 && orderly_after p rest) e in
    let more = and_parts (leb (length rest) 15) (orderly_after p rest) parts.1 in
    rw parts.0 (none_of 1 p rest (omega (arith, leb-true _ _ more.0)) more.1)

-- so points with a break make none
broken_whole : (ps : List PointFigures) (j : ℕ) (b : Bool) → lawful_table ps ≡ b → first_break ps ≡ Some j → b ≡ false
broken_whole ps j true t e = absurd (none_some j (sym (lawful_unbroken ps t) ∙ e))
broken_whole ps j false t e = refl

-- the break at j, m points after p
record BreaksAt (k : ℕ) (p : PointFigures) (rest : List PointFigures) (j m : ℕ) : Type 0 where
  place : j ≡ k + m
  few : j ≤ 16
  before : orderly_after p (take m rest) ≡ true
  broken : (leb (k + length (take (suc m) rest)) 16 && orderly_after p (take (suc m) rest)) ≡ false

broken_more : (k m : ℕ) (p n : PointFigures) (rest : List PointFigures) → may_follow p n ≡ true
    → (leb (k + 1 + length (take m rest)) 16 && orderly_after n (take m rest)) ≡ false
    → (leb (k + length (n ∷ take m rest)) 16 && orderly_after p (n ∷ take m rest)) ≡ false
broken_more k m p n rest t e =
    let len : k + suc (length (take m rest)) ≡ k + 1 + length (take m rest) = omega arith in
    rw (len, t) e

some_step : (k : ℕ) (p n : PointFigures) (rest : List PointFigures) (j : ℕ) (b : Bool) → (ltb k 16 && may_follow p n) ≡ b → k ≤ 16
    → cond b (breaks_after (k + 1) n rest) (Some k) ≡ Some j
    → (k + 1 ≤ 16 → breaks_after (k + 1) n rest ≡ Some j → (m : ℕ) × BreaksAt (k + 1) n rest j m)
    → (m : ℕ) × BreaksAt k p (n ∷ rest) j m
some_step k p n rest j true t h e more =
    let parts = and_parts (ltb k 16) (may_follow p n) t in
    let at = more (omega (arith, ltb-true _ _ parts.0)) e in
    let m = at.0 in (
      suc m,
      record {
        place = omega (arith, at.1.place);
        few = at.1.few;
        before = and_from _ _ parts.1 at.1.before;
        broken = broken_more k (suc m) p n rest parts.1 at.1.broken;
      },
    )
some_step k p n rest j false t h e more =
    let here : k ≡ j = cc in (
      0,
      record {
        place = omega arith;
        few = omega arith;
        before = refl;
        broken =
            ⊎_elim (λ full. and_left _ _ (lt-leb (k + 1) 16 (omega (arith, ltb-false _ _ full)))) (λ bad. and_right (leb (k + 1) 16) _ (and_left _ _ bad))
            (and_cases (ltb k 16) (may_follow p n) t);
      },
    )

some_after : (k : ℕ) (p : PointFigures) (rest : List PointFigures) (j : ℕ) → k ≤ 16 → breaks_after k p rest ≡ Some j
    → (m : ℕ) × BreaksAt k p rest j m
some_after k p [] j h e = absurd (none_some j e)
some_after k p (n ∷ rest) j h e = some_step k p n rest j _ refl h e (λ few at. some_after (k + 1) n rest j few at)

one_more : (x : ℕ) → leb x 15 ≡ leb (1 + x) 16
one_more x = grind (arith, nat_tests)

first_some : (p : PointFigures) (rest : List PointFigures) (j : ℕ) (b : Bool) → may_begin p ≡ b → cond b (breaks_after 1 p rest) (Some 0) ≡ Some j
    → lawful_table (p ∷ rest) ≡ false → BreaksFirst (p ∷ rest) j
first_some p rest j true t e whole =
    let at = some_after 1 p rest j (omega arith) e in
    let m = at.0 in
    let place : j ≡ suc m = omega (arith, at.1.place) in
    let few : length (take m rest) ≤ 15 = omega (arith, at.1.place, at.1.few, length-take m rest) in
    record {
      before = λ _. rw (place, t) (and_from _ _ (le-leb _ _ few) at.1.before);
      broken = rw (add-one, place, t, one_more) at.1.broken;
      whole = whole;
    }
first_some p rest j false t e whole =
    let here : 0 ≡ j = cc in
    record { before = λ h. absurd (omega arith); broken = rw (← here, t); whole = whole }

-- a break parts the points that make a table from the one that does not fit
pub break_says : (ps : List PointFigures) (j : ℕ) → first_break ps ≡ Some j → BreaksFirst ps j
break_says [] j e = let here : 0 ≡ j = cc in record { before = λ h. absurd (omega arith); broken = rw (← here); whole = refl }
break_says (p ∷ rest) j e = first_some p rest j _ refl e (broken_whole (p ∷ rest) j _ refl e)
