-- The grades of a window: the lowest low grade is under each exact one, and the lowest exact one is at most 1 above it.
use Rattle.std.proofs.Common.{◌≡◌, ℕ, ◌*◌, ◌≤◌, ◌⊎◌, inl, inr, Bool, true, false, cond, ◌&&◌, leb, eqb, List, [], ◌∷◌, map, length, Contains, IsTrue, ℤ, pos, ◌*ℤ◌, ◌≤ℤ◌, int_lt, sym, refl, subst, mul-pos, arith}
use Rattle.std.proofs.lemmas.Bool.{leb-true}
use Rattle.std.specs.Int.{int_min}
use borrow.Author.Differences.{le_out, at_most_in, lt-true, lt-false}
use Rattle.rules.specs.declared.figures.SectionFigures.{SectionFigures}
use Rattle.rules.specs.Fraction.{Fraction, fraction, whole, Proper, ◌≤F◌, ◌+F◌, lesser}
use Rattle.rules.specs.Grade.{grade, low_grade, lowest_low_grade}
use Rattle.rules.specs.Exact.{lowest_grade}
use Rattle.rules.specs.Questions.{lawful_section}
use Rattle.rules.specs.Stop.{Approach}
use Rattle.rules.specs.Promises.{LawfulApproach}
use Rattle.rules.proofs.Asked.{both}
use Rattle.rules.proofs.Fractions.{at_most, same, floor_under, floor_near, wholes}
use Rattle.rules.proofs.Members.{In, in_list, of_all, in_map, map_in, lowest_some, lowest_under}

-- ---- the grade of a lawful section is a proper fraction

proper_by : (b : Bool) (y z : ℤ) (m r : ℕ) → 1 ≤ m → cond b (eqb r 0) (leb 100 r && leb r 20000) ≡ true
    → Proper (cond b (whole y) (fraction z (m * r)))
proper_by true y z m r h k = omega arith
proper_by false y z m r h k = let p : 1 ≤ r = omega (arith, leb-true 100 r (both _ _ k).0) in mul-pos h p

pub grade_proper : (f : SectionFigures) → IsTrue (lawful_section f) → Proper (grade f)
grade_proper f h =
    let all = both _ _ h in
    let curve = both _ _ (both _ _ (both _ _ all.1).1).1 in
    proper_by (eqb f.curve 0) _ _ f.metres f.radius (leb-true 1 f.metres (both _ _ all.0).0) curve.0

-- ---- the lesser of two

pub at_most_z : (a b c : ℤ) → a ≤ℤ b → b ≤ℤ c → a ≤ℤ c
at_most_z a b c h k = at_most_in a c (omega (arith, le_out a b h, le_out b c k))

by_test : {X : Type 0} (c : Bool) (a b : X) (F : X → Type 0) → (c ≡ true → F a) → (c ≡ false → F b) → F (cond c a b)
by_test true a b F h k = h refl
by_test false a b F h k = k refl

one_of : {X : Type 0} (c : Bool) (a b : X) → (cond c b a ≡ a) ⊎ (cond c b a ≡ b)
one_of true a b = inr refl
one_of false a b = inl refl

same_z : (a : ℤ) → a ≤ℤ a
same_z a = at_most_in a a (omega arith)

min_left : (a b : ℤ) → int_min a b ≤ℤ a
min_left a b = by_test (int_lt b a) b a (λ t. t ≤ℤ a) (λ e. at_most_in b a (omega (arith, lt-true b a e))) (λ e. same_z a)

min_right : (a b : ℤ) → int_min a b ≤ℤ b
min_right a b = by_test (int_lt b a) b a (λ t. t ≤ℤ b) (λ e. same_z b) (λ e. at_most_in a b (omega (arith, lt-false b a e)))

lesser_left : (a b : Fraction) → lesser a b ≤F a
lesser_left a b =
    let x = a.num *ℤ pos b.den in
    let y = b.num *ℤ pos a.den in
    by_test (int_lt y x) b a (λ t. t ≤F a) (λ e. record { cross = at_most_in y x (omega (arith, lt-true y x e)) }) (λ e. same a)

lesser_right : (a b : Fraction) → lesser a b ≤F b
lesser_right a b =
    let x = a.num *ℤ pos b.den in
    let y = b.num *ℤ pos a.den in
    by_test (int_lt y x) b a (λ t. t ≤F b) (λ e. same b) (λ e. record { cross = at_most_in x y (omega (arith, lt-false y x e)) })

-- ---- of a window

some_in : (w : List SectionFigures) → 1 ≤ length w → (f : SectionFigures) × In f w
some_in [] h = absurd (omega arith)
some_in (f ∷ fs) h = (f, inl refl)

module _ (a : Approach) (w : List SectionFigures) (l : LawfulApproach a w) where
  proper_in : (f : SectionFigures) → In f w → Proper (grade f)
  proper_in f i = grade_proper f (of_all (λ f. IsTrue (lawful_section f)) w l.sections f i)

  pub grade_proper_of : (f : SectionFigures) → Contains w f → Proper (grade f)
  grade_proper_of f at = proper_in f (in_list w f at)

  under_low : (f : SectionFigures) → In f w → lowest_low_grade w ≤ℤ low_grade f
  under_low f i =
      lowest_under int_min (pos 0) (λ a b. one_of (int_lt b a) a b) (λ _. Unit {0}) ◌≤ℤ◌ same_z min_left min_right (λ a b c _ h k. at_most_z a b c h k)
      (map low_grade w) (λ y j. tt) (low_grade f) (in_map low_grade f w i)

  under : (f : SectionFigures) → In f w → whole (lowest_low_grade w) ≤F grade f
  under f i =
      at_most (whole (lowest_low_grade w)) (whole (low_grade f)) (grade f) (omega arith) (wholes (lowest_low_grade w) (low_grade f) (under_low f i))
      (floor_under (grade f) (proper_in f i))

  -- G is at most the grade of each section of the window
  pub low_under : (f : SectionFigures) → Contains w f → whole a.lowest ≤F grade f
  low_under f at = subst (λ (z : ℤ). whole z ≤F grade f) (sym l.lowest) (under f (in_list w f at))

  low_is : (f : SectionFigures) × In f w × (lowest_low_grade w ≡ low_grade f)
  low_is =
      let s = some_in w l.some in
      map_in low_grade (lowest_low_grade w) w
      (lowest_some int_min (pos 0) (λ a b. one_of (int_lt b a) a b) (low_grade s.0) (map low_grade w) (in_map low_grade s.0 w s.1))

  -- the lowest exact grade is that of a section of the window
  pub lowest_is : (f : SectionFigures) × In f w × (lowest_grade w ≡ grade f)
  lowest_is =
      let s = some_in w l.some in
      map_in grade (lowest_grade w) w
      (lowest_some lesser (whole (pos 0)) (λ a b. one_of (int_lt (b.num *ℤ pos a.den) (a.num *ℤ pos b.den)) a b) (grade s.0) (map grade w) (in_map grade s.0 w s.1))

  pub lowest_proper : Proper (lowest_grade w)
  lowest_proper = let r = lowest_is in rw r.2 (proper_in r.0 r.1)

  pub lowest_over : whole a.lowest ≤F lowest_grade w
  lowest_over = let r = lowest_is in rw (l.lowest, r.2) (under r.0 r.1)

  all_proper : (y : Fraction) → In y (map grade w) → Proper y
  all_proper y i = let r = map_in grade y w i in rw r.2 (proper_in r.0 r.1)

  lowest_below : (f : SectionFigures) → In f w → lowest_grade w ≤F grade f
  lowest_below f i =
      lowest_under lesser (whole (pos 0)) (λ a b. one_of (int_lt (b.num *ℤ pos a.den) (a.num *ℤ pos b.den)) a b) Proper ◌≤F◌ same
      lesser_left lesser_right at_most (map grade w) all_proper (grade f) (in_map grade f w i)

  pub lowest_near : lowest_grade w ≤F whole a.lowest +F whole (pos 1)
  lowest_near =
      let r = low_is in
      let p = proper_in r.0 r.1 in
      subst (λ (t : ℤ). lowest_grade w ≤F whole t +F whole (pos 1)) (sym l.lowest)
      (subst (λ (t : ℤ). lowest_grade w ≤F whole t +F whole (pos 1)) (sym r.2)
      (at_most (lowest_grade w) (grade r.0) (whole (low_grade r.0) +F whole (pos 1)) p (lowest_below r.0 r.1) (floor_near (grade r.0) p)))
