-- The lowest grade of a window, section by section.
use Rattle.std.proofs.Common.{◌≡◌, ℕ, ◌+◌, ◌<◌, Bool, true, false, cond, ◌&&◌, leb, List, [], ◌∷◌, map, length, get_or, drop, ℤ, pos, negsuc, ◌≤ℤ◌, Some, None, Option, IfSome, sym, refl, ap, ◌∙◌, subst, arith}
use Rattle.std.specs.Prelude.{MatchOption}
use Rattle.std.specs.Int.{int_min}
use Rattle.std.proofs.lemmas.Int.{ints, clamps}
use Rattle.rules.specs.declared.figures.SectionFigures.{SectionFigures}
use Rattle.rules.specs.Grade.{low_grade, lowest}
use Rattle.rules.specs.Window.{Located, window_from}
use Rattle.rules.proofs.Tables.{next}

-- the lowest grade found so far and the grades to come
abbrev pub lowest_with : Option ℤ → List ℤ → ℤ
lowest_with None gs = lowest int_min (pos 0) gs
lowest_with (Some g) gs = lowest int_min (pos 0) (g ∷ gs)

-- r is the lower of a grade and the lowest before it, if any
abbrev pub IsLowerOf : Option ℤ → ℤ → ℤ → Type 0
IsLowerOf o g r = MatchOption o (r ≡ g) (λ old. r ≡ int_min old g)

-- a grade of a section, as far as there is one, is -40,000 to 47,000
abbrev pub InRange : Option ℤ → Type 0
InRange o = IfSome o (λ g. (negsuc 39999 ≤ℤ g) × (g ≤ℤ pos 47000))

-- and so is the lower of two
pub lower_in_range : (o : Option ℤ) (g r : ℤ) → InRange o → InRange (Some g) → IsLowerOf o g r → InRange (Some r)
lower_in_range None g r some grade is = subst (λ (t : ℤ). InRange (Some t)) (sym is) grade
lower_in_range (Some old) g r some grade is = (omega (arith, ints, clamps, is, some.0, grade.0), omega (arith, ints, clamps, is, some.1, grade.1))

regroup : (a b c : ℤ) → int_min a (int_min b c) ≡ int_min (int_min a b) c
regroup a b c = omega (arith, ints, clamps)

-- one more grade
takes : (o : Option ℤ) (g r : ℤ) (gs : List ℤ) → IsLowerOf o g r → lowest_with (Some r) gs ≡ lowest_with o (g ∷ gs)
takes None g r gs e = ap (λ (t : ℤ). lowest int_min (pos 0) (t ∷ gs)) e
takes (Some old) g r [] e = e
takes (Some old) g r (h ∷ gs) e =
    ap (λ (t : ℤ). int_min t (lowest int_min (pos 0) (h ∷ gs))) e ∙ sym (regroup old g (lowest int_min (pos 0) (h ∷ gs)))

-- a section in the window adds its grade, and one outside adds none
pick : (b : Bool) (l : Located) (ls : List Located)
    → map low_grade (map (λ t. t.section) (cond b (l ∷ ls) ls))
    ≡ cond b (low_grade l.section ∷ map low_grade (map (λ t. t.section) ls)) (map low_grade (map (λ t. t.section) ls))
pick true l ls = refl
pick false l ls = refl

-- the low grades of the window in what is left of the line
abbrev pub grades_left : ℕ → ℕ → ℕ → ℕ → List SectionFigures → List ℤ
grades_left from to start i xs = map low_grade (window_from start from to (drop i xs))

module _ (from to start end i : ℕ) (xs : List SectionFigures) (x : SectionFigures) (lt : i < length xs) (is : x ≡ get_or xs i x) (ends : end ≡ start + x.metres) where
  abbrev rest : List ℤ
  rest = grades_left from to end (i + 1) xs

  left : (b : Bool) → b ≡ (leb start to && leb from end) → grades_left from to start i xs ≡ cond b (low_grade x ∷ rest) rest
  left b e =
      ap (λ (t : List SectionFigures). map low_grade (window_from start from to t)) (next xs i x lt is)
      ∙ pick (leb start to && leb from (start + x.metres)) (record { start = start; section = x }) _
      ∙ ap (λ (t : ℕ). cond (leb start to && leb from t) (low_grade x ∷ grades_left from to t (i + 1) xs) (grades_left from to t (i + 1) xs)) (sym ends)
      ∙ ap (λ (t : Bool). cond t (low_grade x ∷ rest) rest) (sym e)

  -- a turn of the loop at a section in the window, and at one outside
  module _ (o : Option ℤ) (meets : Bool) (is_met : meets ≡ (leb start to && leb from end)) where
    pub turn_takes : (g r : ℤ) → meets ≡ true → g ≡ low_grade x → IsLowerOf o g r → lowest_with (Some r) rest ≡ lowest_with o (grades_left from to start i xs)
    turn_takes g r h e lower =
        takes o g r rest lower ∙ ap (λ (t : ℤ). lowest_with o (t ∷ rest)) e
        ∙ ap (λ (t : Bool). lowest_with o (cond t (low_grade x ∷ rest) rest)) (sym h) ∙ ap (lowest_with o) (sym (left meets is_met))

    pub turn_passes : meets ≡ false → lowest_with o rest ≡ lowest_with o (grades_left from to start i xs)
    turn_passes h = ap (λ (t : Bool). lowest_with o (cond t (low_grade x ∷ rest) rest)) (sym h) ∙ ap (lowest_with o) (sym (left meets is_met))
