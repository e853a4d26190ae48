-- Grades of sections, in milli (thousandths of kgf/t; 1 per mille is 1,000 milli).
use Rattle.std.specs.Prelude.{◌*◌, cond, List, [], ◌∷◌, map, ℤ, pos, ◌+ℤ◌, ◌*ℤ◌, ◌==◌}
use Rattle.std.specs.Int.{int_min, int_max}
use Rattle.rules.specs.declared.figures.SectionFigures.{SectionFigures}
use Rattle.rules.specs.Fraction.{Fraction, fraction, whole, floor, ceiling}

-- 100 i + 700,000 s / (S R), for the gradient i and the length S of a section, and the length s and the radius R of its
-- curve; without a curve 100 i
abbrev pub grade : SectionFigures → Fraction
grade f =
    cond (f.curve == 0) (whole (pos 100 *ℤ f.gradient))
    (fraction (pos 100 *ℤ f.gradient *ℤ pos (f.metres * f.radius) +ℤ pos (700000 * f.curve)) (f.metres * f.radius))

abbrev pub low_grade : SectionFigures → ℤ
low_grade f = floor (grade f)

-- rounded up, and 0 if negative
abbrev pub high_grade : SectionFigures → ℤ
high_grade f = int_max (ceiling (grade f)) (pos 0)

-- the least of a list, and `none` where it is empty
abbrev pub lowest : {X : Type 0} → (X → X → X) → X → List X → X
lowest lesser none [] = none
lowest lesser none (x ∷ []) = x
lowest lesser none (x ∷ y ∷ rest) = lesser x (lowest lesser none (y ∷ rest))

-- the lowest low grade of some sections; of no section, 0
abbrev pub lowest_low_grade : List SectionFigures → ℤ
lowest_low_grade fs = lowest int_min (pos 0) (map low_grade fs)
