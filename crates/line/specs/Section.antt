-- A section as the book's figures.
use Rattle.std.specs.Prelude.{◌≡◌, ℕ, ◌≤◌, Bool, true, false, cond, pos, negsuc, ◌≤ℤ◌, ◌==◌, Some, None, Option, Result, IfSome, MatchResult}
use Rattle.std.proofs.Common.{arith, refl}
use Rattle.std.proofs.lemmas.Bool.{ne_eqb}
use Rattle.std.specs.Option.{option_map, unwrap_or}
use Rattle.rules.specs.declared.figures.SectionFigures.{SectionFigures}
use Rattle.rules.specs.declared.refusal.Refusal.{Refusal}
use Rattle.rules.specs.declared.refusal.Refusal.TheVariants.{UnlawfulSection}
use Rattle.rules.specs.Questions.{lawful_section}
use Rattle.line.specs.Curve.{CurveFigures, curve_of}
use Rattle.line.specs.declared.section.Section.TheInside.{Inside}

-- the figures that it was given by: where there is no curve its length and its radius are 0, and a stop is marked by 1
abbrev pub figures_of : Inside → SectionFigures
figures_of s = record {
  metres = s.metres;
  gradient = s.gradient;
  curve = unwrap_or (option_map (λ c. c.metres) s.curve) 0;
  radius = unwrap_or (option_map (λ c. c.radius) s.curve) 0;
  stop = cond s.stop 1 0;
}

-- the curve of these figures, if any
abbrev pub curve_in : ℕ → ℕ → Option CurveFigures
curve_in metres radius = cond (metres == 0) None (Some (curve_of metres radius))

-- the section of lawful figures
abbrev pub section_of : SectionFigures → Inside
section_of f = record {
  metres = f.metres;
  gradient = f.gradient;
  curve = curve_in f.curve f.radius;
  stop = f.stop == 1;
}

-- the ranges of its length and its gradient, and a curve that lies in it
pub record IsLawful (s : Inside) : Type 0 where
  pub some : 1 ≤ s.metres
  pub short : s.metres ≤ 20000
  pub falling : negsuc 399 ≤ℤ s.gradient
  pub rising : s.gradient ≤ℤ pos 400
  pub inside : IfSome s.curve (λ c. (1 ≤ c.metres) × (c.metres ≤ s.metres))

-- ---- a section's figures give it back (what the model of a section cites has to stand here, proofs too)

-- a number of 1 or more is not 0, so that the second is meant
cond-some : {X : Type 0} (n : ℕ) (x y : X) → 1 ≤ n → cond (n == 0) x y ≡ y
cond-some n x y h = let some : n ≡ 0 → ⊥ = λ e. omega arith in rw (ne_eqb n 0 some)

curve_back : (o : Option CurveFigures) (m : ℕ) → IfSome o (λ c. (1 ≤ c.metres) × (c.metres ≤ m))
    → curve_in (unwrap_or (option_map (λ c. c.metres) o) 0) (unwrap_or (option_map (λ c. c.radius) o) 0) ≡ o
curve_back None m h = refl
curve_back (Some c) m h = cond-some c.metres None (Some c) h.0

stop_back : (b : Bool) → (cond b 1 0 == 1) ≡ b
stop_back true = refl
stop_back false = refl

pub section_of-figures_of : (s : Inside) → IsLawful s → section_of (figures_of s) ≡ s
section_of-figures_of s h = rw (curve_back s.curve s.metres h.inside, stop_back s.stop)

-- the section of these figures where they are lawful, else the refusal of an unlawful section
abbrev pub MadeIfLawful : SectionFigures → Result SectionFigures Refusal → Type 0
MadeIfLawful f r = MatchResult r (λ s. (s ≡ f) × (lawful_section f ≡ true)) (λ e. (e ≡ UnlawfulSection) × (lawful_section f ≡ false))
