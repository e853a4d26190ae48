-- The mass question: how heavy the wagons may be that the locomotives of a train haul over its line. Masses are in tenths of a tonne,
-- pulls in kgf, specific forces in milli; a mass times a specific force is in ten-thousandths of kgf.
use Rattle.std.specs.Prelude.{◌≡◌, ℕ, zero, suc, ◌+◌, ◌*◌, ◌≤◌, ◌<◌, Bool, true, false, cond, ◌&&◌, leb, List, [], ◌∷◌, length, All, nat_le, ◌==◌}
use Rattle.rules.specs.declared.figures.MassQuestion.{MassQuestion}
use Rattle.rules.specs.declared.figures.SectionFigures.{SectionFigures}
use Rattle.rules.specs.Ratio.{Ratio, ratio}
use Rattle.rules.specs.Layers.{smaller_of}
use Rattle.rules.specs.Fraction.{natural_of}
use Rattle.rules.specs.Law.{Stock}
use Rattle.rules.specs.Grade.{grade, high_grade}
use Rattle.rules.specs.Book.{Book, locomotives, hauling_mass}
use Rattle.rules.specs.Refusals.{Question, ◌otherwise◌, Reply, hauls, first_no, decide}

-- ---- ratios that are summed

abbrev pub whole_ratio : ℕ → Ratio
whole_ratio n = ratio n 1

infixl 60 ◌+R◌
abbrev pub ◌+R◌ : Ratio → Ratio → Ratio
x +R y = ratio (x.num * y.den + y.num * x.den) (x.den * y.den)

abbrev pub times_ratio : ℕ → Ratio → Ratio
times_ratio n x = ratio (n * x.num) x.den

abbrev pub at_most : Ratio → Ratio → Bool
at_most x y = nat_le (x.num * y.den) (y.num * x.den)

-- ---- the balance of pull and resistance

-- what is read on a section: the pull of one locomotive, its drag w when pulling, the wagons' drag u, and the grade h
pub record HaulReadings : Type 0 where
  pub pull : Ratio
  pub pulling : Ratio
  pub wagon : Ratio
  pub grade : Ratio

-- the locomotives of a train: how many there are, and their mass P
pub record Engines : Type 0 where
  pub count : ℕ
  pub mass : ℕ

-- P (w + h)
abbrev pub own_resistance : Engines → HaulReadings → Ratio
own_resistance e r = times_ratio e.mass (r.pulling +R r.grade)

-- the pull that counts: that of all locomotives, but at most what a coupler takes, in kgf, and P (w + h)
abbrev pub counted_pull : Engines → ℕ → HaulReadings → Ratio
counted_pull e coupler r =
    smaller_of (times_ratio (10000 * e.count) r.pull) (whole_ratio (10000 * coupler) +R own_resistance e r)

-- the pull that counts is at least P (w + h) + X (u + h), for wagons of the mass X
abbrev pub balanced : Engines → ℕ → HaulReadings → ℕ → Bool
balanced e coupler r x = at_most (own_resistance e r +R times_ratio x (r.wagon +R r.grade)) (counted_pull e coupler r)

-- ---- hauling over a section

-- a way of hauling: the speeds at which the pull and the drags are read, what is added to the grade, and what a coupler takes
pub record Hauling : Type 0 where
  pub pull_at : ℕ
  pub drag_at : ℕ
  pub added : ℕ
  pub coupler : ℕ

-- at a speed
abbrev pub moving : ℕ → Hauling
moving v = record { pull_at = v; drag_at = v; added = 0; coupler = 130000 }

-- from a stand
abbrev pub starting : Hauling
starting = record { pull_at = 0; drag_at = 100; added = 4000; coupler = 95000 }

-- how a way of hauling is read on a section
abbrev pub Reader : Type 0
Reader = Hauling → SectionFigures → HaulReadings

-- X holds on a section: at a speed, and from a stand where the section is marked as a stop
abbrev pub holds_on : Reader → Engines → ℕ → ℕ → SectionFigures → Bool
holds_on read e v x f =
    balanced e (moving v).coupler (read (moving v) f) x
    && cond (f.stop == 0) true (balanced e starting.coupler (read starting f) x)

-- on every section of the line
abbrev pub on_every : (SectionFigures → Bool) → List SectionFigures → Bool
on_every ok [] = true
on_every ok (f ∷ fs) = ok f && on_every ok fs

abbrev pub holds : Reader → Book → ℕ → ℕ → Bool
holds read b v x =
    on_every (holds_on read (record { count = locomotives b.vehicles; mass = hauling_mass b.vehicles }) v x) b.sections

-- cautiously: the pull below, the drags above and the high grade, all drags at the gross mass q
abbrev pub read_cautiously : Stock → ℕ → Reader
read_cautiously s q m f =
    record {
      pull = whole_ratio (s.pull.below m.pull_at);
      pulling = whole_ratio (s.pulling.above m.drag_at q);
      wagon = whole_ratio (s.wagon.above m.drag_at q);
      grade = whole_ratio (natural_of (high_grade f) + m.added);
    }

-- exactly: the exact ratios, and the exact grade, 0 where it is negative
abbrev pub read_exactly : Stock → ℕ → Reader
read_exactly s q m f =
    record {
      pull = s.pull.exact m.pull_at;
      pulling = s.pulling.exact m.drag_at q;
      wagon = s.wagon.exact m.drag_at q;
      grade = ratio (natural_of (grade f).num) (grade f).den +R whole_ratio m.added;
    }

unfoldable pub holds_cautiously : Stock → Book → MassQuestion → ℕ → Bool
holds_cautiously s b q = holds (read_cautiously s q.gross) b q.speed

abbrev pub holds_exactly : Stock → Book → MassQuestion → ℕ → Bool
holds_exactly s b q = holds (read_exactly s q.gross) b q.speed

-- ---- the question

-- the greatest number up to n of which something is true, and 0 where there is none
abbrev pub greatest : (ℕ → Bool) → ℕ → ℕ
greatest ok zero = 0
greatest ok (suc n) = cond (ok (suc n)) (suc n) (greatest ok n)

-- of the multiples of 500 up to 100,000 the greatest that holds, and 0 where none does
unfoldable pub greatest_mass : (ℕ → Bool) → ℕ
greatest_mass ok = 500 * greatest (λ j. ok (500 * j)) 200

-- that holds cautiously
abbrev pub hauled_mass : Stock → Book → MassQuestion → ℕ
hauled_mass s b q = greatest_mass (holds_cautiously s b q)

abbrev pub mass_question_in_range : MassQuestion → Bool
mass_question_in_range q = nat_le q.speed 1600 && (nat_le 50 q.gross && nat_le q.gross 2000)

-- what is asked before any mass is tried
abbrev pub hauling : Book → MassQuestion → List Question → List Question
hauling b q more =
    (mass_question_in_range q otherwise 7)
    ∷ (leb 1 (locomotives b.vehicles) otherwise 8)
    ∷ (leb 1 (length b.sections) otherwise 9)
    ∷ more

abbrev pub mass_questions : Stock → Book → MassQuestion → List Question
mass_questions s b q = hauling b q ((holds_cautiously s b q 500 otherwise 13) ∷ [])

-- what the book answers to a mass question
abbrev pub asked_for_mass : Stock → Book → MassQuestion → Reply
asked_for_mass s b q = decide (first_no (mass_questions s b q)) (hauls (hauled_mass s b q))

-- ---- what is promised of it

-- every ratio in some readings has a lower number of at least 1
pub record ProperReadings (r : HaulReadings) : Type 0 where
  pub pull : 1 ≤ r.pull.den
  pub pulling : 1 ≤ r.pulling.den
  pub wagon : 1 ≤ r.wagon.den
  pub grade : 1 ≤ r.grade.den

-- x is a multiple of 500 up to 100,000 that holds by cautious values, and no greater one does; so it holds by the exact values too,
-- all of which are proper
pub record IsGreatestMass (s : Stock) (b : Book) (q : MassQuestion) (x : ℕ) : Type 0 where
  pub multiple : (j : ℕ) × (x ≡ 500 * j)
  pub most : x ≤ 100000
  pub cautious : holds_cautiously s b q x ≡ true
  pub none_greater : (j : ℕ) → x < 500 * j → 500 * j ≤ 100000 → holds_cautiously s b q (500 * j) ≡ false
  pub proper_moving : All (λ f. ProperReadings (read_exactly s q.gross (moving q.speed) f)) b.sections
  pub proper_starting : All (λ f. ProperReadings (read_exactly s q.gross starting f)) b.sections
  pub exact : holds_exactly s b q x ≡ true
