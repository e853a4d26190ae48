-- Concrete stops to which the promises apply.
use Rattle.std.proofs.Common.{List, ℕ, zero, suc, ◌*◌, ◌<◌, ◌≤◌, inl, inr, [], ◌∷◌, map, IsTrue, ℤ, pos, negsuc, sym, refl, subst, lit≤, arith}
use Rattle.std.proofs.lemmas.List.Elements.{All-nil, All-cons}
use Rattle.rules.specs.declared.figures.SectionFigures.{SectionFigures}
use Rattle.rules.specs.Ratio.{Ratio, AtMost}
use Rattle.rules.specs.Law.{LawfulFalling, LawfulDrag, LawfulStock, rounded_falling, rounded_drag}
use Rattle.rules.specs.Formulas.{cast_iron, no_pull, wagon_drag, df4, df4_a, df4_b, df4_c}
use Rattle.rules.specs.Kind.{LawfulKind, freight}
use Rattle.rules.specs.Stop.{edge, brake_force, train_drag, holding_force, braking_run, delay_run}
use Rattle.rules.specs.Finer.{Part, ReadsIn, Finer}
use Rattle.rules.specs.Questions.{lawful_section, LawfulSections}
use Rattle.rules.specs.Promises.{LawfulApproach, Answered}
use Rattle.rules.specs.Sample.{example_stock}
use Rattle.rules.specs.Examples.{stretch, example_approach, example_window, part_from, five_parts, Applies, PromisesApply}
use Rattle.rules.proofs.Formulas.{wagon_rises, quadratic_cap, quadratic_rises}
use Rattle.rules.proofs.Members.{In, contained, to_all}
use Rattle.rules.proofs.Readings.{rounded_reads}

-- ---- the laws of the example

lawful_falling : (e : ℕ → Ratio) → ((v : ℕ) → v ≤ 1600 → 1 ≤ (e v).den) → ((v : ℕ) → v ≤ 1600 → (e v).num ≤ 1000000 * (e v).den)
    → ((v w : ℕ) → v ≤ w → w ≤ 1600 → AtMost (e w) (e v)) → LawfulFalling (rounded_falling e)
lawful_falling e proper most falls = record { reads = λ v h. rounded_reads (e v) (proper v h) (most v h); falls = falls }

lawful_drag : (e : ℕ → ℕ → Ratio) → ((v q : ℕ) → 1 ≤ (e v q).den) → ((v q : ℕ) → v ≤ 1600 → (e v q).num ≤ 1000000 * (e v q).den)
    → ((v w q : ℕ) → v ≤ w → AtMost (e v q) (e w q)) → LawfulDrag (rounded_drag e)
lawful_drag e proper most rises =
    record { reads = λ v q h low high. rounded_reads (e v q) (proper v q) (most v q h); rises = λ v w q h k low high. rises v w q h }

df4_lawful : LawfulDrag (rounded_drag df4)
df4_lawful =
    lawful_drag df4 (λ v q. omega arith)
    (λ v q h. omega (arith, quadratic_cap df4_a df4_b df4_c v q (lit≤ tt, lit≤ tt, lit≤ tt) h))
    (quadratic_rises df4_a df4_b df4_c)

example_lawful : LawfulStock (example_stock (rounded_falling (λ _. no_pull)))
example_lawful =
    record {
      friction = lawful_falling cast_iron (λ v h. omega arith) (λ v h. omega arith) (λ v w h k. omega arith);
      pull = lawful_falling (λ _. no_pull) (λ v h. omega arith) (λ v h. omega arith) (λ v w h k. omega arith);
      pulling = df4_lawful;
      coasting = df4_lawful;
      wagon = lawful_drag wagon_drag (λ v q. omega arith) (λ v q h. omega arith) wagon_rises;
    }

freight_lawful : LawfulKind freight
freight_lawful = record { some = lit≤ tt; few = lit≤ tt; mild = lit≤ tt }

-- ---- the finer reckoning

module _ (one other : SectionFigures) where
  abbrev parts : List Part
  parts = (five_parts one other).parts

  abbrev both : List SectionFigures
  both = one ∷ other ∷ []

  edge_in : (k : ℕ) → edge k < 250 → In (edge k) (map (λ p. p.run.bottom) parts)
  edge_in zero h = inr (inr (inr (inr (inl refl))))
  edge_in (suc zero) h = inr (inr (inl refl))
  edge_in (suc (suc zero)) h = inl refl
  edge_in (suc (suc (suc k))) h = absurd (omega arith)

  within : (s : SectionFigures) (y z f c g : ℕ) → In s both → z ≤ f → f ≤ y → z ≤ c → c ≤ y → z ≤ g → g ≤ y → ReadsIn both (part_from s y z f c g)
  within s y z f c g i zf fy zc cy zg gy =
      record { friction = (zf, fy); coasting = (zc, cy); wagon = (zg, gy); grade = contained both s i }

  each_reads : (p : Part) → In p parts → ReadsIn both p
  each_reads p (inl e) = subst (ReadsIn both) (sym e) (within one 250 200 225 240 200 (inl refl) (lit≤ tt) (lit≤ tt) (lit≤ tt) (lit≤ tt) (lit≤ tt) (lit≤ tt))
  each_reads p (inr (inl e)) = subst (ReadsIn both) (sym e) (within other 200 150 150 160 170 (inr (inl refl)) (lit≤ tt) (lit≤ tt) (lit≤ tt) (lit≤ tt) (lit≤ tt) (lit≤ tt))
  each_reads p (inr (inr (inl e))) = subst (ReadsIn both) (sym e) (within one 150 100 100 150 150 (inl refl) (lit≤ tt) (lit≤ tt) (lit≤ tt) (lit≤ tt) (lit≤ tt) (lit≤ tt))
  each_reads p (inr (inr (inr (inl e)))) = subst (ReadsIn both) (sym e) (within other 100 1 50 50 50 (inr (inl refl)) (lit≤ tt) (lit≤ tt) (lit≤ tt) (lit≤ tt) (lit≤ tt) (lit≤ tt))
  each_reads p (inr (inr (inr (inr (inl e))))) = subst (ReadsIn both) (sym e) (within one 1 0 0 0 1 (inl refl) (lit≤ tt) (lit≤ tt) (lit≤ tt) (lit≤ tt) (lit≤ tt) (lit≤ tt))
  each_reads p (inr (inr (inr (inr (inr i))))) = absurd i

  is_finer : Finer both 250 (five_parts one other)
  is_finer =
      record {
        falls = (refl, lit≤ tt, (refl, lit≤ tt, (refl, lit≤ tt, (refl, lit≤ tt, (refl, lit≤ tt, refl)))));
        edges = λ k h. contained (map (λ p. p.run.bottom) parts) (edge k) (edge_in k h);
        reads = to_all (ReadsIn both) parts each_reads;
        delay = contained both other (inr (inl refl));
      }

-- ---- the stops

two_lawful : (f g : SectionFigures) → IsTrue (lawful_section f) → IsTrue (lawful_section g) → LawfulSections (f ∷ g ∷ [])
two_lawful f g h k =
    All-cons (λ f. IsTrue (lawful_section f)) f (g ∷ []) h (All-cons (λ f. IsTrue (lawful_section f)) g [] k (All-nil (λ f. IsTrue (lawful_section f))))

lawful_approach : (i : ℤ) → IsTrue (lawful_section (stretch i)) → LawfulApproach (example_approach i) (example_window i)
lawful_approach i h =
    record {
      factor = lit≤ tt;
      mass = lit≤ tt;
      pressed = lit≤ tt;
      least = lit≤ tt;
      most = lit≤ tt;
      some = lit≤ tt;
      sections = two_lawful (stretch i) (stretch (pos 0)) h refl;
      lowest = refl;
    }

applies : (i : ℤ) → IsTrue (lawful_section (stretch i)) → Answered freight (example_approach i) 250 → Applies i
applies i h none =
    record {
      lawful = record { kind = freight_lawful; laws = example_lawful; approach = lawful_approach i h; speed = lit≤ tt };
      answered = none;
      finer = is_finer (stretch i) (stretch (pos 0));
    }

pub promises_apply : PromisesApply
unfolding brake_force train_drag holding_force braking_run delay_run
promises_apply = record { falling = applies (negsuc 99) refl refl; rising = applies (pos 100) refl refl }
