-- The exact sum as a finer reckoning: the steps themselves, each on the section of the lowest exact grade.
use Rattle.std.proofs.Common.{◌≡◌, ℕ, ◌≤◌, inl, inr, List, [], ◌∷◌, map, Contains, sym, refl, ap, ◌∙◌, subst, arith}
use Rattle.rules.specs.declared.figures.SectionFigures.{SectionFigures}
use Rattle.rules.specs.Fraction.{Fraction, ◌+F◌, total}
use Rattle.rules.specs.Kind.{Kind}
use Rattle.rules.specs.Grade.{grade}
use Rattle.rules.specs.Stop.{Approach, Step, edge, steps_from}
use Rattle.rules.specs.Exact.{readings_in, exact_brake_force, exact_holding_force, exact_run, exact_delay}
use Rattle.rules.specs.Finer.{Part, Reckoning, FallsFrom, ReadsIn, Finer, part_distance}
use Rattle.rules.specs.Promises.{ExactSumsAreFiner}
use Rattle.rules.proofs.Members.{In, contained, to_all, map_in}
use Rattle.rules.proofs.Grades.{lowest_is}
use Rattle.rules.proofs.Steps.{steps_fall}

abbrev part_on : SectionFigures → Step → Part
part_on f s = record { run = s; at = readings_in s; on = f }

abbrev reckoning_on : SectionFigures → ℕ → Reckoning
reckoning_on f v = record { parts = map (part_on f) (steps_from v); delayed_on = f }

runs_are : (f : SectionFigures) (ss : List Step) → map (λ p. p.run) (map (part_on f) ss) ≡ ss
runs_are f [] = refl
runs_are f (s ∷ ss) = ap (λ t. s ∷ t) (runs_are f ss)

bottoms_are : (f : SectionFigures) (ss : List Step) → map (λ p. p.run.bottom) (map (part_on f) ss) ≡ map (λ s. s.bottom) ss
bottoms_are f [] = refl
bottoms_are f (s ∷ ss) = ap (λ t. s.bottom ∷ t) (bottoms_are f ss)

-- a step of a falling list does not rise
falls_in : (v : ℕ) (ss : List Step) → FallsFrom v ss → (s : Step) → In s ss → s.bottom ≤ s.top
falls_in v [] f s i = absurd i
falls_in v (t ∷ ts) f s (inl e) = subst (λ (u : Step). u.bottom ≤ u.top) (sym e) (let h = f.0 in let lt = f.1 in omega arith)
falls_in v (t ∷ ts) f s (inr i) = falls_in t.bottom ts f.2 s i

reads_on : (w : List SectionFigures) (f : SectionFigures) (s : Step) → Contains w f → s.bottom ≤ s.top → ReadsIn w (part_on f s)
reads_on w f s at h =
    record { friction = (h, omega arith); coasting = (omega arith, h); wagon = (omega arith, h); grade = at }

is_finer : (w : List SectionFigures) (f : SectionFigures) (v : ℕ) → Contains w f → Finer w v (reckoning_on f v)
is_finer w f v at =
    let ss = steps_from v in
    let falls = steps_fall v in
    record {
      falls = subst (FallsFrom v) (sym (runs_are f ss)) falls.0;
      edges = λ k h. subst (λ (t : List ℕ). Contains t (edge k)) (sym (bottoms_are f ss)) ((falls.1 (edge k)).1 (k, h, refl));
      reads = to_all (ReadsIn w) (map (part_on f) ss) (λ p i.
          let r = map_in (part_on f) p ss i in
          subst (ReadsIn w) (sym r.2) (reads_on w f r.0 at (falls_in v ss falls.0 r.0 r.1)));
      delay = at;
    }

abbrev step_on : Approach → Fraction → Step → Fraction
step_on a g s = exact_run s (exact_holding_force a (readings_in s) g)

parts_are : (a : Approach) (f : SectionFigures) (ss : List Step) → map (part_distance a) (map (part_on f) ss) ≡ map (step_on a (grade f)) ss
parts_are a f [] = refl
parts_are a f (s ∷ ss) = ap (λ t. step_on a (grade f) s ∷ t) (parts_are a f ss)

abbrev sum_on : Kind → Approach → ℕ → Fraction → Fraction
sum_on k a v g = exact_delay k v (exact_brake_force a v) g +F total (map (step_on a g) (steps_from v))

pub exact_sums_are_finer : ExactSumsAreFiner
exact_sums_are_finer k a w v l =
    let low = lowest_is a w l in
    let f = low.0 in
    let g = grade f in (
      reckoning_on f v,
      is_finer w f v (contained w f low.1),
      ap (λ (t : List Fraction). exact_delay k v (exact_brake_force a v) g +F total t) (parts_are a f (steps_from v))
          ∙ ap (sum_on k a v) (sym low.2),
    )
