-- What is known of a text that is a run file.
use Rattle.std.proofs.Common.{◌≡◌, ℕ, ◌≤◌, true, List, [], ◌∷◌, ◌++◌, length, sym, ap, ◌∙◌, arith}
use Rattle.std.proofs.lemmas.List.{append_assoc}
use Rattle.rules.specs.declared.fault.Fault.{Fault}
use Rattle.rules.specs.declared.figures.PointFigures.{PointFigures}
use Rattle.rules.specs.declared.figures.Question.{Question}
use Rattle.rules.specs.declared.figures.SectionFigures.{SectionFigures}
use Rattle.rules.specs.Book.{Book, Vehicle, book}
use Rattle.rules.specs.Table.{lawful_table}
use Rattle.text.specs.Outcomes.{OneOutcome}
use Rattle.text.specs.Files.{Entries}
use Rattle.text.specs.Sorts.{Proper}
use Rattle.text.proofs.Outcomes.{one_outcome}
use Rattle.runfile.specs.Run.{Request, request, run_plan, entries_of, IsRun, IsFault}
use Rattle.runfile.specs.Sorts.{point_sort}
use Rattle.runfile.specs.declared.head.Head.{Head}
use Rattle.runfile.proofs.Legible.{all_clear}

-- ---- it is the writing of one run, and has no fault

abbrev heads : Entries run_plan → List Head
heads (hs, others) = hs

abbrev points : Entries run_plan → List PointFigures
points (hs, (ps, others)) = ps

abbrev vehicles : Entries run_plan → List Vehicle
vehicles (hs, (ps, (vs, others))) = vs

abbrev sections : Entries run_plan → List SectionFigures
sections (hs, (ps, (vs, (ss, others)))) = ss

abbrev questions : Entries run_plan → List Question
questions (hs, (ps, (vs, (ss, (qs, nothing))))) = qs

same_head : (g h : Head) → g ∷ [] ≡ h ∷ [] → g ≡ h
same_head g h e = cc

module _ (text : List ℕ) where
  outcome : OneOutcome run_plan text
  outcome = one_outcome run_plan all_clear text

  pub one_run : (q r : Request) (b c : Book) → IsRun text q b → IsRun text r c → (q ≡ r) × (b ≡ c)
  one_run q r b c is was =
      let e = outcome.one_file (entries_of q b) (entries_of r c) is was in
      let h = same_head _ _ (ap heads e) in
      let k : q.kind ≡ r.kind = ap (λ (t : Head). t.kind) h in
      let l : b.distance ≡ c.distance = ap (λ (t : Head). t.distance) h in (
        ap (λ x. request x q.points q.questions) k ∙ ap (λ x. request r.kind x q.questions) (ap points e) ∙ ap (request r.kind r.points) (ap questions e),
        ap (λ x. book x b.sections b.distance) (ap vehicles e) ∙ ap (λ x. book c.vehicles x b.distance) (ap sections e)
            ∙ ap (book c.vehicles c.sections) l,
      )

  pub no_fault : (q : Request) (b : Book) (f : Fault) → IsRun text q b → IsFault text f → ⊥
  no_fault q b f = outcome.never_both (entries_of q b) f

  pub one_fault : (f g : Fault) → IsFault text f → IsFault text g → f ≡ g
  one_fault = outcome.one_fault

-- ---- its points make a table

-- each of the points makes a table with those before it, so all of them do
proper_table : (before ps : List PointFigures) (p : PointFigures) → Proper point_sort before (p ∷ ps) → lawful_table (before ++ p ∷ ps) ≡ true
proper_table before [] p (form, lawful, more) = lawful
proper_table before (q ∷ qs) p (form, lawful, more) =
    ap lawful_table (sym (append_assoc before (p ∷ []) (q ∷ qs))) ∙ proper_table (before ++ p ∷ []) qs q more

pub makes_table : (text : List ℕ) (q : Request) (b : Book) → IsRun text q b → lawful_table q.points ≡ true
makes_table text q b is = at q.points is.good.1.0.allowed.0 is.good.1.0.proper
  where
    at : (ps : List PointFigures) → 1 ≤ length ps → Proper point_sort [] ps → lawful_table ps ≡ true
    at [] few proper = absurd (omega arith)
    at (p ∷ ps) few proper = proper_table [] ps p proper
