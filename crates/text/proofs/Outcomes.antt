-- A whole text has one outcome.
use Rattle.std.proofs.Common.{[], ◌≡◌, ℕ, ◌+◌, ◌≤◌, List, length, sym, refl, ap, ◌∙◌, subst, inl, inr, arith}
use Rattle.rules.specs.declared.fault.Fault.{Fault}
use Rattle.rules.specs.declared.refusal.Refusal.{Refusal}
use Rattle.text.specs.Sorts.{Sort, Read, Wrong}
use Rattle.text.specs.Files.{Plan, nothing, first, Entries, plan_text, AllGood, Accepts, FaultIn, FileFault}
use Rattle.text.specs.Outcomes.{OneOutcome}
use Rattle.text.proofs.Clear.{ClearAll}
use Rattle.text.proofs.Unique.{read_same, read_not_wrong, wrong_same}

-- section by section: each has nothing wrong, and nothing follows the last
abbrev pub Accepted : (plan : Plan) → List ℕ → Entries plan → Type 0
Accepted nothing text _ = text ≡ []
Accepted (first s more) text (xs, others) = (rest : List ℕ) × Read s text xs rest × Accepted more rest others

fault_is : (f g : Fault) → f.line ≡ g.line → f.refusal ≡ g.refusal → f ≡ g
fault_is f g p q =
    let make : ℕ → Refusal → Fault = λ l w. record { line = l; refusal = w } in ap (make f.line) q ∙ ap (λ l. make l g.refusal) p

-- ---- one fault, or one reading

fault_same : (plan : Plan) → ClearAll plan → (line : ℕ) (t : List ℕ) (f g : Fault) → FaultIn plan line t f → FaultIn plan line t g → f ≡ g
fault_same nothing clear above t f g (some, why, line) (more, because, row) = fault_is f g (line ∙ sym row) (why ∙ sym because)
fault_same (first s plan) clear above t f g (inl (right, wrong, line)) (inl (left, bad, row)) =
    let e = wrong_same s clear.0 t right left f.refusal g.refusal wrong bad in fault_is f g (omega (arith, e.0)) e.1
fault_same (first s plan) clear above t f g (inl (right, wrong, line)) (inr (xs, rest, read, later)) =
    absurd (read_not_wrong s clear.0 t xs rest right f.refusal read wrong)
fault_same (first s plan) clear above t f g (inr (xs, rest, read, later)) (inl (right, wrong, line)) =
    absurd (read_not_wrong s clear.0 t xs rest right g.refusal read wrong)
fault_same (first s plan) clear above t f g (inr (xs, rest, read, later)) (inr (ys, more, again, last)) =
    let e = read_same s clear.0 t xs ys rest more read again in
    let n = ap (λ zs. above + (length zs + 1)) e.0 in
    let moved = subst (λ k. FaultIn plan k more f) n (subst (λ u. FaultIn plan (above + (length xs + 1)) u f) e.1 later) in
    fault_same plan clear.1 (above + (length ys + 1)) more f g moved last

accepted_no_fault : (plan : Plan) → ClearAll plan → (line : ℕ) (t : List ℕ) (es : Entries plan) (f : Fault)
    → Accepted plan t es → FaultIn plan line t f → ⊥
accepted_no_fault nothing clear above t es f e (some, why, line) = some e
accepted_no_fault (first s plan) clear above t (xs, es) f (rest, read, ok) (inl (right, wrong, line)) =
    read_not_wrong s clear.0 t xs rest right f.refusal read wrong
accepted_no_fault (first s plan) clear above t (xs, es) f (rest, read, ok) (inr (ys, more, again, later)) =
    let e = read_same s clear.0 t xs ys rest more read again in
    accepted_no_fault plan clear.1 _ more es f (subst (λ u. Accepted plan u es) e.1 ok) later

accepted_same : (plan : Plan) → ClearAll plan → (t : List ℕ) (es ds : Entries plan) → Accepted plan t es → Accepted plan t ds → es ≡ ds
accepted_same nothing clear t es ds e f = refl
accepted_same (first {X} s plan) clear t (xs, es) (ys, ds) (rest, read, ok) (more, again, fine) =
    let e = read_same s clear.0 t xs ys rest more read again in
    let d = accepted_same plan clear.1 more es ds (subst (λ u. Accepted plan u es) e.1 ok) fine in
    let make : List X → Entries plan → Entries (first s plan) = λ x y. (x, y) in
    ap (λ x. make x es) e.0 ∙ ap (make ys) d

-- ---- section after section

-- the first section is wrong
pub fault_here : {X : Type 0} (s : Sort X) (plan : Plan) (line : ℕ) (t : List ℕ) (f : Fault)
    → ((right : ℕ) × Wrong s t right f.refusal × (f.line ≡ line + (right + 1))) → FaultIn (first s plan) line t f
fault_here s plan line t f wrong = inl wrong

-- the first section has nothing wrong, and a fault follows
pub fault_beyond : {X : Type 0} (s : Sort X) (plan : Plan) (line next : ℕ) (t : List ℕ) (xs : List X) (rest : List ℕ) (f : Fault)
    → Read s t xs rest → next ≡ line + (length xs + 1) → FaultIn plan next rest f → FaultIn (first s plan) line t f
fault_beyond s plan line next t xs rest f read e later = inr (xs, rest, read, subst (λ l. FaultIn plan l rest f) e later)

-- the first section has nothing wrong, and neither has what follows
pub accepted_beyond : {X : Type 0} (s : Sort X) (plan : Plan) (t : List ℕ) (xs : List X) (rest : List ℕ) (es : Entries plan)
    → Read s t xs rest → Accepted plan rest es → Accepted (first s plan) t (xs, es)
accepted_beyond s plan t xs rest es read more = (rest, read, more)

-- the text of good entries is accepted as these, and what is accepted is the text of good entries
pub good_accepted : (plan : Plan) (t : List ℕ) (es : Entries plan) → AllGood plan es → t ≡ plan_text plan es → Accepted plan t es
good_accepted nothing t es good e = e
good_accepted (first s plan) t (xs, es) (good, others) e =
    (plan_text plan es, record { good = good; section = e }, good_accepted plan (plan_text plan es) es others refl)

pub accepted_good : (plan : Plan) (t : List ℕ) (es : Entries plan) → Accepted plan t es → AllGood plan es × (t ≡ plan_text plan es)
accepted_good nothing t es e = (tt, e)
accepted_good (first s plan) t (xs, es) (rest, read, ok) =
    let more = accepted_good plan rest es ok in
    let section = read.section in
    let follows = more.1 in
    ((read.good, more.0), cc)

pub accepted_accepts : (plan : Plan) (t : List ℕ) (es : Entries plan) → length t ≤ 65536 → Accepted plan t es → Accepts plan t es
accepted_accepts plan t es short ok = let e = accepted_good plan t es ok in record { short = short; good = e.0; is = e.1 }

-- for clear sorts of line a text has one outcome
pub one_outcome : (plan : Plan) → ClearAll plan → (text : List ℕ) → OneOutcome plan text
one_outcome plan clear text = record { one_fault = one_fault; never_both = never_both; one_file = one_file }
  where
    accepted : (es : Entries plan) → Accepts plan text es → Accepted plan text es
    accepted es a = good_accepted plan text es a.good a.is

    one_fault : (f g : Fault) → FileFault plan text f → FileFault plan text g → f ≡ g
    one_fault f g (inl (large, why, line)) (inl (big, because, row)) = fault_is f g (line ∙ sym row) (why ∙ sym because)
    one_fault f g (inl (large, why, line)) (inr (small, fault)) = absurd (omega arith)
    one_fault f g (inr (small, fault)) (inl (large, why, line)) = absurd (omega arith)
    one_fault f g (inr (small, fault)) (inr (little, error)) = fault_same plan clear 0 text f g fault error

    never_both : (es : Entries plan) (f : Fault) → Accepts plan text es → FileFault plan text f → ⊥
    never_both es f a (inl (large, why, line)) = let small = a.short in omega arith
    never_both es f a (inr (small, bad)) = accepted_no_fault plan clear 0 text es f (accepted es a) bad

    one_file : (es ds : Entries plan) → Accepts plan text es → Accepts plan text ds → es ≡ ds
    one_file es ds a b = accepted_same plan clear text es ds (accepted es a) (accepted ds b)
