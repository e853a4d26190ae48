use Rattle.std.proofs.Common.{◌≡◌, ℕ, List, ◌∷◌, arith, rules}
use Rattle.rules.specs.declared.figures.Question.{Question}
use Rattle.rules.specs.declared.figures.Question.TheVariants.{Stop, Speed, Mass}
use Rattle.text.specs.Fields.{Two, Three}
use Rattle.text.proofs.Patterns.{after_two}
use Rattle.runfile.specs.Lines.{QuestionForm, question_line}
use Rattle.runfile.proofs.questions.question_on.Goals as goal

-- two lines that differ in their first byte
apart : (line r q : List ℕ) (a b : ℕ) → line ≡ a ∷ (32 ∷ r) → line ≡ b ∷ (32 ∷ q) → a ≡ b
apart line r q a b e f = cc

stop : (line r : List ℕ) (x : Question) → line ≡ 83 ∷ (32 ∷ r) → QuestionForm x × (line ≡ question_line x) → (p : ℕ × ℕ × ℕ) × Three r p
stop line r (Stop q) e (form, f) = ((q.place, q.speed, q.factor), (form.0, form.1, form.2, cc))
stop line r (Speed q) e (form, f) = let n = apart line r _ 83 86 e f in absurd (omega arith)
stop line r (Mass q) e (form, f) = let n = apart line r _ 83 77 e f in absurd (omega arith)

speed : (line r : List ℕ) (x : Question) → line ≡ 86 ∷ (32 ∷ r) → QuestionForm x × (line ≡ question_line x) → (p : ℕ × ℕ) × Two r p
speed line r (Stop q) e (form, f) = let n = apart line r _ 86 83 e f in absurd (omega arith)
speed line r (Speed q) e (form, f) = ((q.place, q.factor), (form.0, form.1, cc))
speed line r (Mass q) e (form, f) = let n = apart line r _ 86 77 e f in absurd (omega arith)

mass : (line r : List ℕ) (x : Question) → line ≡ 77 ∷ (32 ∷ r) → QuestionForm x × (line ≡ question_line x) → (p : ℕ × ℕ) × Two r p
mass line r (Stop q) e (form, f) = let n = apart line r _ 77 83 e f in absurd (omega arith)
mass line r (Speed q) e (form, f) = let n = apart line r _ 77 86 e f in absurd (omega arith)
mass line r (Mass q) e (form, f) = ((q.speed, q.gross), (form.0, form.1, cc))

pub returns-in_default-triple : goal.returns-in_default-triple
returns-in_default-triple c = (
  search rules,
  λ x h.
      let p = stop c.args.text.now _ x (after_two c.args.text.now 83 32 (search rules) (search rules) (search rules)) h in
      c.in_default-triple.ensures.1 p.0 p.1,
)

pub returns-in_default-pair : goal.returns-in_default-pair
returns-in_default-pair c = (
  search rules,
  λ x h.
      let p = speed c.args.text.now _ x (after_two c.args.text.now 86 32 (search rules) (search rules) (search rules)) h in
      c.in_default-pair.ensures.1 p.0 p.1,
)

pub returns-in_default-pair-2 : goal.returns-in_default-pair-2
returns-in_default-pair-2 c = (
  search rules,
  λ x h.
      let p = mass c.args.text.now _ x (after_two c.args.text.now 77 32 (search rules) (search rules) (search rules)) h in
      c.in_default-pair-2.ensures.1 p.0 p.1,
)
