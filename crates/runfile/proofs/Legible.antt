-- Each line of a run file is read in one way.
use Rattle.std.proofs.Common.{◌≡◌, ℕ, ◌<◌, Bool, true, false, cond, eqb, List, [], ◌∷◌, ◌++◌, ℤ, decimal, sym, refl, ap, ◌∙◌, arith}
use Rattle.std.specs.Fmt.{signed_decimal}
use Rattle.laws.specs.Kinds.{letter_of}
use Rattle.laws.specs.declared.kind.KindLetter.{KindLetter}
use Rattle.laws.specs.declared.kind.KindLetter.TheVariants.{F, P, E, H, J}
use Rattle.rules.specs.declared.figures.PointFigures.{PointFigures}
use Rattle.rules.specs.declared.figures.Question.{Question}
use Rattle.rules.specs.declared.figures.Question.TheVariants.{Stop, Speed, Mass}
use Rattle.rules.specs.declared.figures.SectionFigures.{SectionFigures}
use Rattle.rules.specs.Book.{Vehicle}
use Rattle.rules.specs.Questions.{lawful_letter}
use Rattle.text.proofs.Clear.{Clear, ClearAll}
use Rattle.text.specs.Fields.{flag, spaced}
use Rattle.text.specs.Numerals.{Short, Lacks}
use Rattle.text.proofs.Cuts.{leads_same, leads_signed_same}
use Rattle.text.proofs.Legible.{field_plain, decimal_plain, signed_plain, flag_plain, two_plain, three_plain, decimal_same, flag_same, two_same, three_same}
use Rattle.runfile.specs.Run.{run_plan}
use Rattle.runfile.specs.Sorts.{head_sort, point_sort, vehicle_sort, section_sort, question_sort}
use Rattle.runfile.specs.declared.head.Head.{Head}

-- the name in a heading
name : (a b c : ℕ) → 10 < a → 10 < b → 10 < c → Lacks 10 (a ∷ (b ∷ (c ∷ [])))
name a b c p q r = ((λ e. omega arith), ((λ e. omega arith), ((λ e. omega arith), tt)))

-- ---- the head

abbrev letter : KindLetter → ℕ
letter F = 70
letter P = 80
letter E = 69
letter H = 72
letter J = 74

is_letter : (k : KindLetter) → letter_of k ≡ letter k ∷ []
is_letter F = refl
is_letter P = refl
is_letter E = refl
is_letter H = refl
is_letter J = refl

capital : (k : KindLetter) → letter k ≡ 10 → ⊥
capital F e = omega arith
capital P e = omega arith
capital E e = omega arith
capital H e = omega arith
capital J e = omega arith

kind_of : ℕ → KindLetter
kind_of n = cond (eqb n 70) F (cond (eqb n 80) P (cond (eqb n 69) E (cond (eqb n 72) H J)))

kind_back : (k : KindLetter) → kind_of (letter k) ≡ k
unfolding kind_of
kind_back F = refl
kind_back P = refl
kind_back E = refl
kind_back H = refl
kind_back J = refl

pub heads : Clear head_sort
heads = record { named = name 82 85 78 (omega arith) (omega arith) (omega arith); short = omega arith; whole = whole; same = same }
  where
    whole : (h : Head) → Short h.distance → Lacks 10 (letter_of h.kind ++ 32 ∷ decimal h.distance)
    whole h s = rw (is_letter h.kind) (capital h.kind, ((λ e. omega arith), decimal_plain h.distance s))

    same : (a b : Head) → Short a.distance → Short b.distance
        → letter_of a.kind ++ 32 ∷ decimal a.distance ≡ letter_of b.kind ++ 32 ∷ decimal b.distance → a ≡ b
    same a b p q e =
        let same_line : letter a.kind ∷ 32 ∷ decimal a.distance ≡ letter b.kind ∷ 32 ∷ decimal b.distance =
        ap (λ (t : List ℕ). t ++ 32 ∷ decimal a.distance) (sym (is_letter a.kind)) ∙ e ∙ ap (λ (t : List ℕ). t ++ 32 ∷ decimal b.distance) (is_letter b.kind) in
        let l : letter a.kind ≡ letter b.kind = cc in
        let d : decimal a.distance ≡ decimal b.distance = cc in
        let k = sym (kind_back a.kind) ∙ ap kind_of l ∙ kind_back b.kind in
        let n = decimal_same a.distance b.distance p q d in
        let make : KindLetter → ℕ → Head = λ x y. record { kind = x; distance = y } in
        ap (λ x. make x a.distance) k ∙ ap (make b.kind) n

-- ---- points

pub points : Clear point_sort
points = record { named = name 80 85 76 (omega arith) (omega arith) (omega arith); short = omega arith; whole = λ p h. two_plain p.speed p.value h.0 h.1; same = same }
  where
    same : (a b : PointFigures) → Short a.speed × Short a.value → Short b.speed × Short b.value
        → spaced (decimal a.speed ∷ decimal a.value ∷ []) ≡ spaced (decimal b.speed ∷ decimal b.value ∷ []) → a ≡ b
    same a b p q e =
        let k = two_same a.speed a.value b.speed b.value p.0 p.1 q.0 q.1 e in
        let make : ℕ → ℕ → PointFigures = λ x y. record { speed = x; value = y } in
        ap (λ x. make x a.value) k.0 ∙ ap (make b.speed) k.1

-- ---- vehicles

no_letter : lawful_letter 10 ≡ false
no_letter = refl

-- what stands behind the letter
abbrev tail : Vehicle → List ℕ
tail v = decimal v.figures.mass ++ 32 ∷ (decimal v.figures.pressure ++ 32 ∷ flag v.braked)

pub vehicles : Clear vehicle_sort
vehicles = record { named = name 86 69 72 (omega arith) (omega arith) (omega arith); short = omega arith; whole = whole; same = same }
  where
    feed : (n : ℕ) → lawful_letter n ≡ true → n ≡ 10 → ⊥
    feed n h e =
        let z : ◌≡◌ {A = Bool} false true = sym no_letter ∙ ap lawful_letter (sym e) ∙ h in
        let w : ◌≡◌ {A = ℕ} 0 1 = ap (λ b. cond b 1 0) z in
        omega arith

    whole : (v : Vehicle) → vehicle_sort.Formed v → Lacks 10 (vehicle_sort.written v)
    whole v h = (
      feed v.figures.letter h.0,
      (
        (λ e. omega arith),
        field_plain (decimal v.figures.mass) _ (decimal_plain v.figures.mass h.1)
            (field_plain (decimal v.figures.pressure) _ (decimal_plain v.figures.pressure h.2) (flag_plain v.braked)),
      ),
    )

    same : (a b : Vehicle) → vehicle_sort.Formed a → vehicle_sort.Formed b → vehicle_sort.written a ≡ vehicle_sort.written b → a ≡ b
    same a b p q e =
        let l : a.figures.letter ≡ b.figures.letter = cc in
        let t : tail a ≡ tail b = cc in
        let m = leads_same (tail a) a.figures.mass b.figures.mass _ (decimal b.figures.pressure ++ 32 ∷ flag b.braked) (p.1, refl) (q.1, t) in
        let k = leads_same _ a.figures.pressure b.figures.pressure _ (flag b.braked) (p.2, refl) (q.2, m.1) in
        let f = flag_same a.braked b.braked k.1 in
        let make : ℕ → ℕ → ℕ → Bool → Vehicle =
        λ w x y z. record { figures = record { letter = w; mass = x; pressure = y }; braked = z } in
        ap (λ w. make w a.figures.mass a.figures.pressure a.braked) l ∙ ap (λ x. make b.figures.letter x a.figures.pressure a.braked) m.0
        ∙ ap (λ y. make b.figures.letter b.figures.mass y a.braked) k.0 ∙ ap (make b.figures.letter b.figures.mass b.figures.pressure) f

-- ---- sections

pub sections : Clear section_sort
sections = record { named = name 83 69 67 (omega arith) (omega arith) (omega arith); short = omega arith; whole = whole; same = same }
  where
    whole : (x : SectionFigures) → section_sort.Formed x → Lacks 10 (section_sort.written x)
    whole x h =
        field_plain (decimal x.metres) _ (decimal_plain x.metres h.0)
        (field_plain (signed_decimal x.gradient) _ (signed_plain x.gradient h.1) (three_plain x.curve x.radius x.stop h.2 h.3 h.4))

    same : (a b : SectionFigures) → section_sort.Formed a → section_sort.Formed b → section_sort.written a ≡ section_sort.written b → a ≡ b
    same a b p q e =
        let l =
        leads_same _ a.metres b.metres _ (spaced (signed_decimal b.gradient ∷ decimal b.curve ∷ decimal b.radius ∷ decimal b.stop ∷ [])) (p.0, refl)
        (q.0, e) in
        let g = leads_signed_same _ a.gradient b.gradient _ (spaced (decimal b.curve ∷ decimal b.radius ∷ decimal b.stop ∷ [])) (p.1, refl) (q.1, l.1) in
        let t = three_same a.curve a.radius a.stop b.curve b.radius b.stop p.2 p.3 p.4 q.2 q.3 q.4 g.1 in
        let make : ℕ → ℤ → ℕ → ℕ → ℕ → SectionFigures =
        λ v w x y z. record { metres = v; gradient = w; curve = x; radius = y; stop = z } in
        ap (λ v. make v a.gradient a.curve a.radius a.stop) l.0 ∙ ap (λ w. make b.metres w a.curve a.radius a.stop) g.0
        ∙ ap (λ x. make b.metres b.gradient x a.radius a.stop) t.0 ∙ ap (λ y. make b.metres b.gradient b.curve y a.stop) t.1
        ∙ ap (make b.metres b.gradient b.curve b.radius) t.2

-- ---- questions

pub questions : Clear question_sort
questions = record { named = name 65 83 75 (omega arith) (omega arith) (omega arith); short = omega arith; whole = whole; same = same }
  where
    whole : (x : Question) → question_sort.Formed x → Lacks 10 (question_sort.written x)
    whole (Stop q) h = ((λ e. omega arith), ((λ e. omega arith), three_plain q.place q.speed q.factor h.0 h.1 h.2))
    whole (Speed q) h = ((λ e. omega arith), ((λ e. omega arith), two_plain q.place q.factor h.0 h.1))
    whole (Mass q) h = ((λ e. omega arith), ((λ e. omega arith), two_plain q.speed q.gross h.0 h.1))

    apart : (r q : List ℕ) (a b : ℕ) → a ∷ (32 ∷ r) ≡ b ∷ (32 ∷ q) → (a ≡ b) × (r ≡ q)
    apart r q a b e = (cc, cc)

    same : (x y : Question) → question_sort.Formed x → question_sort.Formed y → question_sort.written x ≡ question_sort.written y → x ≡ y
    same (Stop x) (Stop y) p q e =
        let k = three_same x.place x.speed x.factor y.place y.speed y.factor p.0 p.1 p.2 q.0 q.1 q.2 (apart _ _ 83 83 e).1 in
        let make : ℕ → ℕ → ℕ → Question = λ a b c. Stop (record { place = a; speed = b; factor = c }) in
        ap (λ a. make a x.speed x.factor) k.0 ∙ ap (λ b. make y.place b x.factor) k.1 ∙ ap (make y.place y.speed) k.2
    same (Stop x) (Speed y) p q e = let n = (apart _ _ 83 86 e).0 in absurd (omega arith)
    same (Stop x) (Mass y) p q e = let n = (apart _ _ 83 77 e).0 in absurd (omega arith)
    same (Speed x) (Stop y) p q e = let n = (apart _ _ 86 83 e).0 in absurd (omega arith)
    same (Speed x) (Speed y) p q e =
        let k = two_same x.place x.factor y.place y.factor p.0 p.1 q.0 q.1 (apart _ _ 86 86 e).1 in
        let make : ℕ → ℕ → Question = λ a b. Speed (record { place = a; factor = b }) in
        ap (λ a. make a x.factor) k.0 ∙ ap (make y.place) k.1
    same (Speed x) (Mass y) p q e = let n = (apart _ _ 86 77 e).0 in absurd (omega arith)
    same (Mass x) (Stop y) p q e = let n = (apart _ _ 77 83 e).0 in absurd (omega arith)
    same (Mass x) (Speed y) p q e = let n = (apart _ _ 77 86 e).0 in absurd (omega arith)
    same (Mass x) (Mass y) p q e =
        let k = two_same x.speed x.gross y.speed y.gross p.0 p.1 q.0 q.1 (apart _ _ 77 77 e).1 in
        let make : ℕ → ℕ → Question = λ a b. Mass (record { speed = a; gross = b }) in
        ap (λ a. make a x.gross) k.0 ∙ ap (make y.speed) k.1

pub all_clear : ClearAll run_plan
all_clear = (heads, (points, (vehicles, (sections, (questions, tt)))))
