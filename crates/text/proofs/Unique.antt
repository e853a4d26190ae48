-- A line, a section and its fault are read in one way.
use Rattle.std.proofs.Common.{◌≡◌, ℕ, suc, ◌<◌, List, [], ◌∷◌, ◌++◌, length, decimal, sym, refl, ap, ◌∙◌, subst, inl, inr, arith, length-append}
use Rattle.std.proofs.lemmas.List.{append_assoc, append-nil, append_cancel_left}
use Rattle.std.proofs.ByRecursion.{All-append}
use Rattle.rules.specs.declared.refusal.Refusal.{Refusal}
use Rattle.text.specs.Numerals.{Lacks, Cut}
use Rattle.text.specs.Texts.{NoLine}
use Rattle.text.specs.Sorts.{Sort, heading, headings, Next, NextFault, lines, Proper, Read, Wrong, LinesSay}
use Rattle.text.proofs.Clear.{Clear}
use Rattle.text.proofs.Numerals.{numeral_same}
use Rattle.text.proofs.Cuts.{same_cut, not_lacks, decimal_lacks}

cut_same : (m : ℕ) (t a b r q : List ℕ) → Cut m t a r → Cut m t b q → (a ≡ b) × (r ≡ q)
cut_same m t a b r q p k = same_cut m a b r q p.first k.first (sym p.whole ∙ k.whole)

-- a text with a line has a next line
cut_line : (t a r : List ℕ) (why : Refusal) → Cut 10 t a r → NoLine t why → ⊥
cut_line t a r why p (inl (w, e)) =
    let l : length (a ++ 10 ∷ r) ≡ 0 = ap length (sym p.whole ∙ e) in omega (arith, simp length-append at l)
cut_line t a r why p (inr (w, some, none)) = not_lacks 10 a r (subst (Lacks 10) p.whole none)

no_line_same : (t : List ℕ) (why because : Refusal) → NoLine t why → NoLine t because → why ≡ because
no_line_same t why because (inl (a, e)) (inl (b, f)) = a ∙ sym b
no_line_same t why because (inl (a, e)) (inr (b, some, none)) = absurd (some e)
no_line_same t why because (inr (a, some, none)) (inl (b, e)) = absurd (some e)
no_line_same t why because (inr (a, some, none)) (inr (b, f, g)) = a ∙ sym b

module _ {X : Type 0} (s : Sort X) (clear : Clear s) where
  next_cut : (b : List X) (t : List ℕ) (x : X) (r : List ℕ) → Next s b t x r → Cut 10 t (s.written x) r
  next_cut b t x r next = record { whole = next.line; first = clear.whole x next.formed }

  -- the next line says one entry
  next_same : (b c : List X) (t : List ℕ) (x y : X) (r q : List ℕ) → Next s b t x r → Next s c t y q → (x ≡ y) × (r ≡ q)
  next_same b c t x y r q h k =
      let e = cut_same 10 t (s.written x) (s.written y) r q (next_cut b t x r h) (next_cut c t y q k) in
      (clear.same x y h.formed k.formed e.0, e.1)

  -- a next line that says a lawful entry is not at fault
  next_not_fault : (b : List X) (t : List ℕ) (x : X) (r : List ℕ) (why : Refusal) → Next s b t x r → NextFault s b t why → ⊥
  next_not_fault b t x r why h (inl none) = cut_line t (s.written x) r why (next_cut b t x r h) none
  next_not_fault b t x r why h (inr (line, q, cut, inl (w, none))) =
      none x (h.formed, (cut_same 10 t line (s.written x) q r cut (next_cut b t x r h)).0)
  next_not_fault b t x r why h (inr (line, q, cut, inr (w, (y, (form, e), bad)))) =
      let f = (cut_same 10 t line (s.written x) q r cut (next_cut b t x r h)).0 in
      bad (subst (s.Lawful b) (clear.same x y h.formed form (sym f ∙ e)) h.lawful)

  -- it is at fault in one way: either it says no entry, or one that is not lawful
  next_fault_same : (b : List X) (t : List ℕ) (why because : Refusal) → NextFault s b t why → NextFault s b t because → why ≡ because
  next_fault_same b t why because (inl a) (inl c) = no_line_same t why because a c
  next_fault_same b t why because (inl a) (inr (line, q, cut, bad)) = absurd (cut_line t line q why cut a)
  next_fault_same b t why because (inr (line, q, cut, bad)) (inl a) = absurd (cut_line t line q because cut a)
  next_fault_same b t why because (inr (line, q, cut, inl (w, none))) (inr (l, p, k, inl (v, no_one))) = w ∙ sym v
  next_fault_same b t why because (inr (line, q, cut, inl (w, none))) (inr (l, p, k, inr (v, (y, (form, e), bad)))) =
      absurd (none y (form, (cut_same 10 t line l q p cut k).0 ∙ e))
  next_fault_same b t why because (inr (line, q, cut, inr (w, (y, (form, e), bad)))) (inr (l, p, k, inl (v, none))) =
      absurd (none y (form, (cut_same 10 t l line p q k cut).0 ∙ e))
  next_fault_same b t why because (inr (line, q, cut, inr (w, z))) (inr (l, p, k, inr (v, u))) = w ∙ sym v

  -- the first of some entries stands on the next line
  first_next : (b : List X) (x : X) (xs : List X) (t r : List ℕ) → s.Formed x → s.Lawful b x → t ≡ lines s (x ∷ xs) ++ r
      → Next s b t x (lines s xs ++ r)
  first_next b x xs t r form law e =
      record {
        formed = form;
        lawful = law;
        line = e ∙ append_assoc (s.written x ++ 10 ∷ []) (lines s xs) r ∙ append_assoc (s.written x) (10 ∷ []) (lines s xs ++ r);
      }

  entries_same : (b xs ys : List X) (t r q : List ℕ) → Proper s b xs → Proper s b ys → length xs ≡ length ys
      → t ≡ lines s xs ++ r → t ≡ lines s ys ++ q → (xs ≡ ys) × (r ≡ q)
  entries_same b [] [] t r q p k len e f = (refl, sym e ∙ f)
  entries_same b [] (y ∷ ys) t r q p k len e f = absurd (omega arith)
  entries_same b (x ∷ xs) [] t r q p k len e f = absurd (omega arith)
  entries_same b (x ∷ xs) (y ∷ ys) t r q (fx, lx, p) (fy, ly, k) len e f =
      let n = next_same b b t x y _ _ (first_next b x xs t r fx lx e) (first_next b y ys t q fy ly f) in
      let l : length xs ≡ length ys = omega arith in
      let k' : Proper s (b ++ x ∷ []) ys = subst (λ z. Proper s (b ++ z ∷ []) ys) (sym n.0) k in
      let rec = entries_same (b ++ x ∷ []) xs ys _ r q p k' l refl n.1 in
      let heads = n.0 in
      let tails = rec.0 in
      (cc, rec.1)

  -- among entries none of which is wrong there is no fault
  entries_not_fault : (b xs done : List X) (t r q : List ℕ) (why : Refusal) → Proper s b xs → t ≡ lines s xs ++ r
      → Proper s b done → t ≡ lines s done ++ q → length done < length xs → NextFault s (b ++ done) q why → ⊥
  entries_not_fault b [] done t r q why p e k f less h = omega arith
  entries_not_fault b (x ∷ xs) [] t r q why (fx, lx, p) e k f less h =
      next_not_fault b q x _ why (first_next b x xs q r fx lx (sym f ∙ e)) (subst (λ d. NextFault s d q why) (append-nil b) h)
  entries_not_fault b (x ∷ xs) (y ∷ ys) t r q why (fx, lx, p) e (fy, ly, k) f less h =
      let n = next_same b b t x y _ _ (first_next b x xs t r fx lx e) (first_next b y ys t q fy ly f) in
      let p' : Proper s (b ++ y ∷ []) xs = subst (λ z. Proper s (b ++ z ∷ []) xs) n.0 p in
      let h' : NextFault s ((b ++ y ∷ []) ++ ys) q why = subst (λ d. NextFault s d q why) (sym (append_assoc b (y ∷ []) ys)) h in
      entries_not_fault (b ++ y ∷ []) xs ys _ r q why p' refl k n.1 (omega arith) h'

  -- the first fault is one
  entries_fault_same : (b xs ys : List X) (t r q : List ℕ) (why because : Refusal)
      → Proper s b xs → t ≡ lines s xs ++ r → NextFault s (b ++ xs) r why
      → Proper s b ys → t ≡ lines s ys ++ q → NextFault s (b ++ ys) q because → (length xs ≡ length ys) × (why ≡ because)
  entries_fault_same b [] [] t r q why because p e h k f g =
      (refl, next_fault_same (b ++ []) r why because h (subst (λ u. NextFault s (b ++ []) u because) (sym f ∙ e) g))
  entries_fault_same b [] (y ∷ ys) t r q why because p e h (fy, ly, k) f g =
      absurd (next_not_fault b r y _ why (first_next b y ys r q fy ly (sym e ∙ f)) (subst (λ d. NextFault s d r why) (append-nil b) h))
  entries_fault_same b (x ∷ xs) [] t r q why because (fx, lx, p) e h k f g =
      absurd (next_not_fault b q x _ because (first_next b x xs q r fx lx (sym f ∙ e)) (subst (λ d. NextFault s d q because) (append-nil b) g))
  entries_fault_same b (x ∷ xs) (y ∷ ys) t r q why because (fx, lx, p) e h (fy, ly, k) f g =
      let n = next_same b b t x y _ _ (first_next b x xs t r fx lx e) (first_next b y ys t q fy ly f) in
      let p' : Proper s (b ++ y ∷ []) xs = subst (λ z. Proper s (b ++ z ∷ []) xs) n.0 p in
      let h' : NextFault s ((b ++ y ∷ []) ++ xs) r why =
      subst (λ d. NextFault s d r why) (ap (λ z. b ++ z ∷ xs) n.0 ∙ sym (append_assoc b (y ∷ []) xs)) h in
      let g' : NextFault s ((b ++ y ∷ []) ++ ys) q because = subst (λ d. NextFault s d q because) (sym (append_assoc b (y ∷ []) ys)) g in
      let rec = entries_fault_same (b ++ y ∷ []) xs ys _ r q why because p' refl h' k n.1 g' in
      (ap suc rec.0, rec.1)

  -- headings are a clear sort too
  heads : Clear (headings s)
  heads =
      record {
        named = tt;
        short = omega arith;
        whole = λ n short. All-append _ s.name (32 ∷ decimal n) clear.named ((λ e. omega arith), decimal_lacks 10 n (omega arith) short);
        same = λ m n h k e. numeral_same (decimal m) m n (h, refl) (k, last s.name m n e);
      }
    where
      last : (a : List ℕ) (m n : ℕ) → a ++ 32 ∷ decimal m ≡ a ++ 32 ∷ decimal n → decimal m ≡ decimal n
      last a m n e = let t = append_cancel_left a (32 ∷ decimal m) (32 ∷ decimal n) e in cc

  -- a section with nothing wrong begins with its heading
  read_head : (t : List ℕ) (xs : List X) (r : List ℕ) → Read s t xs r → Next (headings s) [] t (length xs) (lines s xs ++ r)
  read_head t xs r read =
      let small = clear.short in
      let few = read.good.allowed.1 in
      record {
        formed = omega arith;
        lawful = read.good.allowed;
        line = read.section ∙ append_assoc (heading s.name (length xs)) (10 ∷ lines s xs) r;
      }

pub read_same : {X : Type 0} (s : Sort X) → Clear s → (t : List ℕ) (xs ys : List X) (r q : List ℕ)
    → Read s t xs r → Read s t ys q → (xs ≡ ys) × (r ≡ q)
read_same s clear t xs ys r q h k =
    let n = next_same (headings s) (heads s clear) [] [] t _ _ _ _ (read_head s clear t xs r h) (read_head s clear t ys q k) in
    entries_same s clear [] xs ys _ r q h.good.proper k.good.proper n.0 refl n.1

pub read_not_wrong : {X : Type 0} (s : Sort X) → Clear s → (t : List ℕ) (xs : List X) (r : List ℕ) (right : ℕ) (why : Refusal)
    → Read s t xs r → Wrong s t right why → ⊥
read_not_wrong s clear t xs r right why h (inl (zeroth, bad)) =
    next_not_fault (headings s) (heads s clear) [] t _ _ why (read_head s clear t xs r h) bad
read_not_wrong s clear t xs r right why h (inr w) =
    let n = next_same (headings s) (heads s clear) [] [] t _ _ _ _ (read_head s clear t xs r h) w.begins in
    let count = n.0 in
    let fewer = w.fault.fewer in
    entries_not_fault s clear [] xs w.fault.done _ r w.fault.rest why h.good.proper refl w.fault.begins.proper
    (n.1 ∙ w.fault.begins.lines) (omega arith) w.fault.fault

pub wrong_same : {X : Type 0} (s : Sort X) → Clear s → (t : List ℕ) (right left : ℕ) (why because : Refusal)
    → Wrong s t right why → Wrong s t left because → (right ≡ left) × (why ≡ because)
wrong_same s clear t right left why because (inl (e, bad)) (inl (f, worse)) =
    (e ∙ sym f, next_fault_same (headings s) (heads s clear) [] t why because bad worse)
wrong_same s clear t right left why because (inl (e, bad)) (inr w) =
    absurd (next_not_fault (headings s) (heads s clear) [] t w.due w.entries why w.begins bad)
wrong_same s clear t right left why because (inr w) (inl (e, bad)) =
    absurd (next_not_fault (headings s) (heads s clear) [] t w.due w.entries because w.begins bad)
wrong_same s clear t right left why because (inr w) (inr v) =
    let a = w.fault in
    let b = v.fault in
    let n = next_same (headings s) (heads s clear) [] [] t _ _ _ _ w.begins v.begins in
    let one =
    entries_fault_same s clear [] a.done b.done w.entries a.rest b.rest why because
    a.begins.proper a.begins.lines a.fault b.begins.proper (n.1 ∙ b.begins.lines) b.fault in
    (omega (arith, one.0, a.counted, b.counted, w.counted, v.counted), one.1)

pub lines_say_same : {X : Type 0} (s : Sort X) → Clear s → (t : List ℕ) (right : ℕ) (xs ys : List X)
    → LinesSay s t right xs → LinesSay s t right ys → xs ≡ ys
lines_say_same s clear t right xs ys (inl (e, none)) (inl (f, nil)) = none ∙ sym nil
lines_say_same s clear t right xs ys (inl (e, none)) (inr (f, k)) = absurd (omega arith)
lines_say_same s clear t right xs ys (inr (e, h)) (inl (f, nil)) = absurd (omega arith)
lines_say_same s clear t right xs ys (inr (e, h)) (inr (f, k)) =
    let n = next_same (headings s) (heads s clear) [] [] t _ _ _ _ h.heading k.heading in
    let same =
    entries_same s clear [] xs ys h.entries h.rest k.rest h.begins.proper k.begins.proper (omega arith) h.begins.lines
    (n.1 ∙ k.begins.lines) in
    same.0
