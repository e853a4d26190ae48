-- Questions answered one after another, a line each.
use Rattle.std.proofs.Common.{◌≡◌, ℕ, suc, ◌+◌, ◌*◌, ◌<◌, ◌≤◌, List, [], ◌∷◌, ◌++◌, map, length, get_or, take, sym, refl, ap, ◌∙◌, subst, arith}
use Rattle.std.proofs.lemmas.List.{take_more, take_all, length-map, length-append, length-take, get_or-map, append_assoc, append-nil}
use Rattle.laws.specs.Kinds.{kind_by_letter}
use Rattle.laws.specs.declared.kind.KindLetter.{KindLetter}
use Rattle.rules.specs.declared.figures.Question.{Question}
use Rattle.rules.specs.Book.{Book}
use Rattle.rules.specs.History.{Event, ask, inquiry, reply, next, replies, after, Run}
use Rattle.rules.specs.Law.{Stock}
use Rattle.rules.specs.Refusals.{Reply}
use Rattle.rules.proofs.Histories.{replies_more, after_more, run_more}
use Rattle.printing.specs.Lines.{reply_line}
use Rattle.runfile.specs.Run.{request}
use Rattle.answering.specs.Answers.{numbered, LineAdded, AnsweredBy}

count_replies : (b : Book) (es : List Event) → length (replies b es) ≡ length es
count_replies b [] = refl
count_replies b (e ∷ es) = ap suc (count_replies (next b e) es)

numbered_more : (n : ℕ) (rs : List Reply) (r : Reply) → numbered n (rs ++ r ∷ []) ≡ numbered n rs ++ reply_line (n + length rs) r
numbered_more n [] r =
    let same : n ≡ n + 0 = omega arith in
    append-nil (reply_line n r) ∙ ap (λ (t : ℕ). reply_line t r) same
numbered_more n (q ∷ rs) r =
    let same : suc n + length rs ≡ n + suc (length rs) = omega arith in
    ap (λ (t : List ℕ). reply_line n q ++ t) (numbered_more (suc n) rs r)
    ∙ ap (λ (t : ℕ). reply_line n q ++ (numbered (suc n) rs ++ reply_line t r)) same
    ∙ sym (append_assoc (reply_line n q) (numbered (suc n) rs) (reply_line (n + suc (length rs)) r))

module _ (s : Stock) (b : Book) (k : KindLetter) (questions : List Question) where
  abbrev event : Question → Event
  event q = ask (inquiry (kind_by_letter k) s q)

  abbrev calls : List Event
  calls = map event questions

  -- the calls of the first i questions
  abbrev first : ℕ → List Event
  first i = take i calls

  -- the first i questions are answered
  pub record Kept (i : ℕ) (out : List ℕ) : Type 0 where
    pub lines : out ≡ numbered 1 (replies b (first i))
    pub room : length out ≤ 64 * i
    pub held : b ≡ after b (first i)
    pub run : Run b (first i) (replies b (first i)) b

  pub begins : Kept 0 []
  begins = record { lines = refl; room = omega arith; held = refl; run = refl }

  -- one question more
  pub turn : (i : ℕ) (out new : List ℕ) (d : Question) → Kept i out → i < length questions
      → LineAdded b (event (get_or questions i d)) (i + 1) out new → Kept (i + 1) new
  turn i out new d kept lt added =
      let r = added.reply in
      let made = added.performed in
      let short = added.short in
      let is = added.printed in
      let x = get_or questions i d in
      let long : i < length calls = rw (length-map questions event) lt in
      let here : get_or calls i (event x) ≡ event x = get_or-map event questions i d (event x) lt in
      let more_calls : first (i + 1) ≡ first i ++ event x ∷ [] =
      take_more calls i (event x) long ∙ ap (λ (t : Event). first i ++ t ∷ []) here in
      let is_reply : r ≡ reply (after b (first i)) (event x) = made.told ∙ ap (λ (t : Book). reply t (event x)) kept.held in
      let more : replies b (first i ++ event x ∷ []) ≡ replies b (first i) ++ r ∷ [] =
      replies_more b (first i) (event x) ∙ ap (λ (t : Reply). replies b (first i) ++ t ∷ []) (sym is_reply) in
      let count : length (replies b (first i)) ≡ i = count_replies b (first i) ∙ omega (arith, length-take i calls) in
      let line : 1 + length (replies b (first i)) ≡ i + 1 = omega (arith, count) in
      record {
        lines =
            is ∙ ap (λ (t : List ℕ). t ++ reply_line (i + 1) r) kept.lines
            ∙ ap (λ (t : ℕ). numbered 1 (replies b (first i)) ++ reply_line t r) (sym line)
            ∙ sym (numbered_more 1 (replies b (first i)) r)
            ∙ ap (numbered 1) (sym more) ∙ ap (λ (t : List Event). numbered 1 (replies b t)) (sym more_calls);
        room = omega (arith, ap length is, length-append out (reply_line (i + 1) r), kept.room, short);
        held =
            made.held ∙ ap (λ (t : Book). next t (event x)) kept.held ∙ sym (after_more b (first i) (event x)) ∙ ap (after b) (sym more_calls);
        run =
            subst (λ (t : List Event). Run b t (replies b t) b) (sym more_calls)
            (subst (λ (t : List Reply). Run b (first i ++ event x ∷ []) t b) (sym more)
            (run_more b b b (first i) (replies b (first i)) (event x) r kept.run made));
      }

  -- where all are answered
  pub ends : (i : ℕ) (out : List ℕ) → Kept i out → i ≡ length questions → AnsweredBy s (request k [] questions) b out
  ends i out kept all =
      let whole : first i ≡ calls = take_all i calls (omega (arith, length-map questions event)) in
      record {
        replies = replies b calls;
        history = record { told = refl; held = kept.held ∙ ap (after b) whole; run = subst (λ (t : List Event). Run b t (replies b t) b) whole kept.run };
        lines = kept.lines ∙ ap (λ (t : List Event). numbered 1 (replies b t)) whole;
      }
