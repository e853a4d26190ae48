-- Bytes put one after another are their join put at once.
use Rattle.std.proofs.Common.{◌≡◌, ℕ, ◌+◌, ◌<◌, List, [], ◌∷◌, ◌++◌, length, take, drop, set, sym, ap, ◌∙◌, subst, arith, length-append, length-set, take-append-drop, length-take, length-drop, append_assoc}
use Rattle.std.proofs.lemmas.List.{take_more_set, take_at, drop-set-lt, drop-drop}
use Rattle.std.proofs.Math.Seq.{drop-append-add}
use Rattle.printing.specs.Puts.{Puts}

-- one byte
pub one : (xs : List ℕ) (at v : ℕ) → at < length xs → Puts (v ∷ []) at xs (at + 1) (set xs at v)
unfolding Puts
one xs at v lt = (
  omega arith,
  omega arith,
  sym (take-append-drop (at + 1) (set xs at v)) ∙ ap (λ l. l ++ drop (at + 1) (set xs at v)) (take_more_set xs at v lt)
      ∙ ap (λ l. (take at xs ++ v ∷ []) ++ l) (drop-set-lt (at + 1) xs at v (omega arith)) ∙ append_assoc (take at xs) (v ∷ []) (drop (at + 1) xs),
)

-- bytes, and others where they end
both : (a b xs ys zs : List ℕ) (at e f : ℕ) → Puts a at xs e ys → Puts b e ys f zs → Puts (a ++ b) at xs f zs
unfolding Puts
both a b xs ys zs at e f (ends, fits, held) (past_ends, past_fits, past_held) =
    let front = take at xs ++ a in
    let rest = drop e xs in
    let long : length front ≡ e = omega (arith, length-append (take at xs) a, length-take at xs, ends, fits) in
    let split : ys ≡ front ++ rest = held ∙ sym (append_assoc (take at xs) a rest) in
    let total : length ys ≡ length xs = ap length split ∙ omega (arith, length-append front rest, length-drop e xs, long, fits) in
    let kept : take e ys ≡ front = ap (take e) split ∙ take_at front rest e long in
    let past : drop f ys ≡ drop f xs =
    ap (drop f) split ∙ ap (λ (n : ℕ). drop n (front ++ rest)) (omega (arith, long, past_ends)) ∙ drop-append-add front rest (length b)
    ∙ drop-drop (length b) e xs ∙ ap (λ (n : ℕ). drop n xs) (sym past_ends) in (
      omega (arith, length-append a b, ends, past_ends),
      omega (arith, total, past_fits),
      past_held ∙ ap (λ l. l ++ (b ++ drop f ys)) kept ∙ ap (λ l. front ++ (b ++ l)) past ∙ append_assoc (take at xs) a (b ++ drop f xs)
          ∙ ap (λ l. take at xs ++ l) (sym (append_assoc a b (drop f xs))),
    )

-- bytes that are the join of two
pub joined : (a b c xs ys zs : List ℕ) (at e f : ℕ) → Puts a at xs e ys → Puts b e ys f zs → c ≡ a ++ b → Puts c at xs f zs
joined a b c xs ys zs at e f p q same = rw same (both a b xs ys zs at e f p q)

-- of three, and of four
pub three_joined : (a b c d xs ys zs us : List ℕ) (at e f g : ℕ) → Puts a at xs e ys → Puts b e ys f zs → Puts c f zs g us → d ≡ a ++ (b ++ c)
    → Puts d at xs g us
three_joined a b c d xs ys zs us at e f g p q r same = joined a (b ++ c) d xs ys us at e g p (both b c ys zs us e f g q r) same

pub four_joined : (a b c d w xs ys zs us vs : List ℕ) (at e f g h : ℕ) → Puts a at xs e ys → Puts b e ys f zs → Puts c f zs g us → Puts d g us h vs
    → w ≡ a ++ (b ++ (c ++ d)) → Puts w at xs h vs
four_joined a b c d w xs ys zs us vs at e f g h p q r s same =
    three_joined a b (c ++ d) w xs ys zs vs at e f h p q (both c d zs us vs f g h r s) same

-- one byte, and others behind it
pub behind : (b xs zs : List ℕ) (at v f : ℕ) → at < length xs → Puts b (at + 1) (set xs at v) f zs → Puts (v ∷ b) at xs f zs
behind b xs zs at v f lt q = both (v ∷ []) b xs (set xs at v) zs at (at + 1) f (one xs at v lt) q

-- two bytes
pub two : (xs : List ℕ) (at v w : ℕ) → at + 1 < length xs → Puts (v ∷ w ∷ []) at xs (at + 2) (set (set xs at v) (at + 1) w)
two xs at v w lt =
    let last = set (set xs at v) (at + 1) w in
    let p = behind (w ∷ []) xs last at v (at + 1 + 1) (omega arith) (one (set xs at v) (at + 1) w (omega (arith, length-set xs at v))) in
    subst (λ (e : ℕ). Puts (v ∷ w ∷ []) at xs e last) (omega arith) p
