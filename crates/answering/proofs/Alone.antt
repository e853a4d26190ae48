-- One question of a run put alone.
use Rattle.std.proofs.Common.{◌≡◌, ℕ, zero, suc, ◌-◌, List, [], ◌∷◌, map, slice_get, Some, None, Option, IfSome, Ok, refl, sym, ap, ◌∙◌, subst, arith}
use Rattle.std.specs.Option.{option_map}
use Rattle.laws.specs.Kinds.{kind_by_letter}
use Rattle.laws.specs.declared.kind.KindLetter.{KindLetter}
use Rattle.rules.specs.declared.figures.PointFigures.{PointFigures}
use Rattle.rules.specs.declared.figures.Question.{Question}
use Rattle.rules.specs.Book.{Book}
use Rattle.rules.specs.History.{Event, ask, inquiry, questions, reply, next, replies, Performed}
use Rattle.rules.specs.Law.{Stock}
use Rattle.rules.specs.Refusals.{Reply, first_no, unless}
use Rattle.printing.specs.Lines.{reply_line}
use Rattle.runfile.specs.Run.{Request, questions_of}
use Rattle.answering.specs.Alone.{IsNth, AnswerPut, NthLine, NthAnswered}

get_map : {X Y : Type 0} (f : X → Y) (xs : List X) (i : ℕ) (x : X) → slice_get xs i ≡ Some x → slice_get (map f xs) i ≡ Some (f x)
get_map f [] i x h = absurd (let z : ◌≡◌ {A = ℕ} 0 1 = cc in omega arith)
get_map f (y ∷ ys) zero x h = let same : y ≡ x = cc in ap (λ t. Some (f t)) same
get_map f (y ∷ ys) (suc i) x h = get_map f ys i x h

unchanged : (o : Option ℕ) (b : Book) → unless o b b ≡ b
unchanged None b = refl
unchanged (Some n) b = refl

module _ (k : KindLetter) (s : Stock) (b : Book) where
  abbrev call : Question → Event
  call x = ask (inquiry (kind_by_letter k) s x)

  -- a question changes nothing, so that the replies to the others do not matter
  nth_reply : (xs : List Question) (i : ℕ) (x : Question) → slice_get xs i ≡ Some x → slice_get (replies b (map call xs)) i ≡ Some (reply b (call x))
  nth_reply [] i x h = absurd (let z : ◌≡◌ {A = ℕ} 0 1 = cc in omega arith)
  nth_reply (y ∷ ys) zero x h = let same : y ≡ x = cc in ap (λ t. Some (reply b (call t))) same
  nth_reply (y ∷ ys) (suc i) x h =
      let stays : next b (call y) ≡ b = unchanged (first_no (questions b (call y))) b in
      subst (λ c. slice_get (replies c (map call ys)) i ≡ Some (reply b (call x))) (sym stays) (nth_reply ys i x h)

  pub nth_line : (points : List PointFigures) (xs : List Question) (n : ℕ) (x : Question) (r : Reply) → IsNth n xs x → Performed b (call x) r b
      → NthLine s (record { kind = k; points = points; questions = xs }) b n (reply_line n r)
  nth_line points xs n x r nth made =
      record {
        call = call x;
        asked = (nth.0, get_map call xs (n - 1) x nth.1);
        reply = r;
        told = (nth.0, nth_reply xs (n - 1) x nth.1 ∙ ap Some (sym made.told));
        history = record { told = ap (λ t. t ∷ []) made.told; held = made.held; run = (b, made, refl) };
        printed = refl;
      }

-- the question of a number of the file that was read
pub answered : (equip : List PointFigures → Stock) (file : Option Request) (b : Book) (n : ℕ) (k : KindLetter) (points : List PointFigures) (x : Question)
    (before after : List ℕ) (length : ℕ) → option_map (λ q. q.kind) file ≡ Some k → option_map (λ q. q.points) file ≡ Some points
    → IsNth n (questions_of file) x → AnswerPut b (ask (inquiry (kind_by_letter k) (equip points) x)) n before length after
    → IfSome file (λ q. NthAnswered (equip q.points) q b n before (Ok length) after)
answered equip None b n k points x before after length hk hp nth put = tt
answered equip (Some q) b n k points x before after length hk hp nth (r, made, line) =
    let kinds : q.kind ≡ k = cc in
    let tables : q.points ≡ points = cc in (
      reply_line n r,
      nth_line q.kind (equip q.points) b q.points q.questions n x r nth
          (subst (λ t. Performed b (ask (inquiry (kind_by_letter t) (equip q.points) x)) r b) (sym kinds)
          (subst (λ t. Performed b (ask (inquiry (kind_by_letter k) (equip t) x)) r b) (sym tables) made)),
      line,
    )
