-- The lines that answer a run file.
use Rattle.std.specs.Prelude.{◌≡◌, ℕ, suc, ◌≤◌, List, length, [], ◌∷◌, ◌++◌, map, Some, None, Option}
use Rattle.std.specs.Io.KnownBytes.{Appends}
use Rattle.laws.specs.Kinds.{kind_by_letter}
use Rattle.rules.specs.declared.fault.Fault.{Fault}
use Rattle.rules.specs.declared.figures.PointFigures.{PointFigures}
use Rattle.rules.specs.Book.{Book, new_book}
use Rattle.rules.specs.History.{Event, ask, inquiry, Performed, History}
use Rattle.rules.specs.Law.{Stock}
use Rattle.rules.specs.Refusals.{Reply}
use Rattle.printing.specs.Lines.{reply_line, fault_line}
use Rattle.runfile.specs.Run.{Request, IsRun, IsFault}

-- the calls that a run file makes: its questions in their order, each with its kind of brake and the laws of its train
abbrev pub calls_of : Stock → Request → List Event
calls_of s q = map (λ question. ask (inquiry (kind_by_letter q.kind) s question)) q.questions

-- the lines of replies, numbered from n on
abbrev pub numbered : ℕ → List Reply → List ℕ
numbered n [] = []
numbered n (r ∷ rs) = reply_line n r ++ numbered (suc n) rs

-- one call performed on the book, which stays, and the line of its reply printed behind the others
pub record LineAdded (b : Book) (e : Event) (number : ℕ) (old new : List ℕ) : Type 0 where
  pub reply : Reply
  pub performed : Performed b e reply b
  pub printed : new ≡ old ++ reply_line number reply
  pub short : length (reply_line number reply) ≤ 64

-- a run with the laws of its train is answered by its book: of its questions the whole promise about histories holds, and the n-th
-- line is the reply to the n-th
pub record AnsweredBy (s : Stock) (q : Request) (b : Book) (out : List ℕ) : Type 0 where
  pub replies : List Reply
  pub history : History b (calls_of s q) replies b
  pub lines : out ≡ numbered 1 replies

-- what a text comes to, where a train is equipped from the points of the pull table: it is a run, which stands on the sheet and is
-- answered; or it has a fault, which is the one line, and the sheet is as a new one
abbrev pub Answered : (List PointFigures → Stock) → List ℕ → Option Request → Book → List ℕ → Type 0
Answered equip text (Some q) b out = IsRun text q b × AnsweredBy (equip q.points) q b out
Answered equip text None b out = (f : Fault) × IsFault text f × (b ≡ new_book) × (out ≡ fault_line f)

-- the lines that answer a text are written behind what was written before, where that is known
abbrev pub AnsweredInto : (List PointFigures → Stock) → Option (List ℕ) → Option (List ℕ) → List ℕ → Type 0
AnsweredInto equip before after text =
    (file : Option Request) × (b : Book) × (out : List ℕ) × Answered equip text file b out × Appends before after out
