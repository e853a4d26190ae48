-- One question of a run file answered alone, the fault of a text, and how many questions it asks.
use Rattle.std.specs.Prelude.{◌≡◌, ℕ, ◌-◌, ◌<◌, ◌≤◌, ◌⊎◌, List, [], ◌∷◌, ◌++◌, length, drop, slice_get, Some, None, Ok, Err, Option, Result}
use Rattle.rules.specs.declared.fault.Fault.{Fault}
use Rattle.rules.specs.declared.figures.PointFigures.{PointFigures}
use Rattle.rules.specs.declared.refusal.Refusal.{Refusal}
use Rattle.rules.specs.Book.{Book, new_book}
use Rattle.rules.specs.History.{Event, replies, Performed, History}
use Rattle.rules.specs.Law.{Stock}
use Rattle.rules.specs.Refusals.{Reply, number_of}
use Rattle.printing.specs.Lines.{reply_line, fault_line}
use Rattle.runfile.specs.Run.{Request, IsRun, IsFault}
use Rattle.answering.specs.Answers.{calls_of}
use Rattle.answering.specs.declared.unanswered.Unanswered.{Unanswered}
use Rattle.answering.specs.declared.unanswered.Unanswered.TheVariants.{Refused, NotAsked, Faulty}

-- the n-th of a list, counted from 1
abbrev pub IsNth : {X : Type 0} → ℕ → List X → X → Type 0
IsNth n xs x = (1 ≤ n) × (slice_get xs (n - 1) ≡ Some x)

-- the line of the n-th question of a run: of this call the whole promise about histories holds, and its reply is the n-th of those
-- that the book gives to all questions
pub record NthLine (s : Stock) (q : Request) (b : Book) (n : ℕ) (line : List ℕ) : Type 0 where
  pub call : Event
  pub asked : IsNth n (calls_of s q) call
  pub reply : Reply
  pub told : IsNth n (replies b (calls_of s q)) reply
  pub history : History b (call ∷ []) (reply ∷ []) b
  pub printed : line ≡ reply_line n reply

-- a line at the head of a buffer of 64 bytes or more: its length, and the bytes past it as they were
abbrev pub Heads : List ℕ → List ℕ → ℕ → List ℕ → Type 0
Heads line before k after = (k ≡ length line) × (k ≤ 64) × (after ≡ line ++ drop k before)

-- one call performed on the book, which stays, and the line of its reply at the head of a buffer
abbrev pub AnswerPut : Book → Event → ℕ → List ℕ → ℕ → List ℕ → Type 0
AnswerPut b e n before k after = (r : Reply) × Performed b e r b × Heads (reply_line n r) before k after

-- what is left of a text: a run stands on file and sheet; where the text has a fault, the file holds nothing and the sheet is as a
-- new one
abbrev pub Left : List ℕ → Option Request → Book → Type 0
Left text (Some q) b = IsRun text q b
Left text None b = (f : Fault) × IsFault text f × (b ≡ new_book)

-- the n-th question of a run is answered by its line; or the run has no such question, and the buffer is as before
abbrev pub NthAnswered : Stock → Request → Book → ℕ → List ℕ → Result ℕ Unanswered → List ℕ → Type 0
NthAnswered s q b n before (Ok k) after = (line : List ℕ) × NthLine s q b n line × Heads line before k after
NthAnswered s q b n before (Err NotAsked) after = ((n ≡ 0) ⊎ (length q.questions < n)) × (after ≡ before)
NthAnswered s q b n before (Err _) after = ⊥

-- what the n-th question of a text comes to: a buffer of fewer than 64 bytes is refused with 17; else the text has a fault, which is
-- told, or it is a run, whose n-th question is answered. A buffer with no line in it is as before
abbrev pub AnsweredAlone : (List PointFigures → Stock) → List ℕ → ℕ → List ℕ → Result ℕ Unanswered → List ℕ → Type 0
AnsweredAlone equip text n before (Err (Refused e)) after = (length before < 64) × (number_of e ≡ 17) × (after ≡ before)
AnsweredAlone equip text n before (Err (Faulty f)) after = (64 ≤ length before) × IsFault text f × (after ≡ before)
AnsweredAlone equip text n before result after =
    (64 ≤ length before) × (q : Request) × (b : Book) × IsRun text q b × NthAnswered (equip q.points) q b n before result after

-- the fault of a text is put as its line; or the text is a run, and the buffer is as before; or the buffer has fewer than 64 bytes, and
-- is refused with 17
abbrev pub FaultPut : List ℕ → List ℕ → Result (Option ℕ) Refusal → List ℕ → Type 0
FaultPut text before (Ok (Some k)) after =
    (64 ≤ length before) × (f : Fault) × IsFault text f × Heads (fault_line f) before k after
FaultPut text before (Ok None) after = (64 ≤ length before) × (q : Request) × (b : Book) × IsRun text q b × (after ≡ before)
FaultPut text before (Err e) after = (length before < 64) × (number_of e ≡ 17) × (after ≡ before)

-- a line was put
abbrev pub IsPut : List ℕ → List ℕ → Result (Option ℕ) Refusal → List ℕ → Type 0
IsPut line before result after = (k : ℕ) × (result ≡ Ok (Some k)) × Heads line before k after

-- how many questions a run asks, or the fault of the text
abbrev pub Counted : List ℕ → Result ℕ Fault → Type 0
Counted text (Ok n) = (q : Request) × (b : Book) × IsRun text q b × (n ≡ length q.questions) × (n ≤ 200)
Counted text (Err f) = IsFault text f
