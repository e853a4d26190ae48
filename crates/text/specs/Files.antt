-- A whole text: sections of given sorts in their order, and nothing after them.
use Rattle.std.specs.Prelude.{◌≡◌, ℕ, ◌+◌, ◌<◌, ◌≤◌, ◌⊎◌, List, [], ◌++◌, length, ◌≢◌}
use Rattle.rules.specs.declared.refusal.Refusal.TheVariants.{WrongCount}
use Rattle.rules.specs.declared.fault.Fault.{Fault}
use Rattle.text.specs.Sorts.{Sort, Good, Read, Wrong, section}

-- the sections that are still to come
pub data Plan : Type 1 where
  nothing : Plan
  first : {X : Type 0} → Sort X → Plan → Plan

-- the entries of each section
abbrev pub Entries : Plan → Type 0
Entries nothing = Unit {0}
Entries (first {X} s more) = List X × Entries more

-- the text of sections with these entries
abbrev pub plan_text : (plan : Plan) → Entries plan → List ℕ
plan_text nothing _ = []
plan_text (first s more) (xs, others) = section s xs ++ plan_text more others

-- each section has as many entries as it may have, each proper
abbrev pub AllGood : (plan : Plan) → Entries plan → Type 0
AllGood nothing _ = Unit {0}
AllGood (first s more) (xs, others) = Good s xs × AllGood more others

-- the text is that of these entries, which have nothing wrong
pub record Accepts (plan : Plan) (text : List ℕ) (entries : Entries plan) : Type 0 where
  pub short : length text ≤ 65536
  pub good : AllGood plan entries
  pub is : text ≡ plan_text plan entries

-- after `line` lines comes a text that should be at its end, and is not
abbrev pub LeftOver : ℕ → List ℕ → Fault → Type 0
LeftOver line text f = (text ≢ []) × (f.refusal ≡ WrongCount) × (f.line ≡ line + 1)

-- a text of too many bytes is at fault in its first line
abbrev pub TooLong : List ℕ → Fault → Type 0
TooLong text f = (65536 < length text) × (f.refusal ≡ WrongCount) × (f.line ≡ 1)

-- after `line` lines comes a text that is at fault: a line is left over; or the first section is wrong; or that has nothing
-- wrong, and what follows it is at fault
abbrev pub FaultIn : Plan → ℕ → List ℕ → Fault → Type 0
FaultIn nothing line text f = LeftOver line text f
FaultIn (first {X} s more) line text f =
    ((right : ℕ) × Wrong s text right f.refusal × (f.line ≡ line + (right + 1)))
    ⊎ ((xs : List X) × (rest : List ℕ) × Read s text xs rest × FaultIn more (line + (length xs + 1)) rest f)

-- the fault of a whole text
abbrev pub FileFault : Plan → List ℕ → Fault → Type 0
FileFault plan text f = TooLong text f ⊎ ((length text ≤ 65536) × FaultIn plan 0 text f)
