-- Histories that start from a run file.
use Rattle.std.specs.Prelude.{◌≡◌, ℕ, ⊤, List, Some, None, Ok, Err, Option, Result}
use Rattle.history.specs.Calls.{AllPerformed}
use Rattle.history.specs.declared.call.Exchange.{Exchange}
use Rattle.rules.specs.declared.fault.Fault.{Fault}
use Rattle.rules.specs.Book.{Book, new_book}
use Rattle.rules.specs.History.{Inquiry}
use Rattle.runfile.specs.Run.{Request, IsRun, IsFault}

-- the text is a run file, and from its book on the calls are performed with the whole promise about histories; or it has a fault, no
-- call is performed, the file holds nothing, and the sheet is as a new one
abbrev pub PerformedFrom : {Q : Type 0} → (Q → Inquiry) → List ℕ → List (Exchange Q) → Result ⊤ Fault → List (Exchange Q) → Option Request → Book → Type 0
PerformedFrom inquiry text old (Ok _) new file c =
    (q : Request) × (b : Book) × IsRun text q b × (file ≡ Some q) × AllPerformed inquiry b old new c
PerformedFrom inquiry text old (Err f) new file c = IsFault text f × (new ≡ old) × (file ≡ None) × (c ≡ new_book)
