-- No text has two outcomes.
use Rattle.std.specs.Prelude.{◌≡◌, ℕ, List}
use Rattle.rules.specs.declared.fault.Fault.{Fault}
use Rattle.text.specs.Files.{Plan, Entries, Accepts, FileFault}

-- a text has at most one fault, and none where it is accepted; it is accepted as the entries of one file alone
pub record OneOutcome (plan : Plan) (text : List ℕ) : Type 0 where
  pub one_fault : (f g : Fault) → FileFault plan text f → FileFault plan text g → f ≡ g
  pub never_both : (entries : Entries plan) (f : Fault) → Accepts plan text entries → FileFault plan text f → ⊥
  pub one_file : (entries others : Entries plan) → Accepts plan text entries → Accepts plan text others → entries ≡ others
