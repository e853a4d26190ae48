-- What a call leaves in the handle.
use Rattle.std.specs.Prelude.{◌≡◌, ℕ, ⊤, List, Some, None, Option}
use Rattle.answering.specs.Alone.{Left}
use Rattle.answering.specs.contracts.reckoner.Reckoner.{the_row}

-- a text was read: there is a reckoner just where there was one; its file and its sheet are what is left of the text, and its lines
-- are as before
abbrev pub ReadIn : List ℕ → Option the_row.Denot → Option the_row.Denot → Type 0
ReadIn text (Some old) (Some new) = Left text new.file new.sheet × (new.output ≡ old.output)
ReadIn text None None = ⊤
ReadIn text _ _ = ⊥
