-- Lines of output in room for 12,800 bytes.
use Rattle.std.specs.Prelude.{◌≡◌, ℕ, ⊤, ◌+◌, ◌<◌, ◌≤◌, List, ◌++◌, length, Ok, Err, Result}
use Rattle.rules.specs.declared.refusal.Refusal.{Refusal}
use Rattle.rules.specs.Refusals.{number_of}

-- a line of at most 64 bytes is printed behind the others, or refused with 17 where fewer than 64 bytes are left
abbrev pub Appended : List ℕ → List ℕ → Result ⊤ Refusal → List ℕ → Type 0
Appended line old (Ok _) new = (length old + 64 ≤ 12800) × (length line ≤ 64) × (new ≡ old ++ line)
Appended line old (Err e) new = (12800 < length old + 64) × (number_of e ≡ 17) × (new ≡ old)
