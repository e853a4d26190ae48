-- Bytes that are put into a buffer at an offset.
use Rattle.std.specs.Prelude.{◌≡◌, ℕ, ◌+◌, ◌≤◌, List, ◌++◌, length, take, drop}

-- the bytes stand from an offset on up to an end, and all else is as it was
unfoldable pub Puts : List ℕ → ℕ → List ℕ → ℕ → List ℕ → Type 0
Puts bytes at old end new = (end ≡ at + length bytes) × (end ≤ length old) × (new ≡ take at old ++ (bytes ++ drop end old))
