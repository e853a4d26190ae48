-- A text from line to line.
use Rattle.std.specs.Prelude.{◌≡◌, ℕ, ◌⊎◌, List, [], ◌≢◌}
use Rattle.rules.specs.declared.refusal.Refusal.{Refusal}
use Rattle.rules.specs.declared.refusal.Refusal.TheVariants.{MalformedLine, WrongCount}
use Rattle.text.specs.Numerals.{Lacks}

-- how many lines of a text were read, and what is left of it
pub record Text : Type 0 where
  pub line : ℕ
  pub rest : List ℕ

abbrev pub reading : ℕ → List ℕ → Text
reading line rest = record { line = line; rest = rest }

-- a text of which no line was read
abbrev pub whole : List ℕ → Text
whole bytes = reading 0 bytes

-- text has no next line: it is at its end, so that the line is missing, or what is left has no line feed
abbrev pub NoLine : List ℕ → Refusal → Type 0
NoLine text why = ((why ≡ WrongCount) × (text ≡ [])) ⊎ ((why ≡ MalformedLine) × (text ≢ []) × Lacks 10 text)
