-- Figures as they are given.
use Rattle.std.specs.Prelude.{ℕ, ℤ}
use Rattle.rules.specs.declared.figures.SectionFigures.{SectionFigures}
use Rattle.rules.specs.declared.figures.StopQuestion.{StopQuestion}

-- a section of this length and gradient, without a curve, and no stop
abbrev pub straight_section : ℕ → ℤ → SectionFigures
straight_section metres i = record { metres = metres; gradient = i; curve = 0; radius = 0; stop = 0 }

-- a stop from a place, at a speed, by full braking
abbrev pub full_braking : ℕ → ℕ → StopQuestion
full_braking place speed = record { place = place; speed = speed; factor = 10 }
