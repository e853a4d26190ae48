-- A drag that is read where a train runs, as a drag at a speed and a gross mass.
use Rattle.std.specs.Prelude.{ℕ}
use Rattle.rules.specs.Ratio.{Ratio}
use Rattle.rules.specs.Law.{Drag, drag}
use Rattle.laws.specs.declared.law.Running.{Running}

abbrev pub running : ℕ → ℕ → Running
running v q = record { speed = v; gross = q }

abbrev pub drag_by : (Running → Ratio) → (Running → ℕ) → (Running → ℕ) → ℕ → Drag
drag_by e b a s = drag (λ v q. e (running v q)) (λ v q. b (running v q)) (λ v q. a (running v q)) s
