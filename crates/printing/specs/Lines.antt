-- The lines that are printed.
use Rattle.std.specs.Prelude.{◌≡◌, ℕ, ◌<◌, ◌≤◌, List, [], ◌∷◌, ◌++◌, length, drop, Result, Ok, Err, codes, decimal}
use Rattle.rules.specs.declared.refusal.Refusal.{Refusal}
use Rattle.rules.specs.declared.fault.Fault.{Fault}
use Rattle.rules.specs.Refusals.{Reply, passed, stops, runs, hauls, refused, number_of}
use Rattle.rules.specs.Printed.{◌then◌}
use Rattle.rules.specs.Faults.{layer_of, layer_text}

-- OK and the figures of the answer, or NO and the number of the refusal
abbrev pub outcome : Reply → List ℕ
outcome passed = codes "OK"
outcome (stops distance least steps) = codes "OK" then (decimal distance then (decimal least then decimal steps))
outcome (runs v) = codes "OK" then decimal v
outcome (hauls x) = codes "OK" then decimal x
outcome (refused n) = codes "NO" then decimal n

-- a line ends in LF
abbrev pub line : List ℕ → List ℕ
line text = text ++ 10 ∷ []

-- the reply to a question, behind its number
abbrev pub reply_line : ℕ → Reply → List ℕ
reply_line question r = line (decimal question then outcome r)

-- FAULT, what is at fault, the line and the number of the refusal
unfoldable pub fault_told : Fault → List ℕ
fault_told f =
    codes "FAULT " ++ (layer_text (layer_of f.refusal) ++ (codes " " ++ (decimal f.line ++ (codes " " ++ decimal (number_of f.refusal)))))

abbrev pub fault_line : Fault → List ℕ
fault_line f = line (fault_told f)

-- a line in a buffer of at least 64 bytes: its length is answered, and the bytes past it are as before; a shorter buffer is refused
-- with 17, and is as before
abbrev pub Printed : List ℕ → List ℕ → Result ℕ Refusal → List ℕ → Type 0
Printed text before (Ok n) after = (64 ≤ length before) × (n ≡ length text) × (after ≡ text ++ drop n before)
Printed text before (Err e) after = (length before < 64) × (number_of e ≡ 17) × (after ≡ before)
