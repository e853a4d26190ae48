-- Limits: up to where masses of wagons hold, in tenths of a tonne.
use Rattle.std.specs.Prelude.{◌≡◌, ℕ, ◌*◌, ◌≤◌, Bool, leb, [], ◌∷◌, Result}
use Rattle.rules.specs.declared.refusal.Refusal.{Refusal}
use Rattle.rules.specs.Mass.{greatest_mass}
use Rattle.rules.specs.Refusals.{◌otherwise◌, hauls, first_no, decide, mass_reply}

-- of the masses from 1 to 100,000 those up to n hold, and no other
pub record IsLimit (ok : ℕ → Bool) (n : ℕ) : Type 0 where
  pub most : n ≤ 100000
  pub up_to : (x : ℕ) → 1 ≤ x → x ≤ 100000 → ok x ≡ leb x n

-- a force moves a mass of which every tenth of a tonne resists by so much
abbrev pub moves : ℕ → ℕ → ℕ → Bool
moves force resistance x = leb (x * resistance) force

-- the greatest multiple of 500 that holds, refused where 500 does not
abbrev pub IsLoad : (ℕ → Bool) → Result ℕ Refusal → Type 0
IsLoad ok r = mass_reply r ≡ decide (first_no ((ok 500 otherwise 13) ∷ [])) (hauls (greatest_mass ok))
