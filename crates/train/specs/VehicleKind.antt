-- The kinds of vehicle by their letters.
use Rattle.std.specs.Prelude.{◌≡◌, ℕ, false, cond, ◌==◌, Result, MatchResult}
use Rattle.rules.specs.declared.refusal.Refusal.{Refusal}
use Rattle.rules.specs.declared.refusal.Refusal.TheVariants.{UnlawfulVehicle}
use Rattle.rules.specs.Book.{locomotive_letter, wagon_letter}
use Rattle.rules.specs.Questions.{lawful_letter}
use Rattle.train.specs.declared.vehicle.VehicleKind.{VehicleKind}
use Rattle.train.specs.declared.vehicle.VehicleKind.TheVariants.{Locomotive, Wagon}

-- the letter of a kind
abbrev pub letter_of : VehicleKind → ℕ
letter_of Locomotive = locomotive_letter
letter_of Wagon = wagon_letter

-- the kind of a lawful letter
abbrev pub kind_of : ℕ → VehicleKind
kind_of letter = cond (letter == locomotive_letter) Locomotive Wagon

-- the kind with this letter, or the refusal of a letter that no kind has
abbrev pub ReadsLetter : ℕ → Result VehicleKind Refusal → Type 0
ReadsLetter letter r =
    MatchResult r (λ kind. letter_of kind ≡ letter) (λ e. (e ≡ UnlawfulVehicle) × (lawful_letter letter ≡ false))
