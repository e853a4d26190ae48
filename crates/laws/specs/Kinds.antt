-- The kinds of brake by their letters.
use Rattle.std.specs.Prelude.{ℕ, List, codes}
use Rattle.rules.specs.Kind.{Kind, freight, passenger, electro_pneumatic, freight_by_hand, passenger_by_hand}
use Rattle.laws.specs.declared.kind.KindLetter.{KindLetter}
use Rattle.laws.specs.declared.kind.KindLetter.TheVariants.{F, P, E, H, J}

abbrev pub kind_by_letter : KindLetter → Kind
kind_by_letter F = freight
kind_by_letter P = passenger
kind_by_letter E = electro_pneumatic
kind_by_letter H = freight_by_hand
kind_by_letter J = passenger_by_hand

-- what is printed of a letter
abbrev pub letter_of : KindLetter → List ℕ
letter_of F = codes "F"
letter_of P = codes "P"
letter_of E = codes "E"
letter_of H = codes "H"
letter_of J = codes "J"
