-- The faults of a run file.
use Rattle.std.specs.Prelude.{ℕ, List, codes}
use Rattle.rules.specs.declared.refusal.Refusal.{Refusal}
use Rattle.rules.specs.declared.refusal.Refusal.TheVariants.{UnlawfulLaw, MalformedLine, WrongCount}
use Rattle.rules.specs.declared.fault.Layer.{Layer}
use Rattle.rules.specs.declared.fault.Layer.TheVariants.{Text, Law, Sheet}

-- what a refusal finds at fault
abbrev pub layer_of : Refusal → Layer
layer_of MalformedLine = Text
layer_of WrongCount = Text
layer_of UnlawfulLaw = Law
layer_of _ = Sheet

abbrev pub layer_text : Layer → List ℕ
layer_text Text = codes "TEXT"
layer_text Law = codes "LAW"
layer_text Sheet = codes "SHEET"
