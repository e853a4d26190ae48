-- A line with one lawful section more.
use Rattle.std.proofs.Common.{◌≡◌, List, [], ◌∷◌, ◌++◌}
use Rattle.std.specs.Prelude.{IsTrue}
use Rattle.std.proofs.lemmas.List.Elements.{All-push}
use Rattle.rules.specs.declared.figures.SectionFigures.{SectionFigures}
use Rattle.rules.specs.Questions.{lawful_section, LawfulSections}

pub lawful_push : (fs gs : List SectionFigures) (f : SectionFigures) → gs ≡ fs ++ f ∷ [] → LawfulSections fs → IsTrue (lawful_section f) → LawfulSections gs
lawful_push fs gs f e all one = rw e (All-push (λ f. IsTrue (lawful_section f)) _ _ all one)
