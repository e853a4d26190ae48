use Rattle.std.proofs.Common.{[], ◌∷◌, decimal, rules}
use Rattle.std.specs.Fmt.{signed_decimal}
use Rattle.text.specs.Fields.{spaced}
use Rattle.text.proofs.Cuts.{leads_same, leads_signed_same}
use Rattle.runfile.proofs.sections.SectionLineEntry.read.Goals as goal

pub returns-in_default-leading_signed : goal.returns-in_default-leading_signed
returns-in_default-leading_signed c = (
  search rules,
  λ x (form, e).
      let k = leads_same _ _ x.metres _ (spaced (signed_decimal x.gradient ∷ decimal x.curve ∷ decimal x.radius ∷ decimal x.stop ∷ [])) c.in-Ok.ensures (form.0, e) in
      c.in_default-leading_signed.ensures.1 x.gradient _ (form.1, k.1),
)

pub returns-in_default-triple : goal.returns-in_default-triple
returns-in_default-triple c = (
  search rules,
  λ x (form, e).
      let k = leads_same _ _ x.metres _ (spaced (signed_decimal x.gradient ∷ decimal x.curve ∷ decimal x.radius ∷ decimal x.stop ∷ [])) c.in-Ok.ensures (form.0, e) in
      let l = leads_signed_same _ _ x.gradient _ (spaced (decimal x.curve ∷ decimal x.radius ∷ decimal x.stop ∷ [])) c.in-Ok-leading_signed.ensures (form.1, k.1) in
      c.in_default-triple.ensures.1 (x.curve, x.radius, x.stop) (form.2, form.3, form.4, l.1),
)
