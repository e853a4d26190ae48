use Rattle.std.proofs.Common.{[], ◌∷◌, decimal, rules}
use Rattle.text.specs.Fields.{spaced}
use Rattle.text.proofs.Cuts.{leads_same}
use Rattle.text.proofs.fields.triple.Goals as goal

pub returns-in_default-pair : goal.returns-in_default-pair
returns-in_default-pair c = (
  search rules,
  λ p (s, t, u, e).
      let k = leads_same _ _ p.0 _ (spaced (decimal p.1 ∷ decimal p.2 ∷ [])) c.in-Ok.ensures (s, e) in
      c.in_default-pair.ensures.1 (p.1, p.2) (t, u, k.1),
)
