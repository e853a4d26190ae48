use Rattle.std.proofs.Common.{decimal, rules}
use Rattle.text.proofs.Cuts.{leads_same}
use Rattle.text.proofs.fields.pair.Goals as goal

pub returns-in_default-number : goal.returns-in_default-number
returns-in_default-number c = (
  search rules,
  λ p (s, t, e).
      let k = leads_same _ _ p.0 _ (decimal p.1) c.in-Ok.ensures (s, e) in
      c.in_default-number.ensures p.1 (t, k.1),
)
