use Rattle.std.proofs.Common.{◌≡◌, ◌∷◌, ◌++◌, arith, rules}
use Rattle.std.specs.Fmt.{signed_decimal}
use Rattle.text.specs.Numerals.{Lacks}
use Rattle.text.proofs.Cuts.{not_lacks, same_cut, signed_lacks}
use Rattle.text.proofs.fields.leading_signed.Goals as goal

pub returns-in_default : goal.returns-in_default
returns-in_default c = (
  search rules,
  λ z rest (s, e).
      let none : Lacks 32 c.args.text.now = c.in_default.ensures in
      not_lacks 32 (signed_decimal z) rest (rw e at none),
)

pub returns-in_default-signed_number : goal.returns-in_default-signed_number
returns-in_default-signed_number c = (
  search rules,
  λ z rest (s, e).
      let parts = c.in-Some.ensures in
      let whole = parts.whole in
      let field = c.in-Some.field.now in
      let both : field ++ 32 ∷ c.in-Some.rest.now ≡ signed_decimal z ++ 32 ∷ rest = cc in
      let k = same_cut 32 field (signed_decimal z) _ rest parts.first (signed_lacks 32 z (omega arith) s) both in
      c.in_default-signed_number.ensures z (s, k.0),
)
