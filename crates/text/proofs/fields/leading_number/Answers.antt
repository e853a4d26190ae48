use Rattle.std.proofs.Common.{◌≡◌, ◌∷◌, ◌++◌, decimal, arith, rules}
use Rattle.text.specs.Numerals.{Lacks}
use Rattle.text.proofs.Cuts.{not_lacks, same_cut, decimal_lacks}
use Rattle.text.proofs.fields.leading_number.Goals as goal

pub returns-in_default : goal.returns-in_default
returns-in_default c = (
  search rules,
  λ n rest (s, e).
      let none : Lacks 32 c.args.text.now = c.in_default.ensures in
      not_lacks 32 (decimal n) rest (rw e at none),
)

pub returns-in_default-number : goal.returns-in_default-number
returns-in_default-number c = (
  search rules,
  λ n rest (s, e).
      let parts = c.in-Some.ensures in
      let whole = parts.whole in
      let field = c.in-Some.field.now in
      let both : field ++ 32 ∷ c.in-Some.rest.now ≡ decimal n ++ 32 ∷ rest = cc in
      let k = same_cut 32 field (decimal n) _ rest parts.first (decimal_lacks 32 n (omega arith) s) both in
      c.in_default-number.ensures n (s, k.0),
)
