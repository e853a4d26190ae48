use Rattle.std.proofs.Common.{◌≡◌, ◌≤◌, length, ◌∙◌, ap, rules, arith}
use Rattle.std.proofs.iter.runs.Made.{chains}
use Rattle.std.specs.List.{sum_by}
use Rattle.std.proofs.lemmas.Iterator.Adapters.{fits_from_length, at_most_from_yields_List}
use Rattle.std.proofs.lemmas.Iterator.{YieldsList-from_slice}
use Rattle.line.proofs.Lengths.{sum_by-line_length}
use Rattle.line.proofs.line.Line.metres.Goals as goal

pub returns-clause-value : goal.returns-clause-value
returns-clause-value c =
    let total : c.sum.result ≡ sum_by (λ f. f.metres) c.args.self.now = search (rules, chains) in
    total ∙ sum_by-line_length c.args.self.now

-- 4,000,001 is the first number over what 200 lengths of at most 20,000 sum up to
pub returns-clause-most : goal.returns-clause-most
returns-clause-most c =
    let whole = c.sum.ensures.runs tt in
    let all : c.map.result.iter.rest.now ≡ c.sections.result.now = cc (ap (λ i. i.rest.now) c.map.ensures.source, c.iter.ensures.rest) in
    let few : length c.sections.result.now ≤ 200 = rw c.sections.ensures.sections c.sections.ensures.few in
    let short = fits_from_length _ _ 200 4000001 (at_most_from_yields_List (YieldsList-from_slice c.sections.result.now all) few) c.map.ensures.closure (omega arith) (λ x r q k. search rules) whole.0 whole.0.seen whole.1 in
    omega (arith, short, whole.3)
