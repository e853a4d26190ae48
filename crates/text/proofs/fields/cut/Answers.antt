use Rattle.std.proofs.Common.{◌≡◌, ◌+◌, ◌-◌, ◌≤◌, ◌∷◌, ◌++◌, length, get_or, take, drop, arith}
use Rattle.std.proofs.lemmas.List.{take_all, take-append-drop, drop_more, take_rest}
use Rattle.std.proofs.ByRecursion.{All-more}
use Rattle.text.proofs.fields.cut.Goals as goal

pub returns-then-b-mark : goal.returns-then-b-mark
returns-then-b-mark c =
    let xs = c.args.text.now in
    let i = c.loop-i.i in
    let d : drop i xs ≡ get_or xs i 0 ∷ drop (i + 1) xs = drop_more xs i 0 (omega arith) in
    let e = c.if-b-mark.true in
    let whole : xs ≡ take i xs ++ c.args.mark ∷ take (length xs - (i + 1)) (drop (i + 1) xs) = rw take_rest (cc (take-append-drop i xs)) in
    record { whole = whole; first = c.loop-i.invariant }

pub loop-i-preserved : goal.loop-i-preserved
loop-i-preserved c = All-more _ c.args.text.now c.loop-i.i 0 (omega arith) c.loop-i.invariant c.if-b-mark.false

pub returns : goal.returns
returns c = let all : length c.args.text.now ≤ c.loop-i.i = omega arith in rw take_all at c.loop-i.invariant
