-- What is known where no question refuses.
use Rattle.std.proofs.Common.{◌≡◌, ℕ, ◌*◌, ◌≤◌, inl, inr, Bool, true, false, cond, ◌&&◌, leb, List, [], ◌∷◌, ℤ, pos, ◌≤ℤ◌, int_le, Some, None, Option, sym, refl, subst, arith}
use Rattle.std.proofs.lemmas.Bool.{leb-true}
use borrow.Author.Differences.{at_most_in, le-true}
use Rattle.rules.specs.Kind.{Kind}
use Rattle.rules.specs.Stop.{Approach, Step, brake_force, holding_force, all_hold, steps_from, distance}
use Rattle.rules.specs.Promises.{Answered}
use Rattle.rules.proofs.Members.{In}

pub both : (a b : Bool) → (a && b) ≡ true → (a ≡ true) × (b ≡ true)
both true b h = (refl, h)
both false b h = absurd (let z : ◌≡◌ {A = ℕ} 0 1 = cc in omega arith)

-- a question that does not refuse holds, and leaves the decision to those after it
pub holds : (b : Bool) (n : ℕ) (rest : Option ℕ) → cond b rest (Some n) ≡ None → (b ≡ true) × (rest ≡ None)
holds true n rest e = (refl, e)
holds false n rest e = absurd (let z : ◌≡◌ {A = ℕ} 0 1 = cc in omega arith)

pub each_holds : (force : Step → ℤ) (ss : List Step) → all_hold force ss ≡ true → (s : Step) → In s ss → pos 1000 ≤ℤ force s
each_holds force [] h s i = absurd i
each_holds force (t ∷ ts) h s (inl e) =
    let first = (both (int_le (pos 1000) (force t)) (all_hold force ts) h).0 in
    subst (λ (u : Step). pos 1000 ≤ℤ force u) (sym e) (at_most_in (pos 1000) (force t) (omega (arith, le-true (pos 1000) (force t) first)))
each_holds force (t ∷ ts) h s (inr i) = each_holds force ts (both (int_le (pos 1000) (force t)) (all_hold force ts) h).1 s i

-- of an answered stop
pub record Holds (k : Kind) (a : Approach) (v : ℕ) : Type 0 where
  pub strong : 1000 ≤ brake_force a v
  pub every : (s : Step) → In s (steps_from v) → pos 1000 ≤ℤ holding_force a s
  pub near : distance k a v ≤ 1000 * a.reach

pub answered : (k : Kind) (a : Approach) (v : ℕ) → Answered k a v → Holds k a v
answered k a v none =
    let ten = holds (leb 1000 (brake_force a v)) 10 _ none in
    let eleven = holds (all_hold (holding_force a) (steps_from v)) 11 _ ten.1 in
    let twelve = holds (leb (distance k a v) (1000 * a.reach)) 12 _ eleven.1 in
    record {
      strong = leb-true 1000 _ ten.0;
      every = each_holds (holding_force a) (steps_from v) eleven.0;
      near = leb-true (distance k a v) (1000 * a.reach) twelve.0;
    }
