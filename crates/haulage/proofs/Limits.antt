-- Limits of masses: of a force and of a whole line, and how many multiples of 500 lie within one.
use Rattle.std.proofs.Common.{◌≡◌, ℕ, ◌+◌, ◌*◌, ◌/◌, ◌<◌, ◌≤◌, min, Bool, true, false, ◌&&◌, leb, List, length, get_or, drop, Some, None, Option, SomeIff, sym, refl, ap, ◌∙◌, le-div_iff_mul-le, arith}
use Rattle.std.proofs.Math.Bool.{and-true}
use Rattle.std.proofs.lemmas.List.{drop_all}
use Rattle.std.proofs.lemmas.Bool.{le-leb, lt-leb, leb-true, leb-false}
use Rattle.std.specs.Option.{unwrap_or}
use Rattle.rules.specs.declared.figures.SectionFigures.{SectionFigures}
use Rattle.rules.specs.Mass.{on_every, greatest_mass}
use Rattle.rules.proofs.Masses.{greatest_is}
use Rattle.rules.proofs.Tables.{next}
use Rattle.haulage.specs.Limits.{IsLimit, moves}

-- tests that say the same
same_test : (a b c d : ℕ) → (a ≤ b → c ≤ d) → (c ≤ d → a ≤ b) → leb a b ≡ leb c d
same_test a b c d on back = by_first (leb a b) refl
  where
    by_first : (t : Bool) → leb a b ≡ t → t ≡ leb c d
    by_first true e = sym (le-leb c d (on (leb-true a b e)))
    by_first false e = sym (not_over (leb c d) refl)
      where
        not_over : (t : Bool) → leb c d ≡ t → t ≡ false
        not_over true f = absurd (omega (arith, leb-false a b e, back (leb-true c d f)))
        not_over false f = refl

-- ---- of a force

pub pulled : (n p a t : ℕ) → a ≡ n → t ≡ 10000 * p → a * t ≡ 10000 * n * p
pulled n p a t e f = ap (λ (x : ℕ). x * t) e ∙ ap (λ (x : ℕ). n * x) f ∙ omega arith

pub moved : (o : Option ℕ) (force r n : ℕ) → SomeIff o (0 < r) (force / r) → n ≡ min (unwrap_or o 18446744073709551615) 100000 → IsLimit (moves force r) n
moved (Some k) force r n is e =
    record {
      most = omega arith;
      up_to = λ x h k. same_test (x * r) force x n
          (λ le. omega (arith, is.1, (le-div_iff_mul-le {k = r} {x = x} {y = force} is.0).1 le))
          (λ le. (le-div_iff_mul-le {k = r} {x = x} {y = force} is.0).0 (omega (arith, is.1)));
    }
moved None force r n is e =
    record { most = omega arith; up_to = λ x h k. let none : r ≡ 0 = omega arith in rw none (same_test (x * 0) force x n (λ le. omega arith) (λ le. omega arith)) }

-- ---- of a line

-- the limit so far and the sections to come decide for the whole line
pub record Kept (ok : SectionFigures → ℕ → Bool) (all left : List SectionFigures) (least : ℕ) : Type 0 where
  pub most : least ≤ 100000
  pub same : (x : ℕ) → 1 ≤ x → x ≤ 100000 → (leb x least && on_every (λ f. ok f x) left) ≡ on_every (λ f. ok f x) all

pub begins : (ok : SectionFigures → ℕ → Bool) (all : List SectionFigures) → Kept ok all all 100000
begins ok all = record { most = omega arith; same = λ x h k. ap (λ (t : Bool). t && on_every (λ f. ok f x) all) (le-leb x 100000 k) }

-- the lesser of two limits
lesser : (x m n : ℕ) (b : Bool) → (leb x (min m n) && b) ≡ (leb x m && (leb x n && b))
lesser x m n b = by_first (leb x m) refl
  where
    by_first : (t : Bool) → leb x m ≡ t → (leb x (min m n) && b) ≡ (t && (leb x n && b))
    by_first true e = ap (λ (t : Bool). t && b) (same_test x (min m n) x n (λ le. omega arith) (λ le. omega (arith, leb-true x m e)))
    by_first false e = ap (λ (t : Bool). t && b) (lt-leb x (min m n) (omega (arith, leb-false x m e)))

pub again : (ok : SectionFigures → ℕ → Bool) (all : List SectionFigures) (i : ℕ) (f : SectionFigures) (least n : ℕ)
    → Kept ok all (drop i all) least → i < length all → f ≡ get_or all i f → IsLimit (ok f) n → Kept ok all (drop (i + 1) all) (min least n)
again ok all i f least n kept lt is limit =
    record {
      most = omega (arith, kept.most);
      same = λ x h k.
          lesser x least n (on_every (λ f. ok f x) (drop (i + 1) all))
          ∙ ap (λ (t : Bool). leb x least && (t && on_every (λ f. ok f x) (drop (i + 1) all))) (sym (limit.up_to x h k))
          ∙ ap (λ (t : List SectionFigures). leb x least && on_every (λ f. ok f x) t) (sym (next all i f lt is))
          ∙ kept.same x h k;
    }

pub ends : (ok : SectionFigures → ℕ → Bool) (all : List SectionFigures) (i least : ℕ)
    → Kept ok all (drop i all) least → length all ≤ i → IsLimit (λ x. on_every (λ f. ok f x) all) least
ends ok all i least kept done =
    record {
      most = kept.most;
      up_to = λ x h k.
          sym (kept.same x h k)
          ∙ ap (λ (t : List SectionFigures). leb x least && on_every (λ f. ok f x) t) (drop_all i all done)
          ∙ and-true (leb x least);
    }

-- ---- the greatest multiple within one

pub multiples : (ok : ℕ → Bool) (n : ℕ) → IsLimit ok n → greatest_mass ok ≡ 500 * (n / 500)
unfolding greatest_mass
multiples ok n limit =
    ap (λ (j : ℕ). 500 * j) (greatest_is (λ j. ok (500 * j)) (n / 500) 200 (omega (arith, limit.most)) (λ j h k.
    limit.up_to (500 * j) (omega arith) (omega arith) ∙ same_test (500 * j) n j (n / 500) (λ le. omega arith) (λ le. omega arith)))
