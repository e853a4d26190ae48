-- Pull tables: the exact pull is a ratio of at most 1,000,000 that never rises with speed.
use Rattle.std.proofs.Common.{◌≡◌, ℕ, zero, suc, ◌+◌, ◌-◌, ◌*◌, ◌<◌, ◌≤◌, true, cond, ◌&&◌, eqb, ltb, leb, List, [], ◌∷◌, length, get_or, refl, mul-le-mul_right, mul-zero, add-one, arith}
use native.Mathlib.Nat.{sub_self}
use Rattle.std.proofs.lemmas.Bool.{both_ways, ltb-true, ltb-false, leb-true, leb-false, eqb-true, lt-ltb, le-ltb, le-leb, lt-leb, and_parts, cond-false, cond_both}
use Rattle.rules.specs.declared.figures.PointFigures.{PointFigures}
use Rattle.rules.specs.Ratio.{ratio, AtMost}
use Rattle.rules.specs.Table.{may_begin, may_follow, orderly_after, lawful_table, between_points, pull_after, table_pull, GoesThrough}
use Rattle.rules.proofs.Ratios.{at_most_trans}

-- ---- what lawful points say

pub record Follows (p n : PointFigures) : Type 0 where
  pub rise : p.speed < n.speed
  pub within : n.speed ≤ 1600
  pub fall : n.value ≤ p.value

pub follows_says : (p n : PointFigures) → may_follow p n ≡ true → Follows p n
follows_says p n e =
    let parts = and_parts (ltb p.speed n.speed && leb n.speed 1600) (leb n.value p.value) e in
    let speeds = and_parts (ltb p.speed n.speed) (leb n.speed 1600) parts.0 in
    record { rise = ltb-true _ _ speeds.0; within = leb-true _ _ speeds.1; fall = leb-true _ _ parts.1 }

pub orderly_says : (p n : PointFigures) (rest : List PointFigures) → orderly_after p (n ∷ rest) ≡ true → Follows p n × (orderly_after n rest ≡ true)
orderly_says p n rest e =
    let parts = and_parts (may_follow p n) (orderly_after n rest) e in
    (follows_says p n parts.0, parts.1)

pub record Begins (p : PointFigures) (rest : List PointFigures) : Type 0 where
  pub at_rest : p.speed ≡ 0
  pub within : p.value ≤ 1000000
  pub few : length rest ≤ 15
  pub falls : orderly_after p rest ≡ true

pub lawful_says : (p : PointFigures) (rest : List PointFigures) → lawful_table (p ∷ rest) ≡ true → Begins p rest
lawful_says p rest e =
    let parts = and_parts (may_begin p) (leb (length rest) 15 && orderly_after p rest) e in
    let first = and_parts (eqb p.speed 0) (leb p.value 1000000) parts.0 in
    let more = and_parts (leb (length rest) 15) (orderly_after p rest) parts.1 in
    record { at_rest = eqb-true _ _ first.0; within = leb-true _ _ first.1; few = leb-true _ _ more.0; falls = more.1 }

-- ---- straight lines

-- a line from height p at a to height q at n, times its length, falls
line_falls : (p q a v w n : ℕ) → q ≤ p → a ≤ v → v ≤ w → w ≤ n → p * (n - w) + q * (w - a) ≤ p * (n - v) + q * (v - a)
line_falls p q a v w n h av vw wn =
    let left : n - v ≡ (n - w) + (w - v) = omega arith in
    let right : w - a ≡ (v - a) + (w - v) = omega arith in
    rw (left, right) (omega (arith, mul-le-mul_right (w - v) h))

module _ (p n : PointFigures) (v : ℕ) (fall : n.value ≤ p.value) (from : p.speed ≤ v) (to : v ≤ n.speed) where
  pub line_cap : AtMost (between_points p n v) (ratio p.value 1)
  line_cap = omega (arith, simp (sub_self, mul-zero) at (line_falls p.value n.value p.speed p.speed v n.speed fall (omega arith) from to))

  line_floor : AtMost (ratio n.value 1) (between_points p n v)
  line_floor = omega (arith, line_falls p.value n.value p.speed v n.speed n.speed fall from to (omega arith))

-- ---- the pull from a point on

pub after_proper : (p : PointFigures) (rest : List PointFigures) (v : ℕ) → orderly_after p rest ≡ true → 1 ≤ (pull_after p rest v).den
after_proper p [] v f = omega arith
after_proper p (n ∷ rest) v f =
    let next = orderly_says p n rest f in
    cond_both (ltb v n.speed) (between_points p n v) (pull_after n rest v) (λ x. 1 ≤ x.den)
    (λ _. omega (arith, next.0.rise)) (λ _. after_proper n rest v next.1)

-- it is at most the value of that point
after_cap : (p : PointFigures) (rest : List PointFigures) (v : ℕ) → orderly_after p rest ≡ true → p.speed ≤ v → AtMost (pull_after p rest v) (ratio p.value 1)
after_cap p [] v f from = cond_both (leb v p.speed) p.value 0 (λ x. x * 1 ≤ p.value * 1) (λ _. omega arith) (λ _. omega arith)
after_cap p (n ∷ rest) v f from =
    let next = orderly_says p n rest f in
    cond_both (ltb v n.speed) (between_points p n v) (pull_after n rest v) (λ x. AtMost x (ratio p.value 1))
    (λ e. line_cap p n v next.0.fall from (omega (arith, ltb-true _ _ e)))
    (λ e. at_most_trans (pull_after n rest v) (ratio n.value 1) (ratio p.value 1) (omega arith) (after_cap n rest v next.1 (ltb-false _ _ e)) (omega (arith, next.0.fall)))

-- it never rises with speed
after_falls : (p : PointFigures) (rest : List PointFigures) (v w : ℕ) → orderly_after p rest ≡ true → p.speed ≤ v → v ≤ w
    → AtMost (pull_after p rest w) (pull_after p rest v)
after_falls p [] v w f from h =
    cond_both (leb w p.speed) p.value 0 (λ x. x * 1 ≤ cond (leb v p.speed) p.value 0 * 1)
    (λ e. cond_both (leb v p.speed) p.value 0 (λ x. p.value * 1 ≤ x * 1) (λ _. omega arith) (λ e'. omega (arith, leb-true _ _ e, leb-false _ _ e')))
    (λ _. omega arith)
after_falls p (n ∷ rest) v w f from h =
    let next = orderly_says p n rest f in
    let fall = next.0.fall in
    cond_both (ltb w n.speed) (between_points p n w) (pull_after n rest w) (λ x. AtMost x (pull_after p (n ∷ rest) v))
    (λ e'. cond_both (ltb v n.speed) (between_points p n v) (pull_after n rest v) (λ x. AtMost (between_points p n w) x)
    (λ _. mul-le-mul_right (n.speed - p.speed) (line_falls p.value n.value p.speed v w n.speed fall from h (omega (arith, ltb-true _ _ e'))))
    (λ e. absurd (omega (arith, ltb-true _ _ e', ltb-false _ _ e))))
    (λ e'. cond_both (ltb v n.speed) (between_points p n v) (pull_after n rest v) (λ x. AtMost (pull_after n rest w) x)
    (λ e. at_most_trans (pull_after n rest w) (ratio n.value 1) (between_points p n v) (omega arith) (after_cap n rest w next.1 (ltb-false _ _ e')) (line_floor p n v fall from (omega (arith, ltb-true _ _ e))))
    (λ e. after_falls n rest v w next.1 (ltb-false _ _ e) h))

-- ---- the pull of a table

module _ (v : ℕ) where
  pub table_proper : (ps : List PointFigures) → lawful_table ps ≡ true → 1 ≤ (table_pull ps v).den
  table_proper [] e = absurd (both_ways _ refl e)
  table_proper (p ∷ rest) e = after_proper p rest v (lawful_says p rest e).falls

  pub table_most : (ps : List PointFigures) → lawful_table ps ≡ true → (table_pull ps v).num ≤ 1000000 * (table_pull ps v).den
  table_most [] e = absurd (both_ways _ refl e)
  table_most (p ∷ rest) e =
      let first = lawful_says p rest e in
      omega (arith, after_cap p rest v first.falls (omega (arith, first.at_rest)), mul-le-mul_right (pull_after p rest v).den first.within)

  pub table_falls : (ps : List PointFigures) (w : ℕ) → lawful_table ps ≡ true → v ≤ w → AtMost (table_pull ps w) (table_pull ps v)
  table_falls [] w e h = absurd (both_ways _ refl e)
  table_falls (p ∷ rest) w e h = let first = lawful_says p rest e in after_falls p rest v w first.falls (omega (arith, first.at_rest)) h

-- ---- a table goes through its points

line_start : (p n : PointFigures) → (between_points p n p.speed).num ≡ p.value * (between_points p n p.speed).den
line_start p n = simp (sub_self, mul-zero) (omega arith)

-- past the next point
step_over : (p n : PointFigures) (rest : List PointFigures) (v : ℕ) → n.speed ≤ v → pull_after p (n ∷ rest) v ≡ pull_after n rest v
step_over p n rest v h = cond-false _ _ _ (le-ltb _ _ h)

module _ (d : PointFigures) where
  -- the points after p have no lower speed
  speeds_rise : (p : PointFigures) (rest : List PointFigures) (k : ℕ) → orderly_after p rest ≡ true → k < length (p ∷ rest) → p.speed ≤ (get_or (p ∷ rest) k d).speed
  speeds_rise p rest zero f h = omega arith
  speeds_rise p [] (suc k) f h = absurd (omega arith)
  speeds_rise p (n ∷ rest) (suc k) f h =
      let next = orderly_says p n rest f in
      omega (arith, next.0.rise, speeds_rise n rest k next.1 (omega arith))

  through_after : (p : PointFigures) (rest : List PointFigures) (k : ℕ) → orderly_after p rest ≡ true → k < length (p ∷ rest)
      → (pull_after p rest (get_or (p ∷ rest) k d).speed).num ≡ (get_or (p ∷ rest) k d).value * (pull_after p rest (get_or (p ∷ rest) k d).speed).den
  through_after p [] zero f h = rw (le-leb p.speed p.speed (omega arith)) (omega arith)
  through_after p (n ∷ rest) zero f h =
      let next = orderly_says p n rest f in
      rw (lt-ltb p.speed n.speed next.0.rise) (line_start p n)
  through_after p [] (suc k) f h = absurd (omega arith)
  through_after p (n ∷ rest) (suc k) f h =
      let next = orderly_says p n rest f in
      rw (step_over p n rest (get_or (n ∷ rest) k d).speed (speeds_rise n rest k next.1 (omega arith)))
      (through_after n rest k next.1 (omega arith))

  past_after : (p : PointFigures) (rest : List PointFigures) (v : ℕ) → orderly_after p rest ≡ true → (get_or (p ∷ rest) (length rest) d).speed < v
      → (pull_after p rest v).num ≡ 0
  past_after p [] v f h = rw (lt-leb v p.speed h)
  past_after p (n ∷ rest) v f h =
      let next = orderly_says p n rest f in
      rw (step_over p n rest v (omega (arith, speeds_rise n rest (length rest) next.1 (omega arith))))
      (past_after n rest v next.1 h)

  between_after : (p : PointFigures) (rest : List PointFigures) (k v : ℕ) → orderly_after p rest ≡ true → suc k < length (p ∷ rest)
      → (get_or (p ∷ rest) k d).speed ≤ v → v < (get_or (p ∷ rest) (suc k) d).speed
      → pull_after p rest v ≡ between_points (get_or (p ∷ rest) k d) (get_or (p ∷ rest) (suc k) d) v
  between_after p [] k v f h from to = absurd (omega arith)
  between_after p (n ∷ rest) zero v f h from to = rw (lt-ltb v n.speed to) refl
  between_after p (n ∷ rest) (suc k) v f h from to =
      let next = orderly_says p n rest f in
      rw (step_over p n rest v (omega (arith, speeds_rise n rest k next.1 (omega arith))))
      (between_after n rest k v next.1 (omega arith) from to)

pub goes_through : (ps : List PointFigures) → lawful_table ps ≡ true → GoesThrough ps
goes_through [] e = absurd (both_ways _ refl e)
goes_through (p ∷ rest) e =
    let falls = (lawful_says p rest e).falls in
    let last : length (p ∷ rest) - 1 ≡ length rest = omega arith in
    record {
      at_points = λ k d h. through_after d p rest k falls h;
      between = λ k v d h from to. rw add-one (between_after d p rest k v falls (omega arith) from (rw add-one at to));
      past_last = λ v d h. past_after d p rest v falls (rw last at h);
    }

-- ---- the pull of a table, as a loop goes over its points

-- p is reached, `left` are the points after it, and the pull at v is that from p on
pub record Reached (ps : List PointFigures) (v : ℕ) (p : PointFigures) (left : List PointFigures) : Type 0 where
  pub pull : pull_after p left v ≡ table_pull ps v
  pub falls : orderly_after p left ≡ true
  pub from : p.speed ≤ v
  pub within : p.value ≤ 1000000
