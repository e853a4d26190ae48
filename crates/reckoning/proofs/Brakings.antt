-- A run step by step, from a stand up to the speed of a stop.
use Rattle.std.proofs.Common.{◌≡◌, ℕ, zero, suc, ◌+◌, ◌*◌, ◌/◌, ◌<◌, ◌≤◌, min, Bool, true, false, cond, ◌&&◌, ◌==◌, List, [], ◌∷◌, map, length, ℤ, pos, int_le, sym, refl, ap, ◌∙◌, subst, arith}
use Rattle.std.proofs.lemmas.Bool.{eqb-false, eqb-true}
use native.Mathlib.Decide.{dec_lt}
use Rattle.reckoning.specs.declared.run.Run.{Run}
use Rattle.reckoning.specs.Brakings.{no_less, IsLonger, RunsThrough, Climbs, IsBelow}
use Rattle.rules.specs.Fraction.{natural_of}
use Rattle.rules.specs.Stop.{Step, step, edge, edges_below, steps_through, steps_from, all_hold, least_of}
use Rattle.rules.proofs.Steps.{counted, weak_below}

pub through_length : (y k : ℕ) → length (steps_through y k) ≡ k
through_length y zero = refl
through_length y (suc k) = ap suc (through_length (edge k) k)

-- the least force with the brake force b
least_with : (b n : ℕ) (ns : List ℕ) → b ≤ n → min (least_of n ns) b ≡ least_of b ns
least_with b n [] h = omega arith
least_with b n (m ∷ ns) h = omega (arith, least_with b n ns h)

module _ (force : Step → ℤ) where
  pub least_under : (b : ℕ) (all : List Step) (run : Run) → RunsThrough force all run → b ≤ 4294967295
      → min run.least b ≡ least_of b (map (λ s. natural_of (force s)) all)
  least_under b all run through small = ap (λ (n : ℕ). min n b) through.least ∙ least_with b no_less (map (λ s. natural_of (force s)) all) small

  -- no step from any speed
  pub none_through : (y : ℕ) (run : Run) → run.distance ≡ 0 → run.least ≡ no_less → run.steps ≡ 0 → RunsThrough force (steps_through y run.steps) run
  none_through y run distance least steps =
      subst (λ (k : ℕ). RunsThrough force (steps_through y k) run) (sym steps) (record { holds = refl; distance = distance; least = least; steps = steps })

  -- a step more, from y down to the edge where a run begins
  pub longer_through : (y : ℕ) (run more : Run) → IsLonger force (step y (edge run.steps)) run more → RunsThrough force (steps_through (edge run.steps) run.steps) run
      → RunsThrough force (steps_through y (suc run.steps)) more
  longer_through y run more longer through =
      record {
        holds = ap (λ (t : Bool). t && all_hold force (steps_through (edge run.steps) run.steps)) longer.holds ∙ through.holds;
        distance = omega (arith, longer.distance, through.distance);
        least = omega (arith, longer.least, through.least);
        steps = omega (arith, longer.steps, through.steps);
      }

  -- ---- up to the speed v

  pub begins : (v : ℕ) (run : Run) → run.distance ≡ 0 → run.least ≡ no_less → run.steps ≡ 0 → Climbs force v run
  begins v run distance least steps = record { within = omega (arith, steps); through = none_through _ run distance least steps }

  -- one step more, up to the next edge or to v
  pub again : (v y : ℕ) (run more : Run) → IsLonger force (step y (edge run.steps)) run more → Climbs force v run → edge run.steps < v
      → y ≡ min (edge (run.steps + 1)) v → Climbs force v more
  again v y run more longer climbs below top =
      let first : min (edge run.steps) v ≡ edge run.steps = omega (arith, below) in
      let at_edge = subst (λ (x : ℕ). RunsThrough force (steps_through x run.steps) run) first climbs.through in
      let next : suc run.steps ≡ more.steps = omega (arith, longer.steps) in
      let upper : y ≡ min (edge more.steps) v = omega (arith, longer.steps, top) in
      record {
        within = omega (arith, longer.steps, (counted v run.steps).0 below);
        through =
            subst (λ (x : ℕ). RunsThrough force (steps_through x more.steps) more) upper
            (subst (λ (k : ℕ). RunsThrough force (steps_through y k) more) next (longer_through y run more longer at_edge));
      }

  pub gives_way : (v y : ℕ) (run : Run) → int_le (pos 1000) (force (step y (edge run.steps))) ≡ false → edge run.steps < v
      → y ≡ min (edge (run.steps + 1)) v → all_hold force (steps_from v) ≡ false
  gives_way v y run weak below top = weak_below force v run.steps y below top weak

  pub ends : (v : ℕ) (run : Run) → Climbs force v run → v ≤ edge run.steps → RunsThrough force (steps_from v) run
  ends v run climbs past =
      let all : run.steps ≡ edges_below v = elim (dec_lt run.steps (edges_below v)) [ yes p ↦ absurd (omega (arith, past, (counted v run.steps).1 p)) | no p ↦ omega (arith, climbs.within) ] in
      let top : min (edge run.steps) v ≡ v = omega (arith, past) in
      subst (λ (k : ℕ). RunsThrough force (steps_through v k) run) all
      (subst (λ (x : ℕ). RunsThrough force (steps_through x run.steps) run) top climbs.through)

  -- ---- from edge to edge

  -- a run from the next lower edge has room for a step more
  pub room : (v : ℕ) (run : Run) → IsBelow force v run → v ≤ 1600 → (run.steps ≤ 26) × (edge run.steps ≤ v)
  room v run below slow = (omega (arith, below.count), omega (arith, (counted v run.steps).1 (omega (arith, below.count))))

  -- with that step it is the run from the speed
  pub reaches : (v : ℕ) (run more : Run) → IsBelow force v run → IsLonger force (step v (edge run.steps)) run more → RunsThrough force (steps_from v) more
  reaches v run more below longer =
      subst (λ (k : ℕ). RunsThrough force (steps_through v k) more) (sym below.count) (longer_through v run more longer below.through)

  -- where that step does not hold, not every step from the speed does
  pub stays_weak : (v : ℕ) (run : Run) → IsBelow force v run → int_le (pos 1000) (force (step v (edge run.steps))) ≡ false
      → all_hold force (steps_from v) ≡ false
  stays_weak v run below weak =
      ap (λ (k : ℕ). all_hold force (steps_through v k)) below.count
      ∙ ap (λ (t : Bool). t && all_hold force (steps_through (edge run.steps) run.steps)) weak

  -- at rest the run of no step is from the edge below 50
  pub starts : (run : Run) → run.distance ≡ 0 → run.least ≡ no_less → run.steps ≡ 0 → IsBelow force 50 run
  starts run distance least steps = record { count = omega (arith, steps); through = none_through _ run distance least steps }

  -- from one multiple of 50 to the next: the run from it is kept at an edge, and else the one from the edge below it
  pub moves_on : (v : ℕ) (run more next : Run) → 50 * (v / 50) ≡ v → IsBelow force v run → RunsThrough force (steps_from v) more
      → next ≡ cond (v == edge more.steps) more run → IsBelow force (v + 50) next
  moves_on v run more next multiple below through is = moved (v == edge more.steps) refl is
    where
      count : more.steps ≡ suc run.steps
      count = omega (arith, through.steps, through_length v (edges_below v), below.count)

      moved : (b : Bool) → (v == edge more.steps) ≡ b → next ≡ cond b more run → IsBelow force (v + 50) next
      moved true at is =
          let top : v ≡ edge more.steps = eqb-true v (edge more.steps) at in
          let all : edges_below v ≡ more.steps = omega (arith, below.count, count) in
          subst (IsBelow force (v + 50)) (sym is)
          (record {
            count = omega (arith, top);
            through = subst (λ (x : ℕ). RunsThrough force (steps_through x more.steps) more) top (subst (λ (k : ℕ). RunsThrough force (steps_through v k) more) all through);
          })
      moved false at is =
          let apart = eqb-false v (edge more.steps) at in
          subst (IsBelow force (v + 50)) (sym is) (record { count = omega (arith, multiple, below.count, count, apart); through = below.through })
