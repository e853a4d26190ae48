-- A train of the code that brakes, with the laws that it reads, as an approach of the rules, and its steps.
use Rattle.std.specs.Prelude.{◌≡◌, ℕ, suc, ◌+◌, ◌<◌, ◌≤◌, min, true, false, List, map, length, ℤ, pos, int_le, Ok, Err, Result}
use Rattle.rules.specs.declared.refusal.Refusal.{Refusal}
use Rattle.rules.specs.Fraction.{natural_of}
use Rattle.rules.specs.Kind.{Kind}
use Rattle.rules.specs.Law.{Stock}
use Rattle.rules.specs.Refusals.{number_of}
use Rattle.rules.specs.Stop.{Approach as RuleApproach, Step, edge, edges_below, all_hold, steps_through, steps_from, brake_force, holding_force, braking_run, braking_distance, least_of}
use Rattle.reckoning.specs.declared.braking.Braking.{Braking}
use Rattle.reckoning.specs.declared.run.Run.{Run}
use Rattle.reckoning.specs.Approaches.{approach_of}
use Rattle.reckoning.specs.Speeds.{is_answered}

abbrev pub train_of : {S : Type 0} → (S → Stock) → Braking S → RuleApproach
train_of meaning b = approach_of b.approach (meaning b.stock.now)

-- a brake force of at least 1,000, and else refused
abbrev pub IsStrong : RuleApproach → ℕ → Result ℕ Refusal → Type 0
IsStrong a v (Ok b) = (b ≡ brake_force a v) × (1000 ≤ b)
IsStrong a v (Err e) = (number_of e ≡ 10) × (brake_force a v < 1000)

-- the least force of a run without a step: no brake force is greater
abbrev pub no_less : ℕ
no_less = 4294967295

-- a run with the step s more
pub record IsLonger (force : Step → ℤ) (s : Step) (run more : Run) : Type 0 where
  pub holds : int_le (pos 1000) (force s) ≡ true
  pub distance : more.distance ≡ run.distance + braking_run s (natural_of (force s))
  pub least : more.least ≡ min run.least (natural_of (force s))
  pub steps : more.steps ≡ run.steps + 1

-- one step more where its force holds the train, and else refused
abbrev pub StepAdded : (Step → ℤ) → Step → Run → Result Run Refusal → Type 0
StepAdded force s run (Ok more) = IsLonger force s run more
StepAdded force s run (Err e) = (number_of e ≡ 11) × (int_le (pos 1000) (force s) ≡ false)

-- a run through all steps of a list, each of which holds the train
pub record RunsThrough (force : Step → ℤ) (all : List Step) (run : Run) : Type 0 where
  pub holds : all_hold force all ≡ true
  pub distance : run.distance ≡ braking_distance force all
  pub least : run.least ≡ least_of no_less (map (λ s. natural_of (force s)) all)
  pub steps : run.steps ≡ length all

-- all steps of a stop from v where every force holds the train, and else refused
abbrev pub Braked : (Step → ℤ) → ℕ → Result Run Refusal → Type 0
Braked force v (Ok run) = RunsThrough force (steps_from v) run
Braked force v (Err e) = (number_of e ≡ 11) × (all_hold force (steps_from v) ≡ false)

-- the lowest steps of a stop from v, up to an edge or to v
pub record Climbs (force : Step → ℤ) (v : ℕ) (run : Run) : Type 0 where
  pub within : run.steps ≤ edges_below v
  pub through : RunsThrough force (steps_through (min (edge run.steps) v) run.steps) run

-- one of them more than in a run where its force holds the train, and else refused
abbrev pub Climbed : (Step → ℤ) → ℕ → Run → Result Run Refusal → Type 0
Climbed force v run (Ok more) = Climbs force v more × (more.steps ≡ run.steps + 1)
Climbed force v run (Err e) = (number_of e ≡ 11) × (all_hold force (steps_from v) ≡ false)

-- a run from the next edge below v
pub record IsBelow (force : Step → ℤ) (v : ℕ) (run : Run) : Type 0 where
  pub count : edges_below v ≡ suc run.steps
  pub through : RunsThrough force (steps_through (edge run.steps) run.steps) run

-- the run from v where the stop from v is answered, and else refused
abbrev pub RunInTime : Kind → RuleApproach → ℕ → Result Run Refusal → Type 0
RunInTime k a v (Ok run) = (is_answered k a v ≡ true) × RunsThrough (holding_force a) (steps_from v) run
RunInTime k a v (Err e) = is_answered k a v ≡ false
