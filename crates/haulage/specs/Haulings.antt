-- A way of hauling of the code as one of the rules.
use Rattle.std.specs.Prelude.{ℕ, ◌+◌}
use Rattle.rules.specs.Law.{Stock}
use Rattle.rules.specs.Mass.{whole_ratio, HaulReadings, Engines, Hauling as RuleHauling}
use Rattle.train.specs.declared.totals.Totals.{Totals}
use Rattle.haulage.specs.declared.hauling.Hauling.{Hauling}

-- what is read cautiously of a stock at a gross mass
abbrev pub cautious : Stock → ℕ → RuleHauling → Hauling
cautious s q m =
    record {
      pull = s.pull.below m.pull_at;
      pulling = s.pulling.above m.drag_at q;
      wagon = s.wagon.above m.drag_at q;
      added = m.added;
      coupler = m.coupler;
    }

-- its readings on a rise
abbrev pub readings_on : Hauling → ℕ → HaulReadings
readings_on m h =
    record {
      pull = whole_ratio m.pull;
      pulling = whole_ratio m.pulling;
      wagon = whole_ratio m.wagon;
      grade = whole_ratio (h + m.added);
    }

-- the locomotives of a train
abbrev pub engines_of : Totals → Engines
engines_of t = record { count = t.locomotives; mass = t.hauling }
