-- What an outcome with figures tells.
use Rattle.std.specs.Prelude.{Result}
use Rattle.rules.specs.declared.figures.StopFigures.{StopFigures}
use Rattle.rules.specs.declared.refusal.Refusal.{Refusal}
use Rattle.rules.specs.Refusals.{Reply, stops, reply_of}

-- the reply that the outcome of a stop is
abbrev pub stop_told : Result StopFigures Refusal → Reply
stop_told = reply_of (λ s. stops s.distance s.least s.steps)
