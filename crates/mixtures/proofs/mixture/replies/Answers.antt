-- The promise about the history is that of the calls performed, and the replies are those beside them.
use Rattle.mixtures.proofs.Replies.{mixed}
use Rattle.mixtures.proofs.mixture.replies.Goals as goal

pub returns : goal.returns
returns g c = mixed _ _ _ _ _ _ c.perform.ensures c.beside.ensures
