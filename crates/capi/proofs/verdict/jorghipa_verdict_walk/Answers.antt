-- `capi::verdict::jorghipa_verdict_walk` meets its contract: the verdict's case in the lent places.
use Rattle.capi.proofs.handing.Same.{measures}
use Rattle.capi.proofs.verdict.jorghipa_verdict_walk.Goals as goal

pub give_walk-requires : goal.give_walk-requires
give_walk-requires c = c.verdict_walk-verdict.ensures.owed

pub returns : goal.returns
returns c = measures (rw c.bar.ensures at c.verdict_walk-verdict.ensures) c.give_walk.ensures
