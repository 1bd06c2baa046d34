-- `capi::pair::jorghipa_pair_convex` meets its contract: the pair's answer in the lent places.
use Rattle.capi.proofs.handing.Fits.{pair_convex_fits}
use Rattle.capi.proofs.handing.Same.{measures}
use Rattle.capi.proofs.pair.jorghipa_pair_convex.Goals as goal

pub give_pair-requires : goal.give_pair-requires
give_pair-requires c =
    pair_convex_fits _ _ _ c.query_pair_convex-answer.ensures

pub returns : goal.returns
returns c =
    measures c.query_pair_convex-answer.ensures c.give_pair.ensures
