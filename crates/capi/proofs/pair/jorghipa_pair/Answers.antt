-- `capi::pair::jorghipa_pair` meets its contract.
use Rattle.capi.proofs.handing.Fits.{pair_of_fits}
use Rattle.capi.proofs.handing.Same.{measures}
use Rattle.capi.proofs.pair.jorghipa_pair.Goals as goal

pub give_pair-requires : goal.give_pair-requires
give_pair-requires c = pair_of_fits _ _ _ _ c.pair_of-answer.ensures

pub returns : goal.returns
returns c = measures c.pair_of-answer.ensures c.give_pair.ensures
