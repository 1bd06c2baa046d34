-- `store::edits::judging::chain_of` meets its contract: an accepted store's links are not refused.
use native.Mathlib.Omega.{arith}
use lib.ListN.{length-take}
use Rattle.store.proofs.Filling.{filled_by}
use Rattle.store.proofs.edits.Good.{front_fits}
use Rattle.store.proofs.edits.Trials.{links_accepted}
use Rattle.store.proofs.edits.judging.chain_of.Goals as goal

pub slice_bounds-read_chain-end : goal.slice_bounds-read_chain-end
slice_bounds-read_chain-end c =
    simp length-take (omega (arith, front_fits _ _ c.requires.0))

pub returns : goal.returns
returns c =
    let h = filled_by _ c.read_chain.ensures (λ i k. links_accepted _ _ c.requires.0) in
    rw c.unwrap_or.ensures (h.front, h.small)
