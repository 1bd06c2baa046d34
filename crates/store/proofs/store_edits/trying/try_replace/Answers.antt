-- `store::store_edits::trying::try_replace` meets its contract.
use native.Mathlib.Omega.{arith}
use Rattle.store.proofs.edits.Trials.{replaced_tried}
use Rattle.store.proofs.store_edits.trying.try_replace.Goals as goal

pub returns : goal.returns
returns c =
    replaced_tried c.put.ensures (omega arith) c.put-2.ensures c.keep.ensures
