-- `store::store_edits::trying::try_add` meets its contract.
use native.Mathlib.Omega.{arith}
use mathlib.Core.Path.{◌∙◌}
use Rattle.store.proofs.LowFirst.{link_written}
use Rattle.store.proofs.edits.Trials.{added_tried}
use Rattle.store.proofs.store_edits.trying.try_add.Goals as goal

pub returns : goal.returns
returns c =
    added_tried c.put.ensures (omega (arith, c.requires.0)) c.args.bytes.now c.args.m c.args.t
    c.ending-new.ensures c.put-2.ensures (c.to_le_bytes-link.ensures ∙ link_written _ c.requires.1)
    c.put-3.ensures c.keep.ensures
