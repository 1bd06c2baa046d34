-- `store::store_edits::trying::ending` meets its contract.
use native.Mathlib.Omega.{arith}
use mathlib.Core.List.{append-nil}
use lib.ListN.{drop, length-drop}
use lib.Seq.{take_all}
use Rattle.store.proofs.store_edits.trying.ending.Goals as goal

pub returns : goal.returns
returns c =
    rw (
      c.copy_from_slice.ensures.after,
      append-nil,
      take_all 36 (drop 4 c.args.bytes.now) (simp length-drop (omega (arith, c.told-bytes))),
    )
