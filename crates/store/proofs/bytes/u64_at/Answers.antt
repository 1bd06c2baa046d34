-- `store::bytes::u64_at` meets its contract.
use Rattle.store.proofs.LowFirst.{eight_read}
use Rattle.store.proofs.bytes.u64_at.Goals as goal

pub returns : goal.returns
returns c =
    rw (c.from.ensures, c.from-2.ensures, c.u32_at-low.ensures, c.u32_at-high.ensures) (eight_read _ _)
