-- `store::bytes::u32_at` meets its contract.
use Rattle.store.proofs.LowFirst.{four_read}
use Rattle.store.proofs.bytes.u32_at.Goals as goal

pub returns : goal.returns
returns c =
    rw (c.from_le_bytes.ensures, c.byte_at.ensures, c.byte_at-2.ensures, c.byte_at-3.ensures, c.byte_at-4.ensures) (four_read _ _)
