-- `store::bytes::next_of` meets its contract.
use Rattle.store.specs.Records.{next}
use Rattle.store.proofs.bytes.next_of.Goals as goal

pub returns : goal.returns
unfolding next
returns c = c.u32_at.ensures
