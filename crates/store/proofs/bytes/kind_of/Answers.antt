-- `store::bytes::kind_of` meets its contract.
use Rattle.store.specs.Records.{kind}
use Rattle.store.proofs.bytes.kind_of.Goals as goal

pub returns : goal.returns
unfolding kind
returns c = c.u32_at.ensures
