-- `store::edits::copying::put` meets its contract: the word stands in the place of the bytes that were there.
use Rattle.store.proofs.edits.Trials.{put_whole}
use Rattle.store.proofs.edits.copying.put.Goals as goal

pub returns : goal.returns
returns c = rw c.copy_from_slice.ensures.after (put_whole c.requires)
