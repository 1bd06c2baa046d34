-- `store::store_edits::trying::length_with` meets its contract.
use borrow.Author.Tests.{le-ltb, lt-ltb}
use Rattle.store.proofs.store_edits.trying.length_with.Goals as goal

pub returns-then-m-n : goal.returns-then-m-n
returns-then-m-n c = rw (lt-ltb _ _ c.if-m-n.true)

pub returns : goal.returns
returns c = rw (le-ltb _ _ c.if-m-n.false)
