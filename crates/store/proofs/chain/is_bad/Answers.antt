-- `store::chain::is_bad` meets its contract.
use borrow.Author.Tests.{le-leb, lt-leb}
use Rattle.store.proofs.chain.is_bad.Goals as goal

pub returns-then-count-place : goal.returns-then-count-place
returns-then-count-place c = rw (le-leb _ _ c.if-count-place.true)

pub returns : goal.returns
returns c = rw (lt-leb _ _ c.if-count-place.false)
