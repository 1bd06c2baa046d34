-- `capi::lists::lists::front_of` meets its contract.
use borrow.Author.Tests.{le-ltb, lt-ltb}
use Rattle.capi.proofs.lists.lists.front_of.Goals as goal

pub returns-then-count-gt64 : goal.returns-then-count-gt64
returns-then-count-gt64 c = rw (lt-ltb 64 _ c.if-count-gt64.true)

pub returns-else-count-gt64 : goal.returns-else-count-gt64
returns-else-count-gt64 c = rw (le-ltb 64 _ c.if-count-gt64.false)
