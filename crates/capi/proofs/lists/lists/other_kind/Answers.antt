-- `capi::lists::lists::other_kind` meets its contract.
use borrow.Author.Tests.{le-ltb, lt-ltb}
use Rattle.capi.proofs.lists.lists.other_kind.Goals as goal

pub returns-then-kind-lt2 : goal.returns-then-kind-lt2
returns-then-kind-lt2 c = rw (lt-ltb _ 2 c.if-kind-lt2.true)

pub returns : goal.returns
returns c = rw (le-ltb _ 2 c.if-kind-lt2.false)
