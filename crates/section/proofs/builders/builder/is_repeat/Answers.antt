-- `section::builders::builder::is_repeat` meets its contract.
use borrow.Author.Tests.{lt-ltb, le-ltb}
use Rattle.section.proofs.builders.builder.is_repeat.Goals as goal

pub returns-then-run-gt0 : goal.returns-then-run-gt0
returns-then-run-gt0 c = rw (lt-ltb _ _ c.if-run-gt0.true) c.same_point.ensures

pub returns-else-run-gt0 : goal.returns-else-run-gt0
returns-else-run-gt0 c = rw (le-ltb _ _ c.if-run-gt0.false)
