-- `section::builders::builder::three_kept` meets its contract.
use borrow.Author.Tests.{lt-ltb, le-ltb}
use Rattle.section.specs.builders.Steps.{three_kept}
use Rattle.section.proofs.builders.builder.three_kept.Goals as goal

pub returns-then-vertices-lt3 : goal.returns-then-vertices-lt3
unfolding three_kept
returns-then-vertices-lt3 c = rw (lt-ltb _ _ c.if-vertices-lt3.true)

pub returns : goal.returns
unfolding three_kept
returns c = rw (le-ltb _ _ c.if-vertices-lt3.false)
