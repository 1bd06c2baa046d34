-- `section::builders::builder::push_dedup` meets its contract.
use Rattle.section.specs.builders.Steps.{pushed, pushed_space}
use Rattle.section.proofs.builders.builder.push_dedup.Goals as goal

pub returns-then-is_repeat : goal.returns-then-is_repeat
unfolding pushed pushed_space
returns-then-is_repeat c =
    (rw (← c.is_repeat.ensures, c.if-is_repeat.true), rw (← c.is_repeat.ensures, c.if-is_repeat.true))

pub returns : goal.returns
unfolding pushed pushed_space
returns c =
    let same = c.is_repeat.ensures in
    let other = c.if-is_repeat.false in
    (rw (← same, other), rw (← same, other) c.put.ensures)
