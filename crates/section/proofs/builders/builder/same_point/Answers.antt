-- `section::builders::builder::same_point` meets its contract.
use Rattle.section.specs.builders.Builder.{same_point}
use Rattle.section.proofs.builders.builder.same_point.Goals as goal

pub returns-then-abs : goal.returns-then-abs
unfolding same_point
returns-then-abs c =
    rw (← c.abs.ensures, c.if-abs.true, c.abs-then-abs.ensures)

pub returns-else-abs : goal.returns-else-abs
unfolding same_point
returns-else-abs c = rw (← c.abs.ensures, c.if-abs.false)
