-- `section::ranges::range::join` meets its contract.
use Rattle.section.specs.ranges.Ranges.{joined}
use Rattle.section.proofs.ranges.range.join.Goals as goal

pub returns : goal.returns
unfolding joined
returns c = rw (← c.min.ensures, ← c.max.ensures)
