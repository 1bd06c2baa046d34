-- `section::ranges::range::sides_range` meets its contract.
use Rattle.section.specs.ranges.Ranges.{sides_range}
use Rattle.section.proofs.ranges.range.sides_range.Goals as goal

pub returns : goal.returns
unfolding sides_range
returns c = rw (← c.range_of.ensures, ← c.range_of-2.ensures, ← c.join.ensures)
