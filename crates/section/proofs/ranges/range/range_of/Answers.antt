-- `section::ranges::range::range_of` meets its contract.
use Rattle.section.specs.ranges.Ranges.{range_of}
use Rattle.section.proofs.ranges.range.range_of.Goals as goal

pub returns-then-d : goal.returns-then-d
unfolding range_of
returns-then-d c = rw (← c.is_finite.ensures, c.if-is_finite.true, c.if-d.true)

pub returns-then-is_finite : goal.returns-then-is_finite
unfolding range_of
returns-then-is_finite c = rw (← c.is_finite.ensures, c.if-is_finite.true, c.if-d.false)

pub returns : goal.returns
unfolding range_of
returns c = rw (← c.is_finite.ensures, c.if-is_finite.false, ← c.infinity-top.ensures)
