-- `section::signed::overlap::result_of` meets its contract.
use Rattle.section.specs.points.Overlap.{result_of}
use Rattle.section.proofs.signed.overlap.result_of.Goals as goal

pub returns-then-penetration : goal.returns-then-penetration
unfolding result_of
returns-then-penetration c = rw c.if-penetration.true

pub returns-then-overlaps : goal.returns-then-overlaps
unfolding result_of
returns-then-overlaps c = rw (c.if-penetration.false, c.if-overlaps.true)

pub returns-then-gap : goal.returns-then-gap
unfolding result_of
returns-then-gap c = rw (c.if-penetration.false, c.if-overlaps.false, c.if-gap.true)

pub returns-else-gap : goal.returns-else-gap
unfolding result_of
returns-else-gap c = rw (c.if-penetration.false, c.if-overlaps.false, c.if-gap.false)
