-- `section::ranges::passed::gap_between` meets its contract.
use Rattle.section.specs.ranges.Ranges.{gap_between}
use Rattle.section.proofs.ranges.passed.gap_between.Goals as goal

pub returns-then-over : goal.returns-then-over
unfolding gap_between
returns-then-over c = rw c.if-over.true

pub returns-then-under : goal.returns-then-under
unfolding gap_between
returns-then-under c = rw (c.if-over.false, c.if-under.true)

pub returns : goal.returns
unfolding gap_between
returns c = rw (c.if-over.false, c.if-under.false)
