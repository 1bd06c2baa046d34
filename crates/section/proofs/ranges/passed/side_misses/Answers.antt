-- `section::ranges::passed::side_misses` meets its contract.
use Rattle.section.specs.ranges.Ranges.{side_misses}
use Rattle.section.proofs.ranges.passed.side_misses.Goals as goal

pub returns-then-q : goal.returns-then-q
unfolding side_misses
returns-then-q c = rw c.if-q.true

pub returns-then-abs : goal.returns-then-abs
unfolding side_misses
returns-then-abs c = rw (c.if-q.false, ← c.abs.ensures, c.if-abs.true)

pub returns-then-p : goal.returns-then-p
unfolding side_misses
returns-then-p c = rw (c.if-q.false, ← c.abs.ensures, c.if-abs.false, c.if-p.true)

pub returns : goal.returns
unfolding side_misses
returns c = rw (c.if-q.false, ← c.abs.ensures, c.if-abs.false, c.if-p.false)
