-- `section::signed::distance::crosses` meets its contract.
use Rattle.section.specs.points.Points.{crosses}
use Rattle.section.proofs.signed.distance.crosses.Goals as goal

pub returns-then-ar-pr : goal.returns-then-ar-pr
unfolding crosses
returns-then-ar-pr c = rw c.if-ar-pr.true

pub returns-then-abs : goal.returns-then-abs
unfolding crosses
returns-then-abs c = rw (c.if-ar-pr.false, ← c.abs.ensures, c.if-abs.true)

pub returns : goal.returns
unfolding crosses
returns c =
    rw (
      c.if-ar-pr.false,
      ← c.abs.ensures,
      c.if-abs.false,
    )
