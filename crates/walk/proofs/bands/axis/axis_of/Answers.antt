-- `walk::bands::axis::axis_of` meets its contract.
use Rattle.walk.specs.bands.Axis.{axis}
use Rattle.walk.proofs.bands.axis.axis_of.Goals as goal

pub returns-then-z-most : goal.returns-then-z-most
unfolding axis
returns-then-z-most c = rw (← c.axis_dir-dir.ensures, ← c.abs-z.ensures, c.if-z-most.true)

pub returns-then-x-most : goal.returns-then-x-most
unfolding axis
returns-then-x-most c =
    rw (
      ← c.axis_dir-dir.ensures,
      ← c.abs-z.ensures,
      c.if-z-most.false,
      ← c.abs-x.ensures,
      c.if-z.true,
      c.if-x-most.true,
    )

pub returns-then-y-most : goal.returns-then-y-most
unfolding axis
returns-then-y-most c =
    rw (
      ← c.axis_dir-dir.ensures,
      ← c.abs-z.ensures,
      c.if-z-most.false,
      ← c.abs-x.ensures,
      ← c.abs-y.ensures,
      c.if-z.true,
      c.if-x-most.false,
      c.if-y-most.true,
    )

pub returns-else-y-most : goal.returns-else-y-most
unfolding axis
returns-else-y-most c =
    rw (
      ← c.axis_dir-dir.ensures,
      ← c.abs-z.ensures,
      c.if-z-most.false,
      ← c.abs-x.ensures,
      ← c.abs-y.ensures,
      c.if-z.true,
      c.if-x-most.false,
      c.if-y-most.false,
    )

pub returns-else-z : goal.returns-else-z
unfolding axis
returns-else-z c =
    rw (
      ← c.axis_dir-dir.ensures,
      ← c.abs-z.ensures,
      c.if-z-most.false,
      c.if-z.false,
    )
