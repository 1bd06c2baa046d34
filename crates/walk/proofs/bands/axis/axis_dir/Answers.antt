-- `walk::bands::axis::axis_dir` meets its contract.
use Rattle.walk.specs.bands.Axis.{axis_dir}
use Rattle.walk.proofs.bands.axis.axis_dir.Goals as goal

pub returns-then-len : goal.returns-then-len
unfolding axis_dir
returns-then-len c =
    let short = rw (c.length-len.ensures, c.sub-delta.ensures) at c.if-len.true in
    rw short

pub returns : goal.returns
unfolding axis_dir
returns c =
    let length = c.length-len.ensures in
    let delta = c.sub-delta.ensures in
    let long = rw (length, delta) at c.if-len.false in
    rw (c.unit.ensures, length, delta, long)
