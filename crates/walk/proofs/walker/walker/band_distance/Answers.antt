-- `walk::walker::walker::band_distance`. One box of a line, otherwise the walk.
use Rattle.walk.specs.Walk.{band_distance}
use Rattle.walk.proofs.walker.walker.band_distance.Goals as goal

pub returns-then-b : goal.returns-then-b
unfolding band_distance
returns-then-b c = rw (c.if-b.true, ← c.thin_box.ensures) c.one_box.ensures

pub returns : goal.returns
unfolding band_distance
returns c = rw c.if-b.false c.walk_with.ensures
