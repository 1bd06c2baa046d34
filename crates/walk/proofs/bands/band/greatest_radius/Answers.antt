-- `walk::bands::band::greatest_radius` meets its contract: where the ends are in order, the farthest corner has it.
use lib.Ieee.{binary64}
use Rattle.arith.proofs.Laws.HypotCorner.{farthest_corner}
use Rattle.walk.proofs.bands.band.greatest_radius.Goals as goal

pub returns-then-y0-y1 : goal.returns-then-y0-y1
returns-then-y0-y1 c =
    let a = c.args in
    let g = c.well_formed in
    rw (
      farthest_corner binary64 a.x0 a.x1 a.y0 a.y1 g.0.1 g.1.0.1 g.1.1.0.1 g.1.1.1.0.1
          c.if-x0-x1.true c.if-y0-y1.true,
      ← c.farthest_from_zero.ensures,
      ← c.farthest_from_zero-then-y0-y1.ensures,
      ← c.hypot.ensures,
    )
