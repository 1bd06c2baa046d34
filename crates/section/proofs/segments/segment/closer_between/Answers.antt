-- `section::segments::segment::closer_between` meets its contract: where a leg reaches the best, the hypot is no less.
use lib.Ieee.{binary64}
use lib.Ieee.Fits.{sub-fits}
use Rattle.arith.proofs.Laws.HypotReach.{hypot_reaches, hypot_reaches_right}
use Rattle.section.proofs.segments.segment.closer_between.Goals as goal

pub returns-then-abs-best : goal.returns-then-abs-best
returns-then-abs-best c =
    rw (
    hypot_reaches binary64 c.args.best _ _ c.well_formed.0.1
    (sub-fits binary64 c.args.p.z c.args.q.z) (sub-fits binary64 c.args.p.r c.args.q.r)
    c.if-dr.true (rw c.abs.ensures at c.if-abs-best.true)
    )

pub returns-then-abs-best-2 : goal.returns-then-abs-best-2
returns-then-abs-best-2 c =
    rw (
    hypot_reaches_right binary64 c.args.best _ _ c.well_formed.0.1
    (sub-fits binary64 c.args.p.r c.args.q.r) (sub-fits binary64 c.args.p.z c.args.q.z)
    c.if-dz.true (rw c.abs-then-dz.ensures at c.if-abs-best-2.true)
    )
