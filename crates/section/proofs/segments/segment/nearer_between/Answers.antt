-- `section::segments::segment::nearer_between` meets its contract: where a leg or the sum of squares reaches the best, so does the hypot. Assumes
-- nothing.
use lib.Ieee.{binary64}
use lib.Ieee.Fits.{sub-fits}
use Rattle.arith.proofs.Laws.HypotSquares.{margin, squares_not_less}
use Rattle.arith.proofs.Laws.HypotReach.{hypot_not_less, hypot_not_less_right}
use Rattle.section.proofs.segments.segment.nearer_between.Goals as goal

pub returns-then-abs-least : goal.returns-then-abs-least
returns-then-abs-least c =
    rw (
    hypot_not_less binary64 c.args.best.distance _ _ c.well_formed.0.1.1.0.1
    (sub-fits binary64 c.args.p.z c.args.q.z) (sub-fits binary64 c.args.p.r c.args.q.r)
    (rw c.abs.ensures at c.if-abs-least.true)
    )

pub returns-then-abs-least-2 : goal.returns-then-abs-least-2
returns-then-abs-least-2 c =
    rw (
    hypot_not_less_right binary64 c.args.best.distance _ _ c.well_formed.0.1.1.0.1
    (sub-fits binary64 c.args.p.r c.args.q.r) (sub-fits binary64 c.args.p.z c.args.q.z)
    (rw c.abs-2.ensures at c.if-abs-least-2.true)
    )

pub returns-then-dz-dr : goal.returns-then-dz-dr
returns-then-dz-dr c =
    rw (
    squares_not_less binary64 _ _ margin c.args.best.distance _ _ c.well_formed.0.1.1.0.1
    (sub-fits binary64 c.args.p.z c.args.q.z) (sub-fits binary64 c.args.p.r c.args.q.r)
    c.if-dz-dr.true
    )
