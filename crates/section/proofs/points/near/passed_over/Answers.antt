-- `section::points::near::passed_over` meets its contract: along one axis the edge is as far as the best.
use Rattle.arith.proofs.Laws.OrderHeld.{true→T}
use Rattle.section.proofs.ranges.FarApart.{far_from_r, far_from_z}
use Rattle.section.proofs.points.near.passed_over.Goals as goal

pub returns-then-far_from : goal.returns-then-far_from
returns-then-far_from c =
    λ t. far_from_z c.args.least c.well_formed.1.1.1.1.0.1 _ c.args.a c.args.b
    (true→T c.well_formed.1.1.0.1.1.0.1) (true→T c.well_formed.0.1) (c.far_from.ensures c.if-far_from.true)

pub returns-else-far_from : goal.returns-else-far_from
returns-else-far_from c =
    λ t. far_from_r c.args.least c.well_formed.1.1.1.1.0.1 _ c.args.a c.args.b
    (true→T c.well_formed.1.1.0.1.1.1.0.1) (true→T c.well_formed.1.0.1) (c.far_from-else-far_from.ensures t)
