-- An edge that lies far off what some sides hold is not nearer to a segment that they hold. By the law of segments whose legs are
-- hopeless.
use mathlib.Core.Bool.{false}
use mathlib.Core.Path.{◌≡◌}
use lib.Ieee.{Float}
use Rattle.arith.specs.F64.{◌≺◌}
use Rattle.arith.proofs.Laws.OrderHeld.{true→T}
use Rattle.section.specs.declared.profile.shapes.Edge.{Edge}
use Rattle.section.specs.declared.profile.shapes.Vertex.{Vertex}
use Rattle.section.specs.segments.Segments.{segments}
use Rattle.section.specs.ranges.Hull.{FarOff}
use Rattle.section.specs.declared.ranges.shapes.Sides.{Sides}
use Rattle.section.proofs.ranges.Apart.{has, hopeless_segment, range_has}
use Rattle.section.proofs.ranges.HeldEdges.{HoldsEdge}

pub far_off_not_nearer : (least : Float) (e : Edge) (q q' : Vertex) (g : Sides) → HoldsEdge g q q' → FarOff least e.a e.b g
    → ((segments e q q').distance ≺ least) ≡ false
far_off_not_nearer least e q q' g h F =
    hopeless_segment least e q q' _ _ _ _ (range_has _ _ (true→T F.held.z)) (range_has _ _ (true→T F.held.r))
    (has g.z _ _ h.ended.z h.z) (has g.r _ _ h.ended.r h.r) F.far
