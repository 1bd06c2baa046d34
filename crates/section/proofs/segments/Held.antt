-- f64 holds every distance of a point from a segment, and of two segments: a hypot, rounded, whatever the coordinates.
use lib.Ieee.{binary64}
use Rattle.arith.proofs.Laws.Hypot.{hypot_fits}
use Rattle.section.specs.declared.profile.shapes.Vertex.{Vertex}
use Rattle.section.specs.declared.profile.shapes.Edge.{Edge}
use Rattle.section.proofs.profile.Numbers.{Held}
use Rattle.section.specs.segments.Segments.{closest, segments}

pub closest_held : (p : Vertex) (e : Edge) → Held (closest p e)
unfolding closest
closest_held p e = hypot_fits binary64 _ _

pub segments_held : (e : Edge) (q q' : Vertex) → Held (segments e q q')
unfolding segments
segments_held e q q' = hypot_fits binary64 _ _
