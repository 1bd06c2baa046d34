-- What functions below the entry points promise each other.
use Rattle.std.specs.Prelude.{ℕ, cond, List, Float}
use Rattle.arith.specs.F64.{∞}
use Rattle.section.specs.profile.Vertices.{on, hit, vertex_at, end_at, edge_at}
use Rattle.section.specs.declared.profile.shapes.CollisionHit.{CollisionHit}
use Rattle.section.specs.declared.profile.shapes.Vertex.{Vertex}
use Rattle.section.specs.segments.Segments.{closest}
use Rattle.section.specs.ranges.Search.{FoundFrom}
use Rattle.section.specs.points.Points.{edge_is_surface}

-- where no edge counts: +infinity, the first vertex and edge 0
abbrev pub no_edge : List Float → CollisionHit
no_edge s = hit ∞ (on 0 (vertex_at s 0))

-- the closest point on edge k, or one at +infinity where the edge does not count: it is never taken
abbrev pub surface_at : List Float → Vertex → ℕ → CollisionHit
surface_at s p k = cond (edge_is_surface (vertex_at s k) (end_at s k)) (closest p (edge_at s k)) (hit ∞ (on 0 (vertex_at s 0)))

-- the search for the closest point, from one edge up to another
abbrev pub SurfaceFrom : List Float → Vertex → ℕ → ℕ → CollisionHit → CollisionHit → Type 0
SurfaceFrom s p = FoundFrom (surface_at s p)
