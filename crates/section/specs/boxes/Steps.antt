-- What functions below the entry points promise each other.
use Rattle.std.specs.Prelude.{ℕ, Bool, List, T, Float}
use Rattle.std.specs.Float.{binary64}
use Rattle.std.specs.Float.Ieee.{fits}
use Rattle.arith.specs.F64.{𝟘}
use Rattle.section.specs.profile.Vertices.{hit, any, count, vertex_at, end_at, edge_at, nearer}
use Rattle.section.specs.declared.profile.shapes.Aabb.{Aabb}
use Rattle.section.specs.declared.profile.shapes.CollisionHit.{CollisionHit}
use Rattle.section.specs.declared.profile.shapes.Edge.{Edge}
use Rattle.section.specs.declared.profile.shapes.Vertex.{Vertex}
use Rattle.section.specs.points.Overlap.{result_of}
use Rattle.section.specs.ranges.Ranges.{Has}
use Rattle.section.specs.ranges.Search.{FoundFrom}
use Rattle.section.specs.declared.ranges.shapes.Range.{Range}
use Rattle.section.specs.declared.ranges.shapes.Sides.{Sides}
use Rattle.section.specs.boxes.Boxes.{box_gap, edge_box, segment_through_interior}

-- the search for the edge nearest to the box, from one edge up to another
abbrev pub GapFrom : List Float → Aabb → ℕ → ℕ → CollisionHit → CollisionHit → Type 0
GapFrom s x = FoundFrom (λ k. edge_box x (edge_at s k))

-- g has the edge's computed points, hz and hr those of the box's side from c to d
pub record Ranged (e : Edge) (g : Sides) (c d : Vertex) (hz hr : Range) : Type 0 where
  pub edge_z : Has g.z e.a.z e.b.z
  pub edge_r : Has g.r e.a.r e.b.r
  pub side_z : Has hz c.z d.z
  pub side_r : Has hr c.r d.r

-- f64 holds the edge's start and the box's bounds
pub record HeldBeside (x : Aabb) (e : Edge) : Type 0 where
  pub a_z : T (fits binary64 e.a.z)
  pub a_r : T (fits binary64 e.a.r)
  pub z0 : T (fits binary64 x.z0)
  pub z1 : T (fits binary64 x.z1)
  pub r0 : T (fits binary64 x.r0)
  pub r1 : T (fits binary64 x.r1)

-- an edge's clipped middle lies well inside
abbrev pub any_through : List Float → Aabb → Bool
any_through s x = any (λ k. segment_through_interior x (vertex_at s k) (end_at s k)) (count s)

-- the distance where no vertex lies well inside; deep is the penetration, from whatever witness
unfoldable pub box_apart : List Float → Aabb → CollisionHit → CollisionHit
box_apart s x deep =
    let gap = box_gap s x in
    let found = nearer (hit 𝟘 gap.witness) deep in
    hit (result_of found.distance (any_through s x) gap.distance) found.witness
