-- Where the computed points of all edges of a polygon lie along each axis, and when an edge lies far from what
-- they hold. Only what functions below the entry points promise each other: no answer is defined by it.
use Rattle.std.specs.Prelude.{ℕ, ◌<◌, true, List, ◌≡◌, Float}
use Rattle.std.specs.Float.{binary64}
use Rattle.std.specs.Float.Ieee.{fits, neg}
use Rattle.arith.specs.F64.{∞}
use Rattle.section.specs.profile.Vertices.{count, end_at, upto, vertex_at}
use Rattle.section.specs.declared.profile.shapes.Vertex.{Vertex}
use Rattle.section.specs.segments.Hopeless.{Hopeless}
use Rattle.section.specs.ranges.Ranges.{gap_between, joined, range, range_of}
use Rattle.section.specs.declared.ranges.shapes.Sides.{Sides}

-- what g has, and the edge from a to b
unfoldable pub wider : Sides → Vertex → Vertex → Sides
wider g a b = record { z = joined g.z (range_of a.z b.z); r = joined g.r (range_of a.r b.r) }

abbrev pub nowhere : Sides
nowhere = record { z = range ∞ (neg ∞); r = range ∞ (neg ∞) }

-- the first n edges of a polygon
abbrev pub hull_of : List Float → ℕ → Sides
hull_of c n = upto (λ k g. wider g (vertex_at c k) (end_at c k)) nowhere n

-- f64 holds both numbers
pub record VertexHeld (v : Vertex) : Type 0 where
  pub z : fits binary64 v.z ≡ true
  pub r : fits binary64 v.r ≡ true

-- g is where the points of the polygon's edges lie
pub record Hull (c : List Float) (g : Sides) : Type 0 where
  pub is : g ≡ hull_of c (count c)
  pub held : (k : ℕ) → k < count c → VertexHeld (vertex_at c k)

-- the edge from a to b lies at least this far from all that g holds
pub record FarOff (least : Float) (a b : Vertex) (g : Sides) : Type 0 where
  pub held : VertexHeld a
  pub far : Hopeless (gap_between (range_of a.z b.z) g.z) (gap_between (range_of a.r b.r) g.r) least
