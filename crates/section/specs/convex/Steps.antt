-- What the steps of the search for the gap promise each other.
use Rattle.std.specs.Prelude.{ℕ, ◌<◌, ◌≤◌, false, List, ◌≡◌, Float}
use Rattle.arith.specs.F64.{◌≺◌}
use Rattle.section.specs.profile.Vertices.{count, vertex_at, end_at, edge_at, nearer}
use Rattle.section.specs.declared.profile.shapes.CollisionHit.{CollisionHit}
use Rattle.section.specs.segments.Segments.{segments}
use Rattle.section.specs.ranges.Hull.{FarOff}
use Rattle.section.specs.declared.ranges.shapes.Sides.{Sides}

-- 01's two segments: edge j of the section and edge i of the convex body
abbrev pub pair_at : List Float → List Float → ℕ → ℕ → CollisionHit
pair_at c s i j = segments (edge_at s j) (vertex_at c i) (end_at c i)

-- the edges before r lie this far from what the hull holds
pub record FarBefore (s : List Float) (hull : Sides) (least : Float) (r : ℕ) : Type 0 where
  pub within : r ≤ count s
  pub far : (j : ℕ) → j < r → FarOff least (vertex_at s j) (end_at s j) hull

-- and so do those from r on
pub record FarAfter (s : List Float) (hull : Sides) (least : Float) (from r : ℕ) : Type 0 where
  pub order : from ≤ r
  pub within : r ≤ count s
  pub far : (j : ℕ) → r ≤ j → j < count s → FarOff least (vertex_at s j) (end_at s j) hull

-- no pair with an edge of the section outside of these is nearer than this
pub record Window (c s : List Float) (from to : ℕ) (least : Float) : Type 0 where
  pub order : from ≤ to
  pub within : to ≤ count s
  pub before : (i j : ℕ) → i < count c → j < from → ((pair_at c s i j).distance ≺ least) ≡ false
  pub after : (i j : ℕ) → i < count c → to ≤ j → j < count s → ((pair_at c s i j).distance ≺ least) ≡ false

-- r is some pair's, where that is nearer
pub data OfPair (c s : List Float) (none r : CollisionHit) : Type 0 where
  of_pair : (i j : ℕ) → i < count c → j < count s → r ≡ nearer none (pair_at c s i j) → OfPair c s none r
