-- Demand 1 of every query that is answered: the distance is never NaN, infinite only for a point or a sphere beside a section nowhere
-- over 1e-9 from the axis, the witness is finite, and its edge is one of the section's.
use Rattle.std.specs.Prelude.{ℕ, ◌≤◌, ◌<◌, ◌≡◌, Bool, false, not, List, T, pos, Float}
use Rattle.std.specs.Float.{fin}
use Rattle.std.specs.Float.Ieee.{neg, is_nan}
use Rattle.arith.specs.F64.{◌≺◌, ◌≼◌, ∞, e_9}
use Rattle.arith.specs.Num.{abs, is_finite}
use Rattle.section.specs.profile.Vertices.{on, hit, count, vertex_at, any}
use Rattle.section.specs.declared.profile.shapes.CollisionHit.{CollisionHit}

-- finite, and at most 2 ^ n in magnitude
pub record AtMost (n : ℕ) (x : Float) : Type 0 where
  pub ends : T (is_finite x)
  pub least : T (neg (fin false 1 (pos n)) ≼ x)
  pub most : T (x ≼ fin false 1 (pos n))

-- some vertex has |radius| > 1e-9
unfoldable pub off_axis : List Float → Bool
off_axis s = any (λ k. e_9 ≺ abs (vertex_at s k).r) (count s)

-- the edge is one of at most 256
abbrev pub FewEdges : CollisionHit → Type 0
FewEdges h = h.witness.edge < 256

-- a distance at most 2 ^ 28 and a witness at most 2 ^ 25 in magnitude, on one of the section's edges, of which there are few
pub record Bounded (s : List Float) (h : CollisionHit) : Type 0 where
  pub distance : AtMost 28 h.distance
  pub z : AtMost 25 h.witness.z
  pub r : AtMost 25 h.witness.r
  pub edge : h.witness.edge < count s
  pub few : count s ≤ 256

-- the same where some vertex is off the axis; otherwise +infinity with the first vertex as witness, and edge 0
pub record BoundedOffAxis (s : List Float) (h : CollisionHit) : Type 0 where
  pub number : T (not (is_nan h.distance))
  pub finite : T (off_axis s) → AtMost 28 h.distance
  pub infinite : T (not (off_axis s)) → h ≡ hit ∞ (on 0 (vertex_at s 0))
  pub z : AtMost 25 h.witness.z
  pub r : AtMost 25 h.witness.r
  pub edge : h.witness.edge < count s
  pub few : count s ≤ 256
