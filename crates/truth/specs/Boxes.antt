-- EXACT POINTS OF BOXES AND EDGES, and what it is for box distance to be true of them. A box is an area in z and radius; turned
-- about the spindle, with the section, it is as far from the section as here.
use Rattle.std.specs.Prelude.{ℕ, ◌+◌, ◌*◌, ◌^◌, ◌≤◌, ◌<◌, List, ◌≡◌, T, Float}
use Rattle.std.specs.Float.{binary64}
use Rattle.std.specs.Float.Ieee.{fits}
use Rattle.std.specs.Float.Ieee.Scale.{finite}
use Rattle.section.specs.declared.profile.shapes.Aabb.{Aabb}
use Rattle.section.specs.profile.Vertices.{count, end_at, vertex_at}
use Rattle.section.specs.boxes.Boxes.{box_distance}
use Rattle.truth.specs.Exact.{NotOver, origin, place, size, sqd, units}
use Rattle.truth.specs.Points.{between, bits, Reach}
use Rattle.truth.specs.Solid.{exact_inside}

-- ---- exact points
-- of a box
pub record InBox (x : Aabb) (n Z R : ℕ) : Type 0 where
  pub z_from : n * place x.z0 ≤ Z
  pub z_to : Z ≤ n * place x.z1
  pub r_from : n * place x.r0 ≤ R
  pub r_to : R ≤ n * place x.r1

-- of the section's edges, axis edges too
pub record OnEdges (s : List Float) (q z r : ℕ) : Type 0 where
  pub k : ℕ
  pub edge : k < count s
  pub i : ℕ
  pub j : ℕ
  pub parts : q ≡ i + j
  pub at_z : z ≡ between i j (vertex_at s k).z (end_at s k).z
  pub at_r : r ≡ between i j (vertex_at s k).r (end_at s k).r

-- of the section's solid: on an edge, or inside by the exact even-odd rule
pub data InSolid (s : List Float) (q z r : ℕ) : Type 0 where
  on_edge : OnEdges s q z r → InSolid s q z r
  inside : T (exact_inside s q z r) → InSolid s q z r

-- w units exceed the distance between no point of the box and no point that counts by more than ε
pub record ClearOfBox (ε w : ℕ) (x : Aabb) (Counts : ℕ → ℕ → ℕ → Type 0) : Type 0 where
  pub proof : (n Z R q z r : ℕ) → InBox x n Z R → Counts q z r → NotOver ε w (n * q) (sqd (q * Z) (n * z) + sqd (q * R) (n * r))

-- what box distance may exceed: 9/8 of 2 ^ -22 of the reach, 0.29 mm and 0.00028 mm
abbrev pub box_loss : Reach → ℕ
box_loss reach = 9 * 2 ^ (1049 + bits reach)

-- ---- what a walk asks of box distance, of boxes that reach farther: z to twice and radii to four times as far
-- x is a finite f64, at most w units in magnitude
pub record Within (w : ℕ) (x : Float) : Type 0 where
  pub held : T (fits binary64 x)
  pub ends : T (finite x)
  pub most : size x ≤ w

pub record BoxWithin (e : ℕ) (x : Aabb) : Type 0 where
  pub z0 : Within (2 ^ (54 + e)) x.z0
  pub z1 : Within (2 ^ (54 + e)) x.z1
  pub r0 : Within (2 ^ (55 + e)) x.r0
  pub r1 : Within (2 ^ (55 + e)) x.r1
  pub z_order : place x.z0 ≤ place x.z1
  pub r_order : place x.r0 ≤ place x.r1
  pub r_least : origin ≤ place x.r0

-- box distance exceeds the distance from no point of a box within the scale to a point that counts by more than ε
pub record BoxTrue (ε e : ℕ) (s : List Float) (Counts : ℕ → ℕ → ℕ → Type 0) : Type 0 where
  pub never_over : (x : Aabb) → BoxWithin e x → (n Z R q z r : ℕ) → InBox x n Z R → Counts q z r
      → NotOver ε (units (box_distance s x).distance) (n * q) (sqd (q * Z) (n * z) + sqd (q * R) (n * r))
