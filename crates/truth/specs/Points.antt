-- A TRUE DISTANCE from a point to the surface of a section: exact, but for ε units either way.
use Rattle.std.specs.Prelude.{ℕ, ◌+◌, ◌*◌, ◌<◌, ◌^◌, List, T, Float, get_or, length}
use Rattle.std.specs.Float.{binary64, nan}
use Rattle.std.specs.Float.Ieee.{fits}
use Rattle.arith.specs.declared.vector.Vec3.{Vec3}
use Rattle.section.specs.profile.Vertices.{count, vertex_at, end_at}
use Rattle.section.specs.declared.profile.shapes.Vertex.{Vertex}
use Rattle.section.specs.points.Points.{edge_is_surface}
use Rattle.section.specs.Demand.{AtMost, off_axis}
use Rattle.truth.specs.Exact.{away_in_space², away², NotOver, NotUnder, place, Turned}

-- ---- what is given
-- Every number is one that f64 holds. A `Float` of the logic may have more digits; what a call is lent has not: the machine sees
-- to it.
abbrev pub Held : List Float → Type 0
Held l = (k : ℕ) → k < length l → T (fits binary64 (get_or l k nan))

-- Truth is stated for two reaches: all that 01 accepts, which is up to 2 ^ 20 mm, and machines within a metre, 2 ^ 10 mm.
pub data Reach : Type 0 where
  full : Reach
  metre : Reach

abbrev pub bits : Reach → ℕ
bits full = 20
bits metre = 10

-- every number is within the reach; of the full one 01's own tests see to it
abbrev pub WithinReach : Reach → List Float → Type 0
WithinReach full l = Unit {0}
WithinReach metre l = (k : ℕ) → k < length l → AtMost 10 (get_or l k nan)

-- 2 ^ -47 of the reach: 2 ^ -27 mm and 2 ^ -37 mm
abbrev pub ε : Reach → ℕ
ε reach = 2 ^ (1027 + bits reach)

-- twice that: 2 ^ -26 mm and 2 ^ -36 mm
abbrev pub ε₂ : Reach → ℕ
ε₂ reach = 2 ^ (1028 + bits reach)

-- ---- one edge
-- n times the coordinate of the edge's point at i / n, where n is i + j and x and y are those of its ends
abbrev pub between : (i j : ℕ) → Float → Float → ℕ
between i j x y = j * place x + i * place y

-- The square of the distance from p to the point at i / n of the edge from a to b, times n n. Every point of the edge at a
-- rational place is one of these, its ends included.
abbrev pub exact² : Vertex → Vertex → Vertex → (i j : ℕ) → ℕ
exact² p a b i j = away² p (i + j) (between i j a.z b.z) (between i j a.r b.r)

-- w units exceed the distance from p to no point of the edge by more than ε
pub record NeverOver (ε w : ℕ) (p a b : Vertex) : Type 0 where
  pub proof : (i j : ℕ) → NotOver ε w (i + j) (exact² p a b i j)

-- some point of the edge is no farther from p than w units and ε
pub record Reached (ε w : ℕ) (p a b : Vertex) : Type 0 where
  pub i : ℕ
  pub j : ℕ
  pub some : 0 < i + j
  pub proof : NotUnder ε w (i + j) (exact² p a b i j)

-- w units exceed the distance from p, a point of space, to no point of the turned edge, of no negative radius, by more than ε
pub record NeverOverInSpace (ε w : ℕ) (p : Vec3) (a b : Vertex) : Type 0 where
  pub proof : (i j X Y : ℕ) → Turned (i + j) (between i j a.r b.r) X Y
      → NotOver ε w (i + j) (away_in_space² p (i + j) (between i j a.z b.z) X Y)

-- ---- the section's surface
-- edge k of the section is a surface: by 01, one of its ends is over 1e-9 mm from the axis
abbrev pub Surface : List Float → ℕ → Type 0
Surface s k = T (edge_is_surface (vertex_at s k) (end_at s k))

-- w units, found on edge m, are the distance from p to the surface
pub record TrueDistance (ε w : ℕ) (s : List Float) (p : Vertex) (m : ℕ) : Type 0 where
  -- they exceed the distance from p to no point of the surface by more than ε
  pub never_over : (k : ℕ) → k < count s → Surface s k → NeverOver ε w p (vertex_at s k) (end_at s k)
  -- where there is a surface, edge m is one, and some point of it is no farther from p than w and ε
  pub edge : T (off_axis s) → m < count s
  pub surface : T (off_axis s) → Surface s m
  pub reached : T (off_axis s) → Reached ε w p (vertex_at s m) (end_at s m)

-- w units exceed the distance from p, a point of space, to no point of the turned surface by more than ε
abbrev pub ClearInSpace : ℕ → ℕ → List Float → Vec3 → Type 0
ClearInSpace ε w s p = (k : ℕ) → k < count s → Surface s k → NeverOverInSpace ε w p (vertex_at s k) (end_at s k)
