-- THE EXACT SOLID: the even-odd rule over whole numbers, with no rounding, and what it is for a distance to be clear of the
-- solid. A point is (z / n, r / n) as in specs/Exact; a vertex is n times its own places.
use Rattle.std.specs.Prelude.{ℕ, ◌+◌, ◌-◌, ◌*◌, ◌<◌, ◌≤◌, Bool, false, not, ◌&&◌, ◌||◌, cond, List, ◌≡◌, ltb, T, Float}
use Rattle.std.specs.Float.{binary64}
use Rattle.std.specs.Float.Ieee.{eq, of_bits, unlike}
use Rattle.arith.specs.F64.{◌⊖◌, ◌≼◌, 𝟘, e_18}
use Rattle.arith.specs.Num.{abs}
use Rattle.arith.specs.declared.vector.Vec3.{Vec3}
use Rattle.section.specs.profile.Vertices.{any, count, vertex_at, end_at, upto}
use Rattle.section.specs.declared.profile.shapes.Vertex.{Vertex}
use Rattle.section.specs.points.Points.{edge_is_surface}
use Rattle.truth.specs.Exact.{away_in_space², away², NotOver, origin, place, Turned}
use Rattle.truth.specs.Points.{ClearInSpace, NeverOver, Surface}

-- ---- the even-odd rule
-- twice the area of the triangle a, b, p, with its sign, is area a b p less area b a p: (a - p) × (b - p)
unfoldable pub area : (az ar bz br z r : ℕ) → ℕ
area az ar bz br z r = az * br + (ar * z + r * bz)

-- an edge, of whose ends a and b one or the other lies above p, crosses the line from p along z strictly beyond p
abbrev pub crossing : (a_above b_above up down : Bool) → Bool
crossing a_above b_above up down = unlike a_above b_above && cond b_above up down

-- the edge from a to b crosses the line from (z, r) along z strictly beyond it
abbrev pub crosses_at : (z r az ar bz br : ℕ) → Bool
crosses_at z r az ar bz br =
    crossing (ltb r ar) (ltb r br) (ltb (area bz br az ar z r) (area az ar bz br z r))
    (ltb (area az ar bz br z r) (area bz br az ar z r))

unfoldable pub exact_crosses : (n z r : ℕ) → Vertex → Vertex → Bool
exact_crosses n z r a b = crosses_at z r (n * place a.z) (n * place a.r) (n * place b.z) (n * place b.r)

-- odd crossings over all edges: the point (z / n, r / n) is inside the section
unfoldable pub exact_inside : List Float → (n z r : ℕ) → Bool
exact_inside s n z r = upto (λ k odd. unlike odd (exact_crosses n z r (vertex_at s k) (end_at s k))) false (count s)

-- the same of a point of two f64s
abbrev pub vertex_inside : List Float → Vertex → Bool
vertex_inside s p = exact_inside s 1 (place p.z) (place p.r)

-- ---- the section's soundness, which a program can test
-- every radius is 0 or at least 1/128 mm
abbrev pub ¹⁄₁₂₈ : Float
¹⁄₁₂₈ = of_bits binary64 0x3f80000000000000

abbrev pub sound_radius : Float → Bool
sound_radius r = eq r 𝟘 || (¹⁄₁₂₈ ≼ r)

unfoldable pub sound : List Float → Bool
sound s = not (any (λ k. not (sound_radius (vertex_at s k).r)) (count s))

-- What the laws use of it, which is less: of an edge that counts, the radii are the same or differ by more than 1e-18 as 01
-- computes it; the ends of any other lie on the axis.
abbrev pub plain_edge : Vertex → Vertex → Bool
plain_edge a b = cond (edge_is_surface a b) (eq a.r b.r || not (abs (b.r ⊖ a.r) ≼ e_18)) (eq a.r 𝟘 && eq b.r 𝟘)

unfoldable pub plain : List Float → Bool
plain s = not (any (λ k. not (plain_edge (vertex_at s k) (end_at s k))) (count s))

-- ---- clear of the solid
-- every rational point of no negative radius that is less than w less ε away from p is inside the section exactly where p is
pub record SameSide (ε w : ℕ) (s : List Float) (p : Vertex) : Type 0 where
  pub proof : (n z r : ℕ) → n * origin ≤ r → away² p n z r < n * (w - ε) * (n * (w - ε))
      → exact_inside s n z r ≡ vertex_inside s p

-- w units exceed the distance from p to no point of the solid by more than ε: to no point of the surface, and to no rational
-- point of no negative radius that is inside the section
pub record ClearOfSolid (ε w : ℕ) (s : List Float) (p : Vertex) : Type 0 where
  pub surface : (k : ℕ) → k < count s → Surface s k → NeverOver ε w p (vertex_at s k) (end_at s k)
  pub inside : (n z r : ℕ) → n * origin ≤ r → T (exact_inside s n z r) → NotOver ε w n (away² p n z r)

-- w units exceed the distance from p, a point of space, to no point of the turned solid by more than ε
pub record ClearOfSolidInSpace (ε w : ℕ) (s : List Float) (p : Vec3) : Type 0 where
  pub surface : ClearInSpace ε w s p
  pub inside : (n z r X Y : ℕ) → Turned n r X Y → T (exact_inside s n z r) → NotOver ε w n (away_in_space² p n z X Y)
