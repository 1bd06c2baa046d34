-- Which edge supplies the witness of a point and of a sphere: of the edges that count the first of the nearest, and the witness is
-- the point that 01 computes on it. By the law of the first smallest.
use Prim.Native.Nat.{ℕ, ◌<◌}
use mathlib.Core.Bool.{Bool, not, cond}
use mathlib.Core.List.{List}
use mathlib.Core.Path.{◌≡◌, ap, refl}
use lib.Dec.{T}
use lib.Ieee.{Float, neg}
use Rattle.arith.specs.F64.{◌⊖◌, ◌≺◌, ◌≼◌, 𝟘, ∞, e_12}
use Rattle.arith.specs.Num.{is_finite}
use Rattle.section.specs.profile.Vertices.{on, hit, count, vertex_at, end_at, edge_at}
use Rattle.section.specs.declared.profile.shapes.CollisionHit.{CollisionHit}
use Rattle.section.specs.declared.profile.shapes.Sphere.{Sphere}
use Rattle.section.specs.declared.profile.shapes.Vertex.{Vertex}
use Rattle.section.proofs.profile.Nearest.{Supplied, by_edge, by_none, supplied, Supplies}
use Rattle.section.proofs.profile.Numbers.{infinite}
use Rattle.section.specs.segments.Segments.{closest}
use Rattle.section.proofs.segments.Held.{closest_held}
use Rattle.section.specs.points.Points.{edge_is_surface, in_section, meridian, point_distance, sphere_distance, surface_near, surface_step}

-- edge k counts
abbrev pub counts : List Float → ℕ → Bool
counts s k = edge_is_surface (vertex_at s k) (end_at s k)

-- 01's closest point on edge k
abbrev pub closest_on : List Float → Vertex → ℕ → CollisionHit
closest_on s p k = closest p (edge_at s k)

-- +infinity stays; at most 1e-12 is 0; otherwise negative when in the section
abbrev pub signed : List Float → Vertex → Float → Float
signed s p d = cond (is_finite d) (cond (d ≼ e_12) 𝟘 (cond (in_section s p) (neg d) d)) ∞

-- The hit h has the witness that its own edge supplies, and g of that edge's distance. Where no edge that counts is nearer than
-- +infinity it has g of that, the first vertex and edge 0.
pub data OnEdge (s : List Float) (p : Vertex) (g : Float → Float) (h : CollisionHit) : Type 0 where
  no_edge : h ≡ hit (g ∞) (on 0 (vertex_at s 0))
      → ((k : ℕ) → k < count s → T (counts s k) → T (not ((closest_on s p k).distance ≺ ∞))) → OnEdge s p g h
  own_edge : (k : ℕ) → h.witness.edge ≡ k → Supplies (counts s) (closest_on s p) (count s) (surface_near s p) k
      → h ≡ hit (g (closest_on s p k).distance) (closest_on s p k).witness → OnEdge s p g h

own : (s : List Float) (p : Vertex) (k : ℕ) → (closest_on s p k).witness.edge ≡ k
unfolding closest
own s p k = refl

pub surface_edge : (s : List Float) (p : Vertex)
    → Supplied (counts s) (closest_on s p) (hit ∞ (on 0 (vertex_at s 0))) (count s) (surface_near s p)
unfolding surface_near surface_step
surface_edge s p =
    supplied (counts s) (closest_on s p) (hit ∞ (on 0 (vertex_at s 0))) infinite
    (λ k. closest_held p (edge_at s k)) (own s p) (count s)

module _ (s : List Float) (p : Vertex) (g : Float → Float) where
  abbrev of : CollisionHit → CollisionHit
  of n = hit (g n.distance) n.witness

  on_edge : OnEdge s p g (hit (g (surface_near s p).distance) (surface_near s p).witness)
  on_edge = elim (surface_edge s p) [
    | by_none e far ↦ no_edge (ap of e) far
    | by_edge S ↦ own_edge (surface_near s p).witness.edge refl S (ap of S.equal)
  ]

pub point_edge : (s : List Float) (p : Vertex) → OnEdge s p (signed s p) (point_distance s p)
unfolding point_distance
point_edge s p = on_edge s p (signed s p)

pub sphere_edge : (s : List Float) (b : Sphere)
    → OnEdge s (meridian b.center) (λ d. signed s (meridian b.center) d ⊖ b.radius) (sphere_distance s b)
unfolding sphere_distance point_distance
sphere_edge s b = on_edge s (meridian b.center) (λ d. signed s (meridian b.center) d ⊖ b.radius)
