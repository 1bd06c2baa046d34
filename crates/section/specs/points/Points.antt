-- 01's point distance and its sign.
use Rattle.std.specs.Prelude.{ℕ, Bool, false, not, ◌&&◌, ◌||◌, cond, List, Float}
use Rattle.std.specs.Float.{binary64}
use Rattle.std.specs.Float.Ieee.{neg, unlike}
use Rattle.arith.specs.F64.{◌⊕◌, ◌⊖◌, ◌⊗◌, ◌⊘◌, ◌≺◌, ◌≼◌, 𝟘, ∞, e_8, e_9, e_12, e_18}
use Rattle.arith.specs.Num.{min, max, abs, is_finite}
use Rattle.arith.specs.roots.Roots.{hypot}
use Rattle.section.specs.profile.Vertices.{vertex, on, hit, count, vertex_at, end_at, edge_at, upto, any, nearer}
use Rattle.section.specs.segments.Segments.{closest}
use Rattle.section.specs.declared.profile.shapes.Vertex.{Vertex}
use Rattle.section.specs.declared.profile.shapes.CollisionHit.{CollisionHit}
use Rattle.section.specs.declared.profile.shapes.Sphere.{Sphere}
use Rattle.arith.specs.declared.vector.Vec3.{Vec3}

-- the edge from a to b counts: an end has |radius| > 1e-9. Any other is an axis edge.
abbrev pub edge_is_surface : Vertex → Vertex → Bool
edge_is_surface a b = (e_9 ≺ abs a.r) || (e_9 ≺ abs b.r)

-- edge k lowers the distance that best has: the first strictly smallest wins
unfoldable pub surface_step : List Float → Vertex → ℕ → CollisionHit → CollisionHit
surface_step s p k best =
    cond (edge_is_surface (vertex_at s k) (end_at s k)) (nearer best (closest p (edge_at s k))) best

-- the closest point on the edges that count; +infinity, the first vertex and edge 0 where none does
unfoldable pub surface_near : List Float → Vertex → CollisionHit
surface_near s p = upto (surface_step s p) (hit ∞ (on 0 (vertex_at s 0))) (count s)

-- the edge from a to b crosses the line from p along z strictly beyond p; one whose radii differ by at most 1e-18 does not
unfoldable pub crosses : Vertex → Vertex → Vertex → Bool
crosses p a b =
    let den = b.r ⊖ a.r in
    unlike (p.r ≺ a.r) (p.r ≺ b.r)
    && (not (abs den ≼ e_18) && (p.z ≺ a.z ⊕ (b.z ⊖ a.z) ⊗ (p.r ⊖ a.r) ⊘ den))

-- the even-odd rule
unfoldable pub point_inside : List Float → Vertex → Bool
point_inside s p = upto (λ k odd. unlike odd (crosses p (vertex_at s k) (end_at s k))) false (count s)

-- z is more than 1e-9 inside the axis edge from a to b
unfoldable pub inside_axis_edge : Float → Vertex → Vertex → Bool
inside_axis_edge z a b =
    not (edge_is_surface a b) && ((min a.z b.z ⊕ e_9 ≺ z) && (z ≺ max a.z b.z ⊖ e_9))

unfoldable pub in_section : List Float → Vertex → Bool
in_section s p =
    point_inside s p || ((p.r ≼ e_8) && any (λ k. inside_axis_edge p.z (vertex_at s k) (end_at s k)) (count s))

-- +infinity stays; at most 1e-12 is 0; otherwise negative when in the section
unfoldable pub point_distance : List Float → Vertex → CollisionHit
point_distance s p =
    let n = surface_near s p in
    hit
    (cond (is_finite n.distance)
    (cond (n.distance ≼ e_12) 𝟘 (cond (in_section s p) (neg n.distance) n.distance))
    ∞)
    n.witness

-- a point of space lies at z and the hypot of x and y
abbrev pub meridian : Vec3 → Vertex
meridian p = vertex p.z (hypot binary64 p.x p.y)

-- 01's sphere: point distance less radius
unfoldable pub sphere_distance : List Float → Sphere → CollisionHit
sphere_distance s b =
    let n = point_distance s (meridian b.center) in
    hit (n.distance ⊖ b.radius) n.witness
