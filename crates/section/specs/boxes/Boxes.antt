-- 01's clip (Liang-Barsky) and box distance.
use Rattle.std.specs.Prelude.{ℕ, zero, suc, Bool, false, ◌&&◌, ◌||◌, cond, List, [], ◌∷◌, Float}
use Rattle.std.specs.Option.{option_map_or}
use Rattle.arith.specs.F64.{◌⊕◌, ◌⊖◌, ◌⊗◌, ◌≺◌, 𝟘, ½, ∞, e_9}
use Rattle.section.specs.profile.Vertices.{vertex, on, hit, count, vertex_at, end_at, edge_at, upto, any, nearest_of}
use Rattle.section.specs.segments.Segments.{along, segments}
use Rattle.section.specs.segments.Clip.{clip}
use Rattle.section.specs.points.Points.{point_distance}
use Rattle.section.specs.points.Overlap.{result_of}
use Rattle.section.specs.declared.profile.shapes.Aabb.{Aabb}
use Rattle.section.specs.declared.profile.shapes.Vertex.{Vertex}
use Rattle.section.specs.declared.profile.shapes.Edge.{Edge}
use Rattle.section.specs.declared.profile.shapes.Witness.{Witness}
use Rattle.section.specs.declared.profile.shapes.CollisionHit.{CollisionHit}

abbrev pub aabb : Float → Float → Float → Float → Aabb
aabb z0 z1 r0 r1 = record { z0 = z0; z1 = z1; r0 = r0; r1 = r1 }

-- the four corners, from (z0,r0)-(z1,r0) on by (z1,r1) and (z0,r1)
abbrev pub corners : Aabb → List Float
corners x = x.z0 ∷ x.r0 ∷ x.z1 ∷ x.r0 ∷ x.z1 ∷ x.r1 ∷ x.z0 ∷ x.r1 ∷ []

-- a clipped edge has 0, its witness where the clip enters; any other takes the first smallest of the four sides
unfoldable pub edge_box : Aabb → Edge → CollisionHit
edge_box x e =
    option_map_or (λ c. hit 𝟘 (on e.number (along e.a e.b c.t0))) (clip x e.a e.b)
    (nearest_of (λ k. segments e (vertex_at (corners x) k) (end_at (corners x) k)) (hit ∞ (on e.number e.a)) 4)

-- more than 1e-9 inside every side
unfoldable pub strictly_inside_aabb : Aabb → Vertex → Bool
strictly_inside_aabb x v =
    (x.z0 ⊕ e_9 ≺ v.z) && ((v.z ≺ x.z1 ⊖ e_9) && ((x.r0 ⊕ e_9 ≺ v.r) && (v.r ≺ x.r1 ⊖ e_9)))

abbrev pub middle : Vertex → Vertex → Vertex
middle a b = vertex ((a.z ⊕ b.z) ⊗ ½) ((a.r ⊕ b.r) ⊗ ½)

-- the edge's clipped middle lies so
unfoldable pub segment_through_interior : Aabb → Vertex → Vertex → Bool
segment_through_interior x a b =
    option_map_or (λ c. strictly_inside_aabb x (middle (along a b c.t0) (along a b c.t1))) (clip x a b) false

-- centre, (z0,r0), (z1,r0), (z1,r1), (z0,r1)
abbrev pub probe : Aabb → ℕ → Vertex
probe x zero = middle (vertex_at (corners x) 0) (vertex_at (corners x) 2)
probe x (suc k) = vertex_at (corners x) k

-- gap is the first smallest over all edges, axis edges too
unfoldable pub box_gap : List Float → Aabb → CollisionHit
box_gap s x = nearest_of (λ k. edge_box x (edge_at s k)) (hit ∞ (on 0 (vertex_at s 0))) (count s)

-- penetration is the lowest signed distance below 0 at the five probes; each lower one takes over the witness
unfoldable pub box_penetration : List Float → Aabb → Witness → CollisionHit
box_penetration s x witness = nearest_of (λ k. point_distance s (probe x k)) (hit 𝟘 witness) 5

-- the last vertex well inside takes over the witness, with the edge that starts there
unfoldable pub box_witness : List Float → Aabb → Witness → Witness
box_witness s x witness = upto (λ k at. cond (strictly_inside_aabb x (vertex_at s k)) (on k (vertex_at s k)) at) witness (count s)

-- a vertex, or an edge's clipped middle, lies well inside
unfoldable pub box_holds : List Float → Aabb → Bool
box_holds s x =
    any (λ k. strictly_inside_aabb x (vertex_at s k)) (count s)
    || any (λ k. segment_through_interior x (vertex_at s k) (end_at s k)) (count s)

-- 01's box distance
unfoldable pub box_distance : List Float → Aabb → CollisionHit
box_distance s x =
    let gap = box_gap s x in
    let deep = box_penetration s x gap.witness in
    hit (result_of deep.distance (box_holds s x) gap.distance) (box_witness s x deep.witness)
