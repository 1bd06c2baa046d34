-- 01's convex body distance. Any polygon, convex or not, gets the Rust's result.
use Rattle.std.specs.Prelude.{ℕ, Bool, not, ◌&&◌, ◌||◌, cond, List, Float}
use Rattle.std.specs.Float.Ieee.{neg}
use Rattle.arith.specs.F64.{◌⊖◌, ◌⊗◌, ◌≺◌, ◌≼◌, 𝟘, ∞, e_9, e_12}
use Rattle.arith.specs.Num.{min, is_finite}
use Rattle.section.specs.profile.Vertices.{on, hit, count, vertex_at, end_at, edge_at, upto, any, nearest_of}
use Rattle.section.specs.segments.Segments.{closest, segments}
use Rattle.section.specs.points.Points.{point_distance}
use Rattle.section.specs.points.Overlap.{result_of}
use Rattle.section.specs.declared.profile.shapes.Vertex.{Vertex}
use Rattle.section.specs.declared.profile.shapes.Witness.{Witness}
use Rattle.section.specs.declared.profile.shapes.CollisionHit.{CollisionHit}

-- gap is the first smallest over edge pairs, convex edge outer
unfoldable pub convex_row : List Float → List Float → ℕ → CollisionHit → CollisionHit
convex_row c s i best =
    nearest_of (λ j. segments (edge_at s j) (vertex_at c i) (end_at c i)) best (count s)

unfoldable pub convex_gap : List Float → List Float → CollisionHit
convex_gap c s = upto (convex_row c s) (hit ∞ (on 0 (vertex_at s 0))) (count c)

-- the cross product of b - a and p - a: on which side of the line from a to b the point p lies
unfoldable pub orient : Vertex → Vertex → Vertex → Float
orient a b p = (b.z ⊖ a.z) ⊗ (p.r ⊖ a.r) ⊖ (b.r ⊖ a.r) ⊗ (p.z ⊖ a.z)

-- the cross products above 1e-9 in magnitude share a sign: not one of them is positive and another negative
unfoldable pub point_in_convex : List Float → Vertex → Bool
point_in_convex c p =
    not
    (any (λ k. e_9 ≺ orient (vertex_at c k) (end_at c k) p) (count c)
    && any (λ k. orient (vertex_at c k) (end_at c k) p ≺ neg e_9) (count c))

-- the least distance of p to all convex edges
unfoldable pub convex_near : List Float → Vertex → Float
convex_near c p = upto (λ k best. min best (closest p (edge_at c k)).distance) ∞ (count c)

-- 0 if ≤ 1e-12; negative when the cross products share a sign
unfoldable pub signed_distance_convex : List Float → Vertex → Float
signed_distance_convex c p =
    let d = convex_near c p in
    cond (not (is_finite d) || (d ≼ e_12)) 𝟘 (cond (point_in_convex c p) (neg d) d)

-- penetration: first the point distance at the convex's vertices, then at each section vertex its convex distance; each lower
-- value below 0 keeps its witness, a section vertex with the edge that starts there
unfoldable pub convex_penetration : List Float → List Float → Witness → CollisionHit
convex_penetration c s witness =
    nearest_of (λ j. hit (signed_distance_convex c (vertex_at s j)) (on j (vertex_at s j)))
    (nearest_of (λ i. point_distance s (vertex_at c i)) (hit 𝟘 witness) (count c))
    (count s)

-- 01's proper crossing: for each of the two edges, the cross products of the other's ends have a rounded product below 0
unfoldable pub proper_cross : Vertex → Vertex → Vertex → Vertex → Bool
proper_cross a b c d =
    (orient a b c ⊗ orient a b d ≺ 𝟘) && (orient c d a ⊗ orient c d b ≺ 𝟘)

unfoldable pub row_crossing : List Float → List Float → ℕ → Bool
row_crossing c s i = any (λ j. proper_cross (vertex_at c i) (end_at c i) (vertex_at s j) (end_at s j)) (count s)

unfoldable pub any_cross : List Float → List Float → Bool
any_cross c s = any (row_crossing c s) (count c)

-- 01's convex body distance, of the convex body c and the section s
unfoldable pub convex_distance : List Float → List Float → CollisionHit
convex_distance c s =
    let gap = convex_gap c s in
    let deep = convex_penetration c s gap.witness in
    hit (result_of deep.distance (any_cross c s) gap.distance) deep.witness
