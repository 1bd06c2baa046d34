-- Convex body distance is bounded as box distance is.
use Prim.Native.Nat.{ℕ, ◌<◌}
use mathlib.Core.Bool.{not, ◌||◌}
use mathlib.Core.List.{List}
use mathlib.Core.Path.{refl}
use lib.Ieee.{Float}
use Rattle.arith.specs.F64.{◌≼◌, 𝟘, ∞, e_12}
use Rattle.arith.specs.Num.{min, is_finite}
use Rattle.arith.proofs.Laws.Sizes.{Finite, neg_finite, zero_finite}
use Rattle.section.proofs.profile.Steps.{pick, upto_makes}
use Rattle.section.specs.convex.Convex.{any_cross, convex_distance, convex_gap, convex_near, convex_penetration}
use Rattle.section.specs.convex.Convex.{signed_distance_convex, convex_row, point_in_convex}
use Rattle.section.specs.points.Points.{point_distance}
use Rattle.section.specs.segments.Segments.{closest, segments}
use Rattle.section.specs.profile.Vertices.{count, edge_at, end_at, hit, on, vertex_at}
use Rattle.section.specs.declared.profile.shapes.CollisionHit.{CollisionHit}
use Rattle.section.specs.declared.profile.shapes.Vertex.{Vertex}
use Rattle.section.specs.declared.profile.shapes.Witness.{Witness}
use Rattle.section.proofs.Demand.Boxes.{result_finite}
use Rattle.section.proofs.Demand.Hits.{BestAtMost, edge_at_at_most, end_at_at_most, found, HitAtMost, LeastAtMost, min_new}
use Rattle.section.proofs.Demand.Hits.{nearest_beside, nearest_hit, no_distance, none_yet, some_distance}
use Rattle.section.proofs.Demand.Hits.{vertex_witness, vertex_at_at_most, VertexAtMost, VerticesAtMost, WitnessAtMost}
use Rattle.section.proofs.Demand.Points.{point_best}
use Rattle.section.proofs.Demand.Segments.{closest_at_most, segments_at_most}

convex_near_finite : {c : List Float} → VerticesAtMost 23 c → {p : Vertex} → VertexAtMost 23 p → Finite 27 (convex_near c p)
unfolding convex_near
convex_near_finite {c} C {p} P =
    upto_makes (LeastAtMost 27) (Finite 27) (λ b B. some_distance B)
    (λ k best. min best (closest p (edge_at c k)).distance) ∞ (count c) C.some (no_distance refl)
    (λ k l b B. min_new B (closest_at_most P (edge_at_at_most C k l)).distance)

convex_point_finite : {c : List Float} → VerticesAtMost 23 c → {p : Vertex} → VertexAtMost 23 p → Finite 27 (signed_distance_convex c p)
unfolding signed_distance_convex
convex_point_finite {c} C {p} P =
    let d = convex_near c p in
    let D = convex_near_finite C P in
    pick (Finite 27) (not (is_finite d) || (d ≼ e_12)) (λ h. zero_finite 27)
    (λ h. pick (Finite 27) (point_in_convex c p) (λ k. neg_finite D) (λ k. D))

module _ {c s : List Float} (C : VerticesAtMost 23 c) (S : VerticesAtMost 23 s) where
  convex_row_at_most : (i : ℕ) → i < count c → {b : CollisionHit} → BestAtMost 27 (count s) b
      → HitAtMost 27 (count s) (convex_row c s i b)
  unfolding convex_row
  convex_row_at_most i l {b} B =
      nearest_hit (λ j. segments (edge_at s j) (vertex_at c i) (end_at c i)) b (count s) S.some
      (λ j m. segments_at_most (edge_at_at_most S j m) (vertex_at_at_most C i l) (end_at_at_most C i l)) B

  convex_gap_at_most : HitAtMost 27 (count s) (convex_gap c s)
  unfolding convex_gap
  convex_gap_at_most =
      upto_makes (BestAtMost 27 (count s)) (HitAtMost 27 (count s)) (λ b B. found B) (convex_row c s)
      (hit ∞ (on 0 (vertex_at s 0))) (count c) C.some
      (none_yet refl (vertex_witness S tt 0 S.some)) (λ i l b B. convex_row_at_most i l B)

  convex_penetration_at_most : {w : Witness} → WitnessAtMost (count s) w → HitAtMost 27 (count s) (convex_penetration c s w)
  unfolding convex_penetration
  convex_penetration_at_most {w} W =
      nearest_beside (λ j. hit (signed_distance_convex c (vertex_at s j)) (on j (vertex_at s j))) _ (count s)
      (λ j l. found (vertex_hit j l))
      (nearest_beside (λ i. point_distance s (vertex_at c i)) (hit 𝟘 w) (count c)
      (λ i l. point_best S (vertex_at_at_most C i l)) (record { distance = zero_finite 27; witness = W }))
    where
      vertex_hit : (j : ℕ) → j < count s
          → HitAtMost 27 (count s) (hit (signed_distance_convex c (vertex_at s j)) (on j (vertex_at s j)))
      vertex_hit j l =
          record { distance = convex_point_finite C (vertex_at_at_most S j l); witness = vertex_witness S tt j l }

  pub convex_at_most : HitAtMost 27 (count s) (convex_distance c s)
  unfolding convex_distance
  convex_at_most =
      let gap = convex_gap_at_most in
      let deep = convex_penetration_at_most gap.witness in
      record { distance = result_finite (any_cross c s) deep.distance gap.distance; witness = deep.witness }
