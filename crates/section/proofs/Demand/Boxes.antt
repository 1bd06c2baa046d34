-- Box distance is bounded: at most 2 ^ 27 for coordinates up to 2 ^ 23, its witness 2 ^ 25.
use Prim.Native.Nat.{ℕ, zero, suc, ◌<◌}
use mathlib.Core.Bool.{Bool, cond}
use mathlib.Core.List.{List}
use mathlib.Core.Path.{refl}
use native.Mathlib.Omega.{arith}
use lib.Dec.{leb→le}
use lib.Ieee.{Float, neg}
use Rattle.arith.specs.F64.{◌≺◌, ◌≼◌, 𝟘, ∞, e_9, e_12}
use Rattle.arith.proofs.Laws.Sizes.{e_8_finite, Finite, finite_raise, half_finite, neg_finite, zero_finite}
use Rattle.section.proofs.profile.Steps.{pick, upto_keeps}
use Rattle.section.specs.boxes.Boxes.{box_distance, box_gap, box_holds, box_penetration, box_witness, edge_box, middle, probe}
use Rattle.section.specs.points.Overlap.{result_of}
use Rattle.section.specs.boxes.Boxes.{strictly_inside_aabb}
use Rattle.section.specs.points.Points.{point_distance}
use Rattle.section.specs.profile.Vertices.{count, edge_at, hit, on, vertex_at}
use Rattle.section.specs.declared.profile.shapes.Aabb.{Aabb}
use Rattle.section.specs.declared.profile.shapes.Vertex.{Vertex}
use Rattle.section.specs.declared.profile.shapes.Witness.{Witness}
use Rattle.section.proofs.Demand.Bounds.{add_at_most, finite_at_most}
use Rattle.section.proofs.Demand.Clip.{edge_box_at_most}
use Rattle.section.proofs.Demand.Hits.{BoxAtMost, corners_at_most, edge_at_at_most, HitAtMost, nearest_beside, nearest_hit}
use Rattle.section.proofs.Demand.Hits.{none_yet, vertex_witness, vertex_at_at_most, VertexAtMost, VerticesAtMost}
use Rattle.section.proofs.Demand.Hits.{WitnessAtMost}
use Rattle.section.proofs.Demand.Points.{point_best}

middle_at_most : {a b : Vertex} → VertexAtMost 23 a → VertexAtMost 23 b → VertexAtMost 23 (middle a b)
middle_at_most A B =
    record {
      z = finite_at_most (half_finite (add_at_most A.z B.z tt) tt);
      r = finite_at_most (half_finite (add_at_most A.r B.r tt) tt);
    }

probe_at_most : {x : Aabb} → BoxAtMost 23 x → (k : ℕ) → k < 5 → VertexAtMost 23 (probe x k)
probe_at_most X zero l =
    let s = corners_at_most X in
    middle_at_most (vertex_at_at_most s 0 (leb→le 1 4 tt)) (vertex_at_at_most s 2 (leb→le 3 4 tt))
probe_at_most X (suc k) l = vertex_at_at_most (corners_at_most X) k (omega arith)

pub result_finite : {penetration gap : Float} (overlaps : Bool) → Finite 27 penetration → Finite 27 gap
    → Finite 27 (result_of penetration overlaps gap)
unfolding result_of
result_finite {penetration} {gap} overlaps P G =
    pick (Finite 27) (penetration ≺ neg e_9) (λ h. P)
    (λ h. pick (Finite 27) overlaps (λ k. finite_raise (neg_finite e_8_finite) tt)
    (λ k. pick (Finite 27) (gap ≼ e_12) (λ l. zero_finite 27) (λ l. G)))

module _ {s : List Float} (S : VerticesAtMost 23 s) {x : Aabb} (X : BoxAtMost 23 x) where
  box_gap_at_most : HitAtMost 27 (count s) (box_gap s x)
  unfolding box_gap
  box_gap_at_most =
      nearest_hit (λ k. edge_box x (edge_at s k)) (hit ∞ (on 0 (vertex_at s 0))) (count s) S.some
      (λ k l. edge_box_at_most X (edge_at_at_most S k l))
      (none_yet refl (vertex_witness S tt 0 S.some))

  box_penetration_at_most : {w : Witness} → WitnessAtMost (count s) w → HitAtMost 27 (count s) (box_penetration s x w)
  unfolding box_penetration
  box_penetration_at_most {w} W =
      nearest_beside (λ k. point_distance s (probe x k)) (hit 𝟘 w) 5 (λ k l. point_best S (probe_at_most X k l))
      (record { distance = zero_finite 27; witness = W })

  box_witness_at_most : {w : Witness} → WitnessAtMost (count s) w → WitnessAtMost (count s) (box_witness s x w)
  unfolding box_witness
  box_witness_at_most {w} W =
      upto_keeps (WitnessAtMost (count s)) (λ k at. cond (strictly_inside_aabb x (vertex_at s k)) (on k (vertex_at s k)) at) w
      (count s) W
      (λ k l v A. pick (WitnessAtMost (count s)) (strictly_inside_aabb x (vertex_at s k)) (λ g. vertex_witness S tt k l) (λ g. A))

  pub box_at_most : HitAtMost 27 (count s) (box_distance s x)
  unfolding box_distance
  box_at_most =
      let gap = box_gap_at_most in
      let deep = box_penetration_at_most gap.witness in
      record {
        distance = result_finite (box_holds s x) deep.distance gap.distance;
        witness = box_witness_at_most deep.witness;
      }
