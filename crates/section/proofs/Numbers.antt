-- No distance of a box is a NaN, whatever the numbers: the search starts with an infinity or 0, and a NaN is never
-- strictly smaller.
use mathlib.Core.List.{List}
use lib.Ieee.{Float, binary64, fits, is_nan, neg, of_bits}
use Rattle.arith.specs.F64.{◌≺◌, ◌≼◌, 𝟘, ∞, e_9, e_12}
use Rattle.arith.proofs.Laws.OrderHeld.{number_held}
use Rattle.arith.proofs.Laws.Sizes.{Number, cond_keeps, zero_number}
use Rattle.section.specs.profile.Vertices.{on, hit, count, vertex_at, edge_at}
use Rattle.section.specs.declared.profile.shapes.Aabb.{Aabb}
use Rattle.section.specs.declared.profile.shapes.Witness.{Witness}
use Rattle.section.proofs.profile.Numbers.{NumberHit, infinite, nearest_number}
use Rattle.section.specs.points.Overlap.{result_of}
use Rattle.section.specs.points.Points.{point_distance}
use Rattle.section.proofs.points.Numbers.{point_number}
use Rattle.section.specs.boxes.Boxes.{edge_box, probe, box_gap, box_penetration, box_holds, box_distance}
use Rattle.section.proofs.boxes.Held.{edge_held}

gap_number : (s : List Float) (x : Aabb) → NumberHit (box_gap s x)
unfolding box_gap
gap_number s x =
    nearest_number (λ k. edge_box x (edge_at s k)) (hit ∞ (on 0 (vertex_at s 0))) (count s) infinite
    (λ k. edge_held x (edge_at s k))

penetration_number : (s : List Float) (x : Aabb) (w : Witness) → NumberHit (box_penetration s x w)
unfolding box_penetration
penetration_number s x w =
    nearest_number (λ k. point_distance s (probe x k)) (hit 𝟘 w) 5 zero_number
    (λ k. number_held binary64 (point_distance s (probe x k)).distance (point_number s (probe x k)))

pub box_number : (s : List Float) (x : Aabb) → NumberHit (box_distance s x)
unfolding box_distance result_of
box_number s x =
    let gap = (box_gap s x).distance in
    let deep = (box_penetration s x (box_gap s x).witness).distance in
    cond_keeps Number (deep ≺ neg e_9) (penetration_number s x (box_gap s x).witness)
    (cond_keeps Number (box_holds s x) (unfold neg of_bits fits is_nan in tt)
    (cond_keeps Number (gap ≼ e_12) zero_number (gap_number s x)))
