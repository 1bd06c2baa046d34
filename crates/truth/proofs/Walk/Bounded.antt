-- No distance of a box within the scale is larger than 2 ^ 27 mm, which is at most 2 ^ 80 u: the numbers of the section and of
-- the box are within 01's limit at every scale.
use Prim.Native.Nat.{◌+◌, ◌^◌, ◌≤◌, ℕ}
use mathlib.Core.List.{List}
use native.Mathlib.Nat.{le_trans}
use native.Mathlib.Omega.{arith}
use lib.Ieee.{binary64, Float}
use lib.Pow.{pow_mono}
use Rattle.arith.proofs.Laws.Bounded.{bounded_up}
use Rattle.arith.proofs.Laws.Sizes.{Finite}
use Rattle.section.specs.declared.profile.shapes.Aabb.{Aabb}
use Rattle.section.specs.boxes.Boxes.{box_distance}
use Rattle.section.proofs.Demand.Bounds.{finite_at_most}
use Rattle.section.proofs.Demand.Boxes.{box_at_most}
use Rattle.section.proofs.Demand.Hits.{BoxAtMost, VerticesAtMost}
use Rattle.truth.specs.Boxes.{BoxWithin, Within}
use Rattle.truth.proofs.Walk.HalfWidths.{Scaled}
use Rattle.truth.proofs.Walk.Scales.{bounded_within, within_bounded}

pub within_up : {i j : ℕ} {x : Float} → i ≤ j → Within (2 ^ i) x → Within (2 ^ j) x
within_up h X = record { held = X.held; ends = X.ends; most = le_trans X.most (pow_mono h) }

pub box_bounded : (e m : ℕ) → Scaled e m → {s : List Float} → VerticesAtMost 23 s → (x : Aabb) → BoxWithin e x
    → Within (2 ^ (80 + e)) (box_distance s x).distance
box_bounded e m S {s} numbers x B =
    let l = S.unit_least in
    within_up (let q : 1101 ≤ 80 + e = omega arith in q)
    (bounded_within 1101 (box_distance s x).distance (box_at_most numbers at_most).distance.bounded)
  where
    along : {z : Float} → Within (2 ^ (54 + e)) z → Finite 23 z
    along {z} Z =
        let l = S.limit in
        let q : 54 + e ≤ 1097 = omega arith in
        record { bounded = bounded_up binary64 (54 + e) 1097 z q (within_bounded (54 + e) z Z) }

    across : {r : Float} → Within (2 ^ (55 + e)) r → Finite 23 r
    across {r} R =
        let l = S.limit in
        let q : 55 + e ≤ 1097 = omega arith in
        record { bounded = bounded_up binary64 (55 + e) 1097 r q (within_bounded (55 + e) r R) }

    at_most : BoxAtMost 23 x
    at_most = record {
      z0 = finite_at_most (along B.z0);
      z1 = finite_at_most (along B.z1);
      r0 = finite_at_most (across B.r0);
      r1 = finite_at_most (across B.r1);
    }
