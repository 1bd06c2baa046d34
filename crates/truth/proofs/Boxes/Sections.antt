-- EVERY SECTION AND EVERY BOX within the scale: box distance exceeds the exact distance between no point of the box and no point
-- of an edge by more than ε, 365 u and two thin lengths: 0.00028 mm within 1,024 mm, 0.29 mm within 01's limit. Of the boxes of
-- a walk, which reach four times as far, it is what specs/Boxes' BoxTrue asks.
use Prim.Native.Nat.{◌*◌, ◌+◌, ◌-◌, ◌<◌, ◌^◌, ℕ, ◌≤◌}
use mathlib.Core.List.{List}
use native.Mathlib.Omega.{arith}
use lib.Dec.{leb→le}
use lib.Ieee.{binary64, Float, prec}
use Rattle.arith.proofs.Laws.Bounded.{bounded_up}
use Rattle.arith.proofs.Laws.Sizes.{K}
use Rattle.section.specs.profile.Vertices.{count, edge_at, end_at, next, vertex_at}
use Rattle.section.specs.declared.profile.shapes.Aabb.{Aabb}
use Rattle.section.specs.boxes.Boxes.{box_distance}
use Rattle.section.proofs.Demand.Hits.{next_below}
use Rattle.truth.specs.Exact.{units}
use Rattle.truth.specs.Points.{full, metre, Reach}
use Rattle.truth.specs.Boxes.{BoxTrue, BoxWithin, ClearOfBox, OnEdges}
use Rattle.truth.specs.Cylinders.{walk_box_loss}
use Rattle.truth.proofs.Places.{not_over_less, place_is}
use Rattle.truth.proofs.Points.Accepted.{unit_of}
use Rattle.truth.proofs.Points.Closest.{Within}
use Rattle.truth.proofs.Boxes.AnyBox.{edge_box_true}
use Rattle.truth.proofs.Boxes.Lengths.{Coordinate, Scale}
use Rattle.truth.proofs.Boxes.EdgeBox.{Boxed, edge_box_number}
use Rattle.truth.proofs.Boxes.Floats.{H}
use Rattle.truth.proofs.Boxes.Gap.{never_over}
use Rattle.truth.proofs.Boxes.Scaled.{scale_limit, scale_limit_walk, scale_metre, scale_metre_walk}
use Rattle.truth.proofs.Boxes.Scales.{thin_limit, thin_limit_walk, thin_metre, thin_metre_walk, ε_limit, ε_limit_walk}
use Rattle.truth.proofs.Boxes.Scales.{ε_metre, ε_metre_walk}
use Rattle.truth.proofs.Walk.Scales.{within_bounded}

-- box distance exceeds the exact distance between no point of the box and no point of an edge by more than ε
abbrev pub NeverOver : ℕ → List Float → Aabb → Type 0
NeverOver ε s x = ClearOfBox ε (units (box_distance s x).distance) x (OnEdges s)

wider : (δ ε : ℕ) (s : List Float) (x : Aabb) → δ ≤ ε → NeverOver δ s x → NeverOver ε s x
wider δ ε s x l N = record {
  proof = λ n Z R q z r I O. not_over_less δ ε _ _ (n * q) (less (units (box_distance s x).distance)) (N.proof n Z R q z r I O);
}
  where
    less : (w : ℕ) → w - ε ≤ w - δ
    less w = omega arith

-- a box within the scale, its ends in order
pub record Placed (e : ℕ) (x : Aabb) : Type 0 where
  pub boxed : Boxed e x
  pub z_order : K x.z0 ≤ K x.z1
  pub r_order : K x.r0 ≤ K x.r1

abbrev pub Vertices : ℕ → List Float → Type 0
Vertices e s = (k : ℕ) → k < count s → Within e (vertex_at s k)

pub box_clear : (e H₀ : ℕ) → Scale e H₀ → (s : List Float) → Vertices e s → (ε : ℕ) → 1024 * (H * 2 ^ e * 2 ^ e) ≤ ε * ε
    → (x : Aabb) → Placed e x → NeverOver (ε + 365 * 2 ^ e + 2 * H₀) s x
box_clear e H₀ scale s S ε ε⁺ x X = record {
  proof = never_over (ε + 365 * 2 ^ e + 2 * H₀) s x
      (λ k l. edge_box_number e scale.slim.most (edge_at s k) x (S k l) (ends k l) X.boxed)
      (λ k l. edge_box_true e H₀ scale (edge_at s k) x (S k l) (ends k l) X.boxed X.z_order X.r_order ε ε⁺);
}
  where
    ends : (k : ℕ) → k < count s → Within e (end_at s k)
    ends k l = S (next (count s) k) (next_below (count s) k l)

-- ---- within 1,024 mm: 0.00028 mm; within 01's limit: 0.29 mm
pub box_metre : (s : List Float) → Vertices 1031 s → (x : Aabb) → Placed 1031 x → NeverOver (9 * 2 ^ 1059) s x
box_metre s S x X = wider _ _ s x (leb→le _ _ tt) (box_clear 1031 thin_metre scale_metre s S (2 ^ 1062) ε_metre x X)

pub box_limit : (s : List Float) → Vertices 1041 s → (x : Aabb) → Placed 1041 x → NeverOver (9 * 2 ^ 1069) s x
box_limit s S x X = wider _ _ s x (leb→le _ _ tt) (box_clear 1041 thin_limit scale_limit s S (2 ^ 1072) ε_limit x X)

-- ---- the boxes of a walk: z to twice and radii to four times that
module _ (e d : ℕ) (l : prec binary64 + e ≤ prec binary64 + d) where
  pub raised : {c : Float} → Coordinate e c → Coordinate d c
  raised {c} C = bounded_up binary64 (prec binary64 + e) (prec binary64 + d) c l C

  pub raised_vertices : (s : List Float) → Vertices e s → Vertices d s
  raised_vertices s S k h = record { z = raised (S k h).z; r = raised (S k h).r }

pub placed_metre : (x : Aabb) → BoxWithin 1031 x → Placed 1033 x
placed_metre x X = record {
  boxed = record {
    z0 = raised 1032 1033 (leb→le _ _ tt) (within_bounded 1085 x.z0 X.z0);
    z1 = raised 1032 1033 (leb→le _ _ tt) (within_bounded 1085 x.z1 X.z1);
    r0 = within_bounded 1086 x.r0 X.r0;
    r1 = within_bounded 1086 x.r1 X.r1;
  };
  z_order = rw (place_is x.z0, place_is x.z1) at X.z_order;
  r_order = rw (place_is x.r0, place_is x.r1) at X.r_order;
}

pub placed_limit : (x : Aabb) → BoxWithin 1041 x → Placed 1043 x
placed_limit x X = record {
  boxed = record {
    z0 = raised 1042 1043 (leb→le _ _ tt) (within_bounded 1095 x.z0 X.z0);
    z1 = raised 1042 1043 (leb→le _ _ tt) (within_bounded 1095 x.z1 X.z1);
    r0 = within_bounded 1096 x.r0 X.r0;
    r1 = within_bounded 1096 x.r1 X.r1;
  };
  z_order = rw (place_is x.z0, place_is x.z1) at X.z_order;
  r_order = rw (place_is x.r0, place_is x.r1) at X.r_order;
}

pub walk_box_metre : (s : List Float) → Vertices 1031 s → (x : Aabb) → BoxWithin 1031 x → NeverOver (9 * 2 ^ 1061) s x
walk_box_metre s S x X = wider _ _ s x (leb→le _ _ tt)
    (box_clear 1033 thin_metre_walk scale_metre_walk s (raised_vertices 1031 1033 (leb→le _ _ tt) s S) (2 ^ 1064) ε_metre_walk x
    (placed_metre x X))

pub walk_box_limit : (s : List Float) → Vertices 1041 s → (x : Aabb) → BoxWithin 1041 x → NeverOver (9 * 2 ^ 1071) s x
walk_box_limit s S x X = wider _ _ s x (leb→le _ _ tt)
    (box_clear 1043 thin_limit_walk scale_limit_walk s (raised_vertices 1041 1043 (leb→le _ _ tt) s S) (2 ^ 1074) ε_limit_walk x
    (placed_limit x X))

-- WHAT THE WALK ASKS OF BOX DISTANCE IS SO, of the section's edges
pub box_true : (m : Reach) (s : List Float) → Vertices (unit_of m) s → BoxTrue (walk_box_loss m) (unit_of m) s (OnEdges s)
box_true full s S = record { never_over = λ x X. (walk_box_limit s S x X).proof }
box_true metre s S = record { never_over = λ x X. (walk_box_metre s S x X).proof }
