-- The box of a cylinder along the spindle: at most 2 ^ 22, and in order, since r - radius ≤ r ≤ r + radius as rounded.
use native.Mathlib.Omega.{arith}
use lib.Dec.{T}
use lib.Ieee.{binary64}
use Rattle.arith.specs.F64.{◌≼◌, 𝟘}
use Rattle.arith.specs.roots.Roots.{hypot}
use Rattle.arith.proofs.Laws.Order.{min_le_max}
use Rattle.arith.proofs.Laws.SizedOrder.{add_given_ge, hypot_not_negative, key_le, max_finite_key, sub_given_le}
use Rattle.arith.proofs.Laws.Sizes.{Finite, Given, add_given, finite_given, given_ends, hypot_finite, max_keeps, min_keeps}
use Rattle.arith.proofs.Laws.Sizes.{sub_given, zero_finite, zero_key}
use Rattle.section.specs.declared.profile.shapes.Aabb.{Aabb}
use Rattle.walk.specs.bands.Band.{axial_box, mean}
use Rattle.walk.specs.declared.bands.shapes.Cylinder.{Cylinder}
use Rattle.walk.proofs.bands.Limit.{CylinderInLimit, mean_finite}

-- z0 ≤ z1 and 0 ≤ r0 ≤ r1: number 10 turns no such box down
pub record Ordered (x : Aabb) : Type 0 where
  pub z : T (x.z0 ≼ x.z1)
  pub r : T (x.r0 ≼ x.r1)
  pub least : T (𝟘 ≼ x.r0)

module _ {c : Cylinder} (C : CylinderInLimit c) where
  X : Finite 20 (mean c.a.x c.b.x)
  X = mean_finite C.ax C.bx

  Y : Finite 20 (mean c.a.y c.b.y)
  Y = mean_finite C.ay C.by

  R : Finite 21 (hypot binary64 (mean c.a.x c.b.x) (mean c.a.y c.b.y))
  R = hypot_finite X Y tt

  pub axial_z0 : Given 20 (axial_box c).z0
  unfolding axial_box
  axial_z0 = min_keeps (Given 20) C.az C.bz

  pub axial_z1 : Given 20 (axial_box c).z1
  unfolding axial_box
  axial_z1 = max_keeps (Given 20) C.az C.bz

  pub axial_r0 : Finite 22 (axial_box c).r0
  unfolding axial_box
  axial_r0 = max_keeps (Finite 22) (sub_given (finite_given R) C.radius tt) (zero_finite 22)

  pub axial_r1 : Finite 22 (axial_box c).r1
  unfolding axial_box
  axial_r1 = add_given (finite_given R) C.radius tt

  pub axial_box_ordered : Ordered (axial_box c)
  unfolding axial_box
  axial_box_ordered =
      let less = max_finite_key (sub_given (finite_given R) C.radius tt) (zero_finite 22) in
      let low = sub_given_le R C.radius C.solid in
      let high = add_given_ge R C.radius C.solid in
      let plus = hypot_not_negative (finite_given X) (finite_given Y) in
      record {
        z = min_le_max c.a.z c.b.z (given_ends C.az) (given_ends C.bz);
        r = key_le axial_r0 axial_r1 (omega (arith, zero_key));
        least = key_le (zero_finite 0) axial_r0 (omega arith);
      }
