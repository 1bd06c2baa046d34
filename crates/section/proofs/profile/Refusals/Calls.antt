-- 01: the lowest number that applies is returned. The numbers of each call without settings ascend, so that the first is the lowest.
use mathlib.Core.List.{List, []}
use lib.Ieee.{Float}
use Rattle.arith.specs.declared.vector.Vec3.{Vec3}
use Rattle.section.specs.profile.Refusals.{refusal, point_tests, sphere_tests, box_tests, convex_tests}
use Rattle.section.specs.declared.profile.shapes.Aabb.{Aabb}
use Rattle.section.specs.declared.profile.shapes.Sphere.{Sphere}
use Rattle.section.proofs.profile.Refusals.Ordered.{Lowest, first_is_lowest}

module _ (s : List Float) where
  pub point_lowest : (p : Vec3) → Lowest (point_tests s p) (refusal (point_tests s p))
  point_lowest p = first_is_lowest _ tt

  module _ (extra : List Float) where
    pub sphere_lowest : (b : Sphere) → Lowest (sphere_tests s b extra []) (refusal (sphere_tests s b extra []))
    sphere_lowest b = first_is_lowest _ tt

    pub box_lowest : (x : Aabb) → Lowest (box_tests s x extra []) (refusal (box_tests s x extra []))
    box_lowest x = first_is_lowest _ tt

    pub convex_lowest : (c : List Float) → Lowest (convex_tests c s extra) (refusal (convex_tests c s extra))
    convex_lowest c = first_is_lowest _ tt
