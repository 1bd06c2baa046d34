-- What is shown of a lifted witness: it is finite, keeps z, and lies on the middle's side of both axes.
use Rattle.std.specs.Prelude.{◌≡◌, T, Float}
use Rattle.std.specs.Float.{binary64}
use Rattle.std.specs.Float.Ieee.{eq}
use Rattle.arith.specs.F64.{◌≺◌, ◌≼◌, 𝟘}
use Rattle.arith.specs.declared.vector.Vec3.{Vec3}
use Rattle.arith.specs.roots.Roots.{hypot}
use Rattle.section.specs.declared.profile.shapes.CollisionHit.{CollisionHit}
use Rattle.section.specs.declared.profile.shapes.Witness.{Witness}
use Rattle.section.specs.Demand.{AtMost}
use Rattle.walk.specs.declared.shapes.CountedHit.{CountedHit}
use Rattle.bodies.specs.lifted.Rule.{lift}
use Rattle.bodies.specs.declared.lifted.shapes.Lifted.{Lifted}

-- the lifted coordinate does not take the sign opposite to the middle's
pub record SameSide (middle lifted : Float) : Type 0 where
  pub not_below : T (𝟘 ≼ middle) → T (𝟘 ≼ lifted)
  pub not_above : T (middle ≼ 𝟘) → T (lifted ≼ 𝟘)

-- p is a lifted witness of w, the middle being at x and y: at most 2 ^ 25 in magnitude, as w is; its z is w's; off the axis each
-- coordinate on the middle's side, on the axis the second 0
pub record Placed (x y : Float) (w : Witness) (p : Vec3) : Type 0 where
  pub x_most : AtMost 25 p.x
  pub y_most : AtMost 25 p.y
  pub z_most : AtMost 25 p.z
  pub same_z : p.z ≡ w.z
  pub x_side : T (𝟘 ≺ hypot binary64 x y) → SameSide x p.x
  pub y_side : T (𝟘 ≺ hypot binary64 x y) → SameSide y p.y
  pub on_axis : T (eq (hypot binary64 x y) 𝟘) → p.y ≡ 𝟘

-- a middle and a witness of this size: of every accepted query
pub record Near (x y : Float) (w : Witness) : Type 0 where
  pub middle_x : AtMost 20 x
  pub middle_y : AtMost 20 y
  pub witness_z : AtMost 25 w.z
  pub witness_r : AtMost 25 w.r

-- what `lift` promises of its result p
pub record Lifts (x y : Float) (w : Witness) (p : Vec3) : Type 0 where
  pub equal : p ≡ lift x y w
  pub placed : Near x y w → Placed x y w p

-- what a query promises of its value: P of the plain hit, and the place of the lifted witness
pub record WithPlace (P : CollisionHit → Type 0) (x y : Float) (h : Lifted CollisionHit) : Type 0 where
  pub plain : P h.hit
  pub placed : Placed x y h.hit.witness h.witness

pub record WithPlaceCounted (P : CountedHit → Type 0) (x y : Float) (h : Lifted CountedHit) : Type 0 where
  pub plain : P h.hit
  pub placed : Placed x y h.hit.hit.witness h.witness
