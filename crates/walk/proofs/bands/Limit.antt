-- A cylinder within 01's limit, 2 ^ 20, and of radius 0 or more, has a band within it: a mean is no larger than what it is of.
use mathlib.Core.Bool.{not}
use lib.Dec.{T}
use lib.Ieee.{Float}
use Rattle.arith.specs.F64.{◌≺◌, 𝟘}
use Rattle.arith.proofs.Laws.Sizes.{Finite, Given, add_given, half_finite, max_keeps, min_keeps}
use Rattle.walk.specs.bands.Band.{band_of, exchanged, mean, measured_as}
use Rattle.walk.specs.declared.bands.shapes.Axis.{Axis}
use Rattle.walk.specs.declared.bands.shapes.Axis.TheVariants.{Axial, AlongX, AlongY, Neither}
use Rattle.walk.specs.declared.bands.shapes.Cylinder.{Cylinder}
use Rattle.walk.specs.declared.bands.shapes.RadialBand.{RadialBand}

-- the seven numbers, whether f64 holds them or not, and what number 9 leaves
pub record CylinderInLimit (c : Cylinder) : Type 0 where
  pub ax : Given 20 c.a.x
  pub ay : Given 20 c.a.y
  pub az : Given 20 c.a.z
  pub bx : Given 20 c.b.x
  pub by : Given 20 c.b.y
  pub bz : Given 20 c.b.z
  pub radius : Given 20 c.radius
  pub solid : T (not (c.radius ≺ 𝟘))

pub record InLimit (b : RadialBand) : Type 0 where
  pub x0 : Given 20 b.x0
  pub x1 : Given 20 b.x1
  pub yc : Finite 20 b.yc
  pub zc : Finite 20 b.zc
  pub radius : Given 20 b.radius
  pub solid : T (not (b.radius ≺ 𝟘))

pub mean_finite : {x y : Float} → Given 20 x → Given 20 y → Finite 20 (mean x y)
mean_finite X Y = half_finite (add_given X Y tt) tt

pub band_of_in_limit : {c : Cylinder} → CylinderInLimit c → InLimit (band_of c)
unfolding band_of
band_of_in_limit C =
    record {
      x0 = min_keeps (Given 20) C.ax C.bx;
      x1 = max_keeps (Given 20) C.ax C.bx;
      yc = mean_finite C.ay C.by;
      zc = mean_finite C.az C.bz;
      radius = C.radius;
      solid = C.solid;
    }

-- ---- the cylinder that one along Y is measured as
exchanged_in_limit : {c : Cylinder} → CylinderInLimit c → CylinderInLimit (exchanged c)
exchanged_in_limit C =
    record {
      ax = C.ay;
      ay = C.ax;
      az = C.az;
      bx = C.by;
      by = C.bx;
      bz = C.bz;
      radius = C.radius;
      solid = C.solid;
    }

pub measured_as_in_limit : (a : Axis) {c : Cylinder} → CylinderInLimit c → CylinderInLimit (measured_as a c)
measured_as_in_limit Axial C = C
measured_as_in_limit AlongX C = C
measured_as_in_limit AlongY C = exchanged_in_limit C
measured_as_in_limit Neither C = C

pub measured_as_radius : (P : Float → Type 0) (a : Axis) (c : Cylinder) → P c.radius → P (band_of (measured_as a c)).radius
unfolding band_of
measured_as_radius P Axial c h = h
measured_as_radius P AlongX c h = h
measured_as_radius P AlongY c h = h
measured_as_radius P Neither c h = h
