-- The box of a cylinder along the spindle, and 01's band of one across it: half width and span.
use Rattle.std.specs.Prelude.{cond, Float}
use Rattle.std.specs.Float.{binary64}
use Rattle.arith.specs.F64.{◌⊕◌, ◌⊖◌, ◌⊗◌, ◌≺◌, ◌≼◌, 𝟘, ½}
use Rattle.arith.specs.Num.{min, max}
use Rattle.arith.specs.Vector.{vec}
use Rattle.arith.specs.roots.Roots.{sqrt, hypot}
use Rattle.arith.specs.declared.vector.Vec3.{Vec3}
use Rattle.section.specs.declared.profile.shapes.Aabb.{Aabb}
use Rattle.walk.specs.declared.bands.shapes.Axis.{Axis}
use Rattle.walk.specs.declared.bands.shapes.Axis.TheVariants.{Axial, AlongX, AlongY, Neither}
use Rattle.walk.specs.declared.bands.shapes.Cylinder.{Cylinder}
use Rattle.walk.specs.declared.bands.shapes.RadialBand.{RadialBand}
use Rattle.walk.specs.declared.bands.shapes.Span.{Span}

abbrev pub bar : Vec3 → Vec3 → Float → Cylinder
bar a b radius = record { a = a; b = b; radius = radius }

abbrev pub mean : Float → Float → Float
mean a b = (a ⊕ b) ⊗ ½

-- axial: the z range is that of the ends, the radii hypot of mean x and mean y, less the radius (at least 0) and plus it
unfoldable pub axial_box : Cylinder → Aabb
axial_box c =
    let r = hypot binary64 (mean c.a.x c.b.x) (mean c.a.y c.b.y) in
    record {
      z0 = min c.a.z c.b.z;
      z1 = max c.a.z c.b.z;
      r0 = max (r ⊖ c.radius) 𝟘;
      r1 = r ⊕ c.radius;
    }

-- radial along X: x0, x1 are the sorted ends; yc, zc the means
unfoldable pub band_of : Cylinder → RadialBand
band_of c =
    record {
      x0 = min c.a.x c.b.x;
      x1 = max c.a.x c.b.x;
      yc = mean c.a.y c.b.y;
      zc = mean c.a.z c.b.z;
      radius = c.radius;
    }

abbrev pub exchange : Vec3 → Vec3
exchange p = vec p.y p.x p.z

-- the same cylinder with x and y exchanged
abbrev pub exchanged : Cylinder → Cylinder
exchanged c = bar (exchange c.a) (exchange c.b) c.radius

-- across the spindle: a cylinder along Y is measured as the radial one with x and y exchanged
abbrev pub measured_as : Axis → Cylinder → Cylinder
measured_as Axial c = c
measured_as AlongX c = c
measured_as AlongY c = exchanged c
measured_as Neither c = c

-- 0, or the root of radius² - (z - zc)²
unfoldable pub half_width : RadialBand → Float → Float
half_width b z =
    let dz = z ⊖ b.zc in
    let v = b.radius ⊗ b.radius ⊖ dz ⊗ dz in
    cond (v ≼ 𝟘) 𝟘 (sqrt binary64 v)

abbrev pub span : Float → Float → Span
span lo hi = record { lo = lo; hi = hi }

-- of the numbers from lo to hi the one closest to 0
abbrev pub closest_to_zero : Float → Float → Float
closest_to_zero lo hi = cond (𝟘 ≺ lo) lo (cond (hi ≺ 𝟘) hi 𝟘)

-- the least and the greatest radius of the rectangle x0..x1, y0..y1
abbrev pub radius_span : Float → Float → Float → Float → Span
radius_span x0 x1 y0 y1 =
    let h = hypot binary64 in
    span (h (closest_to_zero x0 x1) (closest_to_zero y0 y1)) (max (max (max (h x0 y0) (h x0 y1)) (h x1 y0)) (h x1 y1))

-- 01's span: of the rectangle x0..x1, yc ± half width
unfoldable pub span_at : RadialBand → Float → Span
span_at b ρ = radius_span b.x0 b.x1 (b.yc ⊖ ρ) (b.yc ⊕ ρ)
