-- The band of a cylinder with its ends swapped, or mirrored in x or in y, agrees with the cylinder's own in all that the walk
-- sees: zc, radius and the spans. Along Y it is that of the cylinder with x and y exchanged, mirrored in the other one. Of every
-- cylinder within the limits.
use mathlib.Core.Path.{refl}
use lib.Dec.{T}
use lib.Ieee.{binary64, Float}
use lib.Ieee.Scale.{finite}
use Rattle.arith.specs.F64.{◌⊕◌, ◌⊖◌}
use Rattle.arith.specs.Num.{max, min}
use Rattle.arith.proofs.roots.Rounding.Key.{finite_number}
use Rattle.walk.specs.bands.Band.{band_of, mean, measured_as, span_at}
use Rattle.walk.specs.declared.bands.shapes.Axis.{Axis}
use Rattle.walk.specs.declared.bands.shapes.Axis.TheVariants.{Axial, AlongX, AlongY, Neither}
use Rattle.walk.specs.declared.bands.shapes.Cylinder.{Cylinder}
use Rattle.walk.proofs.bands.Limit.{CylinderInLimit, band_of_in_limit, measured_as_in_limit}
use Rattle.symmetry.specs.Alike.{same}
use Rattle.symmetry.specs.Moved.{ends_swapped, mirrored_x, mirrored_y}
use Rattle.symmetry.proofs.Floats.Like.{like_add, like_of, like_sub, like_trans}
use Rattle.symmetry.proofs.Floats.Signs.{neg_add, neg_sub}
use Rattle.symmetry.proofs.Floats.Ends.{max_neg, max_swapped, min_neg, min_swapped, ordered_ends}
use Rattle.symmetry.proofs.Walks.{Agree}
use Rattle.symmetry.proofs.Cylinder.AxialBoxes.{given_finite, mean_neg, mean_swapped}
use Rattle.symmetry.proofs.Cylinder.Heights.{heights, ordered_heights}
use Rattle.symmetry.proofs.Cylinder.Spans.{rectangle_like, rectangle_turned_x, rectangle_turned_y}

-- ---- along X
module _ {c : Cylinder} (C : CylinderInLimit c) where
  abbrev x0 : Float
  x0 = min c.a.x c.b.x

  abbrev x1 : Float
  x1 = max c.a.x c.b.x

  abbrev yc : Float
  yc = mean c.a.y c.b.y

  left : T (finite x0)
  left = unfold band_of in given_finite (band_of_in_limit C).x0

  right : T (finite x1)
  right = unfold band_of in given_finite (band_of_in_limit C).x1

  height : T (finite_number binary64 yc)
  height = unfold band_of in (band_of_in_limit C).yc.bounded.sure

  band_mirrored_x : Agree (band_of (mirrored_x c)) (band_of c)
  unfolding band_of span_at
  band_mirrored_x =
      record {
        zc = refl;
        radius = refl;
        spans = λ ρ w.
            rectangle_turned_x x0 x1 (yc ⊖ ρ) (yc ⊕ ρ) left right (heights yc ρ height w)
            (ordered_ends c.a.x c.b.x (given_finite C.ax) (given_finite C.bx))
            (like_of (min_neg c.a.x c.b.x)) (like_of (max_neg c.a.x c.b.x));
      }

  band_mirrored_y : Agree (band_of (mirrored_y c)) (band_of c)
  unfolding band_of span_at
  band_mirrored_y =
      record {
        zc = refl;
        radius = refl;
        spans = λ ρ w.
            let m = mean_neg c.a.y c.b.y in
            rectangle_turned_y x0 x1 (yc ⊖ ρ) (yc ⊕ ρ) left right (heights yc ρ height w) (ordered_heights yc ρ height w)
            (like_trans (like_sub binary64 m (same {x = ρ})) (neg_sub binary64 yc ρ))
            (like_trans (like_add binary64 m (same {x = ρ})) (neg_add binary64 yc ρ));
      }

  band_swapped : Agree (band_of (ends_swapped c)) (band_of c)
  unfolding band_of span_at
  band_swapped =
      record {
        zc = mean_swapped c.b.z c.a.z;
        radius = refl;
        spans = λ ρ w.
            let y = like_of (mean_swapped c.b.y c.a.y) in
            let a = given_finite C.ax in
            let b = given_finite C.bx in
            rectangle_like (min_swapped c.b.x c.a.x b a) (max_swapped c.b.x c.a.x b a)
            (like_sub binary64 y (same {x = ρ})) (like_add binary64 y (same {x = ρ}));
      }

-- ---- along X and along Y
module _ {c : Cylinder} (C : CylinderInLimit c) where
  pub bands_mirrored_x : (a : Axis) → Agree (band_of (measured_as a (mirrored_x c))) (band_of (measured_as a c))
  bands_mirrored_x Axial = band_mirrored_x C
  bands_mirrored_x AlongX = band_mirrored_x C
  bands_mirrored_x AlongY = band_mirrored_y (measured_as_in_limit AlongY C)
  bands_mirrored_x Neither = band_mirrored_x C

  pub bands_mirrored_y : (a : Axis) → Agree (band_of (measured_as a (mirrored_y c))) (band_of (measured_as a c))
  bands_mirrored_y Axial = band_mirrored_y C
  bands_mirrored_y AlongX = band_mirrored_y C
  bands_mirrored_y AlongY = band_mirrored_x (measured_as_in_limit AlongY C)
  bands_mirrored_y Neither = band_mirrored_y C

  pub bands_swapped : (a : Axis) → Agree (band_of (measured_as a (ends_swapped c))) (band_of (measured_as a c))
  bands_swapped Axial = band_swapped C
  bands_swapped AlongX = band_swapped C
  bands_swapped AlongY = band_swapped (measured_as_in_limit AlongY C)
  bands_swapped Neither = band_swapped C
