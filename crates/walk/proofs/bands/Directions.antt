-- No cylinder passes the tests of both X and Y, whatever its coordinates, NaN and infinities among them: x and y of a direction
-- whose z is finite are not both over 7/8 in magnitude.
use Prim.Native.Nat.{◌<◌}
use mathlib.Core.Bool.{Bool, true, false, not, cond}
use mathlib.Core.Path.{refl, sym}
use native.Mathlib.Nat.{le_of_eq, lt_of_le_of_lt}
use lib.Dec.{T, leb→le, lit<}
use lib.Ieee.{Float, add, binary64, eq, fin, fits, inf, is_nan, le, lt, nan, neg, of_bits, sub}
use lib.Ieee.Fits.{sub-fits}
use lib.Ieee.Scale.{finite}
use Rattle.arith.specs.F64.{◌⊖◌, ◌⊘◌, ◌≼◌, 𝟘, 𝟙, e_8}
use Rattle.arith.specs.Num.{abs}
use Rattle.arith.specs.Vector.{vec, subtract, scale_by, norm}
use Rattle.arith.specs.declared.vector.Vec3.{Vec3}
use Rattle.arith.proofs.roots.Rounding.Key.{key, magnitude, mid, unit}
use Rattle.arith.proofs.Laws.Order.{nle→key}
use Rattle.arith.proofs.Laws.Sizes.{Number, K, M, zero_key, zero_number}
use Rattle.arith.proofs.Laws.UnitLegs.{Fine, not_both}
use Rattle.walk.specs.bands.Axis.{axis_dir}
use Rattle.walk.specs.declared.bands.shapes.Cylinder.{Cylinder}

-- binary64, its 1, and 1 - 1e-8 as rounded
fine : Fine binary64 𝟙 (𝟙 ⊖ e_8)
unfolding mid key magnitude unit of_bits fits sub add neg is_nan
fine =
    record {
      digits = leb→le _ _ tt;
      room = leb→le _ _ tt;
      one_finite = tt;
      one_key = refl;
      j = 1071;
      eighth = refl;
      over = lit< tt;
      c_number = tt;
    }

-- what is at most 1e-8 in magnitude is finite
small_finite : (v : Float) → T (abs v ≼ e_8) → T (finite v)
unfolding lt le eq neg of_bits
small_finite nan h = h
small_finite (inf true) h = h
small_finite (inf false) h = h
small_finite (fin s m e) h = tt

zero_not_most : T (𝟙 ⊖ e_8 ≼ abs 𝟘) → ⊥
unfolding lt le eq of_bits sub add neg
zero_not_most h = h

pub never_both : (c : Cylinder) → T (abs (axis_dir c).z ≼ e_8) → T (𝟙 ⊖ e_8 ≼ abs (axis_dir c).x)
    → T (𝟙 ⊖ e_8 ≼ abs (axis_dir c).y) → ⊥
unfolding axis_dir
never_both c = go (norm d ≼ 𝟘) (λ h p. lt_of_le_of_lt (le_of_eq (sym zero_key)) (nle→key binary64 (norm d) 𝟘 p zero_number h))
  where
    d : Vec3
    d = subtract c.b c.a

    go : (t : Bool) → (T (not t) → Number (norm d) → M < K (norm d))
        → let v = cond t (vec 𝟘 𝟘 𝟙) (scale_by d (𝟙 ⊘ norm d)) in
        T (abs v.z ≼ e_8) → T (𝟙 ⊖ e_8 ≼ abs v.x) → T (𝟙 ⊖ e_8 ≼ abs v.y) → ⊥
    go true plus hz hx hy = zero_not_most hx
    go false plus hz hx hy =
        not_both binary64 𝟙 (𝟙 ⊖ e_8) fine d.x d.y d.z (sub-fits binary64 c.b.x c.a.x)
        (sub-fits binary64 c.b.y c.a.y) (sub-fits binary64 c.b.z c.a.z) (plus tt) (small_finite _ hz) hx hy
