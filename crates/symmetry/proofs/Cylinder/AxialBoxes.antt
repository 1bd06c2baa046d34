-- The box of a cylinder along the spindle is the same where the cylinder is mirrored, and with its ends swapped the same but for
-- the sign of a zero: means commute, negation passes through them, and hypot is blind to signs.
use mathlib.Core.Path.{ap, ◌≡◌}
use lib.Dec.{T}
use lib.Ieee.{binary64, fin, Float, inf, nan, neg}
use lib.Ieee.Scale.{finite}
use Rattle.arith.specs.F64.{◌⊕◌, ◌⊖◌, ◌⊗◌, 𝟘, ½}
use Rattle.arith.specs.Num.{is_finite, max}
use Rattle.arith.specs.roots.Roots.{hypot}
use Rattle.arith.proofs.Laws.Sizes.{Given, given_ends}
use Rattle.walk.specs.bands.Band.{axial_box, mean}
use Rattle.walk.specs.declared.bands.shapes.Cylinder.{Cylinder}
use Rattle.walk.proofs.bands.Limit.{CylinderInLimit}
use Rattle.symmetry.specs.Alike.{Like, same}
use Rattle.symmetry.specs.Moved.{ends_swapped, mirrored_x, mirrored_y}
use Rattle.symmetry.proofs.Floats.Like.{add_comm_float, like_mul, like_of, like_trans}
use Rattle.symmetry.proofs.Floats.Signs.{add_neg, kept, mul_neg, sized_hypot, turned}
use Rattle.symmetry.proofs.Floats.Written.{one}
use Rattle.symmetry.proofs.Floats.Ends.{max_swapped, min_swapped}
use Rattle.symmetry.proofs.Section.Boxes.{EqualBox}

-- ---- means
pub mean_swapped : (a b : Float) → mean a b ≡ mean b a
mean_swapped a b = ap (λ (z : Float). z ⊗ ½) (add_comm_float binary64 a b)

pub mean_neg : (a b : Float) → Like (mean (neg a) (neg b)) (neg (mean a b))
mean_neg a b =
    like_trans (like_mul binary64 (add_neg binary64 a b) (same {x = ½})) (like_of (mul_neg binary64 (a ⊕ b) ½))

-- ---- mirrored
module _ (c : Cylinder) where
  pub box_mirrored_x : axial_box (mirrored_x c) ≡ axial_box c
  unfolding axial_box
  box_mirrored_x =
      rw (sized_hypot binary64 (turned (mean_neg c.a.x c.b.x)) (kept (same {x = mean c.a.y c.b.y})))

  pub box_mirrored_y : axial_box (mirrored_y c) ≡ axial_box c
  unfolding axial_box
  box_mirrored_y =
      rw (sized_hypot binary64 (kept (same {x = mean c.a.x c.b.x})) (turned (mean_neg c.a.y c.b.y)))

-- ---- the ends swapped
pub given_finite : {x : Float} → Given 20 x → T (finite x)
given_finite {x} X = go x (given_ends X)
  where
    go : (x : Float) → T (is_finite x) → T (finite x)
    go nan h = unfold is_finite in h
    go (inf s) h = unfold is_finite in h
    go (fin s m e) h = tt

pub box_swapped : {c : Cylinder} → CylinderInLimit c → EqualBox (axial_box (ends_swapped c)) (axial_box c)
unfolding axial_box
box_swapped {c} C =
    record {
      z0 = min_swapped c.b.z c.a.z last first;
      z1 = max_swapped c.b.z c.a.z last first;
      r0 = one (like_of (ap (λ (r : Float). max (r ⊖ c.radius) 𝟘) middle));
      r1 = one (like_of (ap (λ (r : Float). r ⊕ c.radius) middle));
    }
  where
    first : T (finite c.a.z)
    first = given_finite C.az

    last : T (finite c.b.z)
    last = given_finite C.bz

    middle : hypot binary64 (mean c.b.x c.a.x) (mean c.b.y c.a.y)
        ≡ hypot binary64 (mean c.a.x c.b.x) (mean c.a.y c.b.y)
    middle = rw (mean_swapped c.b.x c.a.x, mean_swapped c.b.y c.a.y)
