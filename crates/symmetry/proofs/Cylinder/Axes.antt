-- The axis test sees neither the order of the ends nor the signs of x and y: each component from one end to the other is the same
-- up to its sign, so that the length of the direction and its magnitudes are the same. For every cylinder.
use mathlib.Core.Bool.{Bool, ◌&&◌, cond, false, true}
use mathlib.Core.Path.{◌≡◌}
use lib.Ieee.{Float, binary64}
use Rattle.arith.specs.F64.{◌⊖◌, ◌⊘◌, ◌≼◌, 𝟘, 𝟙, e_8}
use Rattle.arith.specs.Vector.{vec, subtract, scale_by, norm}
use Rattle.arith.specs.declared.vector.Vec3.{Vec3}
use Rattle.walk.specs.bands.Axis.{axis, axis_dir}
use Rattle.walk.specs.declared.bands.shapes.Axis.TheVariants.{Axial, AlongX, AlongY, Neither}
use Rattle.walk.specs.declared.bands.shapes.Cylinder.{Cylinder}
use Rattle.symmetry.specs.Alike.{same}
use Rattle.symmetry.specs.Moved.{ends_swapped, mirror_x, mirror_y, mirrored_x, mirrored_y}
use Rattle.symmetry.proofs.Floats.Like.{like_le, like_of}
use Rattle.symmetry.proofs.Floats.Signs.{kept, Sized, sized_abs, sized_hypot, sized_mul, sub_neg, sub_turned, turned}

-- each component the same up to its sign
pub record SizedVec (v w : Vec3) : Type 0 where
  pub x : Sized v.x w.x
  pub y : Sized v.y w.y
  pub z : Sized v.z w.z

-- ---- from one end to the other
module _ (p q : Vec3) where
  pub between_swapped : SizedVec (subtract p q) (subtract q p)
  between_swapped =
      record {
        x = turned (sub_turned binary64 p.x q.x);
        y = turned (sub_turned binary64 p.y q.y);
        z = turned (sub_turned binary64 p.z q.z);
      }

  pub between_mirrored_x : SizedVec (subtract (mirror_x p) (mirror_x q)) (subtract p q)
  between_mirrored_x = record { x = turned (sub_neg binary64 p.x q.x); y = kept same; z = kept same }

  pub between_mirrored_y : SizedVec (subtract (mirror_y p) (mirror_y q)) (subtract p q)
  between_mirrored_y = record { x = kept same; y = turned (sub_neg binary64 p.y q.y); z = kept same }

-- ---- the axis
norm_sized : {v w : Vec3} → SizedVec v w → norm v ≡ norm w
norm_sized h = sized_hypot binary64 (kept (like_of (sized_hypot binary64 h.x h.y))) h.z

module _ (c c' : Cylinder) (h : SizedVec (subtract c.b c.a) (subtract c'.b c'.a)) where
  direction_sized : SizedVec (axis_dir c) (axis_dir c')
  unfolding axis_dir
  direction_sized = rw (norm_sized h) (go (norm w ≼ 𝟘) (𝟙 ⊘ norm w))
    where
      v : Vec3
      v = subtract c.b c.a

      w : Vec3
      w = subtract c'.b c'.a

      go : (b : Bool) (u : Float) → SizedVec (cond b (vec 𝟘 𝟘 𝟙) (scale_by v u)) (cond b (vec 𝟘 𝟘 𝟙) (scale_by w u))
      go true u = record { x = kept same; y = kept same; z = kept same }
      go false u =
          record { x = sized_mul binary64 h.x u; y = sized_mul binary64 h.y u; z = sized_mul binary64 h.z u }

  axis_sized : axis c ≡ axis c'
  unfolding axis
  axis_sized =
      let d = direction_sized in
      let most : Float = 𝟙 ⊖ e_8 in
      by (like_le (same {x = most}) (sized_abs d.z)) (like_le (sized_abs d.z) (same {x = e_8}))
      (like_le (same {x = most}) (sized_abs d.x)) (like_le (same {x = most}) (sized_abs d.y))
    where
      by : {p p' q q' r r' s s' : Bool} → p ≡ p' → q ≡ q' → r ≡ r' → s ≡ s'
          → cond p Axial (cond (q && r) AlongX (cond (q && s) AlongY Neither))
          ≡ cond p' Axial (cond (q' && r') AlongX (cond (q' && s') AlongY Neither))
      by e f g h = rw (e, f, g, h)

pub axis_swapped : (c : Cylinder) → axis (ends_swapped c) ≡ axis c
axis_swapped c = axis_sized (ends_swapped c) c (between_swapped c.a c.b)

pub axis_mirrored_x : (c : Cylinder) → axis (mirrored_x c) ≡ axis c
axis_mirrored_x c = axis_sized (mirrored_x c) c (between_mirrored_x c.b c.a)

pub axis_mirrored_y : (c : Cylinder) → axis (mirrored_y c) ≡ axis c
axis_mirrored_y c = axis_sized (mirrored_y c) c (between_mirrored_y c.b c.a)
