-- The verdict on a cylinder, of every section, cylinder and clearance, refused or not: how far the axis leans is the same, since
-- hypot is blind to signs, and a test does not see the sign of a zero.
use Prim.Native.Nat.{ℕ}
use mathlib.Core.List.{List, [], ◌∷◌}
use mathlib.Core.Path.{ap, ◌∙◌, ◌≡◌}
use lib.Ieee.{binary64, Float}
use Rattle.arith.specs.F64.{◌⊗◌, ½, e_9}
use Rattle.arith.specs.Vector.{subtract}
use Rattle.section.specs.profile.Refusals.{refusal}
use Rattle.walk.specs.settings.Settings.{finest}
use Rattle.walk.specs.bands.Axis.{axis}
use Rattle.walk.specs.declared.bands.shapes.Axis.{Axis}
use Rattle.walk.specs.declared.bands.shapes.Axis.TheVariants.{Axial, AlongX, AlongY, Neither}
use Rattle.walk.specs.declared.bands.shapes.Cylinder.{Cylinder}
use Rattle.walk.proofs.bands.Limit.{CylinderInLimit}
use Rattle.walk.specs.declared.shapes.CountedHit.{CountedHit}
use Rattle.walk.specs.cylinders.Cylinders.{cylinder_distance, cylinder_tests}
use Rattle.walk.proofs.cylinders.Cover.Accepted.{accepted}
use Rattle.bodies.specs.declared.shapes.Body.TheVariants.{Cylinder as Bar}
use Rattle.bodies.specs.verdicts.Tilt.{judged_distance, tilt_length}
use Rattle.bodies.specs.verdicts.Verdicts.{body_verdict, collides}
use Rattle.symmetry.specs.Alike.{EitherSide, Like, same}
use Rattle.symmetry.specs.Moved.{ends_swapped, mirrored_x, mirrored_y}
use Rattle.symmetry.proofs.Floats.Like.{like_add, like_lt, like_of, like_sub}
use Rattle.symmetry.proofs.Floats.Signs.{sized_hypot}
use Rattle.symmetry.proofs.Cylinder.Axes.{axis_mirrored_x, axis_mirrored_y, axis_swapped, SizedVec}
use Rattle.symmetry.proofs.Cylinder.Axes.{between_mirrored_x, between_mirrored_y, between_swapped}
use Rattle.symmetry.proofs.Cylinder.Distances.{distance_mirrored_x, distance_mirrored_y, distance_swapped}
use Rattle.symmetry.proofs.Cylinder.Refusals.{number_mirrored_x, number_mirrored_y, number_swapped}
use Rattle.symmetry.proofs.Queries.{reply_same}

-- ---- how far one end stands from the other
tilt_sized : (c c' : Cylinder) → SizedVec (subtract c.a c.b) (subtract c'.a c'.b) → (a : Axis)
    → tilt_length a c ≡ tilt_length a c'
tilt_sized c c' h Axial = sized_hypot binary64 h.x h.y
tilt_sized c c' h AlongX = sized_hypot binary64 h.y h.z
tilt_sized c c' h AlongY = sized_hypot binary64 h.x h.z
tilt_sized c c' h Neither = sized_hypot binary64 h.x h.y

-- ---- the same axis and tilt, and distances that are one but for the sign of a zero
abbrev distance : List Float → Cylinder → Float
distance s c = (cylinder_distance s c finest).hit.distance

module _ (s : List Float) (clearance : Float) (c c' : Cylinder) (e : axis c ≡ axis c')
    (h : SizedVec (subtract c.a c.b) (subtract c'.a c'.b)) (d : Like (distance s c) (distance s c')) where
  judged_same : collides (judged_distance (Bar c) (distance s c)) clearance
      ≡ collides (judged_distance (Bar c') (distance s c')) clearance
  judged_same =
      like_lt (like_add binary64 (like_sub binary64 d (like_of (ap (λ (l : Float). l ⊗ ½) tilt))) (same {x = e_9}))
      (same {x = clearance})
    where
      tilt : tilt_length (axis c) c ≡ tilt_length (axis c') c'
      tilt = tilt_sized c c' h (axis c) ∙ ap (λ (a : Axis). tilt_length a c') e

module _ (s : List Float) (c : Cylinder) (clearance : Float) where
  abbrev given : List Float
  given = clearance ∷ []

  abbrev number : ℕ
  number = refusal (cylinder_tests s c given [])

  limits : number ≡ 0 → CylinderInLimit c
  limits e = (accepted s c given [] tt e).cylinder

  -- the ends swapped: the same verdict
  pub verdict_swapped : body_verdict s (Bar (ends_swapped c)) clearance ≡ body_verdict s (Bar c) clearance
  unfolding body_verdict
  verdict_swapped =
      reply_same number (number_swapped s given [] c)
      (λ e. judged_same s clearance (ends_swapped c) c (axis_swapped c) (between_swapped c.b c.a)
      (distance_swapped s finest (limits e)).hit.distance)

  verdict_mirrored_x : body_verdict s (Bar (mirrored_x c)) clearance ≡ body_verdict s (Bar c) clearance
  unfolding body_verdict
  verdict_mirrored_x =
      reply_same number (number_mirrored_x s given [] c)
      (λ e. judged_same s clearance (mirrored_x c) c (axis_mirrored_x c) (between_mirrored_x c.a c.b)
      (like_of (ap (λ (h : CountedHit). h.hit.distance) (distance_mirrored_x s finest (limits e)))))

  verdict_mirrored_y : body_verdict s (Bar (mirrored_y c)) clearance ≡ body_verdict s (Bar c) clearance
  unfolding body_verdict
  verdict_mirrored_y =
      reply_same number (number_mirrored_y s given [] c)
      (λ e. judged_same s clearance (mirrored_y c) c (axis_mirrored_y c) (between_mirrored_y c.a c.b)
      (like_of (ap (λ (h : CountedHit). h.hit.distance) (distance_mirrored_y s finest (limits e)))))

-- mirrored, or turned by half a turn: the same verdict
pub verdict_either_side : (s : List Float) (c : Cylinder) (clearance : Float)
    → EitherSide (λ (c : Cylinder). body_verdict s (Bar c) clearance) c
verdict_either_side s c clearance =
    record {
      mirrored_x = verdict_mirrored_x s c clearance;
      mirrored_y = verdict_mirrored_y s c clearance;
      half_turned = verdict_mirrored_y s (mirrored_x c) clearance ∙ verdict_mirrored_x s c clearance;
    }
