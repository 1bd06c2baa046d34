-- The cylinder query's answer, of every section, cylinder and setting, refused or not. What is turned down is the same, and what
-- is not is within the limits.
use Prim.Native.Nat.{suc, zero, ℕ}
use mathlib.Core.List.{List, []}
use mathlib.Core.Path.{ap, refl, ◌∙◌, ◌≡◌}
use lib.Dec.{T}
use lib.Ieee.{Float}
use Rattle.section.specs.profile.Refusals.{refusal}
use Rattle.section.specs.profile.Replies.{reply}
use Rattle.walk.specs.settings.Settings.{settings_tests}
use Rattle.walk.specs.declared.settings.shapes.Settings.{Settings}
use Rattle.walk.specs.bands.Axis.{axis}
use Rattle.walk.specs.declared.bands.shapes.Cylinder.{Cylinder}
use Rattle.walk.proofs.bands.Limit.{CylinderInLimit}
use Rattle.walk.specs.declared.shapes.CountedHit.{CountedHit}
use Rattle.walk.specs.cylinders.Cylinders.{cylinder_answer, cylinder_tests}
use Rattle.walk.specs.cylinders.Promised.{across_spindle}
use Rattle.walk.proofs.cylinders.Cover.Accepted.{accepted}
use Rattle.symmetry.specs.Alike.{Alike, EitherSide, LikeCounted}
use Rattle.symmetry.specs.Moved.{ends_swapped, mirrored_x, mirrored_y}
use Rattle.symmetry.proofs.Cylinder.Distances.{distance_mirrored_x, distance_mirrored_y, distance_swapped}
use Rattle.symmetry.proofs.Cylinder.Distances.{distance_swapped_across}
use Rattle.symmetry.proofs.Cylinder.Refusals.{number_mirrored_x, number_mirrored_y, number_swapped}

-- ---- the same number, and what is asked only where it is 0
pub reply_same : {A : Type 0} (n : ℕ) {m : ℕ} {a b : A} → m ≡ n → (n ≡ 0 → a ≡ b) → reply m a ≡ reply n b
reply_same zero e f = rw e (ap (reply 0) (f refl))
reply_same (suc n) e f = rw e

reply_alike : (n : ℕ) {m : ℕ} {h k : CountedHit} → m ≡ n → (n ≡ 0 → LikeCounted h k) → Alike (reply m h) (reply n k)
reply_alike zero e f = rw e (f refl)
reply_alike (suc n) e f = rw e refl

module _ (s : List Float) (c : Cylinder) (t : Settings) where
  abbrev number : ℕ
  number = refusal (cylinder_tests s c [] (settings_tests t))

  limits : number ≡ 0 → CylinderInLimit c
  limits e = (accepted s c [] (settings_tests t) tt e).cylinder

  answer_mirrored_x : cylinder_answer s (mirrored_x c) t ≡ cylinder_answer s c t
  unfolding cylinder_answer
  answer_mirrored_x = reply_same number (number_mirrored_x s [] (settings_tests t) c) (λ e. distance_mirrored_x s t (limits e))

  answer_mirrored_y : cylinder_answer s (mirrored_y c) t ≡ cylinder_answer s c t
  unfolding cylinder_answer
  answer_mirrored_y = reply_same number (number_mirrored_y s [] (settings_tests t) c) (λ e. distance_mirrored_y s t (limits e))

  -- the ends swapped: the same number, or hits that agree
  pub query_swapped : Alike (cylinder_answer s (ends_swapped c) t) (cylinder_answer s c t)
  unfolding cylinder_answer
  query_swapped = reply_alike number (number_swapped s [] (settings_tests t) c) (λ e. distance_swapped s t (limits e))

  -- along X and along Y the whole answer is the same
  pub query_swapped_across : T (across_spindle (axis c)) → cylinder_answer s (ends_swapped c) t ≡ cylinder_answer s c t
  unfolding cylinder_answer
  query_swapped_across h =
      reply_same number (number_swapped s [] (settings_tests t) c) (λ e. distance_swapped_across s t (limits e) h)

-- mirrored, or turned by half a turn: the whole answer is the same
pub query_either_side : (s : List Float) (c : Cylinder) (t : Settings) → EitherSide (λ (c : Cylinder). cylinder_answer s c t) c
query_either_side s c t =
    record {
      mirrored_x = answer_mirrored_x s c t;
      mirrored_y = answer_mirrored_y s c t;
      half_turned = answer_mirrored_y s (mirrored_x c) t ∙ answer_mirrored_x s c t;
    }
