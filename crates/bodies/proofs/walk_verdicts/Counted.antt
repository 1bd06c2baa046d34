-- A verdict that counts is the plain verdict, number for number; and where it judges, its counts are those of the query at the
-- finest settings. By the definitions, and by the cover of the walk.
use Prim.Native.Nat.{ℕ, zero, suc}
use mathlib.Core.List.{List, [], ◌∷◌}
use mathlib.Core.Path.{◌≡◌, refl}
use lib.Ieee.{Float, fits, of_bits}
use Rattle.section.specs.profile.Refusals.{refusal}
use Rattle.section.specs.profile.Replies.{OfValue, mapped, reply}
use Rattle.section.proofs.profile.Replies.{of_reply}
use Rattle.walk.specs.settings.Settings.{finest}
use Rattle.walk.proofs.settings.Taken.{finest_taken, settings_taken}
use Rattle.walk.specs.bands.Axis.{axis}
use Rattle.walk.specs.declared.bands.shapes.Cylinder.{Cylinder}
use Rattle.bodies.specs.declared.shapes.Body.TheVariants.{Cylinder as Bar}
use Rattle.walk.specs.cylinders.Cylinders.{cylinder_distance, cylinder_numbers, cylinder_tests}
use Rattle.walk.specs.cylinders.Promised.{Few}
use Rattle.walk.specs.cylinders.Steps.{Each, IsF64}
use Rattle.walk.proofs.cylinders.Promise.{few}
use Rattle.bodies.specs.verdicts.Verdicts.{body_verdict}
use Rattle.bodies.specs.walk_verdicts.WalkVerdicts.{FewCounted, judged_walk, walk_verdict}
use Rattle.bodies.specs.declared.walk_verdicts.shapes.JudgedWalk.{JudgedWalk}

mapped_reply : {A B : Type 0} (f : A → B) (n : ℕ) (a : A) → mapped f (reply n a) ≡ reply n (f a)
mapped_reply f zero a = refl
mapped_reply f (suc n) a = refl

-- the same verdict, and refused with the same number
pub same_verdict : (s : List Float) (c : Cylinder) (clearance : Float)
    → mapped (λ (w : JudgedWalk). w.collision) (walk_verdict s c clearance) ≡ body_verdict s (Bar c) clearance
unfolding walk_verdict body_verdict
same_verdict s c clearance =
    mapped_reply (λ (w : JudgedWalk). w.collision) (refusal (cylinder_tests s c (clearance ∷ []) []))
    (judged_walk (axis c) c clearance (cylinder_distance s c finest))

-- within the limits of the finest settings
pub few_counted : (s : List Float) (c : Cylinder) (clearance : Float) → Each IsF64 (cylinder_numbers c)
    → OfValue FewCounted (walk_verdict s c clearance)
unfolding walk_verdict of_bits fits
few_counted s c clearance f =
    of_reply FewCounted (refusal (cylinder_tests s c (clearance ∷ []) [])) (judged_walk (axis c) c clearance (cylinder_distance s c finest))
    (λ e.
    let counts : Few finest (cylinder_distance s c finest) =
    few s c finest f tt (clearance ∷ []) [] tt e (settings_taken finest finest_taken)
    in
    record { some_box = counts.some_box; boxes = counts.boxes; waiting = counts.waiting })
