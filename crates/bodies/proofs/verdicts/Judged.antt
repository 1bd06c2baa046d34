-- What the tilt does to a verdict. The judged distance is never above the distance, so that no verdict turns from collision to
-- clear; where the length is 0 it is the distance itself.
use Prim.Native.Nat.{ℕ, zero, suc}
use mathlib.Core.Bool.{Bool, true}
use mathlib.Core.List.{List, [], ◌∷◌, ◌++◌}
use mathlib.Core.Path.{◌≡◌, refl, ap, sym, subst}
use lib.Dec.{T}
use lib.Ieee.{Float}
use Rattle.arith.specs.F64.{◌≼◌, 𝟘}
use Rattle.arith.proofs.Laws.OrderHeld.{T→true}
use Rattle.arith.proofs.Laws.Sizes.{Finite}
use Rattle.section.specs.profile.Refusals.{Test, refusal, axis_tests}
use Rattle.section.specs.profile.Replies.{Reply, value, turned_down, reply}
use Rattle.section.specs.profile.Steps.{numbered}
use Rattle.walk.specs.settings.Settings.{finest}
use Rattle.walk.specs.declared.settings.shapes.Settings.{Settings}
use Rattle.walk.proofs.settings.Taken.{SettingsTaken, finest_taken, settings_taken}
use Rattle.walk.specs.bands.Axis.{axis}
use Rattle.walk.specs.declared.bands.shapes.Cylinder.{Cylinder}
use Rattle.walk.proofs.bands.Limit.{CylinderInLimit}
use Rattle.walk.specs.cylinders.Cylinders.{cylinder_distance, cylinder_own, cylinder_tests}
use Rattle.walk.specs.cylinders.Steps.{IsF64}
use Rattle.walk.proofs.cylinders.Cover.Accepted.{accepted}
use Rattle.walk.proofs.cylinders.Demand.Cylinders.{cylinder_at_most}
use Rattle.bodies.specs.Bodies.{body_distance, body_tests}
use Rattle.bodies.specs.declared.shapes.Body.{Body}
use Rattle.bodies.specs.declared.shapes.Body.TheVariants.{Sphere, Box, Cylinder as Bar}
use Rattle.bodies.specs.verdicts.Tilt.{judged_distance, tilt_length}
use Rattle.bodies.specs.verdicts.Verdicts.{body_verdict, collides}
use Rattle.bodies.proofs.verdicts.Less.{less_collides, less_not_above, less_nothing}

-- ---- of every accepted cylinder, whatever else is given, and at all settings that are taken
module _ (s : List Float) (c : Cylinder) (extra : List Float) (settings : List Test)
    (n : T (numbered (settings ++ (axis_tests s ++ cylinder_own c.radius (axis c))))) (e : refusal (cylinder_tests s c extra settings) ≡ 0)
    {t : Settings} (taken : SettingsTaken t) where
  abbrev distance : Float
  distance = (cylinder_distance s c t).hit.distance

  limits : CylinderInLimit c
  limits = (accepted s c extra settings n e).cylinder

  distance_finite : Finite 28 distance
  distance_finite = (cylinder_at_most (accepted s c extra settings n e).section taken limits).distance

  -- the judged distance is never above the distance
  pub judged_not_above : T (judged_distance (Bar c) distance ≼ distance)
  judged_not_above = less_not_above limits distance_finite (axis c)

  -- so what collides by the distance collides by the judged one
  pub judged_collides : (clearance : Float) → IsF64 clearance → T (collides distance clearance)
      → T (collides (judged_distance (Bar c) distance) clearance)
  judged_collides = less_collides limits distance_finite (axis c)

  -- where the length is 0, the judged distance is the distance, the same value
  pub judged_straight : T (tilt_length (axis c) c ≼ 𝟘) → judged_distance (Bar c) distance ≡ distance
  judged_straight = less_nothing limits distance_finite (axis c)

-- ---- 01's verdict, by the distance as it is, beside the one in force
abbrev pub plain_verdict : List Float → Body → Float → Reply Bool
plain_verdict s b clearance =
    reply (refusal (body_tests s b (clearance ∷ []) [])) (collides (body_distance s b finest).hit.distance clearance)

at_finest : SettingsTaken finest
at_finest = settings_taken finest finest_taken

abbrev Collision : Reply Bool → Type 0
Collision (value b) = T b
Collision (turned_down n) = ⊥

kept : (n : ℕ) (p q : Bool) → (n ≡ 0 → T p → T q) → reply n p ≡ value true → reply n q ≡ value true
kept zero p q f e = ap value (T→true q (f refl (subst Collision (sym e) tt)))
kept (suc n) p q f e = absurd (subst Collision (sym e) tt)

same : (n : ℕ) (p q : Bool) → (n ≡ 0 → p ≡ q) → reply n p ≡ reply n q
same zero p q f = ap value (f refl)
same (suc n) p q f = refl

-- no verdict turns from collision to clear
pub collision_stays : (s : List Float) (b : Body) (clearance : Float) → IsF64 clearance → plain_verdict s b clearance ≡ value true
    → body_verdict s b clearance ≡ value true
unfolding body_verdict
collision_stays s (Sphere b) clearance F e = e
collision_stays s (Box x) clearance F e = e
collision_stays s (Bar c) clearance F e =
    kept (refusal (body_tests s (Bar c) (clearance ∷ []) [])) _ _
    (λ z. judged_collides s c (clearance ∷ []) [] tt z at_finest clearance F) e

-- a cylinder whose length is 0 is judged by the distance as it is, and so is every other body by definition
pub straight_verdict : (s : List Float) (c : Cylinder) (clearance : Float) → T (tilt_length (axis c) c ≼ 𝟘)
    → body_verdict s (Bar c) clearance ≡ plain_verdict s (Bar c) clearance
unfolding body_verdict
straight_verdict s c clearance h =
    same (refusal (body_tests s (Bar c) (clearance ∷ []) [])) _ _
    (λ z. ap (λ (d : Float). collides d clearance) (judged_straight s c (clearance ∷ []) [] tt z at_finest h))
