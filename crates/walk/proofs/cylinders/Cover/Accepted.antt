-- A cylinder that is not turned down is within the limit, and so is its section: by what section's refusals leave.
use mathlib.Core.Bool.{not}
use mathlib.Core.List.{List, [], ◌∷◌, ◌++◌}
use mathlib.Core.Path.{◌≡◌}
use lib.Dec.{T}
use lib.Ieee.{Float}
use Rattle.arith.specs.F64.{◌≺◌, 𝟘}
use Rattle.section.specs.profile.Refusals.{Test, refusal, axis_tests}
use Rattle.section.specs.profile.Steps.{numbered}
use Rattle.section.proofs.profile.Refusals.Ordered.{Passes, all_pass}
use Rattle.section.proofs.profile.Refusals.Passed.{taken}
use Rattle.section.specs.Demand.{AtMost}
use Rattle.section.proofs.Demand.Accepted.{SectionTaken, section_taken}
use Rattle.section.proofs.Demand.Hits.{VerticesAtMost}
use Rattle.section.proofs.profile.Each.{All, all_first, cons}
use Rattle.section.proofs.Demand.AtMost.{at_most_given}
use Rattle.walk.specs.settings.Settings.{settings_tests}
use Rattle.walk.specs.declared.settings.shapes.Settings.{Settings}
use Rattle.walk.proofs.settings.Taken.{SettingsTaken, settings_taken}
use Rattle.walk.specs.bands.Axis.{axis}
use Rattle.walk.specs.declared.bands.shapes.Cylinder.{Cylinder}
use Rattle.walk.proofs.bands.Limit.{CylinderInLimit}
use Rattle.walk.specs.cylinders.Cylinders.{cylinder_numbers, cylinder_own, cylinder_tests}

pub record Accepted (s : List Float) (c : Cylinder) : Type 0 where
  pub section : VerticesAtMost 23 s
  pub cylinder : CylinderInLimit c

in_limit : {c : Cylinder} → All (AtMost 20) (cylinder_numbers c) → T (not (c.radius ≺ 𝟘)) → CylinderInLimit c
in_limit (cons ax (cons ay (cons az (cons bx (cons by (cons bz (cons r h))))))) t =
    record {
      ax = at_most_given ax;
      ay = at_most_given ay;
      az = at_most_given az;
      bx = at_most_given bx;
      by = at_most_given by;
      bz = at_most_given bz;
      radius = at_most_given r;
      solid = t;
    }

-- whatever else is given, and whatever the settings
pub accepted : (s : List Float) (c : Cylinder) (extra : List Float) (settings : List Test)
    → T (numbered (settings ++ (axis_tests s ++ cylinder_own c.radius (axis c)))) → refusal (cylinder_tests s c extra settings) ≡ 0 → Accepted s c
accepted s c extra settings h e = go A.own_passes
  where
    own : List Test
    own = cylinder_own c.radius (axis c)

    A : SectionTaken s (cylinder_numbers c) own
    A = section_taken s (cylinder_numbers c) extra settings own h e

    go : All Passes own → Accepted s c
    go (cons solid rest) = record { section = A.section; cylinder = in_limit A.body solid }

-- where the call tests its settings, they are taken
pub settings_accepted : (s : List Float) (c : Cylinder) (t : Settings) → refusal (cylinder_tests s c [] (settings_tests t)) ≡ 0
    → SettingsTaken t
settings_accepted s c t e =
    settings_taken t (all_pass (all_first (settings_tests t) (axis_tests s ++ cylinder_own c.radius (axis c))
    (taken 3 256 (s ∷ []) (s ++ (cylinder_numbers c ++ [])) _ tt e).rest_passes))
