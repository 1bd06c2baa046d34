-- What is shown in Answers of a sphere that is judged clear.
use Prim.Native.Nat.{◌+◌, ◌-◌}
use mathlib.Core.Bool.{false}
use mathlib.Core.List.{List}
use mathlib.Core.Path.{◌≡◌}
use lib.Dec.{T}
use lib.Ieee.{binary64, fits, Float}
use Rattle.arith.specs.F64.{e_9}
use Rattle.section.specs.profile.Refusals.{sphere_numbers}
use Rattle.section.specs.profile.Replies.{value}
use Rattle.section.specs.declared.profile.shapes.Sphere.{Sphere}
use Rattle.bodies.specs.declared.shapes.Body.TheVariants.{Sphere as Ball}
use Rattle.bodies.specs.verdicts.Verdicts.{body_verdict}
use Rattle.truth.specs.Exact.{origin, place}
use Rattle.truth.specs.Points.{Held, Reach, WithinReach, ε₂}
use Rattle.truth.specs.Solid.{ClearOfSolidInSpace, sound}

-- A SPHERE THAT IS JUDGED CLEAR: every point of the turned solid lies at least the radius and the clearance from its centre, less
-- 1e-9 and ε₂
abbrev pub SphereVerdictClear : Type 0
SphereVerdictClear = (m : Reach) (s : List Float) (b : Sphere) (clearance : Float) → Held s → Held (sphere_numbers b)
    → T (fits binary64 clearance) → WithinReach m s → WithinReach m (sphere_numbers b) → T (sound s)
    → body_verdict s (Ball b) clearance ≡ value false
    → ClearOfSolidInSpace (ε₂ m) (place clearance + place b.radius - (origin + place e_9)) s b.center
