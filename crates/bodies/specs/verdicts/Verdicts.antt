-- 01's verdict of a section, a body and a clearance: collision exactly when the judged distance + 1e-9 < clearance. The clearance is
-- among the numbers that are given.
use Rattle.std.specs.Prelude.{Bool, true, false, Result, List, [], ◌∷◌, Float}
use Rattle.arith.specs.F64.{◌⊕◌, ◌≺◌, e_9}
use Rattle.section.specs.declared.shapes.Refusal.{Refusal}
use Rattle.section.specs.profile.Refusals.{refusal, convex_tests}
use Rattle.section.specs.profile.Replies.{Reply, mapped, reply, told as told_of}
use Rattle.section.specs.convex.Convex.{convex_distance}
use Rattle.walk.specs.settings.Settings.{finest}
use Rattle.bodies.specs.Bodies.{body_tests, body_distance}
use Rattle.bodies.specs.declared.shapes.Body.{Body}
use Rattle.bodies.specs.verdicts.Tilt.{judged_distance}
use Rattle.bodies.specs.declared.verdicts.shapes.Verdict.{Verdict}
use Rattle.bodies.specs.declared.verdicts.shapes.Verdict.TheVariants.{Clear, Collision}

-- true is a collision
abbrev pub is_collision : Verdict → Bool
is_collision Clear = false
is_collision Collision = true

-- what a result stands for
abbrev pub told : Result Verdict Refusal → Reply Bool
told r = mapped is_collision (told_of r)

abbrev pub collides : Float → Float → Bool
collides distance clearance = distance ⊕ e_9 ≺ clearance

unfoldable pub body_verdict : List Float → Body → Float → Reply Bool
body_verdict s b clearance =
    reply (refusal (body_tests s b (clearance ∷ []) []))
    (collides (judged_distance b (body_distance s b finest).hit.distance) clearance)

unfoldable pub convex_verdict : List Float → List Float → Float → Reply Bool
convex_verdict c s clearance =
    reply (refusal (convex_tests c s (clearance ∷ []))) (collides (convex_distance c s).distance clearance)
