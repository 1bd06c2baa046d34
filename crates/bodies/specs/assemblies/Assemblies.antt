-- 02's "does anything hit": the first count of a list of bodies beside a section, with a clearance. The answer is that of judging
-- all of them. The numbers of section and clearance come first, then 17, then those of the bodies in their order, so that the
-- first bad body in the list gives its number, whether or not one before it collides.
use Rattle.std.specs.Prelude.{ℕ, Bool, ltb, Float, take}
use mathlib.Core.List.{List, [], ◌∷◌, ◌++◌, flat_map}
use Rattle.section.specs.profile.Refusals.{Test, ◌when◌, refusal, any_of, given_tests, axis_tests}
use Rattle.section.specs.profile.Replies.{Reply, reply}
use Rattle.walk.specs.settings.Settings.{finest}
use Rattle.bodies.specs.Bodies.{alone_tests, body_distance}
use Rattle.bodies.specs.declared.shapes.Body.{Body}
use Rattle.bodies.specs.verdicts.Tilt.{judged_distance}
use Rattle.bodies.specs.verdicts.Verdicts.{collides}

-- more than 64 bodies
abbrev pub count_tests : ℕ → List Test
count_tests count = (17 when ltb 64 count) ∷ []

-- the section's and the clearance's, then the count's
abbrev pub before_bodies : List Float → ℕ → Float → List Test
before_bodies s count clearance = given_tests (s ∷ []) (s ++ (clearance ∷ [])) ++ (axis_tests s ++ count_tests count)

-- then each body's own, one body after the other
abbrev pub hit_tests : List Float → List Body → ℕ → Float → List Test
hit_tests s bodies count clearance = before_bodies s count clearance ++ flat_map alone_tests (take count bodies)

-- 01's verdict on a body that is not turned down
abbrev pub hits : List Float → Float → Body → Bool
hits s clearance b = collides (judged_distance b (body_distance s b finest).hit.distance) clearance

-- true is a collision
unfoldable pub any_hit : List Float → List Body → ℕ → Float → Reply Bool
any_hit s bodies count clearance =
    reply (refusal (hit_tests s bodies count clearance)) (any_of (hits s clearance) (take count bodies))
