-- What the query of a sphere or a box promises: demand 1, by what passes its tests.
use mathlib.Core.List.{List, []}
use lib.Ieee.{Float}
use Rattle.section.specs.profile.Refusals.{refusal, sphere_tests, box_tests}
use Rattle.section.specs.profile.Replies.{OfValue}
use Rattle.section.specs.declared.profile.shapes.Aabb.{Aabb}
use Rattle.section.specs.declared.profile.shapes.Sphere.{Sphere}
use Rattle.section.proofs.profile.Replies.{of_reply}
use Rattle.walk.specs.settings.Settings.{settings_tests}
use Rattle.walk.specs.declared.settings.shapes.Settings.{Settings}
use Rattle.section.proofs.Demand.Queries.{sphere_bounded, box_bounded}
use Rattle.bodies.specs.Bodies.{body_answer, body_distance, BodyPromised}
use Rattle.bodies.specs.declared.shapes.Body.TheVariants.{Sphere as Ball, Box}

module _ (s : List Float) (t : Settings) where
  pub sphere_promised : (b : Sphere) → OfValue (BodyPromised s (Ball b) t) (body_answer s (Ball b) t)
  unfolding body_answer
  sphere_promised b =
      of_reply (BodyPromised s (Ball b) t) (refusal (sphere_tests s b [] (settings_tests t))) (body_distance s (Ball b) t)
      (sphere_bounded s [] (settings_tests t) b tt)

  pub box_promised : (x : Aabb) → OfValue (BodyPromised s (Box x) t) (body_answer s (Box x) t)
  unfolding body_answer
  box_promised x =
      of_reply (BodyPromised s (Box x) t) (refusal (box_tests s x [] (settings_tests t))) (body_distance s (Box x) t)
      (box_bounded s [] (settings_tests t) x tt)
