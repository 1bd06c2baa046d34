-- 01's verdict on a cylinder, with the counts and the mark of the walk that its distance comes from.
use Rattle.std.specs.Prelude.{◌≤◌, List, [], ◌∷◌, Float}
use Rattle.section.specs.profile.Refusals.{refusal}
use Rattle.section.specs.profile.Replies.{Reply, reply}
use Rattle.walk.specs.settings.Settings.{finest}
use Rattle.walk.specs.bands.Axis.{axis}
use Rattle.walk.specs.declared.bands.shapes.Axis.{Axis}
use Rattle.walk.specs.declared.bands.shapes.Cylinder.{Cylinder}
use Rattle.walk.specs.declared.shapes.CountedHit.{CountedHit}
use Rattle.walk.specs.cylinders.Cylinders.{cylinder_distance, cylinder_tests}
use Rattle.bodies.specs.verdicts.Tilt.{less_tilt}
use Rattle.bodies.specs.verdicts.Verdicts.{collides}
use Rattle.bodies.specs.declared.walk_verdicts.shapes.JudgedWalk.{JudgedWalk}

-- a hit judged, with its own counts and mark
abbrev pub judged_walk : Axis → Cylinder → Float → CountedHit → JudgedWalk
judged_walk axis c clearance h = record {
  collision = collides (less_tilt axis c h.hit.distance) clearance;
  boxes = h.boxes;
  waiting = h.waiting;
  cut = h.cut;
}

unfoldable pub walk_verdict : List Float → Cylinder → Float → Reply JudgedWalk
walk_verdict s c clearance =
    reply (refusal (cylinder_tests s c (clearance ∷ []) [])) (judged_walk (axis c) c clearance (cylinder_distance s c finest))

-- counts within the limits of the finest settings
pub record FewCounted (w : JudgedWalk) : Type 0 where
  pub some_box : 1 ≤ w.boxes
  pub boxes : w.boxes ≤ 8192
  pub waiting : w.waiting ≤ 54
