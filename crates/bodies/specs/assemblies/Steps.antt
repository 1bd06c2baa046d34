-- What the functions below `any_hit` promise each other: a body's own verdict is collision.
use Rattle.std.specs.Prelude.{Bool, false, List, Float}
use Rattle.section.specs.profile.Replies.{Reply, value, turned_down}
use Rattle.bodies.specs.declared.shapes.Body.{Body}
use Rattle.bodies.specs.verdicts.Verdicts.{body_verdict}

abbrev pub is_collision : Reply Bool → Bool
is_collision (value b) = b
is_collision (turned_down n) = false

abbrev pub own_collision : List Float → Float → Body → Bool
own_collision s clearance b = is_collision (body_verdict s b clearance)
