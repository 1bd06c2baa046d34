-- 02's trying of a move: a body, a clearance, a start and an end offset, and n from 1 to 4,096 steps. The body is placed at steps
-- 0 to n, and each placement is one query with the call's settings. Reported are the smallest distance and its first step, the
-- first colliding step if any, and the total of the boxes measured.
use Rattle.std.specs.Prelude.{ℕ, ◌+◌, ◌*◌, ◌≤◌, cond, None, List, [], ◌∷◌, ◌++◌, Float}
use Rattle.std.specs.Bool.{then_some}
use Rattle.std.specs.Option.{option_or}
use Rattle.arith.specs.F64.{◌≺◌, ∞}
use Rattle.section.specs.profile.Refusals.{Test, ◌when◌, refusal, point_numbers}
use Rattle.section.specs.profile.Replies.{Reply, reply}
use Rattle.section.specs.profile.Vertices.{upto}
use Rattle.walk.specs.settings.Settings.{settings_tests, outside}
use Rattle.walk.specs.declared.settings.shapes.Settings.{Settings}
use Rattle.walk.specs.declared.shapes.CountedHit.{CountedHit}
use Rattle.bodies.specs.Bodies.{alone_tests, body_tests, body_distance, BodyPromised}
use Rattle.bodies.specs.declared.shapes.Body.{Body}
use Rattle.bodies.specs.verdicts.Tilt.{judged_distance}
use Rattle.bodies.specs.verdicts.Verdicts.{collides}
use Rattle.bodies.specs.moves.Placement.{placed_at}
use Rattle.bodies.specs.declared.moves.shapes.Travel.{Travel}
use Rattle.bodies.specs.declared.moves.shapes.Report.{Report}

-- ---- what is turned down

-- the section, the body as it is given, the clearance, the offsets and the settings
abbrev pub given_move : List Float → Body → Float → Travel → Settings → List Test
given_move s b clearance v t =
    body_tests s b (clearance ∷ (point_numbers v.start ++ point_numbers v.end)) (settings_tests t)

abbrev pub steps_tests : ℕ → List Test
steps_tests n = (19 when outside 1 4096 n) ∷ []

abbrev pub before_placing : List Float → Body → Float → Travel → Settings → List Test
before_placing s b clearance v t = given_move s b clearance v t ++ steps_tests v.steps

-- then the bodies placed at the first k steps, in order; each is judged like a given one
abbrev pub placed_tests : Body → Travel → ℕ → List Test
placed_tests b v k = upto (λ i tests. tests ++ alone_tests (placed_at b v i)) [] k

abbrev pub move_tests : List Float → Body → Float → Travel → Settings → List Test
move_tests s b clearance v t = before_placing s b clearance v t ++ placed_tests b v (v.steps + 1)

-- ---- what is reported

-- before the first step
abbrev pub untried : Report
untried = record { distance = ∞; step = 0; colliding_step = None; boxes = 0 }

-- with step i, at which the body stands there and has this hit: a strictly smaller distance takes over, the first collision
-- stays, the boxes add up
abbrev pub with_step : ℕ → Body → CountedHit → Float → Report → Report
with_step i b h clearance r =
    let nearer = h.hit.distance ≺ r.distance in
    let hits = collides (judged_distance b h.hit.distance) clearance in
    record {
      distance = cond nearer h.hit.distance r.distance;
      step = cond nearer i r.step;
      colliding_step = option_or r.colliding_step (then_some hits i);
      boxes = r.boxes + h.boxes;
    }

-- what the query of step i gives
abbrev pub step_hit : List Float → Body → Travel → Settings → ℕ → CountedHit
step_hit s b v t i = body_distance s (placed_at b v i) t

-- of the first k steps
abbrev pub report_upto : List Float → Body → Float → Travel → Settings → ℕ → Report
report_upto s b clearance v t k = upto (λ i r. with_step i (placed_at b v i) (step_hit s b v t i) clearance r) untried k

unfoldable pub move_answer : List Float → Body → Float → Travel → Settings → Reply Report
move_answer s b clearance v t =
    reply (refusal (move_tests s b clearance v t)) (report_upto s b clearance v t (v.steps + 1))

-- ---- what is promised of a report: demands 1 and 3 of every step's hit, and boxes that fit their place
pub record MovePromised (s : List Float) (b : Body) (v : Travel) (t : Settings) (r : Report) : Type 0 where
  pub each : (i : ℕ) → i ≤ v.steps → BodyPromised s (placed_at b v i) t (step_hit s b v t i)
  pub few : r.boxes ≤ 4097 * 8192
