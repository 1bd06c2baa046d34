-- The places of a move's report, and what it puts there.
use Rattle.std.specs.Prelude.{ℕ, Option, Some, None, Float, is_some}
use Rattle.bodies.specs.declared.moves.shapes.Report.{Report}
use Rattle.capi.specs.handing.Interface.{mark}

pub record MovePlaces : Type 0 where
  pub distance : Float
  pub step : ℕ
  pub collides : ℕ
  pub colliding_step : ℕ
  pub boxes : ℕ

abbrev pub move_places : Float → ℕ → ℕ → ℕ → ℕ → MovePlaces
move_places d k c j b = record { distance = d; step = k; collides = c; colliding_step = j; boxes = b }

-- the step, 0 where none collides
abbrev pub step_or_zero : Option ℕ → ℕ
step_or_zero (Some k) = k
step_or_zero None = 0

abbrev pub report_places : Report → MovePlaces
report_places r = move_places r.distance r.step (mark (is_some r.colliding_step)) (step_or_zero r.colliding_step) r.boxes
