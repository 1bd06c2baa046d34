-- What the functions below the entry point promise each other: the report after each part of a step.
use Rattle.std.specs.Prelude.{ℕ, cond, Float}
use Rattle.arith.specs.F64.{◌≺◌}
use Rattle.bodies.specs.declared.moves.shapes.Report.{Report}

abbrev pub nearer_step : ℕ → Float → Report → Report
nearer_step i distance r = record {
  distance = cond (distance ≺ r.distance) distance r.distance;
  step = cond (distance ≺ r.distance) i r.step;
  colliding_step = r.colliding_step;
  boxes = r.boxes;
}
