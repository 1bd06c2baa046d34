-- `section::aabb::aabb::box_witness` meets its contract: a fold.
use mathlib.Core.Bool.{cond}
use mathlib.Core.Path.{◌≡◌}
use Rattle.section.specs.profile.Vertices.{on, vertex_at, upto}
use Rattle.section.specs.boxes.Boxes.{strictly_inside_aabb}
use Rattle.section.proofs.aabb.aabb.box_witness.Given as goal

abbrev pub invariant-loop-k : goal.invariant-loop-k
invariant-loop-k l = l.at ≡ upto (λ j at. cond (strictly_inside_aabb l.x (vertex_at l.s j)) (on j (vertex_at l.s j)) at) l.initial.at l.k
