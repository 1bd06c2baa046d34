-- `section::aabb::aabb::any_vertex_inside` meets its contract.
use Rattle.std.proofs.Common.{rules}
use Rattle.section.specs.boxes.Boxes.{strictly_inside_aabb}
use Rattle.section.proofs.aabb.aabb.any_vertex_inside.Goals as goal

pub returns : goal.returns
returns c = c.any_edge.ensures (λ a b. strictly_inside_aabb c.args.x a) (λ a b r p. search rules)
