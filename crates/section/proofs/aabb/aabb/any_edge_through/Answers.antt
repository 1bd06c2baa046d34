-- `section::aabb::aabb::any_edge_through` meets its contract.
use Rattle.std.proofs.Common.{rules}
use Rattle.section.specs.boxes.Boxes.{segment_through_interior}
use Rattle.section.proofs.aabb.aabb.any_edge_through.Goals as goal

pub returns : goal.returns
returns c = c.any_edge.ensures (segment_through_interior c.args.x) (λ a b r p. search rules)
