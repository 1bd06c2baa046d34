-- `section::aabb::aabb::box_apart` meets its contract.
use Rattle.section.specs.boxes.Steps.{box_apart}
use Rattle.section.proofs.aabb.aabb.box_apart.Goals as goal

pub returns : goal.returns
unfolding box_apart
returns c =
    rw (
      c.result_of.ensures,
      c.runs_through-through.ensures,
      c.nearer_of-found.ensures,
      c.box_gap-gap.ensures,
    )
