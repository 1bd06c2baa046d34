-- `section::builders::builder::point_at` meets its contract.
use Rattle.section.proofs.builders.builder.point_at.Goals as goal

pub returns : goal.returns
returns c = rw (c.max.ensures, c.vertex_at-v.ensures)
