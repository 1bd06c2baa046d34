-- `records::queries::aabb_polygon_distance_of` meets its contract: more than 256 vertices are turned down.
use Rattle.section.proofs.profile.Numbered.{handed_on}
use Rattle.records.proofs.TooMany.{box_too_many}
use Rattle.records.proofs.queries.aabb_polygon_distance_of.Goals as goal

pub returns-in_err-n : goal.returns-in_err-n
returns-in_err-n c =
    let many = c.in_err-n.ensures.many in
    rw (handed_on c.from_residual.result c.from_residual.ensures, many.0) (box_too_many _ many.1 _)
