-- `capi::distances::jorghipa_box` meets its contract: the answer's case in the lent places.
use Rattle.section.proofs.Demand.Queries.{bounded_few}
use Rattle.capi.proofs.handing.Same.{measures, owes}
use Rattle.capi.proofs.distances.jorghipa_box.Goals as goal

pub give-requires : goal.give-requires
give-requires c = owes bounded_few c.aabb_polygon_distance-answer.ensures

pub returns : goal.returns
returns c = measures c.aabb_polygon_distance-answer.ensures c.give.ensures
