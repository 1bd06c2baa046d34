-- `capi::distances::jorghipa_convex` meets its contract: the answer's case in the lent places.
use Rattle.section.proofs.Demand.Queries.{bounded_few}
use Rattle.capi.proofs.handing.Same.{measures, owes}
use Rattle.capi.proofs.distances.jorghipa_convex.Goals as goal

pub give-requires : goal.give-requires
give-requires c = owes bounded_few c.convex_polygon_distance-answer.ensures

pub returns : goal.returns
returns c = measures c.convex_polygon_distance-answer.ensures c.give.ensures
