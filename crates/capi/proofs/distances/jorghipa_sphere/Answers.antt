-- `capi::distances::jorghipa_sphere` meets its contract: the answer's case in the lent places.
use Rattle.section.proofs.Demand.Queries.{bounded_off_axis_few}
use Rattle.capi.proofs.handing.Same.{measures, owes}
use Rattle.capi.proofs.distances.jorghipa_sphere.Goals as goal

pub give-requires : goal.give-requires
give-requires c = owes bounded_off_axis_few c.query_sphere-answer.ensures

pub returns : goal.returns
returns c = measures c.query_sphere-answer.ensures c.give.ensures
