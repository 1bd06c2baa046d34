-- `capi::lifting::jorghipa_lifted_point` meets its contract: the answer's case in the lent places.
use Rattle.section.proofs.Demand.Queries.{bounded_off_axis_few}
use Rattle.capi.proofs.handing.Same.{measures, owes}
use Rattle.capi.proofs.lifting.jorghipa_lifted_point.Goals as goal

pub give_lifted-requires : goal.give_lifted-requires
give_lifted-requires c =
    owes (λ h p. bounded_off_axis_few h.hit p.plain) c.lifted_point-answer.ensures

pub returns : goal.returns
returns c = measures c.lifted_point-answer.ensures c.give_lifted.ensures
