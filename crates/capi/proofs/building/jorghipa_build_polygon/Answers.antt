-- `capi::building::jorghipa_build_polygon` meets its contract: the answer's case, and the space as the builder leaves it.
use Rattle.capi.proofs.handing.Same.{gives}
use Rattle.capi.proofs.building.jorghipa_build_polygon.Goals as goal

pub returns : goal.returns
returns c =
    let built = c.write_polygon-answer.ensures in
    record { gives = gives built.equal c.give_count.ensures; space_place = built.space_after }
