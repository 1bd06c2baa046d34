-- `capi::building::jorghipa_build_section` meets its contract: the answer's case, and the space as the builder leaves it.
use Rattle.capi.proofs.handing.Same.{gives}
use Rattle.capi.proofs.building.jorghipa_build_section.Goals as goal

pub returns : goal.returns
returns c =
    let built = c.write_section-answer.ensures in
    record { gives = gives built.equal c.give_count.ensures; space_place = built.space_after }
