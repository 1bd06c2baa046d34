-- `capi::moving::jorghipa_move` meets its contract.
use Rattle.capi.proofs.handing.Same.{measures}
use Rattle.capi.proofs.moving.jorghipa_move.Goals as goal

pub returns : goal.returns
returns c = measures c.move_of-answer.ensures c.give_report.ensures
