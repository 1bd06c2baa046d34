-- `walk::pieces::waiting::Waiting::len`.
use Rattle.walk.proofs.pieces.Stacked.{stacked_length}
use Rattle.walk.proofs.pieces.waiting.Waiting.len.Goals as goal

pub returns : goal.returns
returns c = rw (← c.self.view_is, stacked_length)
