-- `input::read_on`. What a turn reads stands behind what came before.
use mathlib.Core.Path.{◌∙◌}
use Rattle.input.proofs.Behind.{reads_more}
use Rattle.input.proofs.read_on.Goals as goal

pub loop-length-preserved : goal.loop-length-preserved
loop-length-preserved g c = record {
  read = reads_more c.loop-length.invariant.read c.in_ok-next.ensures.piece.piece;
  room = c.read_piece.auto.buffer ∙ c.loop-length.invariant.room;
}
