-- `walk::pieces::waiting::Waiting::new`.
use mathlib.Core.Path.{refl}
use Rattle.walk.specs.pieces.Steps.{stacked}
use Rattle.walk.proofs.pieces.waiting.Waiting.new.Goals as goal

pub returns : goal.returns
unfolding stacked
returns c = refl
