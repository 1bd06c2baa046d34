-- `walk::pieces::waiting::Waiting::pop`. The topmost part, if one waits.
use mathlib.Core.Path.{sym, ◌∙◌}
use Rattle.walk.proofs.pieces.Stacked.{none_wait, top_waits}
use Rattle.walk.proofs.pieces.waiting.Waiting.pop.Goals as goal

pub returns-then-self-eq0 : goal.returns-then-self-eq0
returns-then-self-eq0 c = sym c.self.view_is ∙ none_wait _ _ c.if-self-eq0.true

pub returns : goal.returns
returns c = sym c.self.view_is ∙ top_waits _ _ _ c.if-self-eq0.false
