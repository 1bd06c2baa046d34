-- `section::signed::overlap::deeper_at` meets its contract: what lies outside is not below 0.
use mathlib.Core.Path.{sym, ◌∙◌}
use Rattle.section.proofs.points.Outside.{point_outside}
use Rattle.section.proofs.signed.overlap.deeper_at.Goals as goal

pub returns-then-best : goal.returns-then-best
returns-then-best c =
    rw (point_outside _ c.if-best.true _ _ (sym c.in_section.ensures ∙ c.if-in_section.false))
