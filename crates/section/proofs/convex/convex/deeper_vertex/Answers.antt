-- `section::convex::convex::deeper_vertex` meets its contract: what lies outside is not below 0.
use mathlib.Core.Path.{sym, ◌∙◌}
use Rattle.section.proofs.convex.Outside.{convex_outside}
use Rattle.section.proofs.convex.convex.deeper_vertex.Goals as goal

pub returns-then-not-point_in_convex : goal.returns-then-not-point_in_convex
returns-then-not-point_in_convex c =
    rw (
      ← c.vertex_at-v.ensures,
      convex_outside _ c.if-best.true _ _ (sym c.point_in_convex.ensures ∙ c.if-not-point_in_convex.true),
    )
