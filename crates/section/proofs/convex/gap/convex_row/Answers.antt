-- `section::convex::gap::convex_row` meets its contract: a fold over the window's edges, and no other is nearer.
use native.Mathlib.Omega.{arith}
use Rattle.section.proofs.profile.Fold.{upto_more, upto_end}
use Rattle.section.proofs.convex.Window.{row_found}
use Rattle.section.proofs.convex.gap.convex_row.Goals as goal

pub loop-j-preserved : goal.loop-j-preserved
loop-j-preserved c = λ h e. upto_more _ _ _ (c.loop-j.invariant h e) c.nearer_edge-best.ensures

pub returns : goal.returns
returns c =
    row_found _ _ _ _ _ _ c.requires.0 c.requires.1 c.well_formed.1.1.1.1.1.0.1.1.0.1
    (rw (← c.end_at-b.ensures, ← c.vertex_at-a.ensures)
    (λ h e. upto_end _ _ _ (c.loop-j.invariant h e) _ (omega (arith, c.requires.1.order))))
