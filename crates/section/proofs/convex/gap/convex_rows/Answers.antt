-- `section::convex::gap::convex_rows` meets its contract: a fold, in which the window stays one.
use mathlib.Core.Path.{refl}
use Rattle.section.specs.profile.Vertices.{upto}
use Rattle.section.proofs.profile.Fold.{upto_more}
use Rattle.section.proofs.convex.Window.{window_stays}
use Rattle.section.proofs.convex.gap.convex_rows.Goals as goal

pub loop-i-init : goal.loop-i-init
unfolding upto
loop-i-init c = refl

pub convex_row-best-requires : goal.convex_row-best-requires
convex_row-best-requires c =
    (c.loop-i-test.true, window_stays _ _ _ _ _ _ c.well_formed.1.1.1.1.0.1.1.0.1 c.requires c.loop-i.invariant)

pub loop-i-preserved : goal.loop-i-preserved
loop-i-preserved c = upto_more _ _ _ c.loop-i.invariant c.convex_row-best.ensures
