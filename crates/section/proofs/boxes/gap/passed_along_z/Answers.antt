-- `section::boxes::gap::passed_along_z` meets its contract: as far along z as the best, and no clip is left.
use mathlib.Core.Path.{refl, sym, ◌∙◌}
use Rattle.arith.proofs.Laws.OrderHeld.{true→T}
use Rattle.section.proofs.ranges.Apart.{gap_held}
use Rattle.section.proofs.ranges.Missed.{missed_z}
use Rattle.section.proofs.segments.Legs.{hopeless_z}
use Rattle.section.proofs.boxes.Passed.{passed}
use Rattle.section.proofs.boxes.gap.passed_along_z.Goals as goal

pub returns-then-z-best : goal.returns-then-z-best
returns-then-z-best c =
    λ t. passed c.args.x c.args.edge
    (record {
      a_z = true→T c.well_formed.0.1.1.0.1.1.0.1;
      a_r = true→T c.well_formed.0.1.1.0.1.1.1.0.1;
      z0 = true→T c.well_formed.1.0.1.1.0.1;
      z1 = true→T c.well_formed.1.0.1.1.1.0.1;
      r0 = true→T c.well_formed.1.0.1.1.1.1.0.1;
      r1 = true→T c.well_formed.1.0.1.1.1.1.1.0.1;
    })
    refl refl _
    (hopeless_z _ _ _ (gap_held _ _) (gap_held _ _) c.well_formed.1.1.1.0.1.1.0.1.1.0.1
    (rw (← c.requires) c.if-z-best.true))
    (missed_z _ _ _ (sym c.misses_along.ensures ∙ t))
