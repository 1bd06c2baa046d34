-- `section::ranges::passed::far_off` meets its contract: its legs are hopeless.
use Rattle.section.proofs.segments.Legs.{hopeless_z}
use Rattle.section.proofs.ranges.Apart.{gap_held, gap_plus}
use Rattle.section.proofs.ranges.passed.far_off.Goals as goal

pub returns-then-z-least : goal.returns-then-z-least
returns-then-z-least c =
    λ t. record {
      held = record { z = c.well_formed.0.1.1.0.1; r = c.well_formed.0.1.1.1.0.1 };
      far = hopeless_z _ _ _ (gap_held _ _) (gap_held _ _) c.well_formed.1.1.1.0.1
          (rw (c.gap_between-z.ensures, c.range_of.ensures) at c.if-z-least.true);
    }

pub too_far-requires : goal.too_far-requires
too_far-requires c = (
  rw c.gap_between-z.ensures (gap_plus _ _),
  rw c.gap_between-r.ensures
      (gap_plus _ _),
)
