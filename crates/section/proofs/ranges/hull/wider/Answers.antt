-- `section::ranges::hull::wider` meets its contract.
use Rattle.section.specs.ranges.Hull.{wider}
use Rattle.section.proofs.ranges.hull.wider.Goals as goal

pub returns : goal.returns
unfolding wider
returns c = (
  rw (
    ← c.range_of.ensures,
    ← c.join.ensures,
    ← c.range_of-2.ensures,
    ← c.join-2.ensures,
  ),
  record { z = c.well_formed.1.0.1.1.0.1; r = c.well_formed.1.0.1.1.1.0.1 },
)
