-- `walk::bands::shapes::RadialBand::rho_at` meets its contract.
use Rattle.walk.specs.bands.Band.{half_width}
use Rattle.walk.proofs.bands.shapes.RadialBand.rho_at.Goals as goal

pub returns-then-value : goal.returns-then-value
unfolding half_width
returns-then-value c = rw c.if-value.true

pub returns-else-value : goal.returns-else-value
unfolding half_width
returns-else-value c = rw (c.if-value.false, ← c.sqrt.ensures)
