-- `walk::bands::shapes::RadialBand::span_at_rho` meets its contract.
use Rattle.walk.specs.bands.Band.{span_at}
use Rattle.walk.proofs.bands.shapes.RadialBand.span_at_rho.Goals as goal

pub returns : goal.returns
unfolding span_at
returns c = rw (← c.radius_span.ensures)
