-- `walk::bands::shapes::RadialBand::from_cylinder` meets its contract.
use Rattle.walk.specs.bands.Band.{band_of}
use Rattle.walk.proofs.bands.shapes.RadialBand.from_cylinder.Goals as goal

pub returns : goal.returns
unfolding band_of
returns c =
    rw (← c.min.ensures, ← c.max.ensures)
