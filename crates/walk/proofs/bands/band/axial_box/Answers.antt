-- `walk::bands::band::axial_box` meets its contract.
use Rattle.walk.specs.bands.Band.{axial_box}
use Rattle.walk.proofs.bands.band.axial_box.Goals as goal

pub returns : goal.returns
unfolding axial_box
returns c =
    rw (
      ← c.hypot-r.ensures,
      ← c.min.ensures,
      ← c.max.ensures,
      ← c.max-2.ensures,
    )
