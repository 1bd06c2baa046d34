-- `walk::pieces::slabs::Slab::measure` meets its contract.
use Rattle.walk.specs.pieces.Pieces.{piece_box, variation}
use Rattle.walk.proofs.pieces.slabs.Slab.measure.Goals as goal

pub returns : goal.returns
unfolding piece_box variation
returns c =
    rw (
      c.box_distance_near-hit.ensures,
      c.box_of.ensures,
      c.variation_of.ensures,
      c.spans_of-spans.ensures,
    )
