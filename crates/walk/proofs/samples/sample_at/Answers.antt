-- `walk::samples::sample_at` meets its contract.
use Rattle.section.specs.profile.Vertices.{upto}
use Rattle.walk.specs.Walk.{sample_vertex}
use Rattle.walk.proofs.samples.sample_at.Goals as goal

pub returns : goal.returns
unfolding upto sample_vertex
returns c =
    rw (
      c.nearer_of.ensures,
      c.signed_distance_2d-3.ensures,
      c.nearer_of-greatest.ensures,
      c.signed_distance_2d-2.ensures,
      c.nearer_of-least.ensures,
      c.signed_distance_2d.ensures,
      c.span_at_z-span.ensures,
    )
