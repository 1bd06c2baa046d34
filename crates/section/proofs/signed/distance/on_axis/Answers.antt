-- `section::signed::distance::on_axis` meets its contract.
use Rattle.section.specs.points.Points.{inside_axis_edge}
use Rattle.std.proofs.Common.{rules}
use Rattle.section.proofs.signed.distance.on_axis.Goals as goal

pub returns : goal.returns
returns c = c.any_edge.ensures (inside_axis_edge c.args.z) (λ a b r p. search rules)
