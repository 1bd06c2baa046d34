-- `section::signed::distance::point_inside` meets its contract: a fold.
use mathlib.Core.Bool.{false}
use mathlib.Core.Path.{◌≡◌}
use lib.Ieee.{unlike}
use Rattle.section.specs.profile.Vertices.{vertex_at, end_at, upto}
use Rattle.section.specs.points.Points.{crosses}
use Rattle.section.proofs.signed.distance.point_inside.Given as goal

abbrev pub invariant-loop-k : goal.invariant-loop-k
invariant-loop-k l = l.odd ≡ upto (λ j o. unlike o (crosses l.p (vertex_at l.s j) (end_at l.s j))) false l.k
