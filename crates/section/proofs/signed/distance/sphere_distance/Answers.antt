-- `section::signed::distance::sphere_distance` meets its contract.
use Rattle.section.specs.points.Points.{sphere_distance}
use Rattle.section.proofs.signed.distance.sphere_distance.Goals as goal

pub returns : goal.returns
unfolding sphere_distance
returns c = rw (← c.meridian.ensures, ← c.signed_distance_2d-near.ensures)
