-- `listings::lister::bodies::box_answer`: the query of the body that its four numbers make.
use Rattle.listings.proofs.lister.bodies.box_answer.Goals as goal

pub returns : goal.returns
returns c =
    rw (← c.number_of-z0.ensures, ← c.number_of-z1.ensures, ← c.number_of-r0.ensures, ← c.number_of-r1.ensures)
    c.aabb_polygon_distance.ensures.equal
