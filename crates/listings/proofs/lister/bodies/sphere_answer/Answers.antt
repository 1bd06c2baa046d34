-- `listings::lister::bodies::sphere_answer`: the query of the body that its four numbers make.
use Rattle.listings.proofs.lister.bodies.sphere_answer.Goals as goal

pub returns : goal.returns
returns c =
    rw (← c.number_of.ensures, ← c.number_of-2.ensures, ← c.number_of-3.ensures, ← c.number_of-radius.ensures)
    c.query_sphere.ensures.equal
