-- `listings::lister::bodies::body_answer`: by the kind.
use Rattle.listings.specs.store_listing.Listing.{body_answer}
use Rattle.listings.proofs.lister.bodies.body_answer.Goals as goal

pub returns-then-is_kind : goal.returns-then-is_kind
unfolding body_answer
returns-then-is_kind c = rw (← c.is_kind.ensures, c.if-is_kind.true) c.sphere_answer.ensures

pub returns : goal.returns
unfolding body_answer
returns c = rw (← c.is_kind.ensures, c.if-is_kind.false) c.box_answer.ensures
