-- `walk::pieces::slabs::Slab::narrowest_of` meets its contract.
use Rattle.walk.proofs.pieces.KnownEnds.{narrowest_left, narrowest_right}
use Rattle.walk.proofs.pieces.slabs.Slab.narrowest_of.Goals as goal

pub returns-then-left-right : goal.returns-then-left-right
returns-then-left-right c = let x = c.args.self in narrowest_left _ _ x.left_known x.right_known c.if-left-right.true

pub returns : goal.returns
returns c = let x = c.args.self in narrowest_right _ _ x.left_known x.right_known c.if-left-right.false
