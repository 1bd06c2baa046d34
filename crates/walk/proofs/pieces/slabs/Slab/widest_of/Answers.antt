-- `walk::pieces::slabs::Slab::widest_of` meets its contract.
use Rattle.walk.proofs.pieces.KnownEnds.{widest_left, widest_right, widest_middle}
use Rattle.walk.proofs.pieces.slabs.Slab.widest_of.Goals as goal

pub returns-then-zc-p : goal.returns-then-zc-p
returns-then-zc-p c = widest_left _ _ c.args.self.left_known c.if-zc-p.true

pub returns-then-p-zc : goal.returns-then-p-zc
returns-then-p-zc c = widest_right _ _ c.args.self.right_known c.if-zc-p.false c.if-p-zc.true

pub returns : goal.returns
returns c = widest_middle _ _ c.args.self.middle_known c.if-zc-p.false c.if-p-zc.false
