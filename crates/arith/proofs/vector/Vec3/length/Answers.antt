-- `arith::Vec3::length` meets its contract: the magnitude of z, or hypot of hypot.
use lib.Ieee.{binary64, of_bits}
use Rattle.arith.proofs.Laws.HypotZero.{norm_along_z}
use Rattle.arith.proofs.Laws.OrderHeld.{true→T}
use Rattle.arith.proofs.roots.Rounding.Key.{plus_zero}
use Rattle.arith.proofs.vector.Vec3.length.Goals as goal

pub returns-then-self-3 : goal.returns-then-self-3
unfolding of_bits plus_zero
returns-then-self-3 c =
    let held = c.well_formed.0.1.1 in
    norm_along_z binary64 _ _ _ (true→T held.0.1) (true→T held.1.1.0.1)
    c.if-self.true c.if-self-2.true c.if-self-3.true

pub returns-then-self-2 : goal.returns-then-self-2
unfolding of_bits plus_zero
returns-then-self-2 c =
    let held = c.well_formed.0.1.1 in
    norm_along_z binary64 _ _ _ (true→T held.0.1) (true→T held.1.1.0.1)
    c.if-self.true c.if-self-2.true c.if-self-3.false

pub returns : goal.returns
returns c = rw (← c.hypot-across.ensures, ← c.hypot.ensures)
