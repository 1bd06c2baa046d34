-- `arith::order::is_finite` meets its contract: finite is above minus infinity and below infinity.
use Rattle.std.proofs.Common.{◌≡◌, true, false, sym, refl}
use lib.Ieee.{Float, nan, inf, fin, lt, neg}
use Rattle.arith.specs.Num.{is_finite}
use Rattle.arith.proofs.order.is_finite.Goals as goal

above : (x : Float) → lt (inf true) x ≡ true → lt x (inf false) ≡ is_finite x
unfolding lt is_finite
above nan h = refl
above (inf true) h = sym h
above (inf false) h = refl
above (fin s m e) h = refl

not_above : (x : Float) → lt (inf true) x ≡ false → false ≡ is_finite x
unfolding lt is_finite
not_above nan h = refl
not_above (inf s) h = refl
not_above (fin s m e) h = sym h

pub returns-then-top-x : goal.returns-then-top-x
unfolding neg
returns-then-top-x c =
    rw c.infinity-top.ensures
    (above _ (rw c.infinity-top.ensures at c.if-top-x.true))

pub returns-else-top-x : goal.returns-else-top-x
unfolding neg
returns-else-top-x c =
    rw c.if-top-x.false (not_above _ (rw c.infinity-top.ensures at c.if-top-x.false))
