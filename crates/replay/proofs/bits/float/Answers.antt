-- `replay::bits::float` meets its contract: what is no NaN's pattern is below that of an infinity, but for the sign.
use mathlib.Core.Bool.{Bool, not}
use mathlib.Core.Path.{subst, sym}
use lib.Arith.{le→nltb}
use lib.Dec.{T}
use lib.Ieee.{binary64, div, of_bits}
use lib.Ieee.Bits.{nan_bits_above}
use Rattle.arith.proofs.roots.Pattern.Special.{above_inf}
use Rattle.replay.proofs.bits.float.Goals as goal

pub float_from_bits-result : goal.float_from_bits-result
float_from_bits-result c =
    subst (λ (b : Bool). T (not b)) (sym (nan_bits_above binary64 _)) (le→nltb _ _ c.if-pattern-le-INF.true)

pub returns : goal.returns
unfolding div of_bits
returns c = sym (above_inf _ c.if-pattern-le-INF.false)
