-- `arith::hypotenuse::hypot` meets its contract: a sum of squares that is no NaN has no operand that is.
use Rattle.std.proofs.Common.{◌≡◌, true, T, sym, ◌∙◌, subst}
use lib.Ieee.{Float, binary64, fits}
use Rattle.arith.proofs.roots.Root.HypotValue.{hypot_by_bits}
use Rattle.arith.proofs.roots.Pattern.Special.{no_nan, squares_left, squares_right}
use Rattle.arith.proofs.hypotenuse.hypot.Goals as goal

held : (x : Float) → fits binary64 x ≡ true → T (fits binary64 x)
held x h = subst T (sym h) tt

pub float_to_bits-a : goal.float_to_bits-a
float_to_bits-a c = squares_left _ _ (sym c.is_nan.ensures.value ∙ c.if-not-is_nan.true)

pub float_to_bits-b : goal.float_to_bits-b
float_to_bits-b c = squares_right _ _ (sym c.is_nan.ensures.value ∙ c.if-not-is_nan.true)

pub float_from_bits-result : goal.float_from_bits-result
float_from_bits-result c = no_nan _ c.in-Some.ensures.hypot_is.fine

pub returns-in-Some : goal.returns-in-Some
returns-in-Some c =
    let h = c.in-Some.ensures in
    hypot_by_bits _ _ _ (held _ c.well_formed.0.1)
    (held _ c.well_formed.1.0.1) h.p_fine h.q_fine h.hypot_is
