-- `loads::draws::radius_bits`. A radius is no NaN.
use mathlib.Core.Bool.{not}
use mathlib.Core.Path.{sym, ap, subst, ◌∙◌}
use lib.Dec.{T}
use lib.Ieee.{Float, binary64, to_bits, is_nan}
use Rattle.arith.specs.Num.{abs}
use Rattle.loads.proofs.Coordinates.{no_nan, radius_ranged}
use Rattle.loads.proofs.draws.radius_bits.Goals as goal

pub returns : goal.returns
returns c = ap (to_bits binary64) (c.abs-y.ensures ∙ ap abs c.coordinate-x.ensures)

pub float_to_bits-result : goal.float_to_bits-result
float_to_bits-result c =
    let radius = c.abs-y.ensures ∙ ap abs c.coordinate-x.ensures in
    subst (λ (x : Float). T (not (is_nan x))) (sym radius) (no_nan _ _ (radius_ranged _))
