-- `arith::square_root::sqrt_searched`. The radicand's rounded root, at half the exponent.
use Rattle.arith.proofs.roots.Root.SqrtCore.{sqrt_law}
use Rattle.arith.proofs.square_root.sqrt_searched.Goals as goal

pub returns : goal.returns
returns c = sqrt_law _ _ _ _ c.requires.exponent_least c.requires.exponent_most c.radicand-z.ensures
    c.sqrt_significand-r.ensures
