-- `arith::roots::wide::Parts::sum_of_squares`. The second square is that of the part of b above 2^d and twice the product of both parts; the square
-- of the part below, less than 1, is left out.
use Rattle.std.proofs.Common.{arith}
use Rattle.arith.proofs.roots.Halves.{cut}
use Rattle.arith.proofs.roots.wide.Parts.sum_of_squares.Goals as goal

pub returns : goal.returns
returns c =
    let h = cut _ _ _ c.below-low.ensures in
    let p = c.square-p.ensures in
    let q = c.square-q.ensures in
    record { least = omega arith; most = omega arith }
