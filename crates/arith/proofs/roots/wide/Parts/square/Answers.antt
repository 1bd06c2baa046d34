-- `arith::roots::wide::Parts::square`. The square of a number of two digits of 28 bits, its three products as they are.
use Rattle.std.proofs.Common.{ℕ, ◌/◌, ◌%◌, ◌^◌, ◌<◌, arith}
use Rattle.arith.proofs.roots.Halves.{digits, product}
use Rattle.arith.proofs.roots.wide.Parts.square.Goals as goal

hi_lt : (c : ℕ) → c < 2 ^ 54 → c / 268435456 < 2 ^ 26
hi_lt c h = omega arith

lo_lt : (c : ℕ) → c % 268435456 < 2 ^ 28
lo_lt c = omega arith

pub returns : goal.returns
returns c =
    let e = digits c.args.c in
    record {
      value = omega arith;
      h_small = product 26 26 (hi_lt c.args.c c.requires) (hi_lt c.args.c c.requires);
      m_small = product 26 28 (hi_lt c.args.c c.requires) (lo_lt c.args.c);
      l_small = product 28 28 (lo_lt c.args.c) (lo_lt c.args.c);
    }
