-- THE MARGIN IS NO SMALLER: a piece no wider than 1e-9 mm whose variation is over 2 ^ -15 mm, 30,000 times that. The cylinder
-- from (-1, 12, 10) to (1, 12, 10) of radius 2, at its last 2 ^ -30 mm.
use mathlib.Core.Bool.{true}
use mathlib.Core.Path.{◌≡◌, refl}
use lib.Ieee.{add, binary64, le, lt, mul, of_bits, sub}
use Rattle.arith.specs.roots.Roots.{hypot, root, sqrt}
use Rattle.arith.specs.F64.{◌⊖◌, ◌≺◌, ◌≼◌, e_9}
use Rattle.walk.specs.bands.Band.{half_width, span_at}
use Rattle.walk.specs.declared.bands.shapes.RadialBand.{RadialBand}
use Rattle.walk.specs.pieces.Pieces.{narrowest, piece, variation, widest}
use Rattle.walk.specs.declared.pieces.shapes.Piece.{Piece}

abbrev band : RadialBand
band = record {
  x0 = of_bits binary64 0xbff0000000000000;
  x1 = of_bits binary64 0x3ff0000000000000;
  yc = of_bits binary64 0x4028000000000000;
  zc = of_bits binary64 0x4024000000000000;
  radius = of_bits binary64 0x4000000000000000;
}

-- 12 - 2 ^ -30 and 12
abbrev last : Piece
last = piece (of_bits binary64 0x4027fffffff80000) (of_bits binary64 0x4028000000000000)

pub no_wider : (last.z1 ⊖ last.z0 ≼ e_9) ≡ true
unfolding of_bits sub le
no_wider = refl

-- 2 ^ -15
pub varies : (of_bits binary64 0x3f00000000000000 ≺ variation band last) ≡ true
unfolding of_bits sub add mul le lt variation widest narrowest span_at half_width hypot sqrt root
varies = refl
