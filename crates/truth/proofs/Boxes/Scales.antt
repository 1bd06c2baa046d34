-- THE SCALES: coordinates within 1,024 mm and sides of at least 2 ^ -17 mm, and 01's limit, 1,048,576 mm, and sides of at least 2
-- ^ -27 mm. ε is 2 ^ -22 times the bound.
use Prim.Native.Nat.{◌*◌, ◌^◌, ℕ, ◌≤◌}
use native.Mathlib.Nat.{le_trans, lt_of_lt_of_le, mul-le-mul, mul-le-mul_left}
use lib.Dec.{leb→le}
use lib.Ieee.{of_bits}
use Rattle.arith.proofs.roots.Rounding.Key.{key, magnitude, mid, unit}
use Rattle.arith.proofs.Laws.OperationErrors.{half}
use Rattle.truth.proofs.Boxes.Lengths.{Slim}
use Rattle.truth.proofs.Boxes.Floats.{H}

-- a longer side
pub slim_longer : (e g h : ℕ) → g ≤ h → Slim e g → Slim e h
slim_longer e g h l c =
    let q : g * g ≤ h * h = mul-le-mul l l in
    record {
      most = c.most;
      range = c.range;
      hypots = c.hypots;
      little = c.little;
      small = record {
        digits = c.small.digits;
        first = le_trans c.small.first (mul-le-mul_left (2 ^ e) l);
        second = le_trans c.small.second q;
        third = c.small.third;
        last = le_trans c.small.last (mul-le-mul_left (H * 2 ^ e * 2 ^ e) q);
      };
      some = lt_of_lt_of_le c.some l;
    }

-- ---- coordinates within 1,024 mm, and within 01's limit; and both four times that, as a walk's boxes are
pub slim_metre : Slim 1031 (2 ^ 600)
unfolding half unit mid key magnitude of_bits
slim_metre = record {
  most = leb→le _ _ tt;
  range = leb→le _ _ tt;
  hypots = leb→le _ _ tt;
  little = leb→le _ _ tt;
  small = record {
    digits = leb→le _ _ tt;
    first = leb→le _ _ tt;
    second = leb→le _ _ tt;
    third = leb→le _ _ tt;
    last = leb→le _ _ tt;
  };
  some = leb→le _ _ tt;
}

abbrev pub thin_metre : ℕ
thin_metre = 2 ^ 1057

pub ε_metre : 1024 * (H * 2 ^ 1031 * 2 ^ 1031) ≤ 2 ^ 1062 * 2 ^ 1062
unfolding half
ε_metre = leb→le _ _ tt

pub slim_limit : Slim 1041 (2 ^ 600)
unfolding half unit mid key magnitude of_bits
slim_limit = record {
  most = leb→le _ _ tt;
  range = leb→le _ _ tt;
  hypots = leb→le _ _ tt;
  little = leb→le _ _ tt;
  small = record {
    digits = leb→le _ _ tt;
    first = leb→le _ _ tt;
    second = leb→le _ _ tt;
    third = leb→le _ _ tt;
    last = leb→le _ _ tt;
  };
  some = leb→le _ _ tt;
}

abbrev pub thin_limit : ℕ
thin_limit = 2 ^ 1047

pub ε_limit : 1024 * (H * 2 ^ 1041 * 2 ^ 1041) ≤ 2 ^ 1072 * 2 ^ 1072
unfolding half
ε_limit = leb→le _ _ tt

pub slim_metre_walk : Slim 1033 (2 ^ 600)
unfolding half unit mid key magnitude of_bits
slim_metre_walk = record {
  most = leb→le _ _ tt;
  range = leb→le _ _ tt;
  hypots = leb→le _ _ tt;
  little = leb→le _ _ tt;
  small = record {
    digits = leb→le _ _ tt;
    first = leb→le _ _ tt;
    second = leb→le _ _ tt;
    third = leb→le _ _ tt;
    last = leb→le _ _ tt;
  };
  some = leb→le _ _ tt;
}

abbrev pub thin_metre_walk : ℕ
thin_metre_walk = 2 ^ 1055

pub ε_metre_walk : 1024 * (H * 2 ^ 1033 * 2 ^ 1033) ≤ 2 ^ 1064 * 2 ^ 1064
unfolding half
ε_metre_walk = leb→le _ _ tt

pub slim_limit_walk : Slim 1043 (2 ^ 600)
unfolding half unit mid key magnitude of_bits
slim_limit_walk = record {
  most = leb→le _ _ tt;
  range = leb→le _ _ tt;
  hypots = leb→le _ _ tt;
  little = leb→le _ _ tt;
  small = record {
    digits = leb→le _ _ tt;
    first = leb→le _ _ tt;
    second = leb→le _ _ tt;
    third = leb→le _ _ tt;
    last = leb→le _ _ tt;
  };
  some = leb→le _ _ tt;
}

abbrev pub thin_limit_walk : ℕ
thin_limit_walk = 2 ^ 1045

pub ε_limit_walk : 1024 * (H * 2 ^ 1043 * 2 ^ 1043) ≤ 2 ^ 1074 * 2 ^ 1074
unfolding half
ε_limit_walk = leb→le _ _ tt
