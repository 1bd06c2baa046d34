-- SIDES THAT ARE LONG ENOUGH at each scale: from 2 ^ -17 mm on where coordinates lie within 1,024 mm, from 2 ^ -27 mm on within 01's
-- limit; and what is long enough stays so where it is longer.
use Prim.Native.Nat.{◌*◌, ◌^◌, ℕ, ◌≤◌}
use native.Mathlib.Nat.{le_trans, mul-le-mul, mul-le-mul_left}
use lib.Dec.{leb→le}
use lib.Ieee.{of_bits}
use Rattle.arith.proofs.roots.Rounding.Key.{key, magnitude, mid, unit}
use Rattle.arith.proofs.Laws.OperationErrors.{half}
use Rattle.truth.proofs.Boxes.Lengths.{Coarse, Scale}
use Rattle.truth.proofs.Boxes.Floats.{H}
use Rattle.truth.proofs.Boxes.Scales.{slim_limit, slim_limit_walk, slim_longer, slim_metre, slim_metre_walk, thin_limit}
use Rattle.truth.proofs.Boxes.Scales.{thin_limit_walk, thin_metre, thin_metre_walk}

longer : (e g h : ℕ) → g ≤ h → Coarse e g → Coarse e h
longer e g h l c =
    let q : g * g ≤ h * h = mul-le-mul l l in
    record {
      slim = slim_longer e g h l c.slim;
      tiny = le_trans c.tiny (mul-le-mul_left 500 (mul-le-mul_left (H * 2 ^ e * 2 ^ e) q));
      long = le_trans c.long q;
    }

least_metre : Coarse 1031 thin_metre
unfolding half unit mid key magnitude of_bits
least_metre = record {
  slim = slim_longer 1031 (2 ^ 600) thin_metre (leb→le _ _ tt) slim_metre;
  tiny = leb→le _ _ tt;
  long = leb→le _ _ tt;
}

pub scale_metre : Scale 1031 thin_metre
scale_metre = record { slim = slim_metre; coarse = λ h l. longer 1031 thin_metre h l least_metre }

least_limit : Coarse 1041 thin_limit
unfolding half unit mid key magnitude of_bits
least_limit = record {
  slim = slim_longer 1041 (2 ^ 600) thin_limit (leb→le _ _ tt) slim_limit;
  tiny = leb→le _ _ tt;
  long = leb→le _ _ tt;
}

pub scale_limit : Scale 1041 thin_limit
scale_limit = record { slim = slim_limit; coarse = λ h l. longer 1041 thin_limit h l least_limit }

least_metre_walk : Coarse 1033 thin_metre_walk
unfolding half unit mid key magnitude of_bits
least_metre_walk = record {
  slim = slim_longer 1033 (2 ^ 600) thin_metre_walk (leb→le _ _ tt) slim_metre_walk;
  tiny = leb→le _ _ tt;
  long = leb→le _ _ tt;
}

pub scale_metre_walk : Scale 1033 thin_metre_walk
scale_metre_walk = record { slim = slim_metre_walk; coarse = λ h l. longer 1033 thin_metre_walk h l least_metre_walk }

least_limit_walk : Coarse 1043 thin_limit_walk
unfolding half unit mid key magnitude of_bits
least_limit_walk = record {
  slim = slim_longer 1043 (2 ^ 600) thin_limit_walk (leb→le _ _ tt) slim_limit_walk;
  tiny = leb→le _ _ tt;
  long = leb→le _ _ tt;
}

pub scale_limit_walk : Scale 1043 thin_limit_walk
scale_limit_walk = record { slim = slim_limit_walk; coarse = λ h l. longer 1043 thin_limit_walk h l least_limit_walk }
