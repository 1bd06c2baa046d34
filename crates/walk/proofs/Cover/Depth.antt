-- How deep the walk halves: each half is half as wide, to within the rounding of its middle, and only what is wider
-- than the tolerance is halved. So no piece that has 52 halvings behind it is halved.
use Prim.Native.Nat.{ℕ, suc, ◌+◌, ◌-◌, ◌*◌, ◌^◌, ◌≤◌, ◌<◌}
use native.Mathlib.Nat.{le_trans, lt_of_lt_of_le, mul-le-mul_left}
use native.Mathlib.Omega.{arith}
use lib.Dec.{T, lit≤, lit<}
use lib.Pow.{pow_pos}
use lib.Ieee.{Float, binary64, fits, of_bits}
use Rattle.arith.specs.F64.{◌⊕◌, ◌⊖◌, ◌≺◌, ◌≼◌, ½, e_9}
use Rattle.arith.proofs.roots.Rounding.Key.{finite_number, key, mid, magnitude, unit, number_of}
use Rattle.arith.proofs.roots.Rounding.KeyOrder.{le→key}
use Rattle.arith.proofs.roots.Rounding.RoundKey.{round_key_near}
use Rattle.arith.proofs.roots.Rounding.Sum.{add_key, sub_key}
use Rattle.arith.proofs.Laws.Bounded.{bounded_within}
use Rattle.arith.proofs.Laws.Middle.{half, half_is}
use Rattle.arith.proofs.Laws.Depth.{Level, level_start, level_wide, level_down, Scale, split}
use Rattle.walk.specs.bands.Band.{mean}
use Rattle.walk.specs.declared.bands.shapes.RadialBand.{RadialBand}
use Rattle.arith.proofs.Laws.Sizes.{Finite, K, M, Number, held_finite}
use Rattle.walk.proofs.bands.Limit.{InLimit}
use Rattle.walk.specs.pieces.Pieces.{piece, whole_width}
use Rattle.walk.specs.declared.pieces.shapes.Piece.{Piece}
use Rattle.walk.proofs.Demand.Pieces.{Sound, halve_sound, whole_width_sound}

-- the width at the start, 2 ^ 21 with room for the rounding of its ends, and the rounding of a middle: both counted in
-- 2 ^ -1074
abbrev W : ℕ
W = 2 ^ 1095 + 2 ^ 1090

abbrev E : ℕ
E = 2 ^ 1044 + 2

-- a sound piece as narrow as one that was made by j halvings
pub record AtDepth (j : ℕ) (p : Piece) : Type 0 where
  pub sound : Sound p
  pub narrow : Level W E j (K p.z1 - K p.z0)

pub shallower : (j : ℕ) (p : Piece) → AtDepth (suc j) p → AtDepth j p
shallower j p h = record { sound = h.sound; narrow = level_down W E j (K p.z1 - K p.z0) h.narrow }

-- ---- the whole width
module _ {b : RadialBand} (B : InLimit b) (held : T (fits binary64 b.radius)) where
  abbrev c : Float
  c = b.zc

  abbrev r : Float
  r = b.radius

  R : Finite 20 r
  R = held_finite B.radius held

  -- omega takes no number of more than 38 digits: the lemmas have variables for them
  wide : K (c ⊕ r) - K (c ⊖ r) ≤ W
  wide =
      let C = B.zc.bounded in
      let f = reach (K c) (K r) M (2 ^ 1094) (2 ^ 1096) C.lower C.upper R.bounded.lower R.bounded.upper
      (lit< tt) in
      let few : 2 ^ 1096 ≤ M = unfold mid in lit≤ tt in
      let u = round_key_near binary64 (K c + K r) (M + M) 1 1043 (pow_pos 0) f.0 f.1 few in
      let v = round_key_near binary64 (K c) (K r) 1 1043 (pow_pos 0) f.2 f.3 few in
      rw (sub_key binary64 c r C.sure R.bounded.sure, add_key binary64 c r C.sure R.bounded.sure)
      (near (K c) (K r) M _ _ (2 ^ 1094) (2 ^ 1043) W R.bounded.upper u.0 v.1 (lit≤ tt))
    where
      reach : (c r m L P : ℕ) → m ≤ c + L → c ≤ m + L → m ≤ r + L → r ≤ m + L → 2 * L < P
          → (c + r < m + m + P * 1) × (m + m < c + r + P * 1) × (c < r + P * 1) × (r < c + P * 1)
      reach c r m L P h1 h2 h3 h4 h5 = omega arith

      near : (c r m z0 z1 L D U : ℕ) → r ≤ m + L → 2 * (z1 * 1 + (m + m)) ≤ 2 * (m * 1 + (c + r)) + D * 1
          → 2 * (m * 1 + c) ≤ 2 * (z0 * 1 + r) + D * 1 → 2 * L + D ≤ U → z1 - z0 ≤ U
      near c r m z0 z1 L D U h k l e = omega arith

  pub whole : AtDepth 0 (whole_width b)
  whole =
      record {
        sound = whole_width_sound B;
        narrow = level_wide (K (c ⊕ r) - K (c ⊖ r)) W E 0 _ wide (level_start _ E);
      }

-- ---- halving

-- a tolerance: finite, from 1e-9 on
pub record Tolerance (tol : Float) : Type 0 where
  pub finite : T (finite_number binary64 tol)
  pub least : T (e_9 ≼ tol)

pub tolerance_number : (tol : Float) → Tolerance tol → Number tol
tolerance_number tol t = number_of binary64 tol t.finite

-- what it takes that nothing wider than e_9 is as deep as 52
nano : Scale binary64 e_9 ½ (2 ^ 1095) 1044 W 52
nano =
    record {
      c_sure = unfold of_bits fits in tt;
      c_pos = unfold of_bits mid key magnitude unit in lit≤ tt;
      half_of = unfold of_bits half in half_is binary64;
      room = unfold mid in lit< tt;
      digits = lit< tt;
      digits_mid = unfold mid in lit≤ tt;
      depth = unfold of_bits mid key magnitude unit in lit< tt;
    }

scale : (tol : Float) → Tolerance tol → Scale binary64 tol ½ (2 ^ 1095) 1044 W 52
scale tol t =
    record {
      c_sure = t.finite;
      c_pos = le_trans nano.c_pos l;
      half_of = nano.half_of;
      room = nano.room;
      digits = nano.digits;
      digits_mid = nano.digits_mid;
      depth = lt_of_lt_of_le nano.depth (mul-le-mul_left (2 ^ 52) (more (K e_9) (K tol) M l));
    }
  where
    l : K e_9 ≤ K tol
    l = le→key binary64 e_9 tol (number_of binary64 e_9 nano.c_sure) (tolerance_number tol t) t.least

    more : (a b m : ℕ) → a ≤ b → 2 * (a - m) ≤ 2 * (b - m)
    more a b m h = omega arith

pub record Halves (j : ℕ) (p : Piece) : Type 0 where
  pub shallow : j < 52
  pub left : AtDepth (suc j) (piece p.z0 (mean p.z0 p.z1))
  pub right : AtDepth (suc j) (piece (mean p.z0 p.z1) p.z1)

pub halve : (tol : Float) → Tolerance tol → (j : ℕ) (p : Piece) → AtDepth j p → T (tol ≺ p.z1 ⊖ p.z0) → Halves j p
halve tol t j p P w =
    let a = P.sound.z0.bounded in
    let b = P.sound.z1.bounded in
    let S = split binary64 p.z0 p.z1 tol ½ (2 ^ 1095) 1044 W 52 j (scale tol t) a.sure b.sure
    (bounded_within binary64 1095 p.z0 a) (bounded_within binary64 1095 p.z1 b) P.sound.order
    P.narrow w in
    let H = halve_sound P.sound in
    record {
      shallow = S.shallow;
      left = record { sound = H.left; narrow = S.left };
      right = record { sound = H.right; narrow = S.right };
    }
