-- The scales, and specs/Straight's words in terms of keys.
use Prim.Native.Nat.{◌*◌, ◌+◌, ◌-◌, ◌^◌, ℕ, ◌≤◌}
use mathlib.Core.Path.{◌≡◌, refl}
use native.Mathlib.Nat.{le_trans}
use native.Mathlib.Omega.{arith}
use lib.Dec.{lit≤, lit<}
use lib.Ieee.{binary64, fits, Float, of_bits}
use lib.Ieee.Scale.{finite}
use lib.Ieee.Fits.{and_i, and_l}
use Rattle.arith.proofs.roots.Rounding.Key.{finite_of, key, magnitude, mid, unit}
use Rattle.arith.proofs.Laws.Bounded.{Bounded}
use Rattle.arith.proofs.Laws.Monotone.{key_size}
use Rattle.arith.proofs.Laws.Sizes.{K, M}
use Rattle.walk.specs.declared.bands.shapes.RadialBand.{RadialBand}
use Rattle.arith.specs.Whole.{apart}
use Rattle.truth.specs.Exact.{size}
use Rattle.truth.specs.Boxes.{Within}
use Rattle.truth.specs.Cylinders.{BandWithin, Straight}
use Rattle.arith.proofs.Laws.OperationErrors.{half}
use Rattle.truth.proofs.Places.{origin_is, place_is}
use Rattle.truth.proofs.Walk.HalfWidths.{BandSized, Scaled, size_of}
use Rattle.truth.proofs.Walk.Inside.{InCylinder}

-- from 2 ^ 10 mm to 01's limit, 2 ^ 20 mm
pub scaled_limit : Scaled 1041 1060
unfolding half unit mid key magnitude of_bits
scaled_limit = record {
  range = lit< tt;
  square = refl;
  squares_range = lit< tt;
  offsets_range = lit< tt;
  differences_range = lit< tt;
  limit = lit≤ tt;
  unit_least = lit≤ tt;
  thin = lit≤ tt;
  error = refl;
}

pub scaled_metre : Scaled 1031 1040
unfolding half unit mid key magnitude of_bits
scaled_metre = record {
  range = lit< tt;
  square = refl;
  squares_range = lit< tt;
  offsets_range = lit< tt;
  differences_range = lit< tt;
  limit = lit≤ tt;
  unit_least = lit≤ tt;
  thin = lit≤ tt;
  error = refl;
}

-- 11 2 ^ 25: its square is more than 30 2 ^ 52
abbrev pub roots : ℕ
roots = 369098752

pub roots_enough : 30 * half binary64 ≤ roots * roots
unfolding half
roots_enough = lit≤ tt

-- ---- words
pub size_key : (x : Float) → size x ≡ size_of x
unfolding size apart key_size
size_key x = rw (place_is x, origin_is) refl

pub within_bounded : (j : ℕ) (x : Float) → Within (2 ^ j) x → Bounded binary64 j x
within_bounded j x w = record {
  sure = and_i (fits binary64 x) (finite x) w.held w.ends;
  lower = le_trans (lower_of (K x) M) (more (K x) (rw (size_key x) at w.most));
  upper = le_trans (upper_of (K x) M) (more M (rw (size_key x) at w.most));
}
  where
    lower_of : (k m : ℕ) → m ≤ k + (k - m + (m - k))
    lower_of k m = omega arith

    upper_of : (k m : ℕ) → k ≤ m + (k - m + (m - k))
    upper_of k m = omega arith

    more : (a : ℕ) → size_of x ≤ 2 ^ j → a + (K x - M + (M - K x)) ≤ a + 2 ^ j
    more a h = go (unfold key_size in h)
      where
        go : K x - M + (M - K x) ≤ 2 ^ j → a + (K x - M + (M - K x)) ≤ a + 2 ^ j
        go h = step (K x - M + (M - K x)) (2 ^ j) h
          where
            step : (x y : ℕ) → x ≤ y → a + x ≤ a + y
            step x y h = omega arith

pub bounded_within : (j : ℕ) (x : Float) → Bounded binary64 j x → Within (2 ^ j) x
bounded_within j x b = record {
  held = and_l (fits binary64 x) (finite x) b.sure;
  ends = finite_of binary64 x b.sure;
  most = rw (size_key x) (unfold key_size in go (K x) M (2 ^ j) b.lower b.upper);
}
  where
    go : (k m w : ℕ) → m ≤ k + w → k ≤ m + w → k - m + (m - k) ≤ w
    go k m w h l = omega arith

pub band_sized : (e : ℕ) {b : RadialBand} → BandWithin e b → BandSized e b
band_sized e {b} B = record {
  x0 = within_bounded (53 + e) b.x0 B.x0;
  x1 = within_bounded (53 + e) b.x1 B.x1;
  yc = within_bounded (53 + e) b.yc B.yc;
  zc = within_bounded (53 + e) b.zc B.zc;
  radius = within_bounded (53 + e) b.radius B.radius;
  solid = rw (place_is b.radius, origin_is) at B.solid;
}

pub in_cylinder : {b : RadialBand} {n X Y Z : ℕ} → Straight b n X Y Z → InCylinder b n X Y Z
in_cylinder {b} C = record {
  some = C.some;
  from = rw (place_is b.x0) at C.from;
  to = rw (place_is b.x1) at C.to;
  disc = rw (place_is b.yc, place_is b.zc, size_key b.radius) at C.disc;
}
