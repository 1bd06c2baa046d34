-- A THIN CYLINDER, of radius 1e-15 or less, is measured by one box at zc.
use Prim.Native.Nat.{◌*◌, ◌+◌, ◌-◌, ◌^◌, suc, ℕ, ◌≤◌}
use mathlib.Core.List.{List}
use mathlib.Core.Path.{◌≡◌, subst, sym}
use native.Mathlib.Nat.{le_of_eq, le_refl, le_trans, mul-le-mul_left}
use native.Mathlib.Omega.{arith}
use lib.Dec.{T}
use lib.Ieee.{binary64, Float, fits, of_bits, prec}
use Rattle.arith.proofs.roots.Rounding.Key.{finite_number, number_of}
use Rattle.arith.proofs.roots.Rounding.KeyOrder.{le→key}
use Rattle.arith.specs.F64.{◌≼◌, 𝟘, e_15}
use Rattle.arith.proofs.Laws.Bounded.{bounded_up}
use Rattle.arith.proofs.Laws.Sizes.{K, M, zero_finite, zero_key}
use Rattle.walk.specs.bands.Band.{span_at}
use Rattle.walk.specs.declared.bands.shapes.RadialBand.{RadialBand}
use Rattle.walk.proofs.bands.Limit.{InLimit}
use Rattle.walk.proofs.bands.Spans.{span_order}
use Rattle.section.specs.boxes.Boxes.{box_distance}
use Rattle.walk.specs.Walk.{thin_box}
use Rattle.arith.specs.Whole.{apart}
use Rattle.truth.specs.Exact.{Turned, units}
use Rattle.truth.specs.Boxes.{BoxTrue, BoxWithin, Within}
use Rattle.truth.specs.Cylinders.{space²}
use Rattle.arith.proofs.Laws.OperationErrors.{apart_over, apart_under, half}
use Rattle.truth.proofs.Places.{origin_is, place_is}
use Rattle.truth.proofs.Walk.HalfWidths.{BandSized, Scaled, size_is_key, size_of}
use Rattle.truth.proofs.Walk.SpanErrors.{Half, hi_bounded, lo_bounded, lo_least}
use Rattle.truth.proofs.Walk.Inside.{aside, closest, farthest, InCylinder, near}
use Rattle.truth.proofs.Walk.Boxed.{Around, around_far}
use Rattle.truth.proofs.Walk.Scales.{bounded_within}

e_15_sure : T (finite_number binary64 e_15)
unfolding of_bits fits
e_15_sure = tt

module _ (e m : ℕ) (S : Scaled e m) {b : RadialBand} (B : BandSized e b) (L : InLimit b) (thin : T (b.radius ≼ e_15)) (g : ℕ)
    (G : 30 * half binary64 ≤ g * g)
    {n X Y Z : ℕ} (C : InCylinder b n X Y Z) where
  abbrev u : ℕ
  u = 2 ^ e

  abbrev R : ℕ
  R = size_of b.radius

  R_small : R ≤ u
  R_small = go (K b.radius) (K e_15) M R u (size_is_key b.radius B.solid) S.thin
      (le→key binary64 b.radius e_15 (number_of binary64 _ B.radius.sure) (number_of binary64 e_15 e_15_sure) thin)
    where
      go : (k c m r u : ℕ) → k ≡ m + r → c ≤ m + u → k ≤ c → r ≤ u
      go k c m r u q h l = omega arith

  P : Half e m S B 𝟘
  P = record {
    bounded = bounded_up binary64 1074 (prec binary64 + e) 𝟘 S.unit_least (zero_finite 0).bounded;
    least =
        le_of_eq (sym zero_key);
  }

  wide : apart Y (n * K b.yc) ≤ n * (K 𝟘 - M + (g + 1) * u)
  wide = le_trans (aside e m S B g G C) (mul-le-mul_left n (go R u (K 𝟘 - M) R_small))
    where
      go : (r u z : ℕ) → r ≤ u → r ≤ z + (g + 1) * u
      go r u z h = omega arith

  near_zc : apart Z (n * K b.zc) ≤ n * u
  near_zc = le_trans (near e m S B g G C) (mul-le-mul_left n R_small)

  within : BoxWithin e (thin_box b)
  within = record {
    z0 = z;
    z1 = z;
    r0 = subst (λ w. Within (2 ^ w) (span_at b 𝟘).lo) two
        (bounded_within (prec binary64 + suc (suc e)) (span_at b 𝟘).lo (lo_bounded e m S B P));
    r1 = subst (λ w. Within (2 ^ w) (span_at b 𝟘).hi) two
        (bounded_within (prec binary64 + suc (suc e)) (span_at b 𝟘).hi (hi_bounded e m S B P));
    z_order = le_refl _;
    r_order = rw (place_is (span_at b 𝟘).lo, place_is (span_at b 𝟘).hi) (span_order L (zero_finite 20));
    r_least = rw (place_is (span_at b 𝟘).lo, origin_is) (lo_least e m S B P);
  }
    where
      one : prec binary64 + suc e ≡ 54 + e
      one = omega arith

      two : prec binary64 + suc (suc e) ≡ 55 + e
      two = omega arith

      z : Within (2 ^ (54 + e)) b.zc
      z = subst (λ w. Within (2 ^ w) b.zc) one
          (bounded_within (prec binary64 + suc e) b.zc
          (bounded_up binary64 _ _ _ (let l : prec binary64 + e ≤ prec binary64 + suc e = omega arith in l) B.zc))

  around : Around e ((g + 2) * u + 2 * u) n X Y Z (thin_box b)
  around = record {
    within = within;
    z_low = le_trans (apart_under Z (n * K b.zc)) (more Z near_zc);
    z_high = le_trans (apart_over Z (n * K b.zc)) (more (n * K b.zc) near_zc);
    r_low = closest e m S B g G C 𝟘 P wide;
    r_high = farthest e m S B g G C 𝟘 P wide;
  }
    where
      more : (a : ℕ) {c d : ℕ} → c ≤ d → a + c ≤ a + d
      more a h = omega arith

  module _ (s : List Float) (Counts : ℕ → ℕ → ℕ → Type 0) (εb : ℕ) (D : BoxTrue εb e s Counts) where
    pub thin_far : (q z r X' Y' : ℕ) → Counts q z r → Turned q r X' Y'
        → n * q * (units (box_distance s (thin_box b)).distance - (εb + (u + ((g + 2) * u + 2 * u + 2)))) *
        (n * q * (units (box_distance s (thin_box b)).distance - (εb + (u + ((g + 2) * u + 2 * u + 2)))))
        ≤ space² n X Y Z q z X' Y'
    thin_far = around_far e ((g + 2) * u + 2 * u) C.some around s Counts εb D
