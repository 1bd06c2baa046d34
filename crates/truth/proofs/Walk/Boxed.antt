-- A BOX THAT HOLDS THE SPAN at the f64 nearest a point of the cylinder: what box distance says of the box is true of the point,
-- but for u (g + 7).
use Prim.Native.Nat.{◌*◌, ◌+◌, ◌-◌, ◌<◌, ◌^◌, suc, ℕ, ◌≤◌}
use mathlib.Core.List.{List}
use mathlib.Core.Path.{◌≡◌, ap, refl, subst, sym}
use native.Mathlib.Nat.{le_of_eq, le_of_lt, le_trans, mul-le-mul, mul-le-mul_left, mul-sub}
use native.Mathlib.Omega.{arith}
use lib.Ieee.{binary64, Float, prec}
use Rattle.arith.proofs.roots.Root.Sticky.{whole_root, whole_root_is}
use Rattle.arith.proofs.Laws.Bounded.{Bounded, bounded_up}
use Rattle.arith.proofs.Laws.Sizes.{K, M, max_keeps, min_keeps}
use Rattle.section.specs.declared.profile.shapes.Aabb.{Aabb}
use Rattle.section.specs.boxes.Boxes.{box_distance}
use Rattle.walk.specs.bands.Band.{half_width, span_at}
use Rattle.walk.specs.declared.bands.shapes.RadialBand.{RadialBand}
use Rattle.walk.proofs.bands.Limit.{InLimit}
use Rattle.walk.proofs.bands.Spans.{span_order}
use Rattle.walk.specs.pieces.Pieces.{box_hit, narrowest, piece_box, widest}
use Rattle.walk.specs.declared.pieces.shapes.Piece.{Piece}
use Rattle.arith.specs.Whole.{apart}
use Rattle.truth.specs.Exact.{Turned, units}
use Rattle.truth.specs.Boxes.{BoxTrue, BoxWithin, InBox, Within}
use Rattle.truth.specs.Cylinders.{space²}
use Rattle.arith.proofs.Laws.RoundingError.{Close}
use Rattle.arith.proofs.Laws.OperationErrors.{half}
use Rattle.truth.proofs.Places.{origin_is, place_is}
use Rattle.truth.proofs.Walk.HalfWidths.{BandSized, half_bounded, Scaled}
use Rattle.truth.proofs.Walk.SpanErrors.{hi_bounded, lo_bounded, lo_least}
use Rattle.truth.proofs.Walk.Margin.{narrow_half, PieceWithin, wide_half}
use Rattle.truth.proofs.Walk.Place.{place_bounded, place_close}
use Rattle.truth.proofs.Walk.Squares.{root_le}
use Rattle.truth.proofs.Walk.Inside.{at, at_closest, at_farthest, InCylinder, near}
use Rattle.truth.proofs.Walk.Nearby.{move, Moved, point_far}
use Rattle.truth.proofs.Walk.Scales.{bounded_within}

pub units_key : (d : Float) → units d ≡ K d - M
units_key d = rw (place_is d, origin_is) refl

-- ---- a box about a point, but for u along z and ε across
pub record Around (e ε n X Y Z : ℕ) (x : Aabb) : Type 0 where
  pub within : BoxWithin e x
  pub z_low : n * K x.z0 ≤ Z + n * 2 ^ e
  pub z_high : Z ≤ n * K x.z1 + n * 2 ^ e
  pub r_low : n * (K x.r0 - M - ε) * (n * (K x.r0 - M - ε))
      ≤ apart X (n * M) * apart X (n * M) + apart Y (n * M) * apart Y (n * M)
  pub r_high : apart X (n * M) * apart X (n * M) + apart Y (n * M) * apart Y (n * M)
      ≤ n * (K x.r1 - M + ε) * (n * (K x.r1 - M + ε))

module _ (e ε : ℕ) {n X Y Z : ℕ} (n⁺ : 0 < n) {x : Aabb} (A : Around e ε n X Y Z x) where
  abbrev u : ℕ
  u = 2 ^ e

  abbrev r0 : ℕ
  r0 = K x.r0 - M

  abbrev r1 : ℕ
  r1 = K x.r1 - M

  r0_least : M ≤ K x.r0
  r0_least = rw (place_is x.r0, origin_is) at A.within.r_least

  order : K x.r0 ≤ K x.r1
  order = rw (place_is x.r0, place_is x.r1) at A.within.r_order

  z_order : K x.z0 ≤ K x.z1
  z_order = rw (place_is x.z0, place_is x.z1) at A.within.z_order

  -- the point, moved into the box
  abbrev Xs : ℕ
  Xs = apart X (n * M)

  abbrev Ys : ℕ
  Ys = apart Y (n * M)

  abbrev h : ℕ
  h = whole_root (Xs * Xs + Ys * Ys)

  z_moved : Moved (n * K x.z0) (n * K x.z1) Z (n * u)
  z_moved = move _ _ Z (n * u) (mul-le-mul_left n z_order) A.z_low A.z_high

  h_moved : Moved (n * r0) (n * r1) h (n * ε + 1)
  h_moved = move (n * r0) (n * r1) h (n * ε + 1) (mul-le-mul_left n less) low high
    where
      less : r0 ≤ r1
      less = go (K x.r0) (K x.r1) M order
        where
          go : (a c m : ℕ) → a ≤ c → a - m ≤ c - m
          go a c m k = omega arith

      low : n * r0 ≤ h + (n * ε + 1)
      low =
          let c = root_le (n * (r0 - ε)) (h + 1) (le_trans A.r_low (le_of_lt (whole_root_is (Xs * Xs + Ys * Ys)).most)) in
          go (n * r0) (n * ε) h (le_trans (le_of_eq (sym (mul-sub n r0 ε))) c)
        where
          go : (a c h : ℕ) → a - c ≤ h + 1 → a ≤ h + (c + 1)
          go a c h k = omega arith

      high : h ≤ n * r1 + (n * ε + 1)
      high = go h r1 ε (root_le h (n * (r1 + ε)) (le_trans (whole_root_is (Xs * Xs + Ys * Ys)).least A.r_high))
        where
          go : (h r w : ℕ) → h ≤ n * (r + w) → h ≤ n * r + (n * w + 1)
          go h r w k = omega arith

  in_box : InBox x n z_moved.value (n * M + h_moved.value)
  in_box = record {
    z_from = rw (place_is x.z0) z_moved.from;
    z_to = rw (place_is x.z1) z_moved.to;
    r_from = rw (place_is x.r0) (from (K x.r0) M h_moved.value r0_least h_moved.from);
    r_to = rw (place_is x.r1) (to (K x.r1) M h_moved.value (le_trans r0_least order) h_moved.to);
  }
    where
      from : (k m h : ℕ) → m ≤ k → n * (k - m) ≤ h → n * k ≤ n * m + h
      from k m h l i = step (k - m) (let q : k ≡ m + (k - m) = omega arith in q) i
        where
          step : (j : ℕ) → k ≡ m + j → n * j ≤ h → n * k ≤ n * m + h
          step j q i = let s = ap (λ z. n * z) q in omega arith

      to : (k m h : ℕ) → m ≤ k → h ≤ n * (k - m) → n * m + h ≤ n * k
      to k m h l i = step (k - m) (let q : k ≡ m + (k - m) = omega arith in q) i
        where
          step : (j : ℕ) → k ≡ m + j → h ≤ n * j → n * m + h ≤ n * k
          step j q i = let s = ap (λ z. n * z) q in omega arith

  -- what box distance says of the box
  module _ (s : List Float) (Counts : ℕ → ℕ → ℕ → Type 0) (εb : ℕ) (D : BoxTrue εb e s Counts) where
    pub around_far : (q z r X' Y' : ℕ) → Counts q z r → Turned q r X' Y'
        → n * q * (units (box_distance s x).distance - (εb + (u + (ε + 2)))) *
        (n * q * (units (box_distance s x).distance - (εb + (u + (ε + 2))))) ≤ space² n X Y Z q z X' Y'
    unfolding space²
    around_far q z r X' Y' c t =
        rw (turn (units (box_distance s x).distance) εb (u + (ε + 2)))
        (point_far M n q X Y Z z r X' Y' u ε n⁺ (rw origin_is at t.above) (rw origin_is at t.circle)
        (units (box_distance s x).distance - εb)
        z_moved.value h_moved.value z_moved.close h_moved.close
        (D.never_over x A.within n z_moved.value (n * M + h_moved.value) q z r in_box c))
      where
        turn : (w a c : ℕ) → w - (a + c) ≡ w - a - c
        turn w a c = omega arith

-- the radii of a piece's box
module _ (e m : ℕ) (S : Scaled e m) {b : RadialBand} (B : BandSized e b) {p : Piece} (P : PieceWithin e p) where
  pub r0_bounded : Bounded binary64 (prec binary64 + suc (suc e)) (piece_box b p).r0
  unfolding piece_box widest narrowest
  r0_bounded =
      min_keeps (Bounded binary64 (prec binary64 + suc (suc e))) (lo_bounded e m S B (wide_half e m S B P))
      (lo_bounded e m S B (narrow_half e m S B P))

  pub r1_bounded : Bounded binary64 (prec binary64 + suc (suc e)) (piece_box b p).r1
  unfolding piece_box widest narrowest
  r1_bounded =
      max_keeps (Bounded binary64 (prec binary64 + suc (suc e))) (hi_bounded e m S B (wide_half e m S B P))
      (hi_bounded e m S B (narrow_half e m S B P))

  pub r0_not_negative : M ≤ K (piece_box b p).r0
  unfolding piece_box widest narrowest
  r0_not_negative =
      min_keeps (λ (x : Float). M ≤ K x) (lo_least e m S B (wide_half e m S B P)) (lo_least e m S B (narrow_half e m S B P))

module _ (e m : ℕ) (S : Scaled e m) {b : RadialBand} (B : BandSized e b) (L : InLimit b) (g : ℕ) (G : 30 * half binary64 ≤ g * g)
    {n X Y Z : ℕ} (C : InCylinder b n X Y Z) where
  abbrev pub across : ℕ
  across = (g + 2) * 2 ^ e + 2 * 2 ^ e

  abbrev pub nearest : Float
  nearest = at e m S B g G C

  abbrev ρ : Float
  ρ = half_width b nearest

  pub nearest_bounded : Bounded binary64 (prec binary64 + suc e) nearest
  nearest_bounded = place_bounded e m S B n Z C.some (near e m S B g G C)

  nearest_close : Close (n * K nearest) Z (n * 2 ^ e)
  nearest_close = place_close e m S B n Z C.some (near e m S B g G C)

  -- a piece whose box holds the nearest f64 and the span there
  pub record Holds (p : Piece) : Type 0 where
    pub within : PieceWithin e p
    pub z_from : K p.z0 ≤ K nearest
    pub z_to : K nearest ≤ K p.z1
    pub r_from : K (piece_box b p).r0 ≤ K (span_at b ρ).lo
    pub r_to : K (span_at b ρ).hi ≤ K (piece_box b p).r1

  module _ {p : Piece} (H : Holds p) where
    r_order : K (piece_box b p).r0 ≤ K (piece_box b p).r1
    r_order =
        le_trans H.r_from
        (le_trans
        (span_order L
        (record { bounded = bounded_up binary64 (prec binary64 + e) 1094 ρ limit (half_bounded e m S B nearest_bounded) }))
        H.r_to)
      where
        limit : prec binary64 + e ≤ 1094
        limit = let l = S.limit in omega arith

    pub box_within : BoxWithin e (piece_box b p)
    unfolding piece_box
    box_within = record {
      z0 = subst (λ w. Within (2 ^ w) p.z0) one (bounded_within (prec binary64 + suc e) p.z0 H.within.z0);
      z1 = subst (λ w. Within (2 ^ w) p.z1) one (bounded_within (prec binary64 + suc e) p.z1 H.within.z1);
      r0 = subst (λ w. Within (2 ^ w) (piece_box b p).r0) two
          (bounded_within (prec binary64 + suc (suc e)) (piece_box b p).r0 (r0_bounded e m S B H.within));
      r1 = subst (λ w. Within (2 ^ w) (piece_box b p).r1) two
          (bounded_within (prec binary64 + suc (suc e)) (piece_box b p).r1 (r1_bounded e m S B H.within));
      z_order = rw (place_is p.z0, place_is p.z1) H.within.order;
      r_order = rw (place_is (piece_box b p).r0, place_is (piece_box b p).r1) r_order;
      r_least = rw (place_is (piece_box b p).r0, origin_is) (r0_not_negative e m S B H.within);
    }
      where
        one : prec binary64 + suc e ≡ 54 + e
        one = omega arith

        two : prec binary64 + suc (suc e) ≡ 55 + e
        two = omega arith

    pub around : Around e across n X Y Z (piece_box b p)
    around = record {
      within = box_within;
      z_low = unfold piece_box in le_trans (mul-le-mul_left n H.z_from) nearest_close.over;
      z_high = unfold piece_box in le_trans nearest_close.under (more (mul-le-mul_left n H.z_to));
      r_low = le_trans (low (K (piece_box b p).r0) (K (span_at b ρ).lo) M across H.r_from) (at_closest e m S B g G C);
      r_high = le_trans (at_farthest e m S B g G C) (high (K (span_at b ρ).hi) (K (piece_box b p).r1) M across H.r_to);
    }
      where
        more : {a c : ℕ} → a ≤ c → a + n * 2 ^ e ≤ c + n * 2 ^ e
        more {a} {c} k = go a c (n * 2 ^ e) k
          where
            go : (a c w : ℕ) → a ≤ c → a + w ≤ c + w
            go a c w k = omega arith

        low : (a c m w : ℕ) → a ≤ c → n * (a - m - w) * (n * (a - m - w)) ≤ n * (c - m - w) * (n * (c - m - w))
        low a c m w h = let l : a - m - w ≤ c - m - w = omega arith in let k = mul-le-mul_left n l in mul-le-mul k k

        high : (a c m w : ℕ) → a ≤ c → n * (a - m + w) * (n * (a - m + w)) ≤ n * (c - m + w) * (n * (c - m + w))
        high a c m w h = let l : a - m + w ≤ c - m + w = omega arith in let k = mul-le-mul_left n l in mul-le-mul k k

    module _ (s : List Float) (Counts : ℕ → ℕ → ℕ → Type 0) (εb : ℕ) (D : BoxTrue εb e s Counts) where
      pub box_far : (q z r X' Y' : ℕ) → Counts q z r → Turned q r X' Y'
          → n * q * (units (box_hit s b p).distance - (εb + (2 ^ e + (across + 2)))) *
          (n * q * (units (box_hit s b p).distance - (εb + (2 ^ e + (across + 2))))) ≤ space² n X Y Z q z X' Y'
      box_far = around_far e across C.some around s Counts εb D
