-- The pieces of a band's width: their ends are at most 2 ^ 21 and in order, their boxes at most 2 ^ 23 and in order, and so is a thin
-- band's box. For the middle of a piece lies between its ends, and spans are in order.
use Prim.Native.Nat.{◌+◌, ◌^◌, ◌≤◌, ◌<◌}
use mathlib.Core.List.{List}
use native.Mathlib.Nat.{le_refl, le_trans}
use native.Mathlib.Omega.{arith}
use lib.Dec.{lit<}
use lib.Ieee.{Float, binary64, of_bits}
use Rattle.arith.specs.F64.{◌⊖◌, ◌≺◌, 𝟘, ½}
use Rattle.arith.specs.Num.{clamp, max, min}
use Rattle.arith.proofs.roots.Rounding.Key.{mid}
use Rattle.arith.proofs.Laws.Bounded.{bounded_within}
use Rattle.arith.proofs.Laws.Middle.{Between, IsHalf, half, half_is, middle}
use Rattle.arith.proofs.Laws.SizedOrder.{add_given_ge, key_le, max_finite_key, min_finite_key, sub_given_le, zero_le_key}
use Rattle.arith.proofs.Laws.Sizes.{Finite, K, M, add_finite, add_given, cond_keeps, finite_given, finite_raise, half_finite}
use Rattle.arith.proofs.Laws.Sizes.{max_keeps, min_keeps, sub_finite, sub_given, zero_finite}
use Rattle.section.specs.declared.profile.shapes.CollisionHit.{CollisionHit}
use Rattle.section.proofs.profile.Steps.{pick}
use Rattle.section.proofs.Demand.Bounds.{finite_at_most}
use Rattle.section.proofs.Demand.Hits.{BoxAtMost}
use Rattle.section.proofs.profile.Each.{All, cons}
use Rattle.walk.specs.bands.Band.{half_width, mean, span_at}
use Rattle.walk.specs.declared.bands.shapes.RadialBand.{RadialBand}
use Rattle.walk.proofs.bands.AxialBox.{Ordered}
use Rattle.walk.proofs.bands.HalfWidth.{half_width_finite}
use Rattle.walk.proofs.bands.Limit.{InLimit}
use Rattle.walk.proofs.bands.Spans.{SpanFinite, span_least, span_order, span_at_finite}
use Rattle.walk.specs.pieces.Pieces.{piece_box, narrowest, piece, variation, whole_width, widest, box_hit, halves}
use Rattle.walk.specs.declared.pieces.shapes.Piece.{Piece}
use Rattle.walk.specs.Walk.{halved, thin_box, waiting}

pub record Sound (p : Piece) : Type 0 where
  pub z0 : Finite 21 p.z0
  pub z1 : Finite 21 p.z1
  pub order : K p.z0 ≤ K p.z1

-- ---- halving
pub record SoundHalves (p : Piece) : Type 0 where
  pub left : Sound (piece p.z0 (mean p.z0 p.z1))
  pub right : Sound (piece (mean p.z0 p.z1) p.z1)

pub halve_sound : {p : Piece} → Sound p → SoundHalves p
halve_sound {p} P =
    let m = half_finite (add_finite P.z0 P.z1 tt) tt in
    record {
      left = record { z0 = P.z0; z1 = m; order = between.low_end };
      right = record { z0 = m; z1 = P.z1; order = between.high_end };
    }
  where
    room : 2 ^ 1095 + 2 ^ 1095 < M
    room = unfold mid in lit< tt

    half_of : IsHalf binary64 ½
    half_of = unfold of_bits half in half_is binary64

    between : Between binary64 p.z0 p.z1 (mean p.z0 p.z1)
    between =
        let a = P.z0.bounded in
        let c = P.z1.bounded in
        middle binary64 p.z0 p.z1 a.sure c.sure (2 ^ 1095) (bounded_within binary64 1095 p.z0 a)
        (bounded_within binary64 1095 p.z1 c) room P.order ½ half_of

halves_sound : {p : Piece} {ps : List Piece} → Sound p → All Sound ps → All Sound (halves p ps)
halves_sound P A = let H = halve_sound P in cons H.right (cons H.left A)

pub waiting_sound : (s : List Float) (b : RadialBand) (tol : Float) {p : Piece} {ps : List Piece} → Sound p → All Sound ps
    → (best : CollisionHit) → All Sound (waiting s b tol p ps best)
waiting_sound s b tol {p} P A best =
    pick (All Sound) (halved tol (box_hit s b p) (variation b p) best p) (λ h. halves_sound P A) (λ h. A)

module _ {b : RadialBand} (B : InLimit b) where
  pub whole_width_sound : Sound (whole_width b)
  whole_width_sound =
      record {
        z0 = sub_given (finite_given B.zc) B.radius tt;
        z1 = add_given (finite_given B.zc) B.radius tt;
        order = le_trans (sub_given_le B.zc B.radius B.solid) (add_given_ge B.zc B.radius B.solid);
      }

  -- ---- of one piece: where the half width is greatest, and the least one
  module _ {p : Piece} (P : Sound p) where
    at_piece : {z : Float} → Finite 21 z → Finite 20 (half_width b z)
    at_piece Z = half_width_finite B (finite_raise Z tt)

    pub clamped : Finite 21 (clamp b.zc p.z0 p.z1)
    clamped =
        cond_keeps (Finite 21) (b.zc ≺ p.z0) P.z0
        (cond_keeps (Finite 21) (p.z1 ≺ b.zc) P.z1 (finite_raise B.zc tt))

    widest_half : Finite 20 (half_width b (clamp b.zc p.z0 p.z1))
    widest_half = at_piece clamped

    narrowest_half : Finite 20 (min (half_width b p.z0) (half_width b p.z1))
    narrowest_half = min_keeps (Finite 20) (at_piece P.z0) (at_piece P.z1)

    pub widest_finite : SpanFinite (widest b p)
    unfolding widest
    widest_finite = span_at_finite B widest_half

    pub narrowest_finite : SpanFinite (narrowest b p)
    unfolding narrowest
    narrowest_finite = span_at_finite B narrowest_half

    pub least_radius : Finite 22 (piece_box b p).r0
    unfolding piece_box
    least_radius = min_keeps (Finite 22) widest_finite.lo narrowest_finite.lo

    pub greatest_radius : Finite 22 (piece_box b p).r1
    unfolding piece_box
    greatest_radius = max_keeps (Finite 22) widest_finite.hi narrowest_finite.hi

    pub box_of_at_most : BoxAtMost 23 (piece_box b p)
    unfolding piece_box
    box_of_at_most =
        record {
          z0 = finite_at_most (finite_raise P.z0 tt);
          z1 = finite_at_most (finite_raise P.z1 tt);
          r0 = finite_at_most (finite_raise least_radius tt);
          r1 = finite_at_most (finite_raise greatest_radius tt);
        }

    pub box_of_ordered : Ordered (piece_box b p)
    unfolding piece_box widest narrowest
    box_of_ordered =
        let w = widest_finite in
        let n = narrowest_finite in
        let low = min_finite_key w.lo n.lo in
        let high = max_finite_key w.hi n.hi in
        let order = span_order B widest_half in
        let lo = span_least B widest_half in
        let lo' = span_least B narrowest_half in
        record {
          z = key_le P.z0 P.z1 P.order;
          r = key_le least_radius greatest_radius (omega arith);
          least = zero_le_key least_radius (omega arith);
        }

    pub variation_finite : Finite 23 (variation b p)
    unfolding variation
    variation_finite =
        let w = widest_finite in
        let n = narrowest_finite in
        let lower = apart w.lo n.lo w.lo n.lo in
        let upper = apart w.hi n.hi n.hi w.hi in
        max_keeps (Finite 23) (max_keeps (Finite 23) lower upper) (zero_finite 23)
      where
        apart : {x y u v : Float} → Finite 22 x → Finite 22 y → Finite 22 u → Finite 22 v
            → Finite 23 (max x y ⊖ min u v)
        apart X Y U W = sub_finite (max_keeps (Finite 22) X Y) (min_keeps (Finite 22) U W) tt

  -- ---- a thin band's box
  thin_span : SpanFinite (span_at b 𝟘)
  thin_span = span_at_finite B (zero_finite 20)

  pub thin_box_at_most : BoxAtMost 23 (thin_box b)
  thin_box_at_most =
      let z = finite_at_most (finite_raise B.zc tt) in
      record {
        z0 = z;
        z1 = z;
        r0 = finite_at_most (finite_raise thin_span.lo tt);
        r1 = finite_at_most (finite_raise thin_span.hi tt);
      }

  pub thin_box_ordered : Ordered (thin_box b)
  thin_box_ordered =
      record {
        z = key_le B.zc B.zc (le_refl _);
        r = key_le thin_span.lo thin_span.hi (span_order B (zero_finite 20));
        least = zero_le_key thin_span.lo (span_least B (zero_finite 20));
      }
