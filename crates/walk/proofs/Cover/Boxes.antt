-- The box of a piece holds the span at every place of the piece: the half width is greatest at the place nearest zc,
-- and the span there holds all others.
use Prim.Native.Nat.{ℕ, ◌≤◌, min as minℕ, max as maxℕ}
use mathlib.Core.Path.{◌≡◌}
use mathlib.Core.Logic.{inl, inr}
use native.Mathlib.Omega.{arith}
use lib.Dec.{T}
use lib.Ieee.{Float, binary64}
use Rattle.arith.specs.F64.{◌≼◌}
use Rattle.arith.specs.Num.{clamp}
use Rattle.arith.proofs.roots.Numbers.{decide}
use Rattle.arith.proofs.Laws.Order.{clamp_key}
use Rattle.arith.proofs.Laws.SizedOrder.{key_le, max_finite_key, min_finite_key}
use Rattle.arith.proofs.Laws.Sizes.{Finite, K, finite_number_lem, finite_raise}
use Rattle.walk.specs.bands.Band.{half_width, span_at}
use Rattle.walk.specs.declared.bands.shapes.RadialBand.{RadialBand}
use Rattle.walk.proofs.bands.HalfWidth.{LiesBetween, half_width_finite, half_width_not_negative, nearer_is_wider}
use Rattle.walk.proofs.bands.Limit.{InLimit}
use Rattle.walk.proofs.bands.Spans.{SpanFinite, span_nested, span_at_finite}
use Rattle.walk.specs.pieces.Pieces.{widest, narrowest, piece_box}
use Rattle.walk.specs.declared.pieces.shapes.Piece.{Piece}
use Rattle.walk.proofs.Demand.Pieces.{Sound, clamped, greatest_radius, least_radius, narrowest_finite, widest_finite}

module _ {b : RadialBand} (B : InLimit b) {p : Piece} (P : Sound p) {z : Float} (Z : Finite 21 z)
    (l : K p.z0 ≤ K z) (u : K z ≤ K p.z1) where
  abbrev nearest : Float
  nearest = clamp b.zc p.z0 p.z1

  -- the place nearest zc lies between zc and z
  between : LiesBetween (K b.zc) (K nearest) (K z)
  between =
      go (K b.zc) (K p.z0) (K z) (K p.z1) (K nearest) l u
      (clamp_key binary64 b.zc p.z0 p.z1 (finite_number_lem B.zc) (finite_number_lem P.z0) (finite_number_lem P.z1)
      P.order)
    where
      go : (c a z b k : ℕ) → a ≤ z → z ≤ b → k ≡ maxℕ a (minℕ c b) → LiesBetween c k z
      go c a z b k h l e = elim (decide c z) [ inl g ↦ inl (omega arith) | inr g ↦ inr (omega arith) ]

  place : Finite 23 z
  place = finite_raise Z tt

  half : Finite 20 (half_width b z)
  half = half_width_finite B place

  at : SpanFinite (span_at b (half_width b z))
  at = span_at_finite B half

  nested : (K (span_at b (half_width b nearest)).lo ≤ K (span_at b (half_width b z)).lo)
      × (K (span_at b (half_width b z)).hi ≤ K (span_at b (half_width b nearest)).hi)
  nested =
      let c = finite_raise (clamped B P) tt in
      span_nested B half (half_width_finite B c) (half_width_not_negative B place) (nearer_is_wider B c place between)

  pub box_inner : T ((piece_box b p).r0 ≼ (span_at b (half_width b z)).lo)
  unfolding piece_box widest narrowest
  box_inner =
      key_le (least_radius B P) at.lo
      (omega (arith, nested.0, min_finite_key (widest_finite B P).lo (narrowest_finite B P).lo))

  pub box_outer : T ((span_at b (half_width b z)).hi ≼ (piece_box b p).r1)
  unfolding piece_box widest narrowest
  box_outer =
      key_le at.hi (greatest_radius B P)
      (omega (arith, nested.1, max_finite_key (widest_finite B P).hi (narrowest_finite B P).hi))
