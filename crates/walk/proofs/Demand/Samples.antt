-- The samples of a band are at most 2 ^ 23. So the starting distance is at most 2 ^ 27, or +infinity beside a section
-- on the axis only; it is never a NaN, whatever the section.
use Prim.Native.Nat.{ℕ, zero, suc, ◌≤◌}
use mathlib.Core.List.{List}
use mathlib.Core.Path.{refl}
use native.Mathlib.Nat.{le_of_suc-le-suc}
use lib.Ieee.{Float, binary64}
use Rattle.arith.specs.F64.{𝟘, ∞}
use Rattle.arith.proofs.Laws.Intervals.{Intervals, interval_finite}
use Rattle.arith.proofs.Laws.OrderHeld.{number_held}
use Rattle.arith.proofs.Laws.Sizes.{Finite, add_finite, finite_raise, half_finite, mul_finite, sub_finite, zero_finite}
use Rattle.section.specs.points.Points.{point_distance}
use Rattle.section.specs.profile.Vertices.{count, hit, nearer, nearest_of, on, vertex}
use Rattle.section.specs.declared.profile.shapes.CollisionHit.{CollisionHit}
use Rattle.section.proofs.profile.Numbers.{NumberHit, infinite, nearest_number}
use Rattle.section.proofs.profile.Steps.{upto_keeps}
use Rattle.section.proofs.Demand.Bounds.{finite_at_most}
use Rattle.section.proofs.Demand.Hits.{BestAtMost, VertexAtMost, VerticesAtMost, nearer_best, none_yet}
use Rattle.section.proofs.Demand.Points.{point_best}
use Rattle.section.proofs.points.Numbers.{point_number}
use Rattle.walk.specs.bands.Band.{half_width, span_at}
use Rattle.walk.specs.declared.bands.shapes.RadialBand.{RadialBand}
use Rattle.walk.proofs.bands.HalfWidth.{half_width_finite}
use Rattle.walk.proofs.bands.Limit.{InLimit}
use Rattle.walk.proofs.bands.Spans.{SpanFinite, span_at_finite}
use Rattle.walk.specs.Walk.{sample_vertex, sample_z, sampled}
use Rattle.walk.proofs.Demand.Pieces.{whole_width_sound}

module _ {b : RadialBand} (B : InLimit b) where
  sample_z_finite : {n : ℕ} → Intervals n → (i : ℕ) → i ≤ n → Finite 23 (sample_z b n i)
  sample_z_finite N i h =
      let w = whole_width_sound B in
      add_finite w.z0 (mul_finite (sub_finite w.z1 w.z0 tt) (interval_finite N i h) tt) tt

  sample_at_at_most : {z : Float} → Finite 23 z → (j : ℕ) → VertexAtMost 23 (sample_vertex b z j)
  unfolding sample_vertex
  sample_at_at_most {z} Z j = record { z = finite_at_most Z; r = finite_at_most (finite_raise (chosen j) tt) }
    where
      r : SpanFinite (span_at b (half_width b z))
      r = span_at_finite B (half_width_finite B Z)

      chosen : (j : ℕ) → Finite 22 (sample_vertex b z j).r
      chosen zero = r.lo
      chosen (suc zero) = r.hi
      chosen (suc (suc j)) = half_finite (add_finite r.lo r.hi tt) tt

  pub sampled_best : {s : List Float} → VerticesAtMost 23 s → {n : ℕ} → Intervals n → BestAtMost 27 (count s) (sampled s b n)
  unfolding sampled
  sampled_best {s} S {n} N =
      upto_keeps (BestAtMost 27 (count s)) (λ i best. nearest_of (λ j. point_distance s (sample_vertex b (sample_z b n i) j)) best 3)
      (hit ∞ (on 0 (vertex b.zc 𝟘))) (suc n)
      (none_yet refl
      (record { z = finite_at_most (finite_raise B.zc tt); r = finite_at_most (zero_finite 25); edge = S.some }))
      (λ i l best A. upto_keeps (BestAtMost 27 (count s))
      (λ j best. nearer best (point_distance s (sample_vertex b (sample_z b n i) j))) best 3 A
      (λ j m c C. nearer_best C (point_best S (sample_at_at_most (sample_z_finite N i (le_of_suc-le-suc l)) j))))

pub sampled_number : (s : List Float) (b : RadialBand) (n : ℕ) → NumberHit (sampled s b n)
unfolding sampled
sampled_number s b n =
    upto_keeps NumberHit (λ i best. nearest_of (at i) best 3) (hit ∞ _) (suc n) infinite
    (λ i l x q. nearest_number (at i) x 3 q
    (λ j. number_held binary64 (at i j).distance (point_number s (sample_vertex b (sample_z b n i) j))))
  where
    at : ℕ → ℕ → CollisionHit
    at i j = point_distance s (sample_vertex b (sample_z b n i) j)
