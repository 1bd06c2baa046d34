-- For coordinates up to 2 ^ 23, the closest point of a segment, and of two segments, is at most 2 ^ 25, and its
-- distance 2 ^ 27: what divides is over 1e-24 or 1e-18, and what is clamped lies from 0 to 1.
use Prim.Native.Nat.{ℕ}
use mathlib.Core.Bool.{not, cond}
use lib.Dec.{T}
use lib.Ieee.{Float, neg}
use Rattle.arith.specs.F64.{◌⊕◌, ◌⊖◌, ◌⊗◌, ◌⊘◌, ◌≺◌, ◌≼◌, 𝟘, 𝟙, e_18, e_24}
use Rattle.arith.specs.Num.{abs}
use Rattle.arith.proofs.Laws.Quotients.{abs_over_e_18, div_finite, inside, InUnit, one_in_unit, over_e_24, zero_in_unit}
use Rattle.arith.proofs.Laws.Sizes.{add_finite, Finite, finite_raise, hypot_finite, mul_finite, neg_finite, sub_finite}
use Rattle.section.proofs.profile.Steps.{pick}
use Rattle.section.specs.segments.Segments.{along, apart, unit_clamp, closest, closest_places, closest_point, dot, minus, places, segments}
use Rattle.section.specs.declared.segments.shapes.Places.{Places}
use Rattle.section.specs.declared.profile.shapes.Edge.{Edge}
use Rattle.section.specs.declared.profile.shapes.Vertex.{Vertex}
use Rattle.section.proofs.Demand.Bounds.{add_at_most, finite_at_most}
use Rattle.section.proofs.Demand.Bounds.{sub_at_most}
use Rattle.section.proofs.Demand.Hits.{EdgeAtMost, HitAtMost, on_at_most, vertex_raise, VertexAtMost}

-- clamped to the part from 0 to 1
pub clamped : {n : ℕ} {t : Float} → Finite n t → InUnit (unit_clamp t)
clamped {t = t} X =
    pick InUnit (t ≺ 𝟘) (λ h. zero_in_unit) (λ h. pick InUnit (𝟙 ≺ t) (λ k. one_in_unit) (λ k. inside X h k))

-- the step from one vertex to another
pub record Difference (v : Vertex) : Type 0 where
  pub z : Finite 24 v.z
  pub r : Finite 24 v.r

pub minus_difference : {a b : Vertex} → VertexAtMost 23 a → VertexAtMost 23 b → Difference (minus a b)
minus_difference A C = record { z = sub_at_most A.z C.z tt; r = sub_at_most A.r C.r tt }

dot_finite : {a b : Vertex} → Difference a → Difference b → Finite 49 (dot a b)
dot_finite A C = add_finite (mul_finite A.z C.z tt) (mul_finite A.r C.r tt) tt

pub along_at_most : {a b : Vertex} {t : Float} → VertexAtMost 23 a → VertexAtMost 23 b → InUnit t → VertexAtMost 25 (along a b t)
along_at_most A C t =
    let d = minus_difference C A in
    record {
      z = finite_at_most (add_at_most A.z (finite_at_most (mul_finite d.z t.most tt)) tt);
      r = finite_at_most (add_at_most A.r (finite_at_most (mul_finite d.r t.most tt)) tt);
    }

apart_finite : {a b : Vertex} → VertexAtMost 25 a → VertexAtMost 25 b → Finite 27 (apart a b)
apart_finite A C = hypot_finite (sub_at_most A.z C.z tt) (sub_at_most A.r C.r tt) tt

-- ---- a point and a segment
point_at_most : {p a b : Vertex} → VertexAtMost 23 p → VertexAtMost 23 a → VertexAtMost 23 b → VertexAtMost 25 (closest_point p a b)
unfolding closest_point
point_at_most {p} {a} {b} P A C =
    pick (VertexAtMost 25) (dot d d ≼ e_24) (λ h. vertex_raise A tt)
    (λ h. along_at_most A C (clamped (div_finite (dot_finite (minus_difference P A) D) len2 (over_e_24 len2 h) tt tt)))
  where
    d : Vertex
    d = minus b a

    D : Difference d
    D = minus_difference C A

    len2 : Finite 49 (dot d d)
    len2 = dot_finite D D

pub closest_at_most : {m : ℕ} {p : Vertex} {e : Edge} → VertexAtMost 23 p → EdgeAtMost 23 m e → HitAtMost 27 m (closest p e)
unfolding closest
closest_at_most P E =
    let at = point_at_most P E.a E.b in
    record { distance = apart_finite (vertex_raise P tt) at; witness = on_at_most E.number at }

-- ---- two segments
pub record PlacesInUnit (p : Places) : Type 0 where
  pub s : InUnit p.s
  pub t : InUnit p.t

module _ {a b c e f : Float}
    (A : Finite 49 a) (B : Finite 49 b) (C : Finite 49 c) (E : Finite 49 e) (F : Finite 49 f) where
  closest_places_in_unit : PlacesInUnit (closest_places a b c e f)
  unfolding closest_places
  closest_places_in_unit =
      pick PlacesInUnit (a ≼ e_24)
      (λ g. pick PlacesInUnit (e ≼ e_24) (λ h. record { s = zero_in_unit; t = zero_in_unit })
      (λ h. record { s = zero_in_unit; t = clamped (by_e h (finite_raise F tt)) }))
      (λ g. pick PlacesInUnit (e ≼ e_24) (λ h. first_end g)
      (λ h. pick PlacesInUnit (t ≺ 𝟘) (λ k. first_end g)
      (λ k. pick PlacesInUnit (𝟙 ≺ t) (λ l. record { s = clamped (by_a g (sub_finite B C tt)); t = one_in_unit })
      (λ l. record { s = s_in_unit; t = inside (by_e h (add_finite (mul_finite B s_in_unit.most tt) F tt)) k l }))))
    where
      den : Float
      den = a ⊗ e ⊖ b ⊗ b

      s : Float
      s = cond (e_18 ≺ abs den) (unit_clamp ((b ⊗ f ⊖ c ⊗ e) ⊘ den)) 𝟘

      t : Float
      t = (b ⊗ s ⊕ f) ⊘ e

      den_finite : Finite 99 den
      den_finite = sub_finite (mul_finite A E tt) (mul_finite B B tt) tt

      num_finite : Finite 99 (b ⊗ f ⊖ c ⊗ e)
      num_finite = sub_finite (mul_finite B F tt) (mul_finite C E tt) tt

      s_in_unit : InUnit s
      s_in_unit =
          pick InUnit (e_18 ≺ abs den)
          (λ h. clamped (div_finite num_finite den_finite (abs_over_e_18 den_finite h) tt tt)) (λ h. zero_in_unit)

      by_a : T (not (a ≼ e_24)) → {x : Float} → Finite 50 x → Finite 130 (x ⊘ a)
      by_a g X = div_finite X A (over_e_24 A g) tt tt

      by_e : T (not (e ≼ e_24)) → {x : Float} → Finite 50 x → Finite 130 (x ⊘ e)
      by_e h X = div_finite X E (over_e_24 E h) tt tt

      first_end : T (not (a ≼ e_24)) → PlacesInUnit (places (unit_clamp (neg c ⊘ a)) 𝟘)
      first_end g = record { s = clamped (by_a g (finite_raise (neg_finite C) tt)); t = zero_in_unit }

pub segments_at_most : {m : ℕ} {edge : Edge} {q q' : Vertex} → EdgeAtMost 23 m edge → VertexAtMost 23 q → VertexAtMost 23 q'
    → HitAtMost 27 m (segments edge q q')
unfolding segments
segments_at_most X Q Q' =
    let P = X.a in
    let P' = X.b in
    let d = minus_difference P' P in
    let d' = minus_difference Q' Q in
    let r = minus_difference P Q in
    let a = dot_finite d d in
    let b = dot_finite d d' in
    let c = dot_finite d r in
    let e = dot_finite d' d' in
    let f = dot_finite d' r in
    let at = closest_places_in_unit a b c e f in
    let first = along_at_most P P' at.s in
    record { distance = apart_finite first (along_at_most Q Q' at.t); witness = on_at_most X.number first }
