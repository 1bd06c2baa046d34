-- For coordinates up to 2 ^ 23, the clip of a segment runs from 0 to 1, and an edge's distance from a box is bounded as
-- that of two segments.
use Prim.Native.Nat.{ℕ}
use mathlib.Core.Bool.{not}
use mathlib.Core.Path.{◌≡◌, refl, subst}
use native.Mathlib.Nat.{le_of_lt}
use lib.Dec.{T, leb→le}
use lib.Ieee.{Float, neg}
use Rattle.std.specs.Prelude.{Option, None, Some}
use Rattle.std.specs.Option.{option_and_then}
use Rattle.arith.specs.F64.{◌⊘◌, ◌≺◌, ◌≼◌, 𝟘, 𝟙, ∞, e_15, e_18}
use Rattle.arith.specs.Num.{abs}
use Rattle.arith.proofs.Laws.Quotients.{abs_not_e_18, between, div_finite, InUnit, one_in_unit, zero_in_unit}
use Rattle.arith.proofs.Laws.SizedOrder.{below_key, not_below_key}
use Rattle.arith.proofs.Laws.Sizes.{Finite, neg_finite, zero_finite}
use Rattle.section.proofs.profile.Steps.{pick, pick_some}
use Rattle.section.specs.segments.Clip.{clip, clip_side, part}
use Rattle.section.specs.boxes.Boxes.{corners, edge_box}
use Rattle.section.specs.segments.Segments.{segments}
use Rattle.section.specs.profile.Vertices.{end_at, hit, on, vertex_at}
use Rattle.section.specs.declared.profile.shapes.Aabb.{Aabb}
use Rattle.section.specs.declared.segments.shapes.Part.{Part}
use Rattle.section.specs.declared.profile.shapes.Edge.{Edge}
use Rattle.section.specs.declared.profile.shapes.Vertex.{Vertex}
use Rattle.section.proofs.Demand.Bounds.{sub_at_most}
use Rattle.section.proofs.Demand.Hits.{BoxAtMost, corners_at_most, EdgeAtMost, end_at_at_most, HitAtMost, nearest_hit}
use Rattle.section.proofs.Demand.Hits.{none_yet, on_at_most, vertex_raise, vertex_at_at_most, VertexAtMost}
use Rattle.section.proofs.Demand.Segments.{along_at_most, minus_difference, segments_at_most}

pub record PartInUnit (c : Part) : Type 0 where
  pub t0 : InUnit c.t0
  pub t1 : InUnit c.t1

-- what is left, if there is any
abbrev pub ClipInUnit : Option Part → Type 0
ClipInUnit None = Unit
ClipInUnit (Some c) = PartInUnit c

-- the new end lies between the two that were
module _ {p q : Float} (c : Part) (P : Finite 24 p) (Q : Finite 24 q) (C : PartInUnit c) where
  clip_side_in_unit : ClipInUnit (clip_side p q c)
  unfolding clip_side
  clip_side_in_unit =
      pick ClipInUnit (abs p ≼ e_18) (λ h. pick ClipInUnit (q ≺ neg e_15) (λ k. tt) (λ k. C))
      (λ h. pick ClipInUnit (p ≺ 𝟘)
      (λ k. pick ClipInUnit (c.t1 ≺ t) (λ l. tt)
      (λ l. pick ClipInUnit (c.t0 ≺ t) (entering h l) (λ m. C)))
      (λ k. pick ClipInUnit (t ≺ c.t0) (λ l. tt)
      (λ l. pick ClipInUnit (t ≺ c.t1) (leaving h l) (λ m. C))))
    where
      t : Float
      t = q ⊘ p

      X : T (not (abs p ≼ e_18)) → Finite 84 t
      X h = div_finite Q P (abs_not_e_18 P h) tt tt

      entering : T (not (abs p ≼ e_18)) → T (not (c.t1 ≺ t)) → T (c.t0 ≺ t) → PartInUnit (part t c.t1)
      entering h l m =
          let over = le_of_lt (below_key C.t0.most (X h) m) in
          let under = not_below_key C.t1.most (X h) l in
          record { t0 = between (X h) C.t0 C.t1 over under; t1 = C.t1 }

      leaving : T (not (abs p ≼ e_18)) → T (not (t ≺ c.t0)) → T (t ≺ c.t1) → PartInUnit (part c.t0 t)
      leaving h l m =
          let over = not_below_key (X h) C.t0.most l in
          let under = le_of_lt (below_key (X h) C.t1.most m) in
          record { t0 = C.t0; t1 = between (X h) C.t0 C.t1 over under }

then_in_unit : (f : Part → Option Part) (o : Option Part) → ((c : Part) → PartInUnit c → ClipInUnit (f c)) → ClipInUnit o
    → ClipInUnit (option_and_then f o)
then_in_unit f None h C = tt
then_in_unit f (Some c) h C = h c C

clip_in_unit : {x : Aabb} {a b : Vertex} → BoxAtMost 23 x → VertexAtMost 23 a → VertexAtMost 23 b → ClipInUnit (clip x a b)
unfolding clip
clip_in_unit X A B =
    let d = minus_difference B A in
    let c₁ = clip_side_in_unit (part 𝟘 𝟙) (neg_finite d.z) (sub_at_most A.z X.z0 tt) whole in
    let c₂ = then_in_unit _ _ (λ c C. clip_side_in_unit c d.z (sub_at_most X.z1 A.z tt) C) c₁ in
    let c₃ = then_in_unit _ _ (λ c C. clip_side_in_unit c (neg_finite d.r) (sub_at_most A.r X.r0 tt) C) c₂ in
    let c₄ = then_in_unit _ _ (λ c C. clip_side_in_unit c d.r (sub_at_most X.r1 A.r tt) C) c₃ in
    then_in_unit _ _ (λ c C. pick ClipInUnit (c.t1 ≺ c.t0) (λ h. tt) (λ h. C)) c₄
  where
    whole : PartInUnit (part 𝟘 𝟙)
    whole = record { t0 = zero_in_unit; t1 = one_in_unit }

-- ---- an edge and a box
pub edge_box_at_most : {m : ℕ} {x : Aabb} {e : Edge} → BoxAtMost 23 x → EdgeAtMost 23 m e → HitAtMost 27 m (edge_box x e)
unfolding edge_box
edge_box_at_most {m} {x} {e} X E =
    let s = corners_at_most X in
    pick_some (HitAtMost 27 m) (clip x e.a e.b)
    (λ c h. record { distance = zero_finite 27; witness = on_at_most E.number (along_at_most E.a E.b (held c h).t0) })
    (λ h. nearest_hit (λ k. segments e (vertex_at (corners x) k) (end_at (corners x) k)) (hit ∞ (on e.number e.a)) 4
    (leb→le 1 4 tt) (λ k l. segments_at_most E (vertex_at_at_most s k l) (end_at_at_most s k l))
    (none_yet refl (on_at_most E.number (vertex_raise E.a tt))))
  where
    held : (c : Part) → clip x e.a e.b ≡ Some c → PartInUnit c
    held c h = subst ClipInUnit h (clip_in_unit X E.a E.b)
