-- 01's clip (Liang-Barsky).
use Rattle.std.specs.Prelude.{cond, Option, None, Some, Float}
use Rattle.std.specs.Option.{option_and_then}
use Rattle.std.specs.Float.Ieee.{neg}
use Rattle.arith.specs.F64.{◌⊖◌, ◌⊘◌, ◌≺◌, ◌≼◌, 𝟘, 𝟙, e_15, e_18}
use Rattle.arith.specs.Num.{abs}
use Rattle.section.specs.declared.profile.shapes.Aabb.{Aabb}
use Rattle.section.specs.declared.profile.shapes.Vertex.{Vertex}
use Rattle.section.specs.segments.Segments.{minus}
use Rattle.section.specs.declared.segments.shapes.Part.{Part}

abbrev pub part : Float → Float → Part
part t0 t1 = record { t0 = t0; t1 = t1 }

-- One side of the box cuts what is left of the segment: p is how fast the segment leaves that side, q how far inside it begins.
-- |p| ≤ 1e-18 counts as parallel and is outside if q < -1e-15.
unfoldable pub clip_side : Float → Float → Part → Option Part
clip_side p q c =
    let t = q ⊘ p in
    cond (abs p ≼ e_18) (cond (q ≺ neg e_15) None (Some c))
    (cond (p ≺ 𝟘)
    (cond (c.t1 ≺ t) None (cond (c.t0 ≺ t) (Some (part t c.t1)) (Some c)))
    (cond (t ≺ c.t0) None (cond (t ≺ c.t1) (Some (part c.t0 t)) (Some c))))

-- a part that ends before it begins is none
abbrev pub in_order : Part → Option Part
in_order c = cond (c.t1 ≺ c.t0) None (Some c)

-- 01's clip: the part of the segment from a to b that the box holds, None where it holds none
unfoldable pub clip : Aabb → Vertex → Vertex → Option Part
clip x a b =
    let d = minus b a in
    let c₁ = clip_side (neg d.z) (a.z ⊖ x.z0) (part 𝟘 𝟙) in
    let c₂ = option_and_then (clip_side d.z (x.z1 ⊖ a.z)) c₁ in
    let c₃ = option_and_then (clip_side (neg d.r) (a.r ⊖ x.r0)) c₂ in
    let c₄ = option_and_then (clip_side d.r (x.r1 ⊖ a.r)) c₃ in
    option_and_then in_order c₄
