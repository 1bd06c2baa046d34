-- The closest point of a segment to a point, and of two segments (Ericson, Real-Time Collision Detection, 5.1.2 and 5.1.9), with
-- 01's thresholds 1e-24 and 1e-18.
use Rattle.std.specs.Prelude.{cond, Float}
use Rattle.std.specs.Float.{binary64}
use Rattle.std.specs.Float.Ieee.{neg}
use Rattle.arith.specs.F64.{◌⊕◌, ◌⊖◌, ◌⊗◌, ◌⊘◌, ◌≺◌, ◌≼◌, 𝟘, 𝟙, e_18, e_24}
use Rattle.arith.specs.Num.{abs, clamp}
use Rattle.arith.specs.roots.Roots.{hypot}
use Rattle.section.specs.profile.Vertices.{vertex, on, hit}
use Rattle.section.specs.declared.profile.shapes.Vertex.{Vertex}
use Rattle.section.specs.declared.profile.shapes.Edge.{Edge}
use Rattle.section.specs.declared.profile.shapes.CollisionHit.{CollisionHit}
use Rattle.section.specs.declared.segments.shapes.Places.{Places}

abbrev pub minus : Vertex → Vertex → Vertex
minus a b = vertex (a.z ⊖ b.z) (a.r ⊖ b.r)

abbrev pub dot : Vertex → Vertex → Float
dot a b = a.z ⊗ b.z ⊕ a.r ⊗ b.r

-- a + t (b - a)
abbrev pub along : Vertex → Vertex → Float → Vertex
along a b t = vertex (a.z ⊕ (b.z ⊖ a.z) ⊗ t) (a.r ⊕ (b.r ⊖ a.r) ⊗ t)

abbrev pub apart : Vertex → Vertex → Float
apart p q = hypot binary64 (p.z ⊖ q.z) (p.r ⊖ q.r)

abbrev pub unit_clamp : Float → Float
unit_clamp t = clamp t 𝟘 𝟙

-- 01's closest point: of the segment from a to b, the point closest to p. Squared length ≤ 1e-24 uses the first end.
unfoldable pub closest_point : Vertex → Vertex → Vertex → Vertex
closest_point p a b =
    let d = minus b a in
    cond (dot d d ≼ e_24) a (along a b (unit_clamp (dot (minus p a) d ⊘ dot d d)))

-- that of an edge is the witness
unfoldable pub closest : Vertex → Edge → CollisionHit
closest p e =
    let q = closest_point p e.a e.b in
    hit (apart p q) (on e.number q)

abbrev pub places : Float → Float → Places
places s t = record { s = s; t = t }

-- How far along two segments, s of the first and t of the second, they are closest. With d and d' their directions and r from the
-- second's first end to the first's: a = d·d, b = d·d', c = d·r, e = d'·d', f = d'·r, as Ericson names them. A segment of squared
-- length ≤ 1e-24 counts as its first end; |denominator| ≤ 1e-18 starts with s = 0.
unfoldable pub closest_places : Float → Float → Float → Float → Float → Places
closest_places a b c e f =
    let den = a ⊗ e ⊖ b ⊗ b in
    let s = cond (e_18 ≺ abs den) (unit_clamp ((b ⊗ f ⊖ c ⊗ e) ⊘ den)) 𝟘 in
    let t = (b ⊗ s ⊕ f) ⊘ e in
    let at_first_end = places (unit_clamp (neg c ⊘ a)) 𝟘 in
    let at_last_end = places (unit_clamp ((b ⊖ c) ⊘ a)) 𝟙 in
    cond (a ≼ e_24)
    (cond (e ≼ e_24) (places 𝟘 𝟘) (places 𝟘 (unit_clamp (f ⊘ e))))
    (cond (e ≼ e_24) at_first_end
    (cond (t ≺ 𝟘) at_first_end
    (cond (𝟙 ≺ t) at_last_end (places s t))))

-- 01's two segments: the point on the first, which is always the section's edge, is the witness
unfoldable pub segments : Edge → Vertex → Vertex → CollisionHit
segments edge q q' =
    let p = edge.a in
    let p'' = edge.b in
    let d = minus p'' p in
    let d' = minus q' q in
    let r = minus p q in
    let at = closest_places (dot d d) (dot d d') (dot d r) (dot d' d') (dot d' r) in
    let first = along p p'' at.s in
    hit (apart first (along q q' at.t)) (on edge.number first)
