-- A point inside the section is as deep as its nearest edge is far, if that is finite and above 1e-12; and no deeper than the
-- best so far where some edge is as near as that is deep. By the order of keys: negation turns it about.
use Prim.Native.Nat.{ℕ, ◌<◌}
use native.Mathlib.Omega.{arith}
use mathlib.Core.Bool.{Bool, true, false, not, cond}
use mathlib.Core.List.{List}
use mathlib.Core.Path.{◌≡◌, refl, subst, sym, ◌∙◌}
use borrow.Author.Tests.{le-ltb, not-true}
use lib.Dec.{T}
use lib.Ieee.{Float, binary64, neg, of_bits}
use Rattle.arith.proofs.roots.Rounding.Key.{key}
use Rattle.arith.proofs.roots.Rounding.KeyOrder.{le→key, lt_key, nlt→key}
use Rattle.arith.proofs.roots.Rounding.Sum.{neg_key}
use Rattle.arith.specs.F64.{◌≺◌, ◌≼◌, 𝟘, ∞, e_12}
use Rattle.arith.specs.Num.{is_finite}
use Rattle.arith.proofs.Laws.Extended.{neg_number}
use Rattle.arith.proofs.Laws.OrderHeld.{T→true, true→T, held_number, inf_not_less, le_left, number_held}
use Rattle.arith.proofs.Laws.Sizes.{Number}
use Rattle.arith.proofs.Laws.Upright.{not_below}
use Rattle.section.specs.profile.Vertices.{count, edge_at, hit, nearer}
use Rattle.section.specs.declared.profile.shapes.CollisionHit.{CollisionHit}
use Rattle.section.specs.declared.profile.shapes.Vertex.{Vertex}
use Rattle.section.proofs.profile.Nearest.{first_number, none_nearer}
use Rattle.section.proofs.profile.Numbers.{Held, infinite}
use Rattle.section.proofs.profile.Steps.{pick}
use Rattle.section.proofs.segments.Held.{closest_held}
use Rattle.section.specs.points.Points.{in_section, point_distance, surface_near, surface_step}
use Rattle.section.specs.points.Steps.{no_edge}
use Rattle.section.proofs.points.Edges.{closest_on, counts}

-- d is not above e, which is at most -b: so -d is not below b
not_deeper : (b d e : Float) → Number b → Number d → Number e
    → (e ≼ neg b) ≡ true → (e ≺ d) ≡ false → (neg d ≺ b) ≡ false
not_deeper b d e B D E p q =
    lt_key binary64 (neg d) b (neg_number binary64 d D) B ∙ le-ltb (key binary64 (neg d)) (key binary64 b)
    (omega (
      arith,
      le→key binary64 e (neg b) E (neg_number binary64 b B) (true→T p),
      nlt→key binary64 e d E D (is_not q),
      neg_key binary64 b B,
      neg_key binary64 d D,
    ))
  where
    is_not : {t : Bool} → t ≡ false → T (not t)
    is_not h = subst (λ (t : Bool). T (not t)) (sym h) tt

module _ (s : List Float) (p : Vertex) where
  abbrev near : Float
  near = (surface_near s p).distance

  near_number : Number near
  unfolding surface_near surface_step
  near_number = first_number (counts s) (closest_on s p) (no_edge s) infinite (λ k. closest_held p (edge_at s k)) (count s)

  -- edge k alone is not nearer than the nearest
  module _ (k : ℕ) (l : k < count s) where
    first_held : Held (surface_step s p k (no_edge s))
    unfolding surface_step
    first_held =
        pick Held (counts s k)
        (λ c. pick Held ((closest_on s p k).distance ≺ ∞)
        (λ h. closest_held p (edge_at s k)) (λ h. number_held binary64 ∞ infinite))
        (λ c. number_held binary64 ∞ infinite)

    first_not_nearer : ((surface_step s p k (no_edge s)).distance ≺ near) ≡ false
    unfolding surface_near surface_step
    first_not_nearer =
        pick (λ (h : CollisionHit). (h.distance ≺ near) ≡ false) (counts s k)
        (λ c. pick (λ (h : CollisionHit). (h.distance ≺ near) ≡ false) ((closest_on s p k).distance ≺ ∞)
        (λ h. not-true _ (T→true _ (none_nearer (counts s) (closest_on s p) (no_edge s) infinite
        (λ j. closest_held p (edge_at s j)) (count s) k l c)))
        (λ h. inf_not_less near))
        (λ c. inf_not_less near)

  module _ (i : in_section s p ≡ true) (best : CollisionHit) (low : (best.distance ≼ 𝟘) ≡ true) where
    -- 0, -d where d is over 1e-12, or +infinity
    kept : (d : Float) → (neg d ≺ best.distance) ≡ false → (t u : Bool)
        → (cond t (cond u 𝟘 (neg d)) ∞ ≺ best.distance) ≡ false
    unfolding of_bits
    kept d n true true = not_below 𝟘 best.distance tt low
    kept d n true false = n
    kept d n false u = not_below ∞ best.distance tt low

    -- edge k is as near as the best is deep
    pub no_deeper : (k : ℕ) → k < count s → Held best → {first : CollisionHit} → first ≡ surface_step s p k (no_edge s)
        → (first.distance ≼ neg best.distance) ≡ true → best ≡ nearer best (point_distance s p)
    unfolding point_distance
    no_deeper k l B f h =
        let first = surface_step s p k (no_edge s) in
        let h' = subst (λ (x : CollisionHit). (x.distance ≼ neg best.distance) ≡ true) f h in
        let N = held_number binary64 best.distance B (le_left best.distance 𝟘 low) in
        let E = held_number binary64 first.distance (first_held k l) (le_left first.distance _ h') in
        let n = not_deeper best.distance near first.distance N near_number E h' (first_not_nearer k l) in
        rw (i, kept near n (is_finite near) (near ≼ e_12))

    -- all edges: not finite, on the boundary, or deep
    pub nothing_near : {h : CollisionHit} → h ≡ surface_near s p → is_finite h.distance ≡ false
        → best ≡ nearer best (point_distance s p)
    unfolding point_distance of_bits
    nothing_near e f =
        let f' = subst (λ (x : CollisionHit). is_finite x.distance ≡ false) e f in
        rw (f', not_below ∞ best.distance tt low)

    pub on_boundary : {h : CollisionHit} → h ≡ surface_near s p → is_finite h.distance ≡ true
        → (h.distance ≼ e_12) ≡ true → best ≡ nearer best (point_distance s p)
    unfolding point_distance of_bits
    on_boundary e f g =
        let f' = subst (λ (x : CollisionHit). is_finite x.distance ≡ true) e f in
        let g' = subst (λ (x : CollisionHit). (x.distance ≼ e_12) ≡ true) e g in
        rw (f', g', not_below 𝟘 best.distance tt low)

    pub as_deep : {h : CollisionHit} → h ≡ surface_near s p → is_finite h.distance ≡ true
        → (h.distance ≼ e_12) ≡ false → nearer best (hit (neg h.distance) h.witness) ≡ nearer best (point_distance s p)
    unfolding point_distance
    as_deep e f g =
        let f' = subst (λ (x : CollisionHit). is_finite x.distance ≡ true) e f in
        let g' = subst (λ (x : CollisionHit). (x.distance ≼ e_12) ≡ false) e g in
        subst
        (λ (x : CollisionHit). nearer best (hit (neg x.distance) x.witness) ≡ nearer best (point_distance s p)) (sym e)
        (rw (f', g', i) refl)
