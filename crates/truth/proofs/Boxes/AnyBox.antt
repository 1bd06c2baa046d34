-- EVERY BOX. A box's point lies no farther than a thin length from a side that is not thin: what is true of that side is true of
-- the box but for the thin length. Where both lengths are thin, one side tells the distance of a corner, or else the edge's first
-- end lies beside both sides: then it is all but in the box, and so is what was reported. H₀ is the length from which a side is
-- not thin.
use Prim.Native.Nat.{◌*◌, ◌+◌, ◌-◌, ◌<◌, ◌^◌, ℕ, ◌≤◌}
use mathlib.Core.Logic.{inl, inr, ◌⊎◌}
use mathlib.Core.Path.{◌≡◌, refl}
use native.Mathlib.Nat.{le_refl, le_trans, mul-le-mul_left}
use native.Mathlib.Omega.{arith}
use lib.Dec.{leb→le}
use Rattle.arith.proofs.roots.Numbers.{decide}
use Rattle.arith.proofs.Laws.Sizes.{K, M}
use Rattle.section.specs.profile.Vertices.{vertex_at}
use Rattle.section.specs.declared.profile.shapes.Aabb.{Aabb}
use Rattle.section.specs.declared.profile.shapes.Edge.{Edge}
use Rattle.section.specs.boxes.Boxes.{corners, edge_box}
use Rattle.arith.specs.Whole.{apart}
use Rattle.truth.proofs.Points.Closest.{Within}
use Rattle.truth.proofs.Boxes.Lengths.{Coarse, Scale, Slim}
use Rattle.truth.proofs.Boxes.Beside.{by_corner, FromCorner}
use Rattle.truth.proofs.Boxes.EdgeBox.{BoxFar, Boxed, by_sides, corner_at, far_less, far_none, far_turned, from_clear}
use Rattle.truth.proofs.Boxes.EdgeBox.{In, low_r, low_z, on_turned, side, wide_clear}
use Rattle.truth.proofs.Boxes.Floats.{H}
use Rattle.truth.proofs.Boxes.FromCorner.{far_moved, far_moved_r, from_corner_of, within_length}
use Rattle.truth.proofs.Boxes.Outline.{Far, OnEdge}
use Rattle.truth.proofs.Boxes.Segments.{segments_seen_r, segments_seen_z}
use Rattle.truth.proofs.Boxes.Sides.{of_end, of_first, of_last, of_side, Seen}

pub box_far_less : (v w : ℕ) (edge : Edge) (x : Aabb) → v ≤ w → BoxFar w edge x → BoxFar v edge x
box_far_less v w edge x l f = record {
  proof = λ n E F p m z r z0 z1 r0 r1. far_less v w n E F m z r l
      (f.proof n E F p m z r z0 z1 r0 r1);
}

-- what is true of a corner, in the outline's form
corner_far : (δ w A B Q a b q : ℕ) → FromCorner δ w A B Q a b q → (n E F m : ℕ) → OnEdge A B a b n E F
    → Far (w - δ) n E F m (m * Q) (m * q)
corner_far δ w A B Q a b q c n E F m p = rw (p.parts, p.first, p.second)
    (by_corner (p.i + p.j) m (w - δ) (p.j * A + p.i * B) Q (p.j * a + p.i * b) q (m * q) (c.proof p.i p.j)
    (le_refl _))

module _ (e : ℕ) (slim : Slim e (2 ^ 600)) (edge : Edge) (x : Aabb) (P : Within e edge.a) (P' : Within e edge.b)
    (X : Boxed e x)
    (z_order : K x.z0 ≤ K x.z1) (r_order : K x.r0 ≤ K x.r1) (ε : ℕ) (ε⁺ : 1024 * (H * 2 ^ e * 2 ^ e) ≤ ε * ε)
    (w : ℕ) (l : (k : ℕ) → k < 4 → w ≤ K (side e slim.most edge x P P' X k).distance - M) where
  abbrev η : ℕ
  η = ε + 365 * 2 ^ e

  abbrev hz : ℕ
  hz = apart (K x.z1) (K x.z0)

  abbrev hr : ℕ
  hr = apart (K x.r1) (K x.r0)

  -- ---- one length thin
  pub thin_z : Coarse e hr → BoxFar (w - η - hz) edge x
  thin_z wide = record {
    proof = λ n E F p m z r z0 z1 r0 r1. far_moved (w - η) hz n E F m z (m * K x.z0) r
        (within_length m _ _ z _ z0 z1 (inl refl))
        (low_z e slim.most edge x P P' X ε ε⁺ w l wide n E F m r p r0 r1);
  }

  pub thin_r : Coarse e hz → BoxFar (w - η - hr) edge x
  thin_r wide = record {
    proof = λ n E F p m z r z0 z1 r0 r1. far_moved_r (w - η) hr n E F m z r (m * K x.r0)
        (within_length m _ _ r _ r0 r1 (inl refl))
        (low_r e slim.most edge x P P' X ε ε⁺ w l wide n E F m z p z0 z1);
  }

  -- ---- both: a corner
  abbrev Both : Type 0
  Both = BoxFar (w - η - hz - hr) edge x

  down_side : (k : ℕ) → k < 4 → w - η ≤ K (side e slim.most edge x P P' X k).distance - M -
      (ε + (64 * (4 * 2 ^ e) + 109 * 2 ^ e))
  down_side k h = go w (K (side e slim.most edge x P P' X k).distance - M) ε (2 ^ e) (l k h)
    where
      go : (a b ε u : ℕ) → a ≤ b → a - (ε + 365 * u) ≤ b - (ε + (64 * (4 * u) + 109 * u))
      go a b ε u h = omega arith

  down_corner : (k : ℕ) → k < 4 → w - η ≤ K (side e slim.most edge x P P' X k).distance - M - 64 * (4 * 2 ^ e)
  down_corner k h = go w (K (side e slim.most edge x P P' X k).distance - M) ε (2 ^ e) (l k h)
    where
      go : (a b ε u : ℕ) → a ≤ b → a - (ε + 365 * u) ≤ b - 64 * (4 * u)
      go a b ε u h = omega arith

  -- the edge's first end is beside both sides
  beside_both : w ≤ apart (K edge.a.r) (K x.r0) + 109 * 2 ^ e → apart (K edge.a.r) (K x.r0) ≤ hr + 51 * 2 ^ e → Both
  beside_both a b = record {
    proof = λ n E F p m z r z0 z1 r0 r1. far_none _ n E F m z r (go w (apart (K edge.a.r) (K x.r0)) ε (2 ^ e) hz hr a b);
  }
    where
      go : (w y ε u hz hr : ℕ) → w ≤ y + 109 * u → y ≤ hr + 51 * u → w - (ε + 365 * u) - hz - hr ≡ 0
      go w y ε u hz hr a b = let h : w ≤ ε + 365 * u + hz + hr = omega arith in omega arith

  -- the side along r, from (z1, r0) to (z1, r1)
  by_second : w ≤ apart (K edge.a.r) (K x.r0) + 109 * 2 ^ e
      → Seen (ε + (64 * (4 * 2 ^ e) + 109 * 2 ^ e)) (64 * (4 * 2 ^ e)) (2 ^ e)
      (K (side e slim.most edge x P P' X 1).distance - M)
      (K edge.a.z) (K edge.b.z) (K x.z1) (K edge.a.r) (K edge.b.r) (K x.r0) (K x.r1) → Both
  by_second a (of_side c) = from_corner_of edge x (w - η) (K x.z1) (K x.r0) (inr refl) (inl refl)
      (λ n E F m p. far_less _ _ n E F m _ _ (down_side 1 (leb→le _ _ tt))
      (from_clear _ _ _ _ _ _ _ _ _ c n E F m (m * K x.r0) p (inl (le_refl _, mul-le-mul_left m r_order))))
  by_second a (of_first c) = from_corner_of edge x (w - η) (K x.z1) (K x.r0) (inr refl) (inl refl)
      (λ n E F m p. far_less _ _ n E F m _ _ (down_corner 1 (leb→le _ _ tt))
      (corner_far _ _ _ _ _ _ _ _ c n E F m p))
  by_second a (of_last c) = from_corner_of edge x (w - η) (K x.z1) (K x.r1) (inr refl) (inr refl)
      (λ n E F m p. far_less _ _ n E F m _ _ (down_corner 1 (leb→le _ _ tt))
      (corner_far _ _ _ _ _ _ _ _ c n E F m p))
  by_second a (of_end b c) = beside_both a b

  -- the side along z, from (z0, r0) to (z1, r0)
  by_first : Seen (ε + (64 * (4 * 2 ^ e) + 109 * 2 ^ e)) (64 * (4 * 2 ^ e)) (2 ^ e)
      (K (side e slim.most edge x P P' X 0).distance - M)
      (K edge.a.r) (K edge.b.r) (K x.r0) (K edge.a.z) (K edge.b.z) (K x.z0) (K x.z1) → Both
  by_first (of_side c) = from_corner_of edge x (w - η) (K x.z0) (K x.r0) (inl refl) (inl refl)
      (λ n E F m p. far_turned _ n F E m _ _ (far_less _ _ n F E m _ _ (down_side 0 (leb→le _ _ tt))
      (from_clear _ _ _ _ _ _ _ _ _ c n F E m (m * K x.z0) (on_turned p) (inl (le_refl _, mul-le-mul_left m z_order)))))
  by_first (of_first c) = from_corner_of edge x (w - η) (K x.z0) (K x.r0) (inl refl) (inl refl)
      (λ n E F m p. far_turned _ n F E m _ _ (far_less _ _ n F E m _ _ (down_corner 0 (leb→le _ _ tt))
      (corner_far _ _ _ _ _ _ _ _ c n F E m (on_turned p))))
  by_first (of_last c) = from_corner_of edge x (w - η) (K x.z1) (K x.r0) (inr refl) (inl refl)
      (λ n E F m p. far_turned _ n F E m _ _ (far_less _ _ n F E m _ _ (down_corner 0 (leb→le _ _ tt))
      (corner_far _ _ _ _ _ _ _ _ c n F E m (on_turned p))))
  by_first (of_end b c) = by_second (le_trans (l 0 (leb→le _ _ tt)) c)
      (segments_seen_r e edge (vertex_at (corners x) 1) (vertex_at (corners x) 2) P P' (corner_at X.z1 X.r0)
      (corner_at X.z1 X.r1) ε ε⁺ refl slim)

  pub thin_both : Both
  thin_both = by_first
      (segments_seen_z e edge (vertex_at (corners x) 0) (vertex_at (corners x) 1) P P' (corner_at X.z0 X.r0)
      (corner_at X.z1 X.r0) ε ε⁺ refl slim)

-- AN EDGE AND A BOX, whatever their lengths
module _ (e H₀ : ℕ) (scale : Scale e H₀) (edge : Edge) (x : Aabb) (P : Within e edge.a) (P' : Within e edge.b)
    (X : Boxed e x)
    (z_order : K x.z0 ≤ K x.z1) (r_order : K x.r0 ≤ K x.r1) (ε : ℕ) (ε⁺ : 1024 * (H * 2 ^ e * 2 ^ e) ≤ ε * ε) where
  abbrev loss : ℕ
  loss = ε + 365 * 2 ^ e + 2 * H₀

  abbrev Hz : ℕ
  Hz = apart (K x.z1) (K x.z0)

  abbrev Hr : ℕ
  Hr = apart (K x.r1) (K x.r0)

  pub edge_box_true : BoxFar (K (edge_box x edge).distance - M - loss) edge x
  edge_box_true = by_sides e scale.slim.most edge x P P' X loss (λ w l c. whichever w l c (decide H₀ Hz) (decide H₀ Hr))
    where
      whole : (w η h : ℕ) → w - (η + 2 * h) ≤ w - η
      whole w η h = omega arith

      less : (w η h g : ℕ) → g < h → w - (η + 2 * h) ≤ w - η - g
      less w η h g l = omega arith

      less_both : (w η h g k : ℕ) → g < h → k < h → w - (η + 2 * h) ≤ w - η - g - k
      less_both w η h g k l m = omega arith

      whichever : (w : ℕ) → ((k : ℕ) → k < 4 → w ≤ K (side e scale.slim.most edge x P P' X k).distance - M)
          → (In e scale.slim.most edge x P P' X edge.a → In e scale.slim.most edge x P P' X edge.b → ⊥)
          → (H₀ ≤ Hz) ⊎ (Hz < H₀) → (H₀ ≤ Hr) ⊎ (Hr < H₀) → BoxFar (w - loss) edge x
      whichever w l c (inl a) (inl b) = box_far_less _ _ edge x (whole w (ε + 365 * 2 ^ e) H₀)
          (wide_clear e scale.slim.most edge x P P' X ε ε⁺ w l c (record { z = scale.coarse Hz a; r = scale.coarse Hr b }))
      whichever w l c (inl a) (inr b) = box_far_less _ _ edge x (less w (ε + 365 * 2 ^ e) H₀ Hr b)
          (thin_r e scale.slim edge x P P' X z_order r_order ε ε⁺ w l (scale.coarse Hz a))
      whichever w l c (inr a) (inl b) = box_far_less _ _ edge x (less w (ε + 365 * 2 ^ e) H₀ Hz a)
          (thin_z e scale.slim edge x P P' X z_order r_order ε ε⁺ w l (scale.coarse Hr b))
      whichever w l c (inr a) (inr b) = box_far_less _ _ edge x (less_both w (ε + 365 * 2 ^ e) H₀ Hz Hr a b)
          (thin_both e scale.slim edge x P P' X z_order r_order ε ε⁺ w l)
