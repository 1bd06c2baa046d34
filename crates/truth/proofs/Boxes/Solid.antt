-- FROM THE EDGES TO THE SOLID: where box distance is true of the section's edges, and one point of the box is outside, it is true
-- of the solid. No edge comes into the box, so by the crossing lemma all of the box is outside; and between a point of the box
-- and a point inside there is one of an edge, no farther away.
use Prim.Native.Nat.{◌*◌, ◌+◌, ◌-◌, ◌<◌, suc, zero, ℕ, ◌≤◌}
use mathlib.Core.Bool.{false}
use mathlib.Core.List.{List}
use mathlib.Core.Logic.{inl, inr, ◌⊎◌}
use mathlib.Core.Path.{◌≡◌, ap, refl, subst, sym, ◌∙◌}
use native.Mathlib.Nat.{le_of_mul-le-mul_left, mul_comm, mul-le-mul, mul-le-mul_left, mul-le-mul_right}
use native.Mathlib.Nat.{mul-pos, zero-lt-suc}
use native.Mathlib.Omega.{arith}
use lib.Dec.{T}
use lib.Ieee.{Float}
use Rattle.arith.specs.Whole.{apart}
use Rattle.section.specs.profile.Vertices.{end_at, vertex_at}
use Rattle.section.specs.declared.profile.shapes.Aabb.{Aabb}
use Rattle.section.specs.declared.profile.shapes.Vertex.{Vertex}
use Rattle.truth.specs.Exact.{NotOver, place, sqd}
use Rattle.truth.specs.Points.{between}
use Rattle.truth.specs.Solid.{exact_inside, vertex_inside}
use Rattle.truth.specs.Boxes.{ClearOfBox, InBox, InSolid, inside, on_edge, OnEdges}
use Rattle.truth.proofs.Points.Lagrange.{apart_split, sqd_is}
use Rattle.truth.proofs.Sides.Crossing.{Crossed, crossing_lemma}
use Rattle.truth.proofs.Sides.Solid.{scaled_exact, scaled_inside}

-- ---- one coordinate of a point t of the edge, which is N = i + j times it, on the segment from x / n to y / n
-- where the segment's ends are at least lo, and at most hi
module _ (n k N t x y : ℕ) (most : k ≤ N) (meets : n * t + k * (n * x) ≡ N * (n * x) + k * y) where
  above : (lo : ℕ) → lo ≤ x → n * lo ≤ y → n * (N * lo) ≤ n * t
  above lo h g = go (N - k) (let e : N ≡ k + (N - k) = omega arith in e)
    where
      go : (l : ℕ) → N ≡ k + l → n * (N * lo) ≤ n * t
      go l e = omega (
        arith,
        meets,
        ap (λ p. p * (n * x)) e,
        ap (λ p. p * (n * lo)) e,
        mul-le-mul_left (l * n) h,
        mul-le-mul_left k g,
      )

  below : (hi : ℕ) → x ≤ hi → y ≤ n * hi → n * t ≤ n * (N * hi)
  below hi h g = go (N - k) (let e : N ≡ k + (N - k) = omega arith in e)
    where
      go : (l : ℕ) → N ≡ k + l → n * t ≤ n * (N * hi)
      go l e = omega (
        arith,
        meets,
        ap (λ p. p * (n * x)) e,
        ap (λ p. p * (n * hi)) e,
        mul-le-mul_left (l * n) h,
        mul-le-mul_left k g,
      )

-- where the edge's point t / N is on the segment from Z / n to z / q, it is no farther from Z / n than z / q is
leg : (n q k N t Z z : ℕ) → k ≤ N → q * (n * t) + k * (q * Z) ≡ N * (q * Z) + k * (n * z)
    → q * apart (N * Z) (n * t) ≤ N * apart (q * Z) (n * z)
leg n q k N t Z z most e = go (apart (N * Z) (n * t)) (apart (q * Z) (n * z)) (apart_split (N * Z) (n * t))
    (apart_split (q * Z) (n * z))
  where
    go : (d f : ℕ) → (n * t ≡ N * Z + d) ⊎ (N * Z ≡ n * t + d) → (n * z ≡ q * Z + f) ⊎ (q * Z ≡ n * z + f) → q * d ≤ N * f
    go d f (inl p) (inl r) = omega (arith, e, ap (λ u. q * u) p, ap (λ u. k * u) r, mul-le-mul_right f most)
    go d f (inl p) (inr r) = omega (arith, e, ap (λ u. q * u) p, ap (λ u. k * u) r, mul-le-mul_right f most)
    go d f (inr p) (inl r) = omega (arith, e, ap (λ u. q * u) p, ap (λ u. k * u) r, mul-le-mul_right f most)
    go d f (inr p) (inr r) = omega (arith, e, ap (λ u. q * u) p, ap (λ u. k * u) r, mul-le-mul_right f most)

square : (n q k N t Z z : ℕ) → k ≤ N → q * (n * t) + k * (q * Z) ≡ N * (q * Z) + k * (n * z)
    → q * q * sqd (N * Z) (n * t) ≤ N * N * sqd (q * Z) (n * z)
unfolding sqd
square n q k N t Z z most e = go (apart (N * Z) (n * t)) (apart (q * Z) (n * z)) (leg n q k N t Z z most e)
  where
    go : (d f : ℕ) → q * d ≤ N * f → q * q * (d * d) ≤ N * N * (f * f)
    go d f l = omega (arith, mul-le-mul l l)

-- ---- the point of an edge that the crossing lemma finds
module _ (s : List Float) (n z r z' r' : ℕ) (c : Crossed s n z r z' r') where
  abbrev parts : ℕ
  parts = c.meets.i + c.meets.j

  abbrev at_z : ℕ
  at_z = between c.meets.i c.meets.j (vertex_at s c.edge).z (end_at s c.edge).z

  abbrev at_r : ℕ
  at_r = between c.meets.i c.meets.j (vertex_at s c.edge).r (end_at s c.edge).r

  on_it : OnEdges s parts at_z at_r
  on_it = record {
    k = c.edge;
    edge = c.below;
    i = c.meets.i;
    j = c.meets.j;
    parts = refl;
    at_z = refl;
    at_r = refl;
  }

-- ---- where box distance is true of the edges, and more than its error
module _ (ε w : ℕ) (s : List Float) (x : Aabb) (edges : ClearOfBox ε w x (OnEdges s)) (some : 0 < w - ε) where
  -- no point of an edge is in the box
  pub no_edge_inside : (n Z R : ℕ) → 0 < n → InBox x n Z R → OnEdges s n Z R → ⊥
  no_edge_inside n Z R n⁺ I O =
      go (n * n * (w - ε)) _ _ (mul-pos (mul-pos n⁺ n⁺) some) (same (n * Z)) (same (n * R)) (edges.proof n Z R n Z R I O)
    where
      same : (a : ℕ) → sqd a a ≡ 0
      same a = omega (arith, sqd_is a a)

      go : (v a b : ℕ) → 0 < v → a ≡ 0 → b ≡ 0 → v * v ≤ a + b → ⊥
      go v a b h e f l = omega (arith, mul-pos h h)

  -- all points of the box are on one side
  module _ (c : Vertex) (C : InBox x 1 (place c.z) (place c.r)) where
    pub same_side : (n Z R : ℕ) → 0 < n → InBox x n Z R → exact_inside s n Z R ≡ vertex_inside s c
    same_side n Z R n⁺ I = elim (crossing_lemma s n (n * place c.z) (n * place c.r) Z R) [
      | inl m ↦ absurd (no_edge_inside _ _ _ m.meets.some (met m) (on_it s n _ _ Z R m))
      | inr e ↦ sym e ∙ scaled_inside s n (place c.z) (place c.r) n⁺
    ]
      where
        one : {a b : ℕ} → 1 * a ≤ b → a ≤ b
        one h = omega arith

        to_one : {a b : ℕ} → a ≤ 1 * b → a ≤ b
        to_one h = omega arith

        along : (i j k a b y z : ℕ) → j * (n * a) + i * (n * b) + k * (n * y) ≡ (i + j) * (n * y) + k * z
            → n * (j * a + i * b) + k * (n * y) ≡ (i + j) * (n * y) + k * z
        along i j k a b y z h = omega arith

        met : (m : Crossed s n (n * place c.z) (n * place c.r) Z R)
            → InBox x (parts s n _ _ Z R m) (at_z s n _ _ Z R m) (at_r s n _ _ Z R m)
        met m =
            let M' = m.meets in
            let ez = along M'.i M'.j M'.k _ _ _ _ M'.same_z in
            let er = along M'.i M'.j M'.k _ _ _ _ M'.same_r in
            record {
              z_from = over (above n M'.k _ _ _ Z M'.most ez (place x.z0) (one C.z_from) I.z_from);
              z_to = over (below n M'.k _ _ _ Z M'.most ez (place x.z1) (to_one C.z_to) I.z_to);
              r_from = over (above n M'.k _ _ _ R M'.most er (place x.r0) (one C.r_from) I.r_from);
              r_to = over (below n M'.k _ _ _ R M'.most er (place x.r1) (to_one C.r_to) I.r_to);
            }
          where
            over : {a b : ℕ} → n * a ≤ n * b → a ≤ b
            over h = le_of_mul-le-mul_left h n⁺

    module _ (outside : vertex_inside s c ≡ false) where
      -- between a point of the box and a point inside there is a point of an edge
      far : (n Z R q z r : ℕ) → InBox x n Z R → Crossed s (n * q) (q * Z) (q * R) (n * z) (n * r) → 0 < q
          → NotOver ε w (n * q) (sqd (q * Z) (n * z) + sqd (q * R) (n * r))
      far n Z R q z r I m q⁺ =
          let M' = m.meets in
          go (M'.i + M'.j) (w - ε) _ _ _ _ M'.some
          (square n q M'.k (M'.i + M'.j) (at_z s _ _ _ _ _ m) Z z M'.most
          (along M'.i M'.j M'.k _ _ _ _ M'.same_z))
          (square n q M'.k (M'.i + M'.j) (at_r s _ _ _ _ _ m) R r M'.most
          (along M'.i M'.j M'.k _ _ _ _ M'.same_r))
          (edges.proof n Z R (M'.i + M'.j) _ _ I (on_it s _ _ _ _ _ m))
        where
          along : (i j k a b y z : ℕ) → j * (n * q * a) + i * (n * q * b) + k * (q * y) ≡ (i + j) * (q * y) + k * (n * z)
              → q * (n * (j * a + i * b)) + k * (q * y) ≡ (i + j) * (q * y) + k * (n * z)
          along i j k a b y z h = omega arith

          go : (N v a b d f : ℕ) → 0 < N → q * q * a ≤ N * N * d → q * q * b ≤ N * N * f → n * N * v * (n * N * v) ≤ a + b
              → n * q * v * (n * q * v) ≤ d + f
          go N v a b d f l h g e = le_of_mul-le-mul_left (step (mul-le-mul_left (q * q) e)) (mul-pos l l)
            where
              step : q * q * (n * N * v * (n * N * v)) ≤ q * q * (a + b) → N * N * (n * q * v * (n * q * v)) ≤ N * N * (d + f)
              step e = omega arith

      pub inside_far : (n Z R q z r : ℕ) → InBox x n Z R → T (exact_inside s q z r)
          → NotOver ε w (n * q) (sqd (q * Z) (n * z) + sqd (q * R) (n * r))
      inside_far zero Z R q z r I t = none _ _
        where
          none : (v d : ℕ) → 0 * q * v * (0 * q * v) ≤ d
          none v d = omega arith
      inside_far (suc n) Z R zero z r I t = none _ _
        where
          none : (v d : ℕ) → suc n * 0 * v * (suc n * 0 * v) ≤ d
          none v d = omega arith
      inside_far (suc n) Z R (suc q) z r I t =
          elim (crossing_lemma s (suc n * suc q) (suc q * Z) (suc q * R) (suc n * z) (suc n * r)) [
            | inl m ↦ far (suc n) Z R (suc q) z r I m (zero-lt-suc q)
            | inr e ↦ absurd (subst T (sym (scaled_exact s (suc n) (suc q) z r (zero-lt-suc n)) ∙ sym e
                ∙ ap (λ k. exact_inside s k (suc q * Z) (suc q * R)) (mul_comm (suc n) (suc q))
                ∙ scaled_exact s (suc q) (suc n) Z R (zero-lt-suc q)
                ∙ same_side (suc n) Z R (zero-lt-suc n) I ∙ outside) t)
          ]

      -- CLEAR OF THE SOLID
      pub solid_of : ClearOfBox ε w x (InSolid s)
      solid_of = record { proof = λ n Z R q z r I c. either n Z R q z r I c }
        where
          either : (n Z R q z r : ℕ) → InBox x n Z R → InSolid s q z r
              → NotOver ε w (n * q) (sqd (q * Z) (n * z) + sqd (q * R) (n * r))
          either n Z R q z r I (on_edge O) = edges.proof n Z R q z r I O
          either n Z R q z r I (inside t) = inside_far n Z R q z r I t
