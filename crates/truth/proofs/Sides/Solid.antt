-- ALL POINTS NEARER TO p THAN ANY SURFACE are inside the section where p is, and outside where p is.
use Prim.Native.Nat.{ℕ, zero, suc, ◌+◌, ◌-◌, ◌*◌, ◌<◌, ◌≤◌}
use mathlib.Core.Bool.{Bool, false}
use mathlib.Core.List.{List}
use mathlib.Core.Logic.{inl, inr, ◌⊎◌}
use mathlib.Core.Path.{◌≡◌, ap, ap₂, refl, sym, ◌∙◌}
use native.Mathlib.Nat.{le_of_mul-le-mul_left, lt_of_le_of_lt, mul_assoc, mul-le-mul, mul-le-mul_left, mul-le-mul_right}
use native.Mathlib.Nat.{mul-lt-mul_of_pos_left, mul-pos, zero-lt-suc}
use native.Mathlib.Omega.{arith}
use lib.Dec.{ltb}
use lib.Ieee.{Float, unlike}
use Rattle.arith.proofs.roots.Numbers.{decide}
use Rattle.arith.proofs.roots.Tests.{ltb_iff}
use Rattle.section.specs.profile.Vertices.{count, end_at, upto, vertex_at}
use Rattle.section.specs.declared.profile.shapes.Vertex.{Vertex}
use Rattle.arith.specs.Whole.{apart}
use Rattle.truth.specs.Exact.{away², origin, place, sqd}
use Rattle.truth.specs.Points.{exact², NeverOver, Surface}
use Rattle.truth.specs.Solid.{area, crosses_at, crossing, exact_crosses, exact_inside, SameSide}
use Rattle.truth.proofs.Sides.Meet.{Meets}
use Rattle.truth.proofs.Points.Lagrange.{apart_split}
use Rattle.truth.proofs.Sides.Crossing.{Crossed, crossing_lemma}

-- ---- a point at n times its places
smaller : (n x y : ℕ) → n * x < n * y → x < y
smaller n x y l = elim (decide y x) [
  | inl h ↦ let c : ⊥ = omega (arith, mul-le-mul_left n h) in absurd c
  | inr h ↦ h
]

scaled_less : (n x y : ℕ) → 0 < n → ltb (n * x) (n * y) ≡ ltb x y
scaled_less n x y h = ltb_iff (n * x) (n * y) x y (λ l. smaller n x y l) (λ l. mul-lt-mul_of_pos_left l h)

scaled_area : (n az ar bz br z r : ℕ) → area (n * az) (n * ar) (n * bz) (n * br) (n * z) (n * r) ≡ n * n * area az ar bz br z r
unfolding area
scaled_area n az ar bz br z r = omega arith

scaled_areas : (n az ar bz br z r : ℕ) → 0 < n
    → ltb (area (n * bz) (n * br) (n * az) (n * ar) (n * z) (n * r)) (area (n * az) (n * ar) (n * bz) (n * br) (n * z) (n * r))
    ≡ ltb (area bz br az ar z r) (area az ar bz br z r)
scaled_areas n az ar bz br z r h =
    ap₂ ltb (scaled_area n bz br az ar z r) (scaled_area n az ar bz br z r) ∙ scaled_less (n * n) _ _ (mul-pos h h)

crossing_same : {a b c d a' b' c' d' : Bool} → a ≡ a' → b ≡ b' → c ≡ c' → d ≡ d' → crossing a b c d ≡ crossing a' b' c' d'
crossing_same {a' = a'} {b' = b'} {c' = c'} {d' = d'} p q r s = rw (p, q, r, s) refl

scaled_crosses : (n az ar bz br z r : ℕ) → 0 < n
    → crosses_at (n * z) (n * r) (n * az) (n * ar) (n * bz) (n * br) ≡ crosses_at z r az ar bz br
scaled_crosses n az ar bz br z r h =
    crossing_same (scaled_less n r ar h) (scaled_less n r br h) (scaled_areas n az ar bz br z r h)
    (scaled_areas n bz br az ar z r h)

pub upto_same : (c d : ℕ → Bool) (n : ℕ) → ((k : ℕ) → k < n → c k ≡ d k)
    → upto (λ k odd. unlike odd (c k)) false n ≡ upto (λ k odd. unlike odd (d k)) false n
unfolding upto
upto_same c d zero h = refl
upto_same c d (suc n) h = ap₂ unlike (upto_same c d n (λ k l. h k (omega arith))) (h n (omega arith))

one_times : (n : ℕ) → n ≡ 1 * n
one_times n = omega arith

pub scaled_inside : (s : List Float) (n z r : ℕ) → 0 < n → exact_inside s n (n * z) (n * r) ≡ exact_inside s 1 z r
unfolding exact_inside exact_crosses
scaled_inside s n z r h = upto_same _ _ (count s) (λ k l.
    scaled_crosses n (place (vertex_at s k).z) (place (vertex_at s k).r) (place (end_at s k).z) (place (end_at s k).r) z r h
    ∙ sym (scaled_crosses 1 (place (vertex_at s k).z) (place (vertex_at s k).r) (place (end_at s k).z) (place (end_at s k).r) z r
    (zero-lt-suc 0))
    ∙ ap₂ (λ x y. crosses_at x y (1 * place (vertex_at s k).z) (1 * place (vertex_at s k).r) (1 * place (end_at s k).z)
    (1 * place (end_at s k).r))
    (sym (one_times z)) (sym (one_times r)))

-- the same of a rational point, at k times its numbers
pub scaled_exact : (s : List Float) (k n z r : ℕ) → 0 < k → exact_inside s (k * n) (k * z) (k * r) ≡ exact_inside s n z r
unfolding exact_inside exact_crosses
scaled_exact s k n z r h = upto_same _ _ (count s) (λ m l.
    ends (mul_assoc k n (place (vertex_at s m).z)) (mul_assoc k n (place (vertex_at s m).r))
    (mul_assoc k n (place (end_at s m).z)) (mul_assoc k n (place (end_at s m).r))
    ∙ scaled_crosses k (n * place (vertex_at s m).z) (n * place (vertex_at s m).r) (n * place (end_at s m).z)
    (n * place (end_at s m).r) z r h)
  where
    ends : {a b c d a' b' c' d' : ℕ} → a ≡ a' → b ≡ b' → c ≡ c' → d ≡ d'
        → crosses_at (k * z) (k * r) a b c d ≡ crosses_at (k * z) (k * r) a' b' c' d'
    ends {a' = a'} {b' = b'} {c' = c'} {d' = d'} p q e f = rw (p, q, e, f) refl

-- ---- a point of the segment from p to q is no farther from p than q is: of one coordinate
module _ (n k i j : ℕ) (h : k ≤ i + j) where
  leg : (x a b y : ℕ) → j * (n * a) + i * (n * b) + k * (n * x) ≡ (i + j) * (n * x) + k * y
      → n * apart ((i + j) * x) (j * a + i * b) ≤ (i + j) * apart (n * x) y
  leg x a b y e = go (apart ((i + j) * x) (j * a + i * b)) (apart (n * x) y) (i + j) (j * a + i * b) (n * x) h
      (apart_split ((i + j) * x) (j * a + i * b)) (apart_split (n * x) y) (omega (arith, e)) (omega arith)
    where
      go : (d f N X P : ℕ) → k ≤ N → (X ≡ N * x + d) ⊎ (N * x ≡ X + d) → (y ≡ P + f) ⊎ (P ≡ y + f) → n * X + k * P ≡ N * P + k * y
          → N * P ≡ n * (N * x) → n * d ≤ N * f
      go d f N X P l (inl p) (inl q) e m = omega (arith, ap (λ t. n * t) p, ap (λ t. k * t) q, mul-le-mul_right f l)
      go d f N X P l (inl p) (inr q) e m = omega (arith, ap (λ t. n * t) p, ap (λ t. k * t) q, mul-le-mul_right f l)
      go d f N X P l (inr p) (inl q) e m = omega (arith, ap (λ t. n * t) p, ap (λ t. k * t) q, mul-le-mul_right f l)
      go d f N X P l (inr p) (inr q) e m = omega (arith, ap (λ t. n * t) p, ap (λ t. k * t) q, mul-le-mul_right f l)

  squares : (x a b y : ℕ) → j * (n * a) + i * (n * b) + k * (n * x) ≡ (i + j) * (n * x) + k * y
      → n * n * sqd ((i + j) * x) (j * a + i * b) ≤ (i + j) * (i + j) * sqd (n * x) y
  unfolding sqd
  squares x a b y e = go (apart ((i + j) * x) (j * a + i * b)) (apart (n * x) y) (i + j) (leg x a b y e)
    where
      go : (d f N : ℕ) → n * d ≤ N * f → n * n * (d * d) ≤ N * N * (f * f)
      go d f N l = omega (arith, mul-le-mul l l)

pub nearer : (n z r : ℕ) (p a b : Vertex)
    → (m : Meets (n * place p.z) (n * place p.r) z r (n * place a.z) (n * place a.r) (n * place b.z)
    (n * place b.r))
    → n * n * exact² p a b m.i m.j ≤ (m.i + m.j) * (m.i + m.j) * away² p n z r
unfolding away²
nearer n z r p a b m = sum (n * n) ((m.i + m.j) * (m.i + m.j)) _ _ _ _
    (squares n m.k m.i m.j m.most (place p.z) (place a.z) (place b.z) z m.same_z)
    (squares n m.k m.i m.j m.most (place p.r) (place a.r) (place b.r) r m.same_r)
  where
    sum : (c d x y u w : ℕ) → c * x ≤ d * y → c * u ≤ d * w → c * (x + u) ≤ d * (y + w)
    sum c d x y u w h k = omega arith

-- every edge with an end beside the axis is a surface
abbrev pub Beside : List Float → Type 0
Beside s = (k : ℕ) → k < count s → (origin < place (vertex_at s k).r) ⊎ (origin < place (end_at s k).r) → Surface s k

-- ---- so where the surface is at least w less ε away from p, everything nearer is on p's side
module _ (ε w : ℕ) (s : List Float) (p : Vertex) (p⁺ : origin ≤ place p.r) (beside : Beside s)
    (clear : (k : ℕ) → k < count s → Surface s k → NeverOver ε w p (vertex_at s k) (end_at s k)) where
  module _ (n z r : ℕ) (r⁺ : n * origin ≤ r) (c : Crossed s n (n * place p.z) (n * place p.r) z r) where
    end : {x : ℕ} (y : ℕ) → n * origin ≤ x → x < n * y → origin < y
    end y h l = smaller n origin y (lt_of_le_of_lt h l)

    surface : Surface s c.edge
    surface = beside c.edge c.below (go c.higher)
      where
        go : ((n * place p.r < n * place (vertex_at s c.edge).r) ⊎ (n * place p.r < n * place (end_at s c.edge).r))
            ⊎ ((r < n * place (vertex_at s c.edge).r) ⊎ (r < n * place (end_at s c.edge).r))
            → (origin < place (vertex_at s c.edge).r) ⊎ (origin < place (end_at s c.edge).r)
        go (inl (inl l)) = inl (end _ (mul-le-mul_left n p⁺) l)
        go (inl (inr l)) = inr (end _ (mul-le-mul_left n p⁺) l)
        go (inr (inl l)) = inl (end _ r⁺ l)
        go (inr (inr l)) = inr (end _ r⁺ l)

    far : n * (w - ε) * (n * (w - ε)) ≤ away² p n z r
    far =
        let N = (clear c.edge c.below surface).proof c.meets.i c.meets.j in
        go (c.meets.i + c.meets.j) (w - ε) (exact² p (vertex_at s c.edge) (end_at s c.edge) c.meets.i c.meets.j)
        (away² p n z r) c.meets.some N
        (nearer n z r p (vertex_at s c.edge) (end_at s c.edge) c.meets)
      where
        go : (N v x y : ℕ) → 0 < N → N * v * (N * v) ≤ x → n * n * x ≤ N * N * y → n * v * (n * v) ≤ y
        go N v x y l h k = le_of_mul-le-mul_left (step (mul-le-mul_left (n * n) h)) (mul-pos l l)
          where
            step : n * n * (N * v * (N * v)) ≤ n * n * x → N * N * (n * v * (n * v)) ≤ N * N * y
            step h = omega arith

  pub same_side : SameSide ε w s p
  same_side = record {
    proof = λ n z r r⁺ l. elim (crossing_lemma s n (n * place p.z) (n * place p.r) z r) [
      | inl c ↦ absurd (never (far n z r r⁺ c) l)
      | inr e ↦ sym e ∙ scaled_inside s n (place p.z) (place p.r) (some n l)
    ];
  }
    where
      never : {x y : ℕ} → x ≤ y → y < x → ⊥
      never h l = omega arith

      some : (n : ℕ) {y : ℕ} → y < n * (w - ε) * (n * (w - ε)) → 0 < n
      some zero l = let c : ⊥ = omega arith in absurd c
      some (suc n) l = zero-lt-suc n
