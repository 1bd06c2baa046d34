-- AN EDGE CROSSES A LINE OF SIGHT as 01 computes it exactly where it crosses it, but for points within 13 u of the edge.
use Prim.Native.Nat.{◌*◌, ◌+◌, ◌-◌, ◌<◌, ◌^◌, suc, ℕ, ◌≤◌}
use mathlib.Core.Bool.{◌&&◌, Bool, false, not, true}
use mathlib.Core.Logic.{inl, inr, ◌⊎◌}
use mathlib.Core.Path.{◌≡◌, ap, ap₂, refl, subst, sym, ◌∙◌}
use native.Mathlib.Nat.{le_of_lt, le_trans, mul-le-mul, mul-le-mul_left, mul-le-mul_right, one-mul}
use native.Mathlib.Omega.{arith}
use lib.Dec.{ltb, ltb→lt, nltb→le, T}
use lib.Ieee.{binary64, Float, prec, unlike}
use lib.Pow.{pow_pos}
use Rattle.arith.proofs.roots.Numbers.{decide}
use Rattle.arith.proofs.roots.Rounding.Key.{finite_number, number, number_of, unit}
use Rattle.arith.proofs.roots.Rounding.KeyOrder.{lt_key}
use Rattle.arith.proofs.roots.Tests.{ltb_iff}
use Rattle.arith.specs.F64.{◌⊕◌, ◌⊖◌, ◌⊗◌, ◌⊘◌, ◌≺◌, ◌≼◌, e_18}
use Rattle.arith.specs.Num.{abs}
use Rattle.arith.proofs.Laws.Bounded.{bounded_up}
use Rattle.arith.proofs.Laws.Quotients.{above, abs_not_e_18, AwayFrom0, below}
use Rattle.arith.proofs.Laws.Sizes.{Finite, K, M}
use Rattle.section.specs.declared.profile.shapes.Vertex.{Vertex}
use Rattle.section.specs.points.Points.{crosses}
use Rattle.arith.specs.Whole.{apart}
use Rattle.truth.specs.Exact.{away², place, sqd}
use Rattle.truth.specs.Points.{exact², NeverOver}
use Rattle.truth.specs.Solid.{area, crosses_at, crossing, exact_crosses}
use Rattle.truth.proofs.Points.Closest.{Fine, Within}
use Rattle.arith.proofs.Laws.RoundingError.{Close}
use Rattle.truth.proofs.Points.Lagrange.{apart_split}
use Rattle.truth.proofs.Places.{place_is}
use Rattle.truth.proofs.Sides.Sight.{DEN, den_down, den_up, Sighted, sighted_down, sighted_up}

root_le : (c d : ℕ) → c * c ≤ d * d → c ≤ d
root_le c d h = elim (decide c d) [
  | inl l ↦ l
  | inr l ↦ let k : ⊥ = omega (arith, mul-le-mul l l) in absurd k
]

-- x less x' is Y less D z, whose size is more than v; k D is Y, but for v
agree : (D z Y k v x x' : ℕ) → x + D * z ≡ x' + Y → Close (k * D) Y v → v < apart (D * z) Y → ltb z k ≡ ltb x' x
agree D z Y k v x x' e c l = ltb_iff z k x' x (λ h. more (apart_split (D * z) Y) h) (λ h. less (apart_split (D * z) Y) h)
  where
    more : (Y ≡ D * z + apart (D * z) Y) ⊎ (D * z ≡ Y + apart (D * z) Y) → z < k → x' < x
    more (inl a) h = omega arith
    more (inr a) h = let q : ⊥ = omega (arith, c.over, mul-le-mul_right D (le_of_lt h)) in absurd q

    less : (Y ≡ D * z + apart (D * z) Y) ⊎ (D * z ≡ Y + apart (D * z) Y) → x' < x → z < k
    less (inl a) h = elim (decide k z) [
      | inl m ↦ let q : ⊥ = omega (arith, c.under, mul-le-mul_right D m) in absurd q
      | inr m ↦ m
    ]
    less (inr a) h = let q : ⊥ = omega arith in absurd q

-- by straddling: s that the edge is not too flat, t the computed test, up and down the exact ones
both : (x y s t up down : Bool) → (T (not x) → T y → T s × (t ≡ up)) → (T x → T (not y) → T s × (t ≡ down))
    → (unlike x y && (s && t)) ≡ crossing x y up down
both true true s t up down h k = refl
both false false s t up down h k = refl
both false true true t up down h k = (h tt tt).1
both false true false t up down h k = absurd (h tt tt).0
both true false true t up down h k = (k tt tt).1
both true false false t up down h k = absurd (k tt tt).0

exact_is : (p a b : Vertex)
    → exact_crosses 1 (place p.z) (place p.r) a b
    ≡ crosses_at (K p.z) (K p.r) (K a.z) (K a.r) (K b.z) (K b.r)
unfolding exact_crosses
exact_is p a b = rw (
  place_is p.z,
  place_is p.r,
  place_is a.z,
  place_is a.r,
  place_is b.z,
  place_is b.r,
  one-mul (K a.z),
  one-mul (K a.r),
  one-mul (K b.z),
  one-mul (K b.r),
) refl

flat : (x y : ℕ) → x ≡ y → sqd x y ≡ 0
unfolding sqd apart
flat x y e = let z : (x - y) + (y - x) ≡ 0 = omega arith in ap (λ t. t * t) z

square : (c x y : ℕ) → c * c ≤ sqd x y → c ≤ apart x y
unfolding sqd
square c x y h = root_le c (apart x y) h

-- ---- what W and j are: r is W from ar and j from br
height_up : (W j ar br r : ℕ) → r ≡ ar + W → br ≡ ar + (j + W) → (W + j) * r ≡ j * ar + W * br
height_up W j ar br r e g = omega (arith, ap (λ t. (W + j) * t) e, ap (λ t. W * t) g)

height_down : (W j ar br r : ℕ) → ar ≡ r + W → ar ≡ br + (j + W) → (W + j) * r ≡ j * ar + W * br
height_down W j ar br r e g = let h : r ≡ br + j = omega arith in omega (arith, ap (λ t. (W + j) * t) h, ap (λ t. j * t) g)

area_up : (W j az ar bz br z r : ℕ) → r ≡ ar + W → br ≡ ar + (j + W)
    → area az ar bz br z r + (j + W) * z ≡ area bz br az ar z r + (j * az + W * bz)
unfolding area
area_up W j az ar bz br z r e g = omega (arith, ap (λ t. az * t) g, ap (λ t. t * bz) e, ap (λ t. t * z) g, ap (λ t. t * az) e)

area_down : (W j az ar bz br z r : ℕ) → ar ≡ r + W → ar ≡ br + (j + W)
    → area bz br az ar z r + (j + W) * z ≡ area az ar bz br z r + (j * az + W * bz)
unfolding area
area_down W j az ar bz br z r e g =
    let h : r ≡ br + j = omega arith in
    omega (arith, ap (λ t. bz * t) g, ap (λ t. t * az) h, ap (λ t. t * z) g, ap (λ t. t * bz) h)

module _ (p a b : Vertex) where
  exact_keys : (i j : ℕ) → exact² p a b i j
      ≡ sqd ((i + j) * K p.z) (j * K a.z + i * K b.z) + sqd ((i + j) * K p.r) (j * K a.r + i * K b.r)
  unfolding away²
  exact_keys i j = rw (place_is p.z, place_is p.r, place_is a.z, place_is a.r, place_is b.z, place_is b.r) refl

  -- at the height of p the edge is as far from p as the surface is
  beside : (ε w W j : ℕ) → NeverOver ε w p a b → (W + j) * K p.r ≡ j * K a.r + W * K b.r
      → (j + W) * (w - ε) ≤ apart ((j + W) * K p.z) (j * K a.z + W * K b.z)
  beside ε w W j N e = go (N.proof W j) (exact_keys W j)
    where
      turn : (W j x : ℕ) → (W + j) * x ≡ (j + W) * x
      turn W j x = omega arith

      go : {E : ℕ} → (W + j) * (w - ε) * ((W + j) * (w - ε)) ≤ E
          → E ≡ sqd ((W + j) * K p.z) (j * K a.z + W * K b.z) + sqd ((W + j) * K p.r) (j * K a.r + W * K b.r)
          → (j + W) * (w - ε) ≤ apart ((j + W) * K p.z) (j * K a.z + W * K b.z)
      go h q = rw (← turn W j (w - ε), ← turn W j (K p.z))
          (square _ _ _ (last _ (flat _ _ e) h q))
        where
          last : {E y : ℕ} (x : ℕ) → y ≡ 0 → (W + j) * (w - ε) * ((W + j) * (w - ε)) ≤ E → E ≡ x + y
              → (W + j) * (w - ε) * ((W + j) * (w - ε)) ≤ x
          last x z h q = omega arith

  -- ---- the edge is not too flat, and p is more than 77 u away from it
  module _ (e k : ℕ) (fine : Fine e k) (coarse : unit binary64 ≤ 2 ^ e * 2 ^ 1014) (P : Within (suc e) p) (A : Within e a)
      (B : Within e b)
      (w : ℕ) (far : 77 * 2 ^ e < w) (over : NeverOver (64 * 2 ^ e) w p a b) where
    abbrev z_at : Float
    z_at = a.z ⊕ (b.z ⊖ a.z) ⊗ (p.r ⊖ a.r) ⊘ (b.r ⊖ a.r)

    -- so D times as far, if D is not 0
    away : (D x y : ℕ) → 0 < D → D * (w - 64 * 2 ^ e) ≤ apart x y → 13 * (2 ^ e * D) < apart x y
    away D x y D⁺ h = go (2 ^ e) far (apart x y) h
      where
        go : (u : ℕ) → 77 * u < w → (m : ℕ) → D * (w - 64 * u) ≤ m → 13 * (u * D) < m
        go u f m h =
            let l : 13 * u + 1 ≤ w - 64 * u = omega arith in
            omega (arith, mul-le-mul_left D l)

    test_is : T (number binary64 z_at) → (p.z ≺ z_at) ≡ ltb (K p.z) (K z_at)
    test_is h = lt_key binary64 p.z z_at (number_of binary64 p.z P.z.sure) h

    module _ (W j : ℕ) (some : 0 < j + W)
        (S : Sighted binary64 e k fine.scale a.z b.z a.r b.r p.r A.z B.z A.r B.r P.r W j) where
      settled : (x x' : ℕ) → (W + j) * K p.r ≡ j * K a.r + W * K b.r
          → x + (j + W) * K p.z ≡ x' + (j * K a.z + W * K b.z)
          → (p.z ≺ z_at) ≡ ltb x' x
      settled x x' h l = test_is S.sure
          ∙ agree (j + W) (K p.z) (j * K a.z + W * K b.z) (K z_at) (13 * (2 ^ e * (j + W))) x x' l S.close
          (away (j + W) _ _ some (beside (64 * 2 ^ e) w W j over h))

    -- the difference of the radii, by the test
    enough : (t : ℕ) → 2 ^ 1014 ≤ t → unit binary64 ≤ 2 ^ e * t
    enough t h = le_trans coarse (mul-le-mul_left (2 ^ e) h)

    abbrev den : Float
    den = b.r ⊖ a.r

    den_finite : Finite (prec binary64 + suc e) den
    den_finite = record {
      bounded = bounded_up binary64 (prec binary64 + suc e) (prec binary64 + suc e + 1074) den (omega arith)
          (DEN binary64 e k fine.scale a.z b.z a.r b.r p.r A.z B.z A.r B.r P.r);
    }

    up_enough : AwayFrom0 60 den → M ≤ K den → unit binary64 ≤ 2 ^ e * (K den - M)
    up_enough (above h) l = enough (K den - M) (go (2 ^ 1014) (K den) M h)
      where
        go : (c x y : ℕ) → y + c ≤ x → c ≤ x - y
        go c x y h = omega arith
    up_enough (below h) l = absurd (go (2 ^ 1014) (K den) M (pow_pos 1014) h l)
      where
        go : (c x y : ℕ) → 0 < c → x + c ≤ y → y ≤ x → ⊥
        go c x y p h l = omega arith

    down_enough : AwayFrom0 60 den → K den ≤ M → unit binary64 ≤ 2 ^ e * (M - K den)
    down_enough (below h) l = enough (M - K den) (go (2 ^ 1014) (K den) M h)
      where
        go : (c x y : ℕ) → x + c ≤ y → c ≤ y - x
        go c x y h = omega arith
    down_enough (above h) l = absurd (go (2 ^ 1014) (K den) M (pow_pos 1014) h l)
      where
        go : (c x y : ℕ) → 0 < c → y + c ≤ x → x ≤ y → ⊥
        go c x y p h l = omega arith

    module _ (steep : T (not (abs den ≼ e_18))) where
      upwards : K a.r ≤ K p.r → K p.r < K b.r → (p.z ≺ z_at)
          ≡ ltb (area (K b.z) (K b.r) (K a.z) (K a.r) (K p.z) (K p.r))
          (area (K a.z) (K a.r) (K b.z) (K b.r) (K p.z) (K p.r))
      upwards h l = go (K p.r - K a.r) (K b.r - K p.r) (omega arith) (omega arith) (omega arith)
        where
          go : (W j : ℕ) → K p.r ≡ K a.r + W → K b.r ≡ K a.r + (j + W) → 0 < j + W → (p.z ≺ z_at)
              ≡ ltb (area (K b.z) (K b.r) (K a.z) (K a.r) (K p.z) (K p.r))
              (area (K a.z) (K a.r) (K b.z) (K b.r) (K p.z) (K p.r))
          go W j p-is b-is some =
              let t = up_enough (abs_not_e_18 den_finite steep)
              (den_up binary64 e k fine.scale a.z b.z a.r b.r p.r A.z B.z A.r B.r P.r
              (j + W) b-is) in
              settled W j some
              (sighted_up binary64 e k fine.scale a.z b.z a.r b.r p.r A.z B.z A.r B.r
              P.r W j p-is b-is t) _ _
              (height_up W j (K a.r) (K b.r) (K p.r) p-is b-is)
              (area_up W j (K a.z) (K a.r) (K b.z) (K b.r) (K p.z) (K p.r) p-is b-is)

      downwards : K b.r ≤ K p.r → K p.r < K a.r → (p.z ≺ z_at)
          ≡ ltb (area (K a.z) (K a.r) (K b.z) (K b.r) (K p.z) (K p.r))
          (area (K b.z) (K b.r) (K a.z) (K a.r) (K p.z) (K p.r))
      downwards h l = go (K a.r - K p.r) (K p.r - K b.r) (omega arith) (omega arith) (omega arith)
        where
          go : (W j : ℕ) → K a.r ≡ K p.r + W → K a.r ≡ K b.r + (j + W) → 0 < j + W → (p.z ≺ z_at)
              ≡ ltb (area (K a.z) (K a.r) (K b.z) (K b.r) (K p.z) (K p.r))
              (area (K b.z) (K b.r) (K a.z) (K a.r) (K p.z) (K p.r))
          go W j p-is b-is some =
              let t = down_enough (abs_not_e_18 den_finite steep)
              (den_down binary64 e k fine.scale a.z b.z a.r b.r p.r A.z B.z A.r B.r P.r
              (j + W) b-is) in
              settled W j some
              (sighted_down binary64 e k fine.scale a.z b.z a.r b.r p.r A.z B.z A.r B.r
              P.r W j p-is b-is t) _ _
              (height_down W j (K a.r) (K b.r) (K p.r) p-is b-is)
              (area_down W j (K a.z) (K a.r) (K b.z) (K b.r) (K p.z) (K p.r) p-is b-is)

      pub crosses_true : crosses p a b ≡ exact_crosses 1 (place p.z) (place p.r) a b
      unfolding crosses
      crosses_true =
          ap₂ (λ x y. unlike x y && (not (abs den ≼ e_18) && (p.z ≺ z_at))) (side a.r A.r.sure) (side b.r B.r.sure)
          ∙ both (ltb (K p.r) (K a.r)) (ltb (K p.r) (K b.r)) (not (abs den ≼ e_18)) (p.z ≺ z_at) _ _
          (λ x y. (steep, upwards (nltb→le _ _ x) (ltb→lt _ _ y))) (λ x y. (steep, downwards (nltb→le _ _ y) (ltb→lt _ _ x)))
          ∙ sym (exact_is p a b)
        where
          side : (x : Float) → T (finite_number binary64 x) → (p.r ≺ x) ≡ ltb (K p.r) (K x)
          side x h = lt_key binary64 p.r x (number_of binary64 p.r P.r.sure) (number_of binary64 x h)

  -- ---- an edge along the spindle has no crossings
  pub level : {e d : ℕ} → Within d p → Within e a → Within e b → K a.r ≡ K b.r
      → crosses p a b ≡ exact_crosses 1 (place p.z) (place p.r) a b
  unfolding crosses
  level P A B h =
      ap₂ (λ x y. unlike x y && (not (abs (b.r ⊖ a.r) ≼ e_18) && (p.z ≺ a.z ⊕ (b.z ⊖ a.z) ⊗ (p.r ⊖ a.r) ⊘ (b.r ⊖ a.r))))
      (side a.r A.r.sure) (side b.r B.r.sure)
      ∙ neither (ltb (K p.r) (K a.r)) (ltb (K p.r) (K b.r)) _ _ _ (subst (λ z. T (ltb (K p.r) z)) h)
      (subst (λ z. T (ltb (K p.r) z)) (sym h))
      ∙ sym (exact_is p a b)
    where
      neither : (x y t up down : Bool) → (T x → T y) → (T y → T x) → (unlike x y && t) ≡ crossing x y up down
      neither true true t up down h k = refl
      neither true false t up down h k = absurd (h tt)
      neither false true t up down h k = absurd (k tt)
      neither false false t up down h k = refl

      side : (x : Float) → T (finite_number binary64 x) → (p.r ≺ x) ≡ ltb (K p.r) (K x)
      side x h = lt_key binary64 p.r x (number_of binary64 p.r P.r.sure) (number_of binary64 x h)
