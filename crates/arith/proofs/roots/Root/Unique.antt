-- What passes two comparisons of squares, and is even at a tie, is the sticky root rounded.
use Rattle.std.proofs.Common.{◌≡◌, ℕ, ◌+◌, ◌-◌, ◌*◌, ◌/◌, ◌%◌, ◌<◌, ◌≤◌, ◌⊎◌, sym, refl, ap, ◌∙◌, subst, inl, inr, le_trans, le_of_eq, mul-le-mul_right, zero-lt-suc, mul_assoc, add-mul, le_antisymm, eq-or-lt_of_le, mul-le-mul_left, mul-pos, one-mul, zero-mul, not-le_of_lt, le_of_mul-le-mul_right, mul_left_comm, arith}
use lib.Ieee.Nearest.{closest}
use Rattle.arith.proofs.roots.Numbers.{decide}
use Rattle.arith.proofs.roots.Root.Sticky.{double_square, ge_sticky_root, le_sticky_root, sticky_root, sticky_root_ge}
use Rattle.arith.proofs.roots.Root.Sticky.{sticky_root_le, whole_root, whole_root_is}
use Rattle.arith.proofs.roots.Rounding.Fraction.{closest_within_half}
use Rattle.arith.proofs.roots.Rounding.Nearest.{half_way}
use Rattle.arith.proofs.roots.Rounding.RoundKey.{times_sub}

-- K u within u / 2 of n, and even where that is exact
module _ (n u K : ℕ) (U : 0 < u) (lo : 2 * (K * u) ≤ 2 * n + u) (hi : 2 * n ≤ 2 * (K * u) + u)
    (even : (2 * n ≡ 2 * (K * u) + u) ⊎ (2 * (K * u) ≡ 2 * n + u) → K % 2 ≡ 0) where
  -- two multiples of u that are both that near are neighbours, and n is half way
  up_tie : (L : ℕ) → K < L → 2 * (L * u) ≤ 2 * n + u → (L ≡ K + 1) × (2 * n ≡ (2 * K + 1) * u)
  up_tie L h k =
      let x : (2 * L) * u ≤ (2 * K + 2) * u = rw (mul_assoc 2 L u, add-mul (2 * K) 2 u, mul_assoc 2 K u)
      (omega arith) in
      let y : 2 * L ≤ 2 * K + 2 = le_of_mul-le-mul_right x U in
      let e : L ≡ K + 1 = omega arith in
      let z : L * u ≡ K * u + u = ap (λ (w : ℕ). w * u) e ∙ add-mul K 1 u ∙ ap (λ (w : ℕ). K * u + w) (one-mul u) in
      (e, rw (add-mul (2 * K) 1 u, mul_assoc 2 K u, one-mul u) (omega arith))

  down_tie : (L : ℕ) → L < K → 2 * n ≤ 2 * (L * u) + u → (K ≡ L + 1) × (2 * n ≡ (2 * L + 1) * u)
  down_tie L h k =
      let x : (2 * K) * u ≤ (2 * L + 2) * u = rw (mul_assoc 2 K u, add-mul (2 * L) 2 u, mul_assoc 2 L u)
      (omega arith) in
      let y : 2 * K ≤ 2 * L + 2 = le_of_mul-le-mul_right x U in
      let e : K ≡ L + 1 = omega arith in
      let z : K * u ≡ L * u + u = ap (λ (w : ℕ). w * u) e ∙ add-mul L 1 u ∙ ap (λ (w : ℕ). L * u + w) (one-mul u) in
      (e, rw (add-mul (2 * L) 1 u, mul_assoc 2 L u, one-mul u) (omega arith))

  spread : (L : ℕ) → (2 * L + 1) * u ≡ 2 * (L * u) + u
  spread L = rw (add-mul (2 * L) 1 u, mul_assoc 2 L u, one-mul u) refl

  pub closest_unique : closest n u ≡ K
  closest_unique = elim (decide (closest n u) K) [
    | inl h ↦ elim (eq-or-lt_of_le h) [
      | inl e ↦ e
      | inr l ↦
          let t = down_tie (closest n u) l (closest_within_half n u U).1 in
          let w = half_way n u (closest n u) U t.1 in
          let z : K * u ≡ closest n u * u + u = ap (λ (x : ℕ). x * u) t.0 ∙ add-mul (closest n u) 1 u ∙ ap
          (λ (x : ℕ). closest n u * u + x) (one-mul u) in
          let s = spread (closest n u) in
          let k = even (inr (omega arith)) in
          let c : ⊥ = parity (closest n u) K w t.0 k in
          absurd c
    ]
    | inr l ↦
        let t = up_tie (closest n u) l (closest_within_half n u U).0 in
        let w = half_way n u K U t.1 in
        let s = spread K in
        let k = even (inl (t.1 ∙ s)) in
        let c : ⊥ = parity' (closest n u) K w t.0 k in
        absurd c
  ]
    where
      parity : (L K : ℕ) → L ≡ L + L % 2 → K ≡ L + 1 → K % 2 ≡ 0 → ⊥
      parity L K a b c = omega arith

      parity' : (L K : ℕ) → L ≡ K + K % 2 → L ≡ K + 1 → K % 2 ≡ 0 → ⊥
      parity' L K a b c = omega arith

-- ---- the code's whole part is the whole root
pub sticky_root_div : (N : ℕ) → sticky_root N / 4 ≡ whole_root N
sticky_root_div N =
    let r = whole_root N in
    let R = whole_root_is N in
    let a : 2 * (2 * r) ≤ sticky_root N = sticky_root_ge N (2 * r) (rw (double_square r)
    (mul-le-mul_left 4 R.least)) in
    let b : sticky_root N < 4 * (r + 1) = elim (decide (2 * (2 * (r + 1))) (sticky_root N)) [
      | inl h ↦ absurd (not-le_of_lt R.most (back ((r + 1) * (r + 1)) N
          (subst (λ (z : ℕ). z ≤ 4 * N) (double_square (r + 1)) (ge_sticky_root N (2 * (r + 1)) h))))
      | inr h ↦ omega
          arith
    ] in
    omega arith
  where
    back : (a N : ℕ) → 4 * a ≤ 4 * N → a ≤ N
    back a N h = omega arith

-- ---- a root by two comparisons of squares. Of the whole root k digits are dropped, D = 2 ^ k; K is what is kept
pub record NearestSteps (N K D : ℕ) : Type 0 where
  pub low_side : 0 < K → (2 * K - 1) * D * ((2 * K - 1) * D) ≤ 4 * N
  pub high_side : 4 * N ≤ (2 * K + 1) * D * ((2 * K + 1) * D)
  pub low_tie : 0 < K → (2 * K - 1) * D * ((2 * K - 1) * D) ≡ 4 * N → K % 2 ≡ 0
  pub high_tie : 4 * N ≡ (2 * K + 1) * D * ((2 * K + 1) * D) → K % 2 ≡ 0

exact : (N m : ℕ) → sticky_root N ≡ 2 * m → 4 * N ≡ m * m
exact N m e = le_antisymm (le_sticky_root N m (le_of_eq e)) (ge_sticky_root N m (le_of_eq (sym e)))

module _ (N K D : ℕ) (DP : 0 < D) (h : NearestSteps N K D) where
  four : K * (4 * D) ≡ 4 * (K * D)
  four = mul_left_comm K 4 D

  upper : (2 * K + 1) * D ≡ 2 * (K * D) + D
  upper = add-mul (2 * K) 1 D ∙ ap (λ (z : ℕ). z + 1 * D) (mul_assoc 2 K D) ∙ ap (λ (z : ℕ). 2 * (K * D) + z)
      (one-mul D)

  lower : (2 * K - 1) * D ≡ 2 * (K * D) - D
  lower = times_sub (2 * K) 1 D ∙ ap (λ (z : ℕ). z - 1 * D) (mul_assoc 2 K D) ∙ ap (λ (z : ℕ). 2 * (K * D) - z)
      (one-mul D)

  floor : 0 < K → D ≤ K * D
  floor k = le_trans (le_of_eq (sym (one-mul D))) (mul-le-mul_right D k)

  hi : 2 * sticky_root N ≤ 2 * (K * (4 * D)) + 4 * D
  hi = let a = sticky_root_le N ((2 * K + 1) * D) h.high_side in omega (arith, four, upper)

  lo_pos : 0 < K → 2 * (K * (4 * D)) ≤ 2 * sticky_root N + 4 * D
  lo_pos k = let a = sticky_root_ge N ((2 * K - 1) * D) (h.low_side k) in omega (arith, four, lower, floor k)

  lo : (0 < K) ⊎ (K ≡ 0) → 2 * (K * (4 * D)) ≤ 2 * sticky_root N + 4 * D
  lo (inl k) = lo_pos k
  lo (inr e) = let z : K * D ≡ 0 * D = ap (λ (x : ℕ). x * D) e in omega (arith, four, zero-mul D)

  zero_or : (0 < K) ⊎ (K ≡ 0)
  zero_or = elim (decide K 0) [ inl k ↦ inr (omega arith) | inr k ↦ inl k ]

  tie_hi : 2 * sticky_root N ≡ 2 * (K * (4 * D)) + 4 * D → K % 2 ≡ 0
  tie_hi e = h.high_tie (exact N ((2 * K + 1) * D) (omega (arith, four, upper)))

  tie_lo : (0 < K) ⊎ (K ≡ 0) → 2 * (K * (4 * D)) ≡ 2 * sticky_root N + 4 * D → K % 2 ≡ 0
  tie_lo (inl k) e = h.low_tie k (sym (exact N ((2 * K - 1) * D) (omega (arith, four, lower, floor k))))
  tie_lo (inr z) e = let y : K * D ≡ 0 * D = ap (λ (x : ℕ). x * D) z in let c : ⊥ = omega (arith, four, zero-mul D) in
      absurd c

  even : (2 * sticky_root N ≡ 2 * (K * (4 * D)) + 4 * D) ⊎ (2 * (K * (4 * D)) ≡ 2 * sticky_root N + 4 * D) → K % 2 ≡ 0
  even (inl e) = tie_hi e
  even (inr e) = tie_lo zero_or e

  pub kept_is : closest (sticky_root N) (4 * D) ≡ K
  kept_is = closest_unique (sticky_root N) (4 * D) K (mul-pos (zero-lt-suc 3) DP) (lo zero_or) hi even
