-- The rounded fraction is the nearest of ALL numbers of p digits, and even at a tie.
use Rattle.std.proofs.Common.{◌≡◌, ℕ, zero, suc, ◌+◌, ◌-◌, ◌*◌, ◌/◌, ◌%◌, ◌^◌, ◌<◌, ◌≤◌, ◌⊎◌, sym, refl, ap, ◌∙◌, subst, inl, inr, zero-le, le_trans, le_of_eq, lt_of_lt_of_le, lt_of_le_of_lt, le_of_lt, mul-le-mul_right, mul_assoc, suc-mul, mul_comm, add-mul, lt_of_mul-lt-mul_right, eq-or-lt_of_le, mul-lt-mul_of_pos_right, mul-pos, one-mul, div-add-mod', le-div_iff_mul-le, not-le_of_lt, le_of_mul-le-mul_right, arith, pow_pos, pow_mono, pow-add}
use Prim.Native.Nat.compare
use Prim.Native.Nat.{compare, Ordering}
use native.Mathlib.Nat.{div-eq_of_lt-le}
use lib.Ieee.{nearest}
use lib.Ieee.Digits.{size_reaches}
use lib.Ieee.Nearest.{closest}
use lib.Ieee.Order.{drop, kept}
use Rattle.arith.proofs.roots.Numbers.{decide}
use Rattle.arith.proofs.roots.Rounding.Fraction.{all_in_use, closest_within_half, kept_ge, room, rounded, WithinHalf}

-- the error in units of the digit that was dropped last
rounded_near_drop : (p n c : ℕ) → 0 < c → WithinHalf (rounded p n c * c) n (2 ^ drop p n c * c)
unfolding rounded
rounded_near_drop p n c C =
    let k = drop p n c in
    subst (λ (u : ℕ). WithinHalf (kept p n c * 2 ^ k * c) n u) (mul_comm c (2 ^ k))
    (subst (λ (x : ℕ). WithinHalf x n (c * 2 ^ k)) (ap (λ (x : ℕ). kept p n c * x) (mul_comm c (2 ^ k)) ∙ sym
    (mul_assoc (kept p n c) (2 ^ k) c)) (closest_within_half n (c * 2 ^ k) (mul-pos C (pow_pos k))))

-- two multiples of u, one above the other
apart : (K Q u : ℕ) → K * u < Q * u → K * u + u ≤ Q * u
apart K Q u h = le_trans (le_of_eq (sym (suc-mul K u))) (mul-le-mul_right u (lt_of_mul-lt-mul_right u h))

above : (t w n c u : ℕ) → WithinHalf (t * c) n (u * c) → t + u ≤ w → 2 * n ≤ (t + w) * c
above t w n c u h l =
    let x : (t + u) * c ≤ w * c = mul-le-mul_right c l in
    let y : (t + u) * c ≡ t * c + u * c = add-mul t u c in
    rw (add-mul t w c) (omega arith)

below : (t w n c u : ℕ) → WithinHalf (t * c) n (u * c) → w + u ≤ t → (t + w) * c ≤ 2 * n
below t w n c u h l =
    let x : (w + u) * c ≤ t * c = mul-le-mul_right c l in
    let y : (w + u) * c ≡ w * c + u * c = add-mul w u c in
    rw (add-mul t w c) (omega arith)

-- q * 2 ^ j as a multiple of 2 ^ k
multiple : (q j k : ℕ) → k ≤ j → q * 2 ^ (j - k) * 2 ^ k ≡ q * 2 ^ j
multiple q j k h = mul_assoc q (2 ^ (j - k)) (2 ^ k) ∙ ap (λ (x : ℕ). q * x)
    (sym (pow-add 2 (j - k) k) ∙ ap (λ (x : ℕ). 2 ^ x) (back j k h))
  where
    back : (j k : ℕ) → k ≤ j → j - k + k ≡ j
    back j k h = omega arith

module _ (p n c : ℕ) (P : 0 < p) (C : 0 < c) where
  -- the power of two below all that is rounded with digits dropped
  base : 0 < drop p n c → (2 ^ (p - 1) * 2 ^ drop p n c * c ≤ n) × (2 ^ (p - 1) * 2 ^ drop p n c ≤ rounded p n c)
  unfolding rounded
  base K = (
    (le-div_iff_mul-le C).0 (le_trans (le_of_eq (sym (pow-add 2 (p - 1) (drop p n c))))
        (size_reaches (n / c) (p - 1 + drop p n c) (all_in_use (lib.Ieee.size (n / c)) p P K))),
    mul-le-mul_right (2 ^ drop p n c) (kept_ge p n c P K),
  )

  small : (q j : ℕ) → q < 2 ^ p → j < drop p n c → q * 2 ^ j < 2 ^ (p - 1) * 2 ^ drop p n c
  small q j Q h = lt_of_lt_of_le (mul-lt-mul_of_pos_right Q (pow_pos j))
      (le_trans (le_of_eq (sym (pow-add 2 p j))) (le_trans (pow_mono (room p j (drop p n c) P h))
      (le_of_eq (pow-add 2 (p - 1) (drop p n c)))))

  -- every number w of p digits above the result is no nearer
  pub rounded_nearest_above : (q j : ℕ) → q < 2 ^ p → rounded p n c < q * 2 ^ j
      → 2 * n ≤ (rounded p n c + q * 2 ^ j) * c
  unfolding rounded
  rounded_nearest_above q j Q h = elim (decide (drop p n c) j) [
    | inl l ↦ above (rounded p n c) (q * 2 ^ j) n c (2 ^ drop p n c) (rounded_near_drop p n c C)
        (le_trans (apart (kept p n c) (q * 2 ^ (j - drop p n c)) (2 ^ drop p n c)
        (lt_of_lt_of_le h (le_of_eq (sym (multiple q j (drop p n c) l))))) (le_of_eq (multiple q j (drop p n c) l)))
    | inr l ↦ absurd (not-le_of_lt (lt_of_lt_of_le h (le_of_lt (small q j Q l))) (base (lt_of_le_of_lt zero-le l)).1)
  ]

  at_multiple : (Q : ℕ) → Q * 2 ^ drop p n c < rounded p n c → (rounded p n c + Q * 2 ^ drop p n c) * c ≤ 2 * n
  unfolding rounded
  at_multiple Q h = below (rounded p n c) (Q * 2 ^ drop p n c) n c (2 ^ drop p n c) (rounded_near_drop p n c C)
      (apart Q (kept p n c) (2 ^ drop p n c) h)

  -- and every one below
  pub rounded_nearest_below : (q j : ℕ) → q < 2 ^ p → q * 2 ^ j < rounded p n c
      → (rounded p n c + q * 2 ^ j) * c ≤ 2 * n
  rounded_nearest_below q j Q h = elim (decide (drop p n c) j) [
    | inl l ↦ subst (λ (w : ℕ). (rounded p n c + w) * c ≤ 2 * n) (multiple q j (drop p n c) l)
        (at_multiple (q * 2 ^ (j - drop p n c)) (lt_of_le_of_lt (le_of_eq (multiple q j (drop p n c) l)) h))
    | inr l ↦ far (q * 2 ^ j) (2 ^ (p - 1) * 2 ^ drop p n c) (small q j Q l) (base (lt_of_le_of_lt zero-le l))
        (at_multiple (2 ^ (p - 1)))
  ]
    where
      far : (w B : ℕ) → w < B → (B * c ≤ n) × (B ≤ rounded p n c)
          → (B < rounded p n c → (rounded p n c + B) * c ≤ 2 * n) → (rounded p n c + w) * c ≤ 2 * n
      far w B l b k = elim (eq-or-lt_of_le b.1) [
        | inl e ↦ same (rounded p n c) w B n (sym e) l b.0
        | inr m ↦ le_trans (mul-le-mul_right c (more (rounded p n c) w B l)) (k m)
      ]
        where
          more : (t w B : ℕ) → w < B → t + w ≤ t + B
          more t w B l = omega arith

          same : (t w B n : ℕ) → t ≡ B → w < B → B * c ≤ n → (t + w) * c ≤ 2 * n
          same t w B n e l h = let x : w * c ≤ B * c = mul-le-mul_right c (le_of_lt l) in let y : t * c ≡ B * c = ap
              (λ (z : ℕ). z * c) e in rw (add-mul t w c) (omega arith)

-- ---- a tie goes to the even one
compare_same : (a : ℕ) → compare a a ≡ Ordering.eq
compare_same zero = compare.zero-zero
compare_same (suc a) = compare.suc-suc a a ∙ compare_same a

pub half_way : (n u Q : ℕ) → 0 < u → 2 * n ≡ (2 * Q + 1) * u → closest n u ≡ Q + Q % 2
half_way n u Q U h =
    let e : (2 * Q + 1) * u ≡ 2 * (Q * u) + u = add-mul (2 * Q) 1 u ∙ ap (λ (z : ℕ). z + 1 * u) (mul_assoc 2 Q u) ∙ ap
    (λ (z : ℕ). 2 * (Q * u) + z) (one-mul u) in
    let d : n / u ≡ Q = div-eq_of_lt-le u (omega arith) (rw (add-mul Q 1 u, one-mul u) (omega arith)) in
    let m : n / u * u + n % u ≡ n = div-add-mod' n u in
    let r : n % u * 2 ≡ u = rest (n / u) Q u n (n % u) d m (h ∙ e) in
    ap (λ (z : ℕ). nearest z (compare (n % u * 2) u)) d ∙ ap (λ (z : ℕ). nearest Q (compare z u)) r ∙ ap
    (λ (o : Ordering). nearest Q o) (compare_same u)
  where
    rest : (q Q u n r : ℕ) → q ≡ Q → q * u + r ≡ n → 2 * n ≡ 2 * (Q * u) + u → r * 2 ≡ u
    rest q Q u n r d m h = let x : q * u ≡ Q * u = ap (λ (z : ℕ). z * u) d in omega arith

even_up : (Q : ℕ) → (Q + Q % 2) % 2 ≡ 0
even_up Q = omega arith

-- (K + Q) u is 2 n, K u is within u / 2 of n, and K is not Q: so n lies half way
module _ (n u K Q : ℕ) (U : 0 < u) (N : WithinHalf (K * u) n u) (e : 2 * n ≡ (K + Q) * u) where
  half_way_of : (K < Q) ⊎ (Q < K) → (2 * n ≡ (2 * K + 1) * u) ⊎ (2 * n ≡ (2 * Q + 1) * u)
  half_way_of (inl h) =
      let x : (K + Q) * u ≤ (2 * K + 1) * u = rw (add-mul (2 * K) 1 u, mul_assoc 2 K u, one-mul u) (omega arith) in
      let y : K + Q ≤ 2 * K + 1 = le_of_mul-le-mul_right x U in
      inl (e ∙ ap (λ (z : ℕ). z * u) (let w : K + Q ≡ 2 * K + 1 = omega arith in w))
  half_way_of (inr h) =
      let x : (2 * K) * u ≤ (K + Q + 1) * u = rw (add-mul (K + Q) 1 u, mul_assoc 2 K u, one-mul u) (omega arith) in
      let y : 2 * K ≤ K + Q + 1 = le_of_mul-le-mul_right x U in
      inr (e ∙ ap (λ (z : ℕ). z * u) (let w : K + Q ≡ 2 * Q + 1 = omega arith in w))

  tie_even : (K < Q) ⊎ (Q < K) → closest n u ≡ K → K % 2 ≡ 0
  tie_even h k = elim (half_way_of h) [
    | inl z ↦ subst (λ (x : ℕ). x % 2 ≡ 0) (sym (half_way n u K U z) ∙ k) (even_up K)
    | inr z ↦ subst (λ (x : ℕ). x % 2 ≡ 0) (sym (half_way n u Q U z) ∙ k) (even_up Q)
  ]

-- the tie, for any other number w of p digits: what was kept is even
module _ (p n c : ℕ) (P : 0 < p) (C : 0 < c) where
  no_tie : (w B t : ℕ) → w < B → (B * c ≤ n) × (B ≤ t) → (B < t → (t + B) * c ≤ 2 * n) → 2 * n ≡ (t + w) * c → ⊥
  no_tie w B t l b k e = elim (eq-or-lt_of_le b.1) [
    | inl z ↦ one t w B (sym z) l b.0 (e ∙ add-mul t w c)
    | inr z ↦ not-le_of_lt l (le_of_add t B w (le_of_mul-le-mul_right (le_trans (k z) (le_of_eq e)) C))
  ]
    where
      le_of_add : (t B w : ℕ) → t + B ≤ t + w → B ≤ w
      le_of_add t B w h = omega arith

      one : (t w B : ℕ) → t ≡ B → w < B → B * c ≤ n → 2 * n ≡ t * c + w * c → ⊥
      one t w B z l h e = let x : w * c < B * c = mul-lt-mul_of_pos_right l C in let y : t * c ≡ B * c = ap
          (λ (a : ℕ). a * c) z in omega arith

  pub rounded_tie_even : (q j : ℕ) → q < 2 ^ p → (rounded p n c < q * 2 ^ j) ⊎ (q * 2 ^ j < rounded p n c)
      → 2 * n ≡ (rounded p n c + q * 2 ^ j) * c → kept p n c % 2 ≡ 0
  unfolding rounded
  rounded_tie_even q j Q h e = elim (decide (drop p n c) j) [
    | inl l ↦ tie_even n (c * 2 ^ k) (kept p n c) (q * 2 ^ (j - k)) (mul-pos C (pow_pos k))
        (closest_within_half n (c * 2 ^ k) (mul-pos C (pow_pos k)))
        (e ∙ ap (λ (w : ℕ). (kept p n c * 2 ^ k + w) * c) (sym (multiple q j k l)) ∙ ap (λ (z : ℕ). z * c)
        (sym (add-mul (kept p n c) (q * 2 ^ (j - k)) (2 ^ k))) ∙ mul_assoc (kept p n c + q * 2 ^ (j - k)) (2 ^ k) c
        ∙ ap (λ (z : ℕ). (kept p n c + q * 2 ^ (j - k)) * z) (mul_comm (2 ^ k) c))
        (sides l h) refl
    | inr l ↦ absurd (small_case l h)
  ]
    where
      k : ℕ
      k = drop p n c

      sides : k ≤ j → (kept p n c * 2 ^ k < q * 2 ^ j) ⊎ (q * 2 ^ j < kept p n c * 2 ^ k)
          → (kept p n c < q * 2 ^ (j - k)) ⊎ (q * 2 ^ (j - k) < kept p n c)
      sides l (inl x) = inl (lt_of_mul-lt-mul_right (2 ^ k) (lt_of_lt_of_le x (le_of_eq (sym (multiple q j k l)))))
      sides l (inr x) = inr (lt_of_mul-lt-mul_right (2 ^ k) (lt_of_le_of_lt (le_of_eq (multiple q j k l)) x))

      small_case : j < k → (kept p n c * 2 ^ k < q * 2 ^ j) ⊎ (q * 2 ^ j < kept p n c * 2 ^ k) → ⊥
      small_case l (inl x) = not-le_of_lt (lt_of_lt_of_le x (le_of_lt (small p n c P C q j Q l)))
          (base p n c P C (lt_of_le_of_lt zero-le l)).1
      small_case l (inr x) = no_tie (q * 2 ^ j) (2 ^ (p - 1) * 2 ^ k) (rounded p n c) (small p n c P C q j Q l)
          (base p n c P C (lt_of_le_of_lt zero-le l)) (at_multiple p n c P C (2 ^ (p - 1))) e
