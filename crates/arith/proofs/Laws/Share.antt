-- The error of one rounding as a share of what is rounded: at most a 2 K th for every K that the format's digits tell apart, and half a
-- unit where nothing is dropped; and what two sums of products make of it. Over any number of digits.
use Rattle.std.proofs.Common.{◌≡◌, ℕ, zero, suc, ◌+◌, ◌-◌, ◌*◌, ◌/◌, ◌^◌, ◌<◌, ◌≤◌, ◌⊎◌, sym, inl, inr, le_trans, le_of_eq, lt_of_lt_of_le, le_of_lt, mul-le-mul_right, mod-lt, zero-lt-suc, mul_assoc, div-lt_iff_lt-mul, lt_of_mul-lt-mul_right, mul-le-mul_left, one-mul, div-add-mod', arith, pow_mono}
use native.Mathlib.Nat.{lt_of_mul-lt-mul_left}
use native.Mathlib.Nat.{mul-lt-mul_of_pos_left, mul-sub}
use lib.Ieee.{size}
use lib.Ieee.Digits.{size-lt}
use lib.Ieee.Order.{drop, kept}
use Rattle.arith.proofs.roots.Numbers.{decide}
use Rattle.arith.proofs.roots.Rounding.Fraction.{kept_ge, rounded, rounded_near, WithinHalf}

module _ (K p n c : ℕ) (P : 0 < p) (D : K ≤ 2 ^ (p - 1)) (C : 0 < c) where
  near : WithinHalf (rounded p n c * c) n (2 ^ drop p n c * c)
  near = rounded_near p n c (drop p n c) C
      ((div-lt_iff_lt-mul C).0 (lt_of_lt_of_le (size-lt (n / c)) (pow_mono (digits (size (n / c))))))
    where
      digits : (s : ℕ) → s ≤ p + (s - p)
      digits s = omega arith

  -- nothing is dropped, or the unit is a small share
  unit_share : (2 ^ drop p n c * c ≡ c) ⊎ (K * (2 ^ drop p n c * c) ≤ rounded p n c * c)
  unfolding rounded
  unit_share = go (drop p n c) (kept p n c) (kept_ge p n c P)
    where
      go : (k q : ℕ) → (0 < k → 2 ^ (p - 1) ≤ q) → (2 ^ k * c ≡ c) ⊎ (K * (2 ^ k * c) ≤ q * 2 ^ k * c)
      go zero q h = inl (one-mul c)
      go (suc k) q h = inr (le_trans (mul-le-mul_right (2 ^ suc k * c) (le_trans D (h (zero-lt-suc k))))
          (le_of_eq (sym (mul_assoc q (2 ^ suc k) c))))

  pub rounded_most : 2 * (K * (rounded p n c * c)) ≤ 2 * (K * n) + rounded p n c * c + K * c
  rounded_most = go (rounded p n c * c) (2 ^ drop p n c * c) near.0 unit_share
    where
      go : (R w : ℕ) → 2 * R ≤ 2 * n + w → (w ≡ c) ⊎ (K * w ≤ R) → 2 * (K * R) ≤ 2 * (K * n) + R + K * c
      go R w h (inl e) = let k = mul-le-mul_left K (rw e at h) in omega arith
      go R w h (inr l) = let k = mul-le-mul_left K h in omega arith

  pub rounded_least : 2 * (K * n) ≤ 2 * (K * (rounded p n c * c)) + rounded p n c * c + K * c
  rounded_least = go (rounded p n c * c) (2 ^ drop p n c * c) near.1 unit_share
    where
      go : (R w : ℕ) → 2 * n ≤ 2 * R + w → (w ≡ c) ⊎ (K * w ≤ R) → 2 * (K * n) ≤ 2 * (K * R) + R + K * c
      go R w h (inl e) = let k = mul-le-mul_left K (rw e at h) in omega arith
      go R w h (inr l) = let k = mul-le-mul_left K h in omega arith

-- ---- A is about P, S about A, Q about P with 10 / K of it more, R about Q + E; h is P / K
module _ (K P h : ℕ) (K⁺ : 16 ≤ K) where
  -- A exceeds B by a small share at most
  excess : (A B X g c : ℕ) → 2 * (K * A) + B ≤ 2 * (K * B) + A + X → X < K * g + c * K → A ≤ B + (g + c)
  excess A B X g c l x = elim (decide A B) [
    | inl o ↦ omega arith
    | inr o ↦
        let t : A - B < g + c = lt_of_mul-lt-mul_left K (rw (mul-sub K A B) (omega (arith, more (A - B), mul-sub K A B))) in
        omega arith
  ]
    where
      more : (t : ℕ) → 16 * t ≤ K * t
      more t = mul-le-mul_right t K⁺

  near_sum : (A : ℕ) → P < K * h + K → 2 * (K * A) < 2 * (K * P) + P + A + 3 * K → A ≤ P + (2 * h + 5)
  near_sum A hi a = excess A P (2 * P + 3 * K) (2 * h) 5 (omega arith) (omega arith)

  near_rounded : (A S : ℕ) → P < K * h + K → A ≤ P + (2 * h + 5)
      → 2 * (K * (S * 1)) ≤ 2 * (K * A) + S * 1 + K * 1 → S ≤ P + (6 * h + 12)
  near_rounded A S hi a s =
      let k = excess S A (A + K) (4 * h) 7 (omega arith) (omega (arith, mul-le-mul_right h K⁺)) in
      omega arith

  far_scaled : (Q : ℕ) → K * h ≤ P → 2 * (K * P) + 20 * P < 2 * (K * Q) + Q + K + 1 → P + 8 * h ≤ Q + 1
  far_scaled Q lo q = elim (decide (P + 8 * h) (Q + 1)) [
    | inl l ↦ l
    | inr l ↦ let c : ⊥ = omega (arith, mul-le-mul_left K l, mul-le-mul_right h K⁺) in absurd c
  ]

  far_rounded : (Q R E : ℕ) → P < K * h + K → P + 8 * h ≤ Q + 1
      → 2 * (K * (Q + E)) ≤ 2 * (K * (R * 1)) + R * 1 + K * 1 → 4096 ≤ E → P + (6 * h + 12) ≤ R
  far_rounded Q R E hi q r e = elim (decide (P + (6 * h + 12)) R) [
    | inl l ↦ l
    | inr l ↦
        let c : ⊥ = omega (
          arith,
          mul-le-mul_left K (le_of_lt l),
          mul-le-mul_right h K⁺,
          mul-le-mul_left K q,
          mul-le-mul_left K e,
        ) in
        absurd c
  ]

-- x + y < b, of which A₁, A₂ and P are roundings in steps of U; S, Q and R are roundings of A₁ + A₂, p and Q + E
module _ (K U x y b A₁ A₂ S P p Q R E : ℕ) (K⁺ : 16 ≤ K) (U⁺ : 0 < U) where
  pub sums_ordered : x + y < b
      → 2 * (K * (A₁ * U)) ≤ 2 * (K * x) + A₁ * U + K * U → 2 * (K * (A₂ * U)) ≤ 2 * (K * y) + A₂ * U + K * U
      → 2 * (K * (S * 1)) ≤ 2 * (K * (A₁ + A₂)) + S * 1 + K * 1
      → 2 * (K * b) ≤ 2 * (K * (P * U)) + P * U + K * U → (K + 10) * (P * U) ≤ K * p
      → 2 * (K * p) ≤ 2 * (K * (Q * U)) + Q * U + K * U
      → 2 * (K * (Q + E)) ≤ 2 * (K * (R * 1)) + R * 1 + K * 1 → 4096 ≤ E → S ≤ R
  sums_ordered l a₁ a₂ s h c q r e =
      let lo : K * (P / K) ≤ P = omega (arith, div-add-mod' P K) in
      let hi : P < K * (P / K) + K = omega (arith, div-add-mod' P K, mod-lt P K⁺⁺) in
      le_trans
      (near_rounded K P (P / K) K⁺ (A₁ + A₂) S hi
      (near_sum K P (P / K) K⁺ (A₁ + A₂) hi (lt_of_mul-lt-mul_right U squares)) s)
      (far_rounded K P (P / K) K⁺ Q R E hi
      (far_scaled K P (P / K) K⁺ Q lo (lt_of_mul-lt-mul_right U scaled)) r e)
    where
      K⁺⁺ : 0 < K
      K⁺⁺ = omega arith

      squares : 2 * (K * (A₁ + A₂)) * U < (2 * (K * P) + P + (A₁ + A₂) + 3 * K) * U
      squares = let k = mul-lt-mul_of_pos_left l K⁺⁺ in omega arith

      scaled : (2 * (K * P) + 20 * P) * U < (2 * (K * Q) + Q + K + 1) * U
      scaled = omega arith
