-- What the integer core finds of a significand is the bits of the square root.
use Rattle.std.proofs.Common.{◌≡◌, ℕ, ◌+◌, ◌-◌, ◌*◌, ◌/◌, ◌%◌, ◌^◌, ◌<◌, ◌≤◌, false, sym, ap, ◌∙◌, subst, inl, inr, le_trans, le_of_eq, lt_of_lt_of_le, lt_of_le_of_lt, le_of_lt, mul-le-mul_right, mul_assoc, mul-lt-mul_of_pos_right, mul-pos, arith, pow_pos, pow-add}
use native.Mathlib.Nat.{mul-mul-mul_comm}
use lib.Ieee.{binary64, of_bits, units}
use Rattle.arith.proofs.roots.Numbers.{decide}
use Rattle.arith.proofs.roots.Pattern.Bits.{units_bits}
use Rattle.arith.proofs.roots.Root.Candidate.{root_at}
use Rattle.arith.proofs.roots.Root.Inside.{inside_hi, inside_lo, near_inside, pred}
use Rattle.arith.proofs.roots.Squares.{sq_lt}
use Rattle.arith.specs.roots.Steps.{NearestHalf, NearestOfThree, Radicand, sq, SqrtIs}
use Rattle.arith.specs.roots.Roots.{root}

-- ---- the square root
module _ (n z G : ℕ) (e : 4 * n ≡ z * sq (2 ^ G)) (lo : 2 ^ 106 ≤ z) (hi : z < 2 ^ 108) where
  n_hi : n < sq (2 ^ 53 * 2 ^ G)
  n_hi =
      let a : z * sq (2 ^ G) < 2 ^ 108 * sq (2 ^ G) = mul-lt-mul_of_pos_right hi (mul-pos (pow_pos G) (pow_pos G)) in
      lt_of_lt_of_le (go n (z * sq (2 ^ G)) (sq (2 ^ G)) e a) (le_of_eq
      (sym (mul-mul-mul_comm (2 ^ 53) (2 ^ G) (2 ^ 53) (2 ^ G))))
    where
      go : (n w u : ℕ) → 4 * n ≡ w → w < 2 ^ 108 * u → n < 2 ^ 106 * u
      go n w u p q = omega arith

  n_lo : sq (2 ^ 52 * 2 ^ G) ≤ n
  n_lo =
      let a : 2 ^ 106 * sq (2 ^ G) ≤ z * sq (2 ^ G) = mul-le-mul_right (sq (2 ^ G)) lo in
      le_trans (le_of_eq (mul-mul-mul_comm (2 ^ 52) (2 ^ G) (2 ^ 52) (2 ^ G))) (go n (z * sq (2 ^ G)) (sq (2 ^ G)) e a)
    where
      go : (n w u : ℕ) → 4 * n ≡ w → 2 ^ 106 * u ≤ w → 2 ^ 104 * u ≤ n
      go n w u p q = omega arith

  root_j : (j : ℕ) → NearestHalf z (j + 1) → root binary64 n ≡ units binary64 false (j + 1) G
  root_j j h = root_at n j G n_hi (λ g. n_lo) (near_inside n z j (2 ^ G) (pow_pos G) (inside_lo z j h) (inside_hi z j h)
      (le_of_eq (sym e)) (lt_of_le_of_lt (le_of_eq e) (mul-lt-mul_of_pos_right (let w : z < z + 1 = omega arith in w)
      (mul-pos (pow_pos G) (pow_pos G)))))

  pub least : (r : ℕ) → NearestHalf z r → 2 ^ 52 ≤ r
  least r h = let o = h.under in let w = sq_lt (2 ^ 53) (2 * r + 1) (lt_of_le_of_lt lo (omega arith)) in omega arith

  pub most : (j : ℕ) → NearestHalf z (j + 1) → j < 2 ^ 53
  most j h = let w = sq_lt (2 * j + 1) (2 ^ 54) (lt_of_lt_of_le (inside_lo z j h) (le_of_lt hi)) in omega arith

  pub root_inside : (r : ℕ) → NearestHalf z r → G < 2045
      → (G * 2 ^ 52 + r < 2047 * 2 ^ 52) × (root binary64 n ≡ of_bits binary64 (G * 2 ^ 52 + r))
  root_inside r h g =
      let l = least r h in
      let p : (r - 1) + 1 ≡ r = pred r (omega arith) in
      let h' = subst (λ (x : ℕ). NearestHalf z x) (sym p) h in
      let m = most (r - 1) h' in
      let k : r ≤ 2 ^ 53 = omega arith in
      let i : G * 2 ^ 52 + r < 2047 * 2 ^ 52 = omega arith in
      (i, root_j (r - 1) h' ∙ ap (λ (x : ℕ). units binary64 false x G) p ∙ units_bits r G k (λ x. l) i)

even_e : (e : ℕ) → e % 2 ≡ 0 → 2 ≤ e → 2 + (e + 50) ≡ 54 + (e / 2 - 1 + (e / 2 - 1))
even_e e h l = omega arith

odd_e : (e : ℕ) → e % 2 ≡ 1 → 2 ≤ e → 2 + (e + 50) ≡ 55 + (e / 2 - 1 + (e / 2 - 1))
odd_e e h l = omega arith

-- 4 * (m * 2 ^ i) is m * 2 ^ k * 4 ^ G, where 2 + i = k + 2 G
four_times : (m i k G : ℕ) → 2 + i ≡ k + (G + G) → 4 * (m * 2 ^ i) ≡ m * 2 ^ k * sq (2 ^ G)
four_times m i k G h =
    let a : 2 ^ k * sq (2 ^ G) ≡ 4 * 2 ^ i = ap (λ (x : ℕ). 2 ^ k * x) (sym (pow-add 2 G G)) ∙ sym (pow-add 2 k (G + G))
    ∙ ap (λ (x : ℕ). 2 ^ x) (sym h) ∙ pow-add 2 2 i in
    swap m (2 ^ i) ∙ ap (λ (x : ℕ). m * x) (sym a) ∙ sym (mul_assoc m (2 ^ k) (sq (2 ^ G)))
  where
    swap : (m p : ℕ) → 4 * (m * p) ≡ m * (4 * p)
    swap m p = omega arith

radicand : (m e z : ℕ) → 2 ≤ e → Radicand m e z → 4 * (m * 2 ^ (e + 50)) ≡ z * 2 ^ 54 * sq (2 ^ (e / 2 - 1))
radicand m e z l h = elim (decide 1 (e % 2)) [
  | inl p ↦
      let q : e % 2 ≡ 1 = omega arith in
      four_times m (e + 50) 55 (e / 2 - 1) (odd_e e q l) ∙ ap (λ (x : ℕ). x * sq (2 ^ (e / 2 - 1)))
      (let w = h.odd q in let v : m * 2 ^ 55 ≡ z * 2 ^ 54 = omega arith in v)
  | inr p ↦
      let q : e % 2 ≡ 0 = omega arith in
      four_times m (e + 50) 54 (e / 2 - 1) (even_e e q l) ∙ ap (λ (x : ℕ). x * 2 ^ 54 * sq (2 ^ (e / 2 - 1)))
      (sym (h.even q))
]

pub sqrt_law : (m e z r : ℕ) → 2 ≤ e → e < 4092 → Radicand m e z → NearestHalf (z * 2 ^ 54) r
    → SqrtIs m e ((e / 2 - 1) * 2 ^ 52 + r)
sqrt_law m e z r e2 em rad ins =
    let l = rad.least in
    let h = rad.most in
    let k = root_inside (m * 2 ^ (e + 50)) (z * 2 ^ 54) (e / 2 - 1) (radicand m e z e2 rad) (omega arith) (omega arith)
    r ins (omega arith) in
    record { fine = k.0; is = k.1 }

pub sqrt_checked : (m e z y k r : ℕ) → 2 ≤ e → e < 4092 → Radicand m e z → y ≡ z * 2 ^ 54
    → NearestOfThree y k r → SqrtIs m e ((e / 2 - 1) * 2 ^ 52 + r)
sqrt_checked m e z y k r e2 em rad w h = sqrt_law m e z r e2 em rad (subst (λ (x : ℕ). NearestHalf x r) w h.nearest)
