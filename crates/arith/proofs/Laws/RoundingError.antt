-- THE ERROR OF ONE ROUNDING, as a share of what is rounded: 2 K times the error is at most H, for every K that the format's
-- digits tell apart and every H that is at least the exact value, or the rounded one, and at least K units of the fraction's
-- denominator. Of whole numbers the last falls away: what is not dropped is exact. Over any format; nothing here is about
-- binary64.
use Rattle.std.proofs.Common.{◌≡◌, ℕ, zero, suc, ◌+◌, ◌-◌, ◌*◌, ◌/◌, ◌^◌, ◌<◌, ◌≤◌, true, false, ◌⊎◌, sym, ap, ◌∙◌, inl, inr, le_trans, le_of_eq, lt_of_lt_of_le, le_of_lt, mul-le-mul_right, zero-lt-suc, mul_assoc, div-lt_iff_lt-mul, add-mul, eq-or-lt_of_le, mul-le-mul_left, one-mul, le-div_iff_mul-le, arith, pow_mono, pow-add}
use native.Mathlib.Nat.{two-pow-succ}
use native.Mathlib.Nat.{min-eq_right}
use lib.Ieee.{emax, Format, low, prec, size}
use lib.Ieee.Digits.{size-lt, size_reaches}
use lib.Ieee.Order.{drop, kept}
use lib.Pow.{pow-lt}
use Rattle.arith.proofs.roots.Numbers.{decide}
use Rattle.arith.proofs.roots.Rounding.Fraction.{all_in_use, kept_ge, rounded, rounded_fix, rounded_le, rounded_near, WithinHalf}
use Rattle.arith.proofs.roots.Rounding.Key.{mid, prec_pos}
use Rattle.arith.proofs.roots.Rounding.RoundKey.{round_key, round_key_side, times_sub}

-- x and y are at most e apart
pub record Close (x y e : ℕ) : Type 0 where
  pub over : x ≤ y + e
  pub under : y ≤ x + e

module _ (K p n c : ℕ) (P : 0 < p) (D : K ≤ 2 ^ (p - 1)) (C : 0 < c) where
  near : WithinHalf (rounded p n c * c) n (2 ^ drop p n c * c)
  near = rounded_near p n c (drop p n c) C
      ((div-lt_iff_lt-mul C).0 (lt_of_lt_of_le (size-lt (n / c)) (pow_mono (digits (size (n / c))))))
    where
      digits : (s : ℕ) → s ≤ p + (s - p)
      digits s = omega arith

  -- what the last place that is kept is worth: the denominator, or a small share of the exact value and of the rounded one
  share : (2 ^ drop p n c * c ≡ c) ⊎ ((K * (2 ^ drop p n c * c) ≤ n) × (K * (2 ^ drop p n c * c) ≤ rounded p n c * c))
  unfolding rounded
  share = go (drop p n c) (kept p n c) (kept_ge p n c P) reach
    where
      reach : 0 < drop p n c → 2 ^ (p - 1) * 2 ^ drop p n c * c ≤ n
      reach h = (le-div_iff_mul-le C).0 (le_trans (le_of_eq (sym (pow-add 2 (p - 1) (drop p n c))))
          (size_reaches (n / c) (p - 1 + drop p n c) (all_in_use (size (n / c)) p P h)))

      go : (k q : ℕ) → (0 < k → 2 ^ (p - 1) ≤ q) → (0 < k → 2 ^ (p - 1) * 2 ^ k * c ≤ n)
          → (2 ^ k * c ≡ c) ⊎ ((K * (2 ^ k * c) ≤ n) × (K * (2 ^ k * c) ≤ q * 2 ^ k * c))
      go zero q h r = inl (one-mul c)
      go (suc k) q h r = inr (
        le_trans (mul-le-mul_right (2 ^ suc k * c) D)
            (le_trans (le_of_eq (sym (mul_assoc (2 ^ (p - 1)) (2 ^ suc k) c))) (r (zero-lt-suc k))),
        le_trans (mul-le-mul_right (2 ^ suc k * c) (le_trans D (h (zero-lt-suc k)))) (le_of_eq (sym (mul_assoc q (2 ^ suc k) c))),
      )

  module _ (H : ℕ) (small : (c ≡ 1) ⊎ (K * c ≤ H)) (most : (n ≤ H) ⊎ (rounded p n c * c ≤ H)) where
    pub rounded_error : Close (2 * K * (rounded p n c * c)) (2 * K * n) H
    rounded_error = go (rounded p n c * c) (2 ^ drop p n c * c) near.0 near.1 share small most
      where
        finish : (R w : ℕ) → 2 * R ≤ 2 * n + w → 2 * n ≤ 2 * R + w → K * w ≤ H → Close (2 * K * R) (2 * K * n) H
        finish R w h k l = record {
          over = omega (arith, mul-le-mul_left K h);
          under = omega (arith, mul-le-mul_left K k);
        }

        go : (R w : ℕ) → 2 * R ≤ 2 * n + w → 2 * n ≤ 2 * R + w → (w ≡ c) ⊎ ((K * w ≤ n) × (K * w ≤ R))
            → (c ≡ 1) ⊎ (K * c ≤ H) → (n ≤ H) ⊎ (R ≤ H) → Close (2 * K * R) (2 * K * n) H
        go R w h k (inl e) (inl o) m = let q : R ≡ n = omega arith in
            record { over = rw q (omega arith); under = rw q (omega arith) }
        go R w h k (inl e) (inr o) m = finish R w h k (rw e o)
        go R w h k (inr s) o (inl m) = finish R w h k (le_trans s.0 m)
        go R w h k (inr s) o (inr m) = finish R w h k (le_trans s.1 m)

-- ---- the same of a signed fraction (a - b) / c and its key, which must not leave the format's range
module _ (f : Format) (K : ℕ) (D : K ≤ 2 ^ (prec f - 1)) (a b c H : ℕ) (C : 0 < c) (small : (c ≡ 1) ⊎ (K * c ≤ H)) where
  -- n is the size of the fraction's numerator
  up_side : (n : ℕ) → a ≡ b + n → rounded (prec f) n c ≤ mid f → (n ≤ H) ⊎ (rounded (prec f) n c * c ≤ H)
      → Close (2 * K * (round_key f a b c * c + b)) (2 * K * (mid f * c + a)) H
  up_side n e l m =
      let r = rounded_error K (prec f) n c (prec_pos f) D C H small m in
      rw (round_key_side f false n a b c C e, min-eq_right l, e)
      (record { over = omega (arith, r.over); under = omega (arith, r.under) })

  down_side : (n : ℕ) → b ≡ a + n → rounded (prec f) n c ≤ mid f → (n ≤ H) ⊎ (rounded (prec f) n c * c ≤ H)
      → Close (2 * K * (round_key f a b c * c + b)) (2 * K * (mid f * c + a)) H
  down_side n e l m =
      let r = rounded_error K (prec f) n c (prec_pos f) D C H small m in
      rw (round_key_side f true n a b c C e, min-eq_right l, e)
      (go (mid f) (rounded (prec f) n c) l r.over r.under)
    where
      go : (M R : ℕ) → R ≤ M → 2 * K * (R * c) ≤ 2 * K * n + H → 2 * K * n ≤ 2 * K * (R * c) + H
          → Close (2 * K * ((M - R) * c + (a + n))) (2 * K * (M * c + a)) H
      go M R l h k =
          let e : M ≡ (M - R) + R = omega arith in
          let x : M * c ≡ (M - R) * c + R * c = ap (λ z. z * c) e ∙ add-mul (M - R) R c in
          rw x (step ((M - R) * c) (R * c) h k)
        where
          step : (X Y : ℕ) → 2 * K * Y ≤ 2 * K * n + H → 2 * K * n ≤ 2 * K * Y + H
              → Close (2 * K * (X + (a + n))) (2 * K * (X + Y + a)) H
          step X Y h k = record { over = omega arith; under = omega arith }

  in_range : (n : ℕ) → n ≤ mid f * c → rounded (prec f) n c ≤ mid f
  unfolding mid
  in_range n h = le_trans (rounded_le (prec f) n c 1 (low f + suc (emax f)) (prec_pos f) C (pow-lt (prec_pos f))
      (le_trans h (le_of_eq (ap (λ z. z * c) (sym (one-mul (2 ^ (low f + suc (emax f)))))))))
      (le_of_eq (one-mul (2 ^ (low f + suc (emax f)))))

  -- by the exact value
  pub round_key_error : a ≤ b + H → b ≤ a + H → H ≤ mid f * c
      → Close (2 * K * (round_key f a b c * c + b)) (2 * K * (mid f * c + a)) H
  round_key_error h k l = elim (decide b a) [ inl m ↦ up m | inr m ↦ down (le_of_lt m) ]
    where
      up : b ≤ a → Close (2 * K * (round_key f a b c * c + b)) (2 * K * (mid f * c + a)) H
      up m =
          let n : a - b ≤ H = omega arith in
          up_side (a - b) (omega arith) (in_range (a - b) (le_trans n l)) (inl n)

      down : a ≤ b → Close (2 * K * (round_key f a b c * c + b)) (2 * K * (mid f * c + a)) H
      down m =
          let n : b - a ≤ H = omega arith in
          down_side (b - a) (omega arith) (in_range (b - a) (le_trans n l)) (inl n)

  -- by the rounded value, at most h
  pub round_key_error_of : (h : ℕ) → mid f ≤ round_key f a b c + h → round_key f a b c ≤ mid f + h → h < mid f → h * c ≤ H
      → Close (2 * K * (round_key f a b c * c + b)) (2 * K * (mid f * c + a)) H
  round_key_error_of h lo hi l q = elim (decide b a) [ inl m ↦ up m | inr m ↦ down (le_of_lt m) ]
    where
      up : b ≤ a → Close (2 * K * (round_key f a b c * c + b)) (2 * K * (mid f * c + a)) H
      up m =
          let e : a ≡ b + (a - b) = omega arith in
          let s = round_key_side f false (a - b) a b c C e in
          let r : rounded (prec f) (a - b) c ≤ h = omega arith in
          up_side (a - b) e (omega arith) (inr (le_trans (mul-le-mul_right c r) q))

      down : a ≤ b → Close (2 * K * (round_key f a b c * c + b)) (2 * K * (mid f * c + a)) H
      down m =
          let e : b ≡ a + (b - a) = omega arith in
          let s = round_key_side f true (b - a) a b c C e in
          let r : rounded (prec f) (b - a) c ≤ h = omega arith in
          down_side (b - a) e (omega arith) (inr (le_trans (mul-le-mul_right c r) q))

-- ---- the absolute error: 2 ^ e where what is rounded is at most 2 ^ (prec + 1 + e)
rounded_close : (p n c e : ℕ) → 0 < p → 0 < c → n ≤ 2 ^ (p + suc e) * c → Close (rounded p n c * c) n (2 ^ e * c)
rounded_close p n c e P C h = elim (eq-or-lt_of_le h) [
  | inl q ↦ exact q
  | inr l ↦ half (rounded p n c * c) (rounded_near p n c (suc e) C l)
]
  where
    half : (R : ℕ) → WithinHalf R n (2 ^ suc e * c) → Close R n (2 ^ e * c)
    half R w =
        let v : 2 ^ suc e * c ≡ 2 * (2 ^ e * c) = ap (λ z. z * c) (two-pow-succ e) ∙ twice (2 ^ e) in
        record { over = omega (arith, w.0); under = omega (arith, w.1) }
      where
        twice : (z : ℕ) → (z + z) * c ≡ 2 * (z * c)
        twice z = omega arith

    exact : n ≡ 2 ^ (p + suc e) * c → Close (rounded p n c * c) n (2 ^ e * c)
    exact q =
        let m : n ≡ 1 * 2 ^ (p + suc e) * c = q ∙ ap (λ z. z * c) (sym (one-mul (2 ^ (p + suc e)))) in
        let r : rounded p n c ≡ 1 * 2 ^ (p + suc e) = ap (λ z. rounded p z c) m ∙ rounded_fix p 1 (p + suc e) c C (pow-lt P) in
        let s : rounded p n c * c ≡ n = ap (λ z. z * c) r ∙ sym m in
        record { over = omega arith; under = omega arith }

module _ (f : Format) (a b c e : ℕ) (C : 0 < c) (range : 2 ^ (prec f + suc e) ≤ mid f) where
  pub round_key_close : a ≤ b + 2 ^ (prec f + suc e) * c → b ≤ a + 2 ^ (prec f + suc e) * c
      → Close (round_key f a b c * c + b) (mid f * c + a) (2 ^ e * c)
  round_key_close h k = elim (decide b a) [ inl m ↦ up m | inr m ↦ down (le_of_lt m) ]
    where
      fit : (n : ℕ) → n ≤ 2 ^ (prec f + suc e) * c → rounded (prec f) n c ≤ mid f
      fit n l = le_trans (rounded_le (prec f) n c 1 (prec f + suc e) (prec_pos f) C (pow-lt (prec_pos f))
          (le_trans l (le_of_eq (ap (λ z. z * c) (sym (one-mul (2 ^ (prec f + suc e))))))))
          (le_trans (le_of_eq (one-mul (2 ^ (prec f + suc e)))) range)

      up : b ≤ a → Close (round_key f a b c * c + b) (mid f * c + a) (2 ^ e * c)
      up m =
          let n = a - b in
          let N : n ≤ 2 ^ (prec f + suc e) * c = omega arith in
          let r = rounded_close (prec f) n c e (prec_pos f) C N in
          rw (round_key_side f false n a b c C (omega arith), min-eq_right (fit n N), add-mul (mid f) (rounded (prec f) n c) c)
          (record { over = omega (arith, r.over); under = omega (arith, r.under) })

      down : a ≤ b → Close (round_key f a b c * c + b) (mid f * c + a) (2 ^ e * c)
      down m =
          let n = b - a in
          let N : n ≤ 2 ^ (prec f + suc e) * c = omega arith in
          let r = rounded_close (prec f) n c e (prec_pos f) C N in
          let G : rounded (prec f) n c * c ≤ mid f * c = mul-le-mul_right c (fit n N) in
          rw (round_key_side f true n a b c C (omega arith), min-eq_right (fit n N), times_sub (mid f) (rounded (prec f) n c) c)
          (record { over = omega (arith, r.over); under = omega (arith, r.under) })
