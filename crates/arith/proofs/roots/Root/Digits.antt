-- The digits of a root: root_digits finds the greatest h with (h * u) ^ 2 at most n.
use Rattle.std.proofs.Common.{◌≡◌, ℕ, zero, suc, ◌+◌, ◌*◌, ◌^◌, ◌<◌, ◌≤◌, Bool, true, false, cond, leb, sym, refl, subst, inl, inr, lt_of_le_of_lt, pow-suc, not-le_of_lt, arith, pow_mono, pow-add, leb-false, leb-true}
use lib.Ieee.{size}
use lib.Ieee.Digits.{size-lt}
use Rattle.arith.proofs.roots.Numbers.{decide}
use Rattle.arith.specs.roots.Steps.{sq}
use Rattle.arith.specs.roots.Roots.{root_digits}

-- the digits of a root: the greatest h with (h * u) ^ 2 at most n
abbrev pub DigitsWithin : ℕ → ℕ → ℕ → ℕ → Type 0
DigitsWithin u n h w = ((h * u) ^ 2 ≤ n) × (n < ((h + w) * u) ^ 2)

pub root_digits_lem : (d u n h : ℕ) → DigitsWithin u n h (2 ^ d) → DigitsWithin u n (root_digits d u n h) 1
unfolding root_digits
root_digits_lem zero u n h w = w
root_digits_lem (suc d) u n h (lo, hi) = go (λ k. root_digits_lem d u n k) (leb (((h + 2 ^ d) * u) ^ 2) n) refl
  where
    go : ((k : ℕ) → DigitsWithin u n k (2 ^ d) → DigitsWithin u n (root_digits d u n k) 1) →
        (b : Bool) → leb (((h + 2 ^ d) * u) ^ 2) n ≡ b → DigitsWithin u n (root_digits d u n (cond b (h + 2 ^ d) h)) 1
    go next true e =
        next (h + 2 ^ d) (leb-true _ _ e, subst (λ (x : ℕ). n < (x * u) ^ 2) (omega (arith, pow-suc 2 d)) hi)
    go next false e = next h (lo, leb-false _ _ e)

-- ---- binary64: 53 digits
pub exponent_lt : (i l : ℕ) → 2 ^ i < 2 ^ l → i < l
exponent_lt i l h = elim (decide l i) [ inl k ↦ absurd (not-le_of_lt h (pow_mono k)) | inr k ↦ k ]

pub size_ge : (n i : ℕ) → 2 ^ i ≤ n → i < size n
size_ge n i h = exponent_lt i (size n) (lt_of_le_of_lt h (size-lt n))

pub sq_pow : (i : ℕ) → sq (2 ^ i) ≡ 2 ^ (i + i)
sq_pow i = sym (pow-add 2 i i)
