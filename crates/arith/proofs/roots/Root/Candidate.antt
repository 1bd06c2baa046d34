-- A candidate that passes two comparisons of squares, and is even at a tie, is the root at binary64.
use Rattle.std.proofs.Common.{◌≡◌, ℕ, suc, ◌+◌, ◌-◌, ◌*◌, ◌/◌, ◌%◌, ◌^◌, ◌<◌, ◌≤◌, false, ◌⊎◌, sym, ap, ◌∙◌, subst, inl, inr, zero-le, le_trans, le_of_eq, lt_of_lt_of_le, lt_of_le_of_lt, zero-mul, arith, pow_pos, pow-add}
use Prim.Native.Nat.{compare, Ordering}
use lib.Ieee.{binary64, nearest, size, units}
use lib.Ieee.Digits.{size-le}
use Rattle.arith.proofs.roots.Numbers.{Compared, compared, decide}
use Rattle.arith.proofs.roots.Root.Digits.{DigitsWithin, root_digits_lem, size_ge, sq_pow}
use Rattle.arith.proofs.roots.Squares.{square, times_le, times_lt}
use Rattle.arith.specs.roots.Steps.{sq}
use Rattle.arith.specs.roots.Roots.{root, root_digits}

-- j + 1 steps of u are nearest to the root of n, and where j or j + 2 steps are as near j + 1 is even
pub record NearestTo (n j u : ℕ) : Type 0 where
  pub over : sq ((2 * j + 1) * u) ≤ 4 * n
  pub under : 4 * n ≤ sq ((2 * j + 3) * u)
  pub over_even : sq ((2 * j + 1) * u) ≡ 4 * n → j % 2 ≡ 1
  pub under_even : 4 * n ≡ sq ((2 * j + 3) * u) → j % 2 ≡ 1

module _ (n j u h : ℕ) (U : 0 < u) (lo : sq (h * u) ≤ n) (hi : n < sq ((h + 1) * u)) (near : NearestTo n j u) where
  at_most : j ≤ h
  at_most = let o = near.over in let z = times_lt (2 * j + 1) (2 * h + 2) u (omega arith) in omega arith

  at_least : h ≤ j + 1
  at_least = let o = near.under in let z = times_le (2 * h) (2 * j + 3) u U (omega arith) in omega arith

  even_case : (j ≡ h) ⊎ (h ≡ j + 1) → 4 * n ≡ sq ((2 * h + 1) * u) → h + h % 2 ≡ j + 1
  even_case (inl e) c = let z = near.over_even (ap (λ (x : ℕ). sq ((2 * x + 1) * u)) e ∙ sym c) in omega arith
  even_case (inr e) c = let z = near.under_even (c ∙ ap (λ (x : ℕ). sq (x * u))
      (let w : 2 * h + 1 ≡ 2 * j + 3 = omega arith in w)) in omega arith

  either : (j ≡ h) ⊎ (h ≡ j + 1)
  either = elim (decide h j) [ inl l ↦ inl (omega (arith, at_most)) | inr l ↦ inr (omega (arith, at_least)) ]

  unique : (o : Ordering) → Compared o (4 * n) (sq ((2 * h + 1) * u)) → nearest h o ≡ j + 1
  unique Ordering.lt c = let z = times_lt (2 * j + 1) (2 * h + 1) u (lt_of_le_of_lt near.over c) in omega
      (arith, at_least)
  unique Ordering.eq c = even_case either c
  unique Ordering.gt c = let z = times_lt (2 * h + 1) (2 * j + 3) u (lt_of_lt_of_le c near.under) in omega
      (arith, at_most)

-- with 53 digits of the root kept, E are dropped
dropped : (n E : ℕ) → n < sq (2 ^ 53 * 2 ^ E) → (0 < E → sq (2 ^ 52 * 2 ^ E) ≤ n) → suc (size n) / 2 - 53 ≡ E
dropped n E hi lo =
    let a : size n ≤ 53 + E + (53 + E) = size-le n (53 + E + (53 + E))
    (lt_of_lt_of_le hi (le_of_eq (ap sq (sym (pow-add 2 53 E)) ∙ sq_pow (53 + E)))) in
    elim (decide E 0) [
      | inl z ↦ omega arith
      | inr p ↦
          let b : 52 + E + (52 + E) < size n = size_ge n (52 + E + (52 + E))
          (le_trans (le_of_eq (sym (sq_pow (52 + E)) ∙ ap sq (pow-add 2 52 E))) (lo p)) in
          omega arith
    ]

root_by : (n j E k : ℕ) → k ≡ E → n < sq (2 ^ 53 * 2 ^ E) → NearestTo n j (2 ^ E)
    → units binary64 false (nearest (root_digits 53 (2 ^ k) n 0) (compare (4 * n)
    (((2 * root_digits 53 (2 ^ k) n 0 + 1) * 2 ^ k) ^ 2))) k ≡ units binary64 false (j + 1) E
root_by n j E k e hi near =
    let u = 2 ^ E in
    let h = root_digits 53 u n 0 in
    let w : DigitsWithin u n h 1 = root_digits_lem 53 u n 0 (
      subst (λ (x : ℕ). x ≤ n)
          (sym (square (0 * u) ∙ ap sq (zero-mul u))) zero-le,
      lt_of_lt_of_le hi
          (le_of_eq (sym (square ((0 + 2 ^ 53) * u)))),
    ) in
    let lo' : sq (h * u) ≤ n = le_trans (le_of_eq (sym (square (h * u)))) w.0 in
    let hi' : n < sq ((h + 1) * u) = lt_of_lt_of_le w.1 (le_of_eq (square ((h + 1) * u))) in
    let c : Compared (compare (4 * n) (((2 * h + 1) * u) ^ 2)) (4 * n) (sq ((2 * h + 1) * u)) =
    subst (λ (x : ℕ). Compared (compare (4 * n) (((2 * h + 1) * u) ^ 2)) (4 * n) x) (square ((2 * h + 1) * u))
    (compared (4 * n) (((2 * h + 1) * u) ^ 2)) in
    ap (λ (z : ℕ). units binary64 false (nearest (root_digits 53 (2 ^ z) n 0)
    (compare (4 * n) (((2 * root_digits 53 (2 ^ z) n 0 + 1) * 2 ^ z) ^ 2))) z) e
    ∙ ap (λ (z : ℕ). units binary64 false z E) (unique n j u h (pow_pos E) lo' hi' near
    (compare (4 * n) (((2 * h + 1) * u) ^ 2)) c)

pub root_at : (n j E : ℕ) → n < sq (2 ^ 53 * 2 ^ E) → (0 < E → sq (2 ^ 52 * 2 ^ E) ≤ n) → NearestTo n j (2 ^ E)
    → root binary64 n ≡ units binary64 false (j + 1) E
unfolding root
root_at n j E hi lo near = root_by n j E (suc (size n) / 2 - 53) (dropped n E hi lo) hi near
