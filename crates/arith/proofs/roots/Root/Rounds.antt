-- The root by its digits is one rounding of the sticky root.
use Rattle.std.proofs.Common.{◌≡◌, ℕ, suc, ◌+◌, ◌-◌, ◌*◌, ◌/◌, ◌%◌, ◌^◌, ◌<◌, ◌≤◌, false, sym, refl, ap, ◌∙◌, subst, inl, inr, zero-le, le_trans, le_of_eq, lt_of_lt_of_le, le_of_lt, lt_irrefl, zero-lt-suc, mul-le-mul, mul-le-mul_left, mul-pos, zero-mul, arith, pow_pos, pow_mono, pow-add}
use Prim.Native.Nat.{compare, Ordering}
use lib.Ieee.{Format, low, nearest, prec, round, size, units}
use lib.Ieee.Digits.{size-le, size-lt, size_reaches}
use lib.Ieee.Fits.{round_is}
use lib.Ieee.Nearest.{closest, closest_same, div_same}
use Rattle.arith.proofs.roots.Numbers.{Compared, compared, decide}
use Rattle.arith.proofs.roots.Root.Digits.{DigitsWithin, root_digits_lem, size_ge, sq_pow}
use Rattle.arith.proofs.roots.Root.Sticky.{sticky_root, whole_root, whole_root_is}
use Rattle.arith.proofs.roots.Root.Unique.{kept_is, NearestSteps, sticky_root_div}
use Rattle.arith.proofs.roots.Rounding.Key.{unit}
use Rattle.arith.proofs.roots.Squares.{four_sq, sq_times_le, sq_times_lt, square}
use Rattle.arith.specs.roots.Steps.{sq}
use Rattle.arith.specs.roots.Roots.{root, root_digits}

-- ---- the digits that are dropped
zero_of : (n : ℕ) → n < 1 → size n ≤ 0
zero_of n h = size-le n 0 h

below : (s : ℕ) → (s + 1 ≤ 2 ^ size s)
below s = le_trans (le_of_eq (native.Mathlib.Numerals.add-one s)) (size-lt s)

root_size : (n : ℕ) → size (whole_root n) ≡ suc (size n) / 2
root_size n =
    let s = whole_root n in
    let r = whole_root_is n in
    let z = size s in
    let a : size n ≤ z + z = size-le n (z + z) (lt_of_lt_of_le r.most
    (le_trans (mul-le-mul (below s) (below s)) (le_of_eq (sq_pow z)))) in
    go s n z (size n) a
    (λ h. size_ge n (z - 1 + (z - 1)) (le_trans (le_of_eq (sym (sq_pow (z - 1))))
    (le_trans (mul-le-mul (size_reaches s (z - 1) h) (size_reaches s (z - 1) h)) r.least)))
  where
    go : (s n z w : ℕ) → w ≤ z + z → (z - 1 < z → z - 1 + (z - 1) < w) → z ≡ suc w / 2
    go s n z w a b = elim (decide z 0) [
      | inl h ↦ omega arith
      | inr h ↦ let c = b (omega arith) in omega arith
    ]

-- ---- the kept number is nearest
module _ (n u h : ℕ) (U : 0 < u) (lo : sq (h * u) ≤ n) (hi : n < sq ((h + 1) * u)) where
  two_h : sq (2 * h * u) ≤ 4 * n
  two_h = le_trans (le_of_eq (sym (four_sq h u))) (mul-le-mul_left 4 lo)

  two_next : 4 * n < sq (2 * (h + 1) * u)
  two_next = lt_of_lt_of_le (go n (sq ((h + 1) * u)) hi) (le_of_eq (four_sq (h + 1) u))
    where
      go : (n a : ℕ) → n < a → 4 * n < 4 * a
      go n a h = omega arith

  less : 0 < h → sq ((2 * h - 1) * u) < 4 * n
  less k = lt_of_lt_of_le (sq_times_lt (2 * h - 1) (2 * h) u U (omega arith)) two_h

  stay : 4 * n ≤ sq ((2 * h + 1) * u) → (4 * n ≡ sq ((2 * h + 1) * u) → h % 2 ≡ 0) → NearestSteps n h u
  stay a b = record {
    low_side = λ k. le_of_lt (less k);
    high_side = a;
    low_tie = λ k e. absurd (lt_irrefl (4 * n) (subst (λ (z : ℕ). z < 4 * n) e (less k)));
    high_tie = b;
  }

  minus_one : 2 * suc h - 1 ≡ 2 * h + 1
  minus_one = omega arith

  more : 4 * n < sq ((2 * suc h + 1) * u)
  more = lt_of_lt_of_le two_next (sq_times_le (2 * (h + 1)) (2 * suc h + 1) u (omega arith))

  move : sq ((2 * h + 1) * u) ≤ 4 * n → (sq ((2 * h + 1) * u) ≡ 4 * n → suc h % 2 ≡ 0) → NearestSteps n (suc h) u
  move a b = record {
    low_side = λ k. le_trans (le_of_eq (ap (λ (z : ℕ). sq (z * u)) minus_one)) a;
    high_side = le_of_lt more;
    low_tie = λ k e. b (ap (λ (z : ℕ). sq (z * u)) (sym minus_one) ∙ e);
    high_tie = λ e. absurd (lt_irrefl (4 * n) (subst (λ (z : ℕ). 4 * n < z) (sym e) more));
  }

  tie : 4 * n ≡ sq ((2 * h + 1) * u) → NearestSteps n (h + h % 2) u
  tie e = elim (decide (h % 2) 0) [
    | inl k ↦ subst (λ (z : ℕ). NearestSteps n z u) (let w : h ≡ h + h % 2 = omega arith in w)
        (stay (le_of_eq e) (λ x. let w : h % 2 ≡ 0 = omega arith in w))
    | inr k ↦ subst (λ (z : ℕ). NearestSteps n z u) (let w : suc h ≡ h + h % 2 = omega arith in w)
        (move (le_of_eq (sym e)) (λ x. let w : suc h % 2 ≡ 0 = omega arith in w))
  ]

  pub kept_nearest : (o : Ordering) → Compared o (4 * n) (sq ((2 * h + 1) * u)) → NearestSteps n (nearest h o) u
  kept_nearest Ordering.lt c = stay (le_of_lt c) (λ e. absurd (lt_irrefl (4 * n)
      (subst (λ (z : ℕ). 4 * n < z) (sym e) c)))
  kept_nearest Ordering.eq c = tie c
  kept_nearest Ordering.gt c = move (le_of_lt c) (λ e. absurd (lt_irrefl (4 * n) (subst (λ (z : ℕ). z < 4 * n) e c)))

-- what `arith`'s root kept-digits of n, with u for a step
abbrev kept_digits : Format → ℕ → ℕ → ℕ
kept_digits f n u = nearest (root_digits (prec f) u n 0) (compare (4 * n)
    (((2 * root_digits (prec f) u n 0 + 1) * u) ^ 2))

enough : (z p : ℕ) → z ≤ p + (suc z / 2 - p) + (p + (suc z / 2 - p))
enough z p = omega arith

keeps_nearest : (f : Format) (n : ℕ)
    → NearestSteps n (kept_digits f n (2 ^ (suc (size n) / 2 - prec f))) (2 ^ (suc (size n) / 2 - prec f))
keeps_nearest f n =
    let p = prec f in
    let k = suc (size n) / 2 - p in
    let u = 2 ^ k in
    let h = root_digits p u n 0 in
    let top : n < sq (2 ^ p * u) = lt_of_lt_of_le (size-lt n) (le_trans (pow_mono (enough (size n) p))
    (le_of_eq (sym (sq_pow (p + k)) ∙ ap sq (pow-add 2 p k)))) in
    let w : DigitsWithin u n h 1 = root_digits_lem p u n 0 (
      subst (λ (x : ℕ). x ≤ n)
          (sym (square (0 * u) ∙ ap sq (zero-mul u))) zero-le,
      lt_of_lt_of_le top
          (le_of_eq (ap (λ (x : ℕ). sq (x * u)) (sym (native.Mathlib.Nat.zero-add (2 ^ p))) ∙ sym
          (square ((0 + 2 ^ p) * u)))),
    ) in
    kept_nearest n u h (pow_pos k) (le_trans (le_of_eq (sym (square (h * u)))) w.0)
    (lt_of_lt_of_le w.1 (le_of_eq (square ((h + 1) * u))))
    (compare (4 * n) (((2 * h + 1) * u) ^ 2))
    (subst (λ (x : ℕ). Compared (compare (4 * n) (((2 * h + 1) * u) ^ 2)) (4 * n) x) (square ((2 * h + 1) * u))
    (compared (4 * n) (((2 * h + 1) * u) ^ 2)))

num_root : (f : Format) (n : ℕ)
    → root f n ≡ units f false (kept_digits f n (2 ^ (suc (size n) / 2 - prec f))) (suc (size n) / 2 - prec f)
unfolding root
num_root f n = refl

scaled : (c L k : ℕ) → c * L * (4 * 2 ^ k) ≡ c * (4 * L * 2 ^ k)
scaled c L k = go c L (2 ^ k)
  where
    go : (c L p : ℕ) → c * L * (4 * p) ≡ c * (4 * L * p)
    go c L p = omega arith

-- the root by its digits is one rounding of the sticky root
pub root_round : (f : Format) (n : ℕ) → root f n ≡ round f false (sticky_root n) (4 * unit f)
unfolding unit
root_round f n =
    let k = suc (size n) / 2 - prec f in
    let L = 2 ^ low f in
    let d : sticky_root n * L / (4 * L) ≡ whole_root n = div_same (sticky_root n * L) (4 * L) (sticky_root n) 4
    (mul-pos (zero-lt-suc 3) (pow_pos (low f))) (zero-lt-suc 3) (go (sticky_root n) L) ∙ sticky_root_div n in
    let e : size (sticky_root n * L / (4 * L)) - prec f ≡ k = ap (λ (z : ℕ). size z - prec f) d ∙ ap
    (λ (z : ℕ). z - prec f) (root_size n) in
    let c : closest (sticky_root n * L) (4 * L * 2 ^ k) ≡ kept_digits f n (2 ^ k) = closest_same (sticky_root n * L)
    (4 * L * 2 ^ k) (sticky_root n) (4 * 2 ^ k) (mul-pos (mul-pos (zero-lt-suc 3) (pow_pos (low f))) (pow_pos k))
    (mul-pos (zero-lt-suc 3) (pow_pos k)) (scaled (sticky_root n) L k) ∙ kept_is n (kept_digits f n (2 ^ k)) (2 ^ k)
    (pow_pos k) (keeps_nearest f n) in
    num_root f n
    ∙ ap (λ (z : ℕ). units f false z k) (sym c)
    ∙ ap (λ (z : ℕ). units f false (closest (sticky_root n * L) (4 * L * 2 ^ z)) z) (sym e)
    ∙ sym (round_is f false (sticky_root n) (4 * L))
  where
    go : (c L : ℕ) → c * L * 4 ≡ c * (4 * L)
    go c L = omega arith
