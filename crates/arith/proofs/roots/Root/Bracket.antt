-- From a bracket of whole numbers to the root at binary64: what the bisection finds is the bits of the root.
use Rattle.std.proofs.Common.{◌≡◌, ℕ, ◌+◌, ◌-◌, ◌*◌, ◌/◌, ◌%◌, ◌^◌, ◌<◌, ◌≤◌, false, ◌⊎◌, sym, refl, ap, ◌∙◌, subst, inl, inr, le_trans, le_of_eq, le_refl, lt_of_lt_of_le, lt_of_le_of_lt, le_of_lt, mul-le-mul_right, mod-lt, mul-le-mul_left, mul-lt-mul_of_pos_right, mul-pos, div-add-mod', not-le_of_lt, arith, pow_pos, pow-add}
use lib.Ieee.{binary64, inf, of_bits, units}
use Rattle.arith.proofs.roots.Numbers.{decide}
use Rattle.arith.proofs.roots.Pattern.Bits.{units_bits, units_over}
use Rattle.arith.proofs.roots.Root.Candidate.{NearestTo, root_at}
use Rattle.arith.proofs.roots.Root.Inside.{pred}
use Rattle.arith.proofs.roots.Squares.{four_sq, lt_not_eq, sq_times, sq_times_le, sq_times_lt}
use Rattle.arith.specs.roots.Steps.{Rounded, RoundsDown, RoundsDownAt, RoundsUp, RoundsUpAt, sq}
use Rattle.arith.specs.roots.Roots.{root}

-- ---- the root's pattern, or infinity
pub record RootIs (n p : ℕ) : Type 0 where
  pub in_range : p < 2047 * 2 ^ 52 → root binary64 n ≡ of_bits binary64 p
  pub beyond : 2047 * 2 ^ 52 ≤ p → root binary64 n ≡ inf false

from_units : (n K E : ℕ) → K ≤ 2 ^ 53 → (0 < E → 2 ^ 52 ≤ K) → root binary64 n ≡ units binary64 false K E
    → RootIs n (E * 2 ^ 52 + K)
from_units n K E h l e = record { in_range = λ p. e ∙ units_bits K E h l p; beyond = λ p. e ∙ units_over K E h l p }

twice_step : (a E : ℕ) → a * 2 ^ (E + 1) ≡ 2 * a * 2 ^ E
twice_step a E = ap (λ (z : ℕ). a * z) (pow-add 2 E 1) ∙ go a (2 ^ E)
  where
    go : (a p : ℕ) → a * (p * 2) ≡ 2 * a * p
    go a p = omega arith

quarter : (n a : ℕ) → 4 * n < 4 * a → n < a
quarter n a h = omega arith

quarter_le : (n a : ℕ) → 4 * a ≤ 4 * n → a ≤ n
quarter_le n a h = omega arith

-- at and above 2^53 steps of 2^E, up to 2^53 + 1 of them and more, 2^52 steps of twice that are nearest
root_step : (n E : ℕ) → sq (2 ^ 53 * 2 ^ E) ≤ n → 4 * n ≤ sq ((2 ^ 53 + 1) * 2 ^ (E + 1))
    → RootIs n (E * 2 ^ 52 + 2 ^ 53)
root_step n E lo hi =
    let w = 2 ^ (E + 1) in
    let a : sq (2 ^ 52 * w) ≤ n = subst (λ (z : ℕ). sq z ≤ n) (sym (twice_step (2 ^ 52) E)) lo in
    let o : sq ((2 ^ 53 - 1) * w) < 4 * n = lt_of_lt_of_le (sq_times_lt (2 ^ 53 - 1) (2 ^ 53) w (pow_pos (E + 1))
    (omega arith)) (le_trans (le_of_eq (sym (four_sq (2 ^ 52) w))) (mul-le-mul_left 4 a)) in
    let near : NearestTo n (2 ^ 52 - 1) w = record {
      over = le_of_lt o;
      under = hi;
      over_even = λ x. refl;
      under_even =
          λ x. refl;
    } in
    let b : n < sq (2 ^ 53 * w) = quarter n (sq (2 ^ 53 * w)) (lt_of_le_of_lt hi
    (lt_of_lt_of_le (sq_times_lt (2 ^ 53 + 1) (2 ^ 54) w (pow_pos (E + 1)) (omega arith))
    (le_of_eq (sym (four_sq (2 ^ 53) w))))) in
    subst (λ (p : ℕ). RootIs n p) (let z : (E + 1) * 2 ^ 52 + 2 ^ 52 ≡ E * 2 ^ 52 + 2 ^ 53 = omega arith in z)
    (from_units n (2 ^ 52) (E + 1) (omega arith) (λ x. le_refl (2 ^ 52))
    (root_at n (2 ^ 52 - 1) (E + 1) b (λ x. a) near))

pub root_near : (n j E : ℕ) → j < 2 ^ 53 → (0 < E → 2 ^ 52 ≤ j + 1) → (0 < E → sq (2 ^ 52 * 2 ^ E) ≤ n)
    → NearestTo n j (2 ^ E) → RootIs n (E * 2 ^ 52 + (j + 1))
root_near n j E J K L near = elim (decide (sq (2 ^ 53 * 2 ^ E)) n) [
  | inr l ↦ from_units n (j + 1) E (omega arith) K (root_at n j E l L near)
  | inl l ↦
      let u = 2 ^ E in
      let b : sq (2 ^ 54 * u) ≤ sq ((2 * j + 3) * u) = le_trans (le_trans (le_of_eq (sym (four_sq (2 ^ 53) u)))
      (mul-le-mul_left 4 l)) near.under in
      let c : 2 ^ 54 ≤ 2 * j + 3 = elim (decide (2 ^ 54) (2 * j + 3))
      [ inl x ↦ x | inr x ↦ absurd (not-le_of_lt (sq_times_lt (2 * j + 3) (2 ^ 54) u (pow_pos E) x) b) ] in
      let e : 2 ^ 53 ≡ j + 1 = omega arith in
      subst (λ (p : ℕ). RootIs n (E * 2 ^ 52 + p)) e
      (root_step n E l (le_trans near.under (le_trans (sq_times_le (2 * j + 3) (2 * (2 ^ 53 + 1)) u (omega arith))
      (le_of_eq (ap sq (sym (twice_step (2 ^ 53 + 1) E)))))))
]

-- ---- z and a bit: 4 n is z squares of u, and less than one more; t says whether it is more at all
pub record Bracket (n z t u : ℕ) : Type 0 where
  pub low : z * sq u ≤ 4 * n
  pub high : 4 * n < (z + 1) * sq u
  pub exact : t ≡ 0 → 4 * n ≡ z * sq u
  pub more : 0 < t → z * sq u < 4 * n

odd_even : (t k : ℕ) → t ≡ 0 → 0 < t + k % 2 → k % 2 ≡ 1
odd_even t k e h = omega arith

-- M and M' are the two middles, in steps of u
module _ (n z t u k M M' j w : ℕ) (br : Bracket n z t u) (U : 0 < u) (p : M * u ≡ (2 * j + 1) * w)
    (q : M' * u ≡ (2 * j + 3) * w) (par : k % 2 ≡ j % 2) (ua : RoundsUpAt z t k M) (da : RoundsDownAt z t (k + 1) M')
  where
    SU : 0 < sq u
    SU = mul-pos U U

    at_lo : sq ((2 * j + 1) * w) ≡ sq M * sq u
    at_lo = ap sq (sym p) ∙ sq_times M u

    at_hi : sq ((2 * j + 3) * w) ≡ sq M' * sq u
    at_hi = ap sq (sym q) ∙ sq_times M' u

    lo_le : sq M * sq u ≤ 4 * n
    lo_le = le_trans (mul-le-mul_right (sq u) (let x = ua.reached in let y : sq M ≤ z = omega arith in y)) br.low

    lo_tie : sq M * sq u ≡ 4 * n → j % 2 ≡ 1
    lo_tie e = elim (decide (t + k % 2) 0) [
      | inl x ↦ lt_not_eq (sq M * sq u) (4 * n) (lt_of_lt_of_le (mul-lt-mul_of_pos_right (ua.passed (omega arith)) SU)
          br.low) e
      | inr x ↦ elim (decide t 0) [
        | inl y ↦ sym par ∙ odd_even t k (omega arith) x
        | inr y ↦ lt_not_eq (sq M * sq u) (4 * n) (lt_of_le_of_lt (mul-le-mul_right (sq u)
            (let x' = ua.reached in let y' : sq M ≤ z = omega arith in y')) (br.more y)) e
      ]
    ]

    strict : 0 < t + (k + 1) % 2 → 4 * n < sq M' * sq u
    strict h = lt_of_lt_of_le br.high (mul-le-mul_right (sq u) (let x = da.passed h in let y : z + 1 ≤ sq M' = omega
        arith in y))

    hi_le : 4 * n ≤ sq M' * sq u
    hi_le = elim (decide t 0) [
      | inl y ↦ le_trans (le_of_eq (br.exact (omega arith))) (mul-le-mul_right (sq u)
          (let x = da.reached in let w : z ≤ sq M' = omega arith in w))
      | inr y ↦ le_of_lt (strict (omega arith))
    ]

    hi_tie : 4 * n ≡ sq M' * sq u → j % 2 ≡ 1
    hi_tie e = elim (decide (t + (k + 1) % 2) 0) [
      | inl x ↦ omega arith
      | inr x ↦ lt_not_eq (4 * n) (sq M' * sq u) (strict x) e
    ]

    pub near_marks : NearestTo n j w
    near_marks = record {
      over = le_trans (le_of_eq at_lo) lo_le;
      under = le_trans hi_le (le_of_eq (sym at_hi));
      over_even = λ e. lo_tie (sym at_lo ∙ e);
      under_even = λ e. hi_tie (e ∙ at_hi);
    }

-- ---- the candidate that the search finds
module _ (n z t E m : ℕ) (br : Bracket n z t (2 ^ E)) (mp : 0 < m) (ml : m < 2 ^ 53) (mn : 0 < E → 2 ^ 52 ≤ m)
    (big : sq (m * 2 ^ E) ≤ n) where
  least : 0 < E → sq (2 ^ 52 * 2 ^ E) ≤ n
  least p = le_trans (sq_times_le (2 ^ 52) m (2 ^ E) (mn p)) big

  below : (j : ℕ) → m ≤ j + 1 → j + 1 < 2 ^ 53 → RoundsUp z t j → RoundsDown z t (j + 1)
      → RootIs n (E * 2 ^ 52 + (j + 1))
  below j h l up' down' =
      root_near n j E (omega arith) (λ p. le_trans (mn p) h) least
      (near_marks n z t (2 ^ E) j (2 * j + 1) (2 * (j + 1) + 1) j (2 ^ E) br (pow_pos E) refl
      (ap (λ (x : ℕ). x * 2 ^ E) (let e : 2 * (j + 1) + 1 ≡ 2 * j + 3 = omega arith in e)) refl
      (up'.low (omega arith)) (down'.low l))

  -- past 2^53 the step doubles: i is the candidate less 2^52 + 1
  above : (i : ℕ) → 2 ^ 52 ≤ i → i + 1 < 2 ^ 53 → RoundsUp z t (i + 2 ^ 52) → RoundsDown z t (i + 2 ^ 52 + 1)
      → RootIs n (E * 2 ^ 52 + (i + 2 ^ 52 + 1))
  above i h l up' down' =
      let near : NearestTo n i (2 ^ (E + 1)) =
      near_marks n z t (2 ^ E) (i + 2 ^ 52) (4 * (i + 2 ^ 52) + 2 - 2 ^ 54) (4 * (i + 2 ^ 52 + 1) + 2 - 2 ^ 54) i
      (2 ^ (E + 1)) br (pow_pos E)
      (ap (λ (x : ℕ). x * 2 ^ E) (let e : 4 * (i + 2 ^ 52) + 2 - 2 ^ 54 ≡ 2 * (2 * i + 1) = omega arith in e) ∙ sym
      (twice_step (2 * i + 1) E))
      (ap (λ (x : ℕ). x * 2 ^ E) (let e : 4 * (i + 2 ^ 52 + 1) + 2 - 2 ^ 54 ≡ 2 * (2 * i + 3) = omega arith in e) ∙ sym
      (twice_step (2 * i + 3) E))
      (omega arith) (up'.high (omega arith)) (down'.high (omega arith)) in
      let w = 2 ^ (E + 1) in
      let lo : sq (2 ^ 52 * w) ≤ n = quarter_le n (sq (2 ^ 52 * w))
      (le_trans (le_of_eq (four_sq (2 ^ 52) w)) (le_trans (sq_times_le (2 ^ 53) (2 * i + 1) w (omega arith))
      near.over)) in
      subst (λ (p : ℕ). RootIs n p) (let e : (E + 1) * 2 ^ 52 + (i + 1) ≡ E * 2 ^ 52 + (i + 2 ^ 52 + 1) = omega arith in
      e)
      (root_near n i (E + 1) (omega arith) (λ p. omega arith) (λ p. lo) near)

  -- at 2^53
  edge : RoundsUp z t (2 ^ 53 - 1) → RoundsDown z t (2 ^ 53) → RootIs n (E * 2 ^ 52 + 2 ^ 53)
  edge up' down' = elim (decide (sq (2 ^ 53 * 2 ^ E)) n) [
    | inl l ↦
        let da : RoundsDownAt z t (2 ^ 53) (2 * (2 ^ 53 + 1)) = down'.high (le_refl (2 ^ 53)) in
        root_step n E l (le_trans (hi_of da) (le_of_eq (ap sq (sym (twice_step (2 ^ 53 + 1) E)))))
    | inr l ↦
        let ua : RoundsUpAt z t (2 ^ 53 - 1) (2 * (2 ^ 53 - 1) + 1) = up'.low (omega arith) in
        let u = 2 ^ E in
        let y : 4 * n < sq ((2 * (2 ^ 53 - 1) + 3) * u) = lt_of_lt_of_le (times_four n (sq (2 ^ 53 * u)) l)
        (le_trans (le_of_eq (four_sq (2 ^ 53) u)) (sq_times_le (2 * 2 ^ 53) (2 * (2 ^ 53 - 1) + 3) u
        (omega arith))) in
        let o : sq ((2 * (2 ^ 53 - 1) + 1) * u) ≤ 4 * n = le_trans (le_of_eq (sq_times (2 * (2 ^ 53 - 1) + 1) u))
        (le_trans (mul-le-mul_right (sq u) (low_of ua)) br.low) in
        let near : NearestTo n (2 ^ 53 - 1) u = record {
          over = o;
          under = le_of_lt y;
          over_even = λ x. refl;
          under_even = λ x. refl;
        } in
        root_near n (2 ^ 53 - 1) E (omega arith) (λ p. omega arith) least near
  ]
    where
      times_four : (n a : ℕ) → n < a → 4 * n < 4 * a
      times_four n a h = omega arith

      low_of : RoundsUpAt z t (2 ^ 53 - 1) (2 * (2 ^ 53 - 1) + 1) → sq (2 * (2 ^ 53 - 1) + 1) ≤ z
      low_of u = native.Mathlib.Nat.le_of_suc-le-suc (le_trans u.reached (le_of_eq (native.Mathlib.Numerals.add-one z)))

      hi_of : RoundsDownAt z t (2 ^ 53) (2 * (2 ^ 53 + 1)) → 4 * n ≤ sq (2 * (2 ^ 53 + 1) * 2 ^ E)
      hi_of d = le_trans (go (decide t 0)) (le_of_eq (sym (sq_times (2 * (2 ^ 53 + 1)) (2 ^ E))))
        where
          go : (t ≤ 0) ⊎ (0 < t) → 4 * n ≤ sq (2 * (2 ^ 53 + 1)) * sq (2 ^ E)
          go (inl h) = le_trans (le_of_eq (br.exact (omega arith)))
              (mul-le-mul_right (sq (2 ^ E)) (native.Mathlib.Nat.le_of_suc-le-suc
              (le_trans d.reached (le_of_eq (native.Mathlib.Numerals.add-one (sq (2 * (2 ^ 53 + 1))))))))
          go (inr h) = le_trans (le_of_lt br.high) (mul-le-mul_right (sq (2 ^ E))
              (le_trans (le_of_eq (native.Mathlib.Numerals.add-one z)) (d.passed (omega arith))))

  pub found : (r : ℕ) → Rounded z t (m - 1) (m + 2 ^ 52) r → RootIs n (E * 2 ^ 52 + r)
  found r h = elim (decide (2 ^ 53) r) [
    | inr x ↦
        let e : r - 1 + 1 ≡ r = pred r (omega arith) in
        subst (λ (y : ℕ). RootIs n (E * 2 ^ 52 + y)) e (below (r - 1) (omega arith) (omega arith) h.up
        (subst (λ (y : ℕ). RoundsDown z t y) (sym e) h.down))
    | inl x ↦ elim (decide r (2 ^ 53)) [
      | inl y ↦
          let e : r ≡ 2 ^ 53 = omega arith in
          subst (λ (y : ℕ). RootIs n (E * 2 ^ 52 + y)) (sym e) (edge (subst (λ (y : ℕ). RoundsUp z t (y - 1)) e h.up)
          (subst (λ (y : ℕ). RoundsDown z t y) e h.down))
      | inr y ↦
          let e : r - 1 - 2 ^ 52 + 2 ^ 52 + 1 ≡ r = omega arith in
          let f : r - 1 - 2 ^ 52 + 2 ^ 52 ≡ r - 1 = omega arith in
          subst (λ (y : ℕ). RootIs n (E * 2 ^ 52 + y)) e (above (r - 1 - 2 ^ 52) (omega arith) (omega arith)
          (subst (λ (y : ℕ). RoundsUp z t y) (sym f) h.up) (subst (λ (y : ℕ). RoundsDown z t y) (sym e) h.down))
    ]
  ]

-- ---- 4 n = (a^2 D + b^2) W: so a^2 + b^2 / D squares of u and the rest
module _ (n a b D W u : ℕ) (DP : 0 < D) (WP : 0 < W) (e : 4 * n ≡ (sq a * D + sq b) * W) (s : sq u ≡ D * W) where
  parts : sq b ≡ sq b / D * D + sq b % D
  parts = sym (div-add-mod' (sq b) D)

  four_n : 4 * n ≡ (sq a + sq b / D) * sq u + sq b % D * W
  four_n = e ∙ ap (λ (x : ℕ). (sq a * D + x) * W) parts ∙ go (sq a) (sq b / D) (sq b % D) D W ∙ ap
      (λ (x : ℕ). (sq a + sq b / D) * x + sq b % D * W) (sym s)
    where
      go : (a q r D W : ℕ) → (a * D + (q * D + r)) * W ≡ (a + q) * (D * W) + r * W
      go a q r D W = omega arith

  pub bracket : (t : ℕ) → (t ≡ 0 → sq b % D ≡ 0) → (0 < t → 0 < sq b % D) → Bracket n (sq a + sq b / D) t u
  bracket t x y = record {
    low = omega (arith, four_n);
    high = lt_of_le_of_lt (le_of_eq four_n) (go (sq a + sq b / D) (sq u) (sq b % D * W)
        (lt_of_lt_of_le (mul-lt-mul_of_pos_right (mod-lt (sq b) DP) WP) (le_of_eq (sym s))));
    exact = λ h. let z : sq b % D * W ≡ 0 * W = ap (λ (r : ℕ). r * W) (x h) in omega (arith, four_n);
    more = λ h. let z : 0 < sq b % D * W = mul-pos (y h) WP in omega (arith, four_n);
  }
    where
      go : (z U r : ℕ) → r < U → z * U + r < (z + 1) * U
      go z U r h = omega arith

-- ---- the sum of squares of m * 2 ^ (d + e) and k * 2 ^ e
abbrev pub hyp : ℕ → ℕ → ℕ → ℕ → ℕ
hyp m k d e = sq (m * 2 ^ (d + e)) + sq (k * 2 ^ e)

power : (d : ℕ) → 2 ^ (2 * d) ≡ 2 ^ d * 2 ^ d
power d = ap (λ (x : ℕ). 2 ^ x) (let e : 2 * d ≡ d + d = omega arith in e) ∙ pow-add 2 d d

pub four_hyp : (m k d e : ℕ) → 4 * hyp m k d e ≡ (sq (2 * m) * 2 ^ (2 * d) + sq (2 * k)) * sq (2 ^ e)
four_hyp m k d e = ap (λ (x : ℕ). 4 * (sq (m * x) + sq (k * 2 ^ e))) (pow-add 2 d e) ∙ go m k (2 ^ d) (2 ^ e) ∙ ap
    (λ (x : ℕ). (sq (2 * m) * x + sq (2 * k)) * sq (2 ^ e)) (sym (power d))
  where
    go : (m k P X : ℕ) → 4 * (sq (m * (P * X)) + sq (k * X)) ≡ (sq (2 * m) * (P * P) + sq (2 * k)) * sq X
    go m k P X = omega arith

pub square_hyp : (d e : ℕ) → sq (2 ^ (d + e)) ≡ 2 ^ (2 * d) * sq (2 ^ e)
square_hyp d e = ap sq (pow-add 2 d e) ∙ sq_times (2 ^ d) (2 ^ e) ∙ ap (λ (x : ℕ). x * sq (2 ^ e)) (sym (power d))

pub four_hyp_top : (m k d e : ℕ) → 4 * hyp m k d e ≡ (sq m * 2 ^ (2 * d) + sq k) * (4 * sq (2 ^ e))
four_hyp_top m k d e = four_hyp m k d e ∙ go m k (2 ^ (2 * d)) (sq (2 ^ e))
  where
    go : (m k D X : ℕ) → (sq (2 * m) * D + sq (2 * k)) * X ≡ (sq m * D + sq k) * (4 * X)
    go m k D X = omega arith

pub square_hyp_top : (d e : ℕ) → sq (2 ^ (d + e + 1)) ≡ 2 ^ (2 * d) * (4 * sq (2 ^ e))
square_hyp_top d e = ap sq (pow-add 2 (d + e) 1) ∙ go (2 ^ (d + e)) ∙ ap (λ (x : ℕ). 4 * x) (square_hyp d e) ∙ go'
    (2 ^ (2 * d)) (sq (2 ^ e))
  where
    go : (x : ℕ) → sq (x * 2) ≡ 4 * sq x
    go x = omega arith

    go' : (a b : ℕ) → 4 * (a * b) ≡ a * (4 * b)
    go' a b = omega arith
