-- THE PLACE ON THE EDGE NEAREST TO A CORNER, as the code takes it: N / a, clamped, N near the dot product of the edge's direction
-- and the way to the corner, a near its square.
use Prim.Native.Nat.{◌*◌, ◌+◌, ◌-◌, ◌<◌, ℕ, ◌≤◌}
use mathlib.Core.Logic.{inl, inr}
use mathlib.Core.Path.{◌≡◌, ap, sym}
use native.Mathlib.Nat.{le_of_eq, le_of_lt, le_trans, mul-le-mul_left, mul-le-mul_right}
use native.Mathlib.Omega.{arith}
use lib.Dec.{T}
use lib.Ieee.{binary64, Float}
use Rattle.arith.proofs.roots.Numbers.{decide}
use Rattle.arith.proofs.roots.Rounding.Key.{unit, unit_pos}
use Rattle.arith.proofs.roots.Rounding.KeyOrder.{lt→key}
use Rattle.arith.specs.F64.{◌⊘◌, ◌≺◌, 𝟘, 𝟙}
use Rattle.arith.proofs.Laws.Quotients.{inside, InUnit, one_in_unit, zero_in_unit}
use Rattle.arith.proofs.Laws.Sizes.{Finite, finite_number_lem, K, M, one_finite, zero_key, zero_number}
use Rattle.section.proofs.profile.Steps.{pick}
use Rattle.section.specs.segments.Segments.{unit_clamp}
use Rattle.arith.proofs.Laws.RoundingError.{Close}
use Rattle.truth.proofs.Points.Foot.{before, between, beyond, Loss}
use Rattle.truth.proofs.Points.Residual.{high_miss, inner_miss, low_miss}
use Rattle.truth.proofs.Boxes.Floats.{H, quotient_before, quotient_beyond, quotient_inside, U}
use Rattle.truth.proofs.Boxes.Signed.{Near}
use Rattle.truth.proofs.Boxes.Taken.{one_key}

-- ---- pure: what Residual wants, from what Relative gives; v is 4 E
module _ (m v c E x y L nP nN aP aN kn ka : ℕ) (digits : 1024 ≤ c) (n : Near m v kn nP nN (27 * E + 7 * v))
    (a : Near m v ka aP aN (11 * E + 3 * v))
    (dots : nP + y ≡ nN + x) (squares : aP ≡ aN + L) (span : L ≤ 4 * c * E) (long : m + (12 * c + 30) < ka) where
  small : 0 < v → 3 * v ≤ 4 * E
  small v⁺ = elim (decide (3 * v) (4 * E)) [
    | inl l ↦ l
    | inr l ↦ absurd (clash (c * E) (c * v) l (mul-le-mul_left c (le_of_lt l))
        (over (mul-le-mul_right v (le_of_lt long))))
  ]
    where
      over : (m + (12 * c + 30)) * v ≤ ka * v → 12 * (c * v) + 30 * v ≤ L + (11 * E + 3 * v)
      over k = omega (arith, a.over)

      clash : (p q : ℕ) → 4 * E < 3 * v → c * (4 * E) ≤ c * (3 * v) → 12 * (c * v) + 30 * v ≤ L + (11 * E + 3 * v) → ⊥
      clash p q l k o = omega (arith, span, v⁺)

  pub dot_for : 3 * v ≤ 4 * E → Close (2 * (kn * v + y)) (2 * (m * v + x)) (27 * (4 * E) + 4 * v)
  dot_for l = record { over = omega (arith, n.over); under = omega (arith, n.under) }

  pub len_for : 3 * v ≤ 4 * E → (F : ℕ) → ka ≡ m + F → Close (2 * ((m + F) * v)) (2 * (m * v + L)) (18 * (4 * E) + 4 * v)
  len_for l F e = let q = ap (λ z. z * v) e in record { over = omega (arith, a.over); under = omega (arith, a.under) }

  pub span_for : L ≤ 4 * c * (4 * E)
  span_for = omega (arith, span)

-- ---- the place
pub record Nearest (x y L E : ℕ) (s : Float) : Type 0 where
  pub in_unit : InUnit s
  pub wide : 3 * U ≤ 4 * E
  pub loss : (n i : ℕ) → i ≤ n → Loss U (K s - M) x y L (27 * (U * (4 * E))) n i

module _ (E x y L nP nN aP aN : ℕ) (N a : Float) (N' : Finite 200 N) (a' : Finite 200 a) (digits : 1024 ≤ H)
    (n-near : Near M U (K N) nP nN (27 * E + 7 * U)) (a_near : Near M U (K a) aP aN (11 * E + 3 * U))
    (dots : nP + y ≡ nN + x) (squares : aP ≡ aN + L) (span : L ≤ 4 * H * E) (long : M + (12 * H + 30) < K a)
    (t_finite : Finite 200 (N ⊘ a)) where
  abbrev t : Float
  t = N ⊘ a

  a⁺ : M < K a
  a⁺ = go M (12 * H + 30) (K a) long
    where
      go : (m c k : ℕ) → m + c < k → m < k
      go m c k h = omega arith

  wide : 3 * U ≤ 4 * E
  wide = small M U H E x y L nP nN aP aN (K N) (K a) digits n-near a_near dots squares span long (unit_pos binary64)

  dot : Close (2 * (K N * U + y)) (2 * (M * U + x)) (27 * (4 * E) + 4 * U)
  dot = dot_for M U H E x y L nP nN aP aN (K N) (K a) digits n-near a_near dots squares span long wide

  spans : L ≤ 4 * H * (4 * E)
  spans = span_for M U H E x y L nP nN aP aN (K N) (K a) digits n-near a_near dots squares span long

  parts : (k m : ℕ) → m ≤ k → k ≡ m + (k - m)
  parts k m h = omega arith

  eight : 8 ≤ H
  eight = le_trans (let z : 8 ≤ 1024 = omega arith in z) digits

  abbrev F : ℕ
  F = K a - M

  F_is : K a ≡ M + F
  F_is = parts (K a) M (le_of_lt a⁺)

  len : Close (2 * ((M + F) * U)) (2 * (M * U + L)) (18 * (4 * E) + 4 * U)
  len = len_for M U H E x y L nP nN aP aN (K N) (K a) digits n-near a_near dots squares span long wide F F_is

  at_zero : T (t ≺ 𝟘) → Nearest x y L E 𝟘
  at_zero l = record {
    in_unit = zero_in_unit;
    wide = wide;
    loss = λ n i o. rw (gone (K 𝟘) M zero_key)
        (before U x y L (27 * (U * (4 * E))) (low_miss M U (4 * E) H x y L (K N) eight dot wide spans
        (quotient_before N a N' a' a⁺ (rw zero_key at (lt→key binary64 t 𝟘 (finite_number_lem t_finite) zero_number l)))) n i);
  }
    where
      gone : (k m : ℕ) → k ≡ m → k - m ≡ 0
      gone k m e = omega arith

  at_one : T (𝟙 ≺ t) → Nearest x y L E 𝟙
  at_one l = record {
    in_unit = one_in_unit;
    wide = wide;
    loss = λ n i o. rw (whole (K 𝟙) M U one_key)
        (beyond U x y L (27 * (U * (4 * E))) (high_miss M U (4 * E) H x y L (K N) eight dot wide spans F len
        (le_trans (le_of_eq (sym F_is)) (quotient_beyond N a N' a' a⁺
        (rw one_key at (lt→key binary64 𝟙 t (finite_number_lem one_finite) (finite_number_lem t_finite) l))))) n i o);
  }
    where
      whole : (k m v : ℕ) → k ≡ m + v → k - m ≡ v
      whole k m v e = omega arith

  at_inside : InUnit t → Nearest x y L E t
  at_inside i = record {
    in_unit = i;
    wide = wide;
    loss = λ n j o. between U (K t - M) x y L (27 * (U * (4 * E)))
        (inner_miss M U (4 * E) H x y L (K N) eight dot wide spans F len (K t - M) below
        (quotient_inside N a N' a' a⁺ (K t - M) (parts (K t) M i.least) below)) n j;
  }
    where
      below : K t - M ≤ U
      below = go (K t) M U (unfold unit in i.most.bounded.upper)
        where
          go : (k m c : ℕ) → k ≤ m + c → k - m ≤ c
          go k m c h = omega arith

  pub nearest : Nearest x y L E (unit_clamp t)
  nearest = pick (Nearest x y L E) (t ≺ 𝟘) at_zero
      (λ k. pick (Nearest x y L E) (𝟙 ≺ t) at_one (λ o. at_inside (inside t_finite k o)))
