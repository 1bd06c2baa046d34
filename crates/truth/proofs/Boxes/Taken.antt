-- THE PLACE s THAT THE CODE TAKES is, across the side, no farther than any other place of the edge but for ε, 1024 K u u of which
-- are its square: M · 2 ^ -22.
use Prim.Native.Nat.{◌*◌, ◌+◌, ◌-◌, ◌<◌, ◌^◌, ℕ, ◌≤◌}
use mathlib.Core.Bool.{Bool, cond, false, not, true}
use mathlib.Core.Logic.{inl, inr, ◌⊎◌}
use mathlib.Core.Path.{◌≡◌, refl}
use native.Mathlib.Nat.{le_of_lt, le_trans, mul-pos}
use native.Mathlib.Omega.{arith}
use lib.Dec.{T}
use lib.Ieee.{binary64, Float, neg, of_bits}
use Rattle.arith.proofs.roots.Numbers.{decide}
use Rattle.arith.proofs.roots.Rounding.Key.{key, magnitude, mid, unit}
use Rattle.arith.proofs.roots.Rounding.KeyOrder.{lt→key, nlt→key}
use Rattle.arith.specs.F64.{◌⊖◌, ◌⊗◌, ◌⊘◌, ◌≺◌, 𝟘, 𝟙, e_18}
use Rattle.arith.specs.Num.{abs}
use Rattle.arith.proofs.Laws.Quotients.{abs_over_e_18, div_finite, inside, InUnit, one_in_unit, zero_in_unit}
use Rattle.arith.proofs.Laws.Sizes.{abs_finite, e_18_finite, Finite, finite_number_lem, finite_raise, K, M, mul_finite, one_finite}
use Rattle.arith.proofs.Laws.Sizes.{sub_finite, zero_key, zero_number}
use Rattle.section.proofs.profile.Steps.{pick}
use Rattle.section.specs.segments.Segments.{unit_clamp}
use Rattle.arith.proofs.Laws.RoundingError.{Close}
use Rattle.truth.proofs.Boxes.Across.{Best}
use Rattle.truth.proofs.Boxes.Chain.{Dot, first_less, last_less, Small, Square, Times}
use Rattle.truth.proofs.Boxes.Floats.{difference_of, H, product_of, quotient_before, quotient_beyond, quotient_inside, U}
use Rattle.truth.proofs.Boxes.Place.{best_first, best_flat, best_inner, best_last, high, low, residual, thin}
use Rattle.truth.proofs.Boxes.Signed.{Near, sized_product}

pub one_key : K 𝟙 ≡ M + U
unfolding mid key magnitude unit of_bits
one_key = refl

-- where s lies, and how good it is
pub record Good (ε A B Q : ℕ) (s : Float) : Type 0 where
  pub in_unit : InUnit s
  pub best : Best ε (U - (K s - M)) (K s - M) A B Q

module _ (e h : ℕ) (small : Small U (2 ^ e) H h) (h⁺ : 0 < h)
    (ε : ℕ) (ε⁺ : 1024 * (H * 2 ^ e * 2 ^ e) ≤ ε * ε)
    (a b c e' f : Float) (a' : Finite 50 a) (b' : Finite 50 b) (c' : Finite 50 c) (e'' : Finite 50 e') (f' : Finite 50 f)
    (dP dN pP pN R S : ℕ) (turn : ((R ≡ h) × (S ≡ 0)) ⊎ ((R ≡ 0) × (S ≡ h)))
    (b_near : Times M U (2 ^ e) H h small (K b) (dP * R + dN * S) (dP * S + dN * R))
    (f_near : Times M U (2 ^ e) H h small (K f) (pP * R + pN * S) (pP * S + pN * R))
    (d-exact : Close dP dN (4 * H * 2 ^ e)) (p-exact : Close pP pN (4 * H * 2 ^ e)) (A B Q : ℕ)
    (D-exact : Close B A (4 * H * 2 ^ e))
    (cP cN aP aN : ℕ) (c_near : Dot M U (2 ^ e) H h small (K c) cP cN) (a_near : Dot M U (2 ^ e) H h small (K a) aP aN)
    (e_near : Square M U (2 ^ e) H h small (K e'))
    (c-up : cP ≡ dP * pP + dN * pN + (B * A + A * Q)) (c-down : cN ≡ dP * pN + dN * pP + (B * Q + A * A))
    (a-up : aP ≡ dP * dP + dN * dN + (B * B + A * A)) (a-down : aN ≡ dP * dN + dN * dP + (B * A + A * B)) where
  abbrev num : Float
  num = b ⊗ f ⊖ c ⊗ e'

  abbrev den : Float
  den = a ⊗ e' ⊖ b ⊗ b

  up : {x : Float} → Finite 50 x → Finite 200 x
  up X = finite_raise X {m = 200} tt

  num_finite : Finite 200 num
  num_finite = finite_raise (sub_finite (mul_finite b' f' tt) (mul_finite c' e'' tt) tt) {m = 200} tt

  den_finite : Finite 200 den
  den_finite = finite_raise (sub_finite (mul_finite a' e'' tt) (mul_finite b' b' tt) tt) {m = 200} tt

  num_near : Near M (U * (U * U)) (K num) ((B * Q + A * A) * (h * h)) ((B * A + A * Q) * (h * h))
      (491 * (H * 2 ^ e * 2 ^ e * (h * h)))
  num_near = first_less M U (2 ^ e) H h small (K b) dP dN (K f) pP pN R S turn b_near f_near d-exact p-exact (B * A + A * Q)
      (B * Q + A * A) (K c) cP cN (K e') c_near e_near
      (K num) (K (b ⊗ f)) (K (c ⊗ e')) (product_of b f (up b') (up f')) (product_of c e' (up c') (up e''))
      (difference_of (b ⊗ f) (c ⊗ e') (finite_raise (mul_finite b' f' tt) {m = 200} tt)
      (finite_raise (mul_finite c' e'' tt) {m = 200} tt)) c-up c-down

  den_near : Near M (U * (U * U)) (K den) ((B * B + A * A) * (h * h)) ((B * A + A * B) * (h * h))
      (491 * (H * 2 ^ e * 2 ^ e * (h * h)))
  den_near = last_less M U (2 ^ e) H h small (K b) dP dN (K b) dP dN R S turn b_near b_near d-exact d-exact (B * B + A * A)
      (B * A + A * B) (K a) aP aN (K e') a_near e_near
      (K den) (K (b ⊗ b)) (K (a ⊗ e')) (product_of b b (up b') (up b')) (product_of a e' (up a') (up e''))
      (difference_of (a ⊗ e') (b ⊗ b) (finite_raise (mul_finite a' e'' tt) {m = 200} tt)
      (finite_raise (mul_finite b' b' tt) {m = 200} tt)) a-up a-down

  h²⁺ : 0 < h * h
  h²⁺ = mul-pos h⁺ h⁺

  abbrev v : ℕ
  v = H * 2 ^ e * 2 ^ e

  abbrev Fit : Float → Type 0
  Fit = Good ε A B Q

  -- ---- flat: whatever s is
  flat_by : (t : ℕ) → K den ≤ M + t → t * (U * (U * U)) ≤ 500 * (v * (h * h)) → (s : Float) → InUnit s → Fit s
  flat_by t l o s i = record {
    in_unit = i;
    best = best_flat ε v A B Q ε⁺ (U - (K s - M)) (K s - M)
        (thin M U H v (h * h) (U * (U * U)) small.digits h²⁺ (B * A + A * Q) (B * Q + A * A) (B * B + A * A) (B * A + A * B)
        (K num) (K den) num_near den_near t l o);
  }

  -- ---- a denominator that is not over the threshold
  abs_most : K (abs den) ≤ K e_18 → K den ≤ M + (K e_18 - M)
  abs_most = go (den ≺ 𝟘) (λ l. rw zero_key at (lt→key binary64 den 𝟘 (finite_number_lem den_finite) zero_number l))
    where
      go : (n : Bool) → (T n → K den < M) → K (cond n (neg den) den) ≤ K e_18 → K den ≤ M + (K e_18 - M)
      go true k l = less (K den) M (K e_18) (k tt)
        where
          less : (x m c : ℕ) → x < m → x ≤ m + (c - m)
          less x m c h = omega arith
      go false k l = less (K den) M (K e_18) l
        where
          less : (x m c : ℕ) → x ≤ c → x ≤ m + (c - m)
          less x m c h = omega arith

  under : (K e_18 - M) * (U * (U * U)) ≤ 500 * (v * (h * h)) → T (not (e_18 ≺ abs den)) → Fit 𝟘
  under tiny l = flat_by (K e_18 - M) (abs_most
      (nlt→key binary64 e_18 (abs den) (finite_number_lem e_18_finite) (finite_number_lem (abs_finite den_finite)) l)) tiny 𝟘 zero_in_unit

  -- ---- one that is
  module _ (over : T (e_18 ≺ abs den)) where
    abbrev t : Float
    t = num ⊘ den

    t_finite : Finite 260 t
    t_finite = div_finite num_finite den_finite (abs_over_e_18 den_finite over) tt tt

    unit_clamped : InUnit (unit_clamp t)
    unit_clamped = pick InUnit (t ≺ 𝟘) (λ l. zero_in_unit) (λ l. pick InUnit (𝟙 ≺ t) (λ k. one_in_unit) (λ k. inside t_finite l k))

    negative : K den ≤ M → Fit (unit_clamp t)
    negative l = flat_by 0 (le_trans l (more M)) (none (U * (U * U)) _) (unit_clamp t) unit_clamped
      where
        more : (m : ℕ) → m ≤ m + 0
        more m = omega arith

        none : (x y : ℕ) → 0 * x ≤ y
        none x y = omega arith

    module _ (d⁺ : M < K den) where
      at_zero : T (t ≺ 𝟘) → Fit 𝟘
      at_zero l = record {
        in_unit = zero_in_unit;
        best = rw (gone (K 𝟘) M zero_key, keep U)
            (best_first ε v A B Q ε⁺ U (low M U H v (h * h) (U * (U * U)) small.digits h²⁺ (B * A + A * Q) (B * Q + A * A)
            (B * B + A * A) (B * A + A * B)
            (K num) (K den) num_near den_near (quotient_before num den num_finite den_finite d⁺
            (rw zero_key at (lt→key binary64 t 𝟘 (finite_number_lem t_finite) zero_number l)))));
      }
        where
          gone : (k m : ℕ) → k ≡ m → k - m ≡ 0
          gone k m e = omega arith

          keep : (k : ℕ) → k - 0 ≡ k
          keep k = omega arith

      at_one : T (𝟙 ≺ t) → Fit 𝟙
      at_one l = record {
        in_unit = one_in_unit;
        best = rw (whole (K 𝟙) M U one_key, gone U)
            (best_last ε v A B Q ε⁺ U (high M U H v (h * h) (U * (U * U)) small.digits h²⁺ (B * A + A * Q) (B * Q + A * A)
            (B * B + A * A) (B * A + A * B)
            (K num) (K den) num_near den_near (quotient_beyond num den num_finite den_finite d⁺
            (rw one_key at (lt→key binary64 𝟙 t (finite_number_lem one_finite) (finite_number_lem t_finite) l)))));
      }
        where
          whole : (k m v : ℕ) → k ≡ m + v → k - m ≡ v
          whole k m v e = omega arith

          gone : (k : ℕ) → k - k ≡ 0
          gone k = omega arith

      at_inside : InUnit t → Fit t
      at_inside i = record {
        in_unit = i;
        best = best_inner ε v A B Q ε⁺ (U - (K t - M)) (K t - M) (rw (together U (K t - M) below)
            (residual M U H v (h * h) (U * (U * U)) small.digits h²⁺ (B * A + A * Q) (B * Q + A * A) (B * B + A * A)
            (B * A + A * B)
            (K num) (K den) num_near den_near (K den - M) (K t - M) (parts (K den) M (le_of_lt d⁺)) below wide
            (quotient_inside num den num_finite den_finite d⁺ (K t - M) (parts (K t) M i.least) below)));
      }
        where
          parts : (k m : ℕ) → m ≤ k → k ≡ m + (k - m)
          parts k m h = omega arith

          together : (a b : ℕ) → b ≤ a → a - b + b ≡ a
          together a b h = omega arith

          below : K t - M ≤ U
          below = go (K t) M U (unfold unit in i.most.bounded.upper)
            where
              go : (k m c : ℕ) → k ≤ m + c → k - m ≤ c
              go k m c h = omega arith

          wide : Close (B * B + A * A) (B * A + A * B) (16 * (H * v))
          wide = go H (2 ^ e) (sized_product B A B A (4 * H * 2 ^ e) (4 * H * 2 ^ e) D-exact D-exact)
            where
              go : (K u : ℕ) → Close (B * B + A * A) (B * A + A * B) (4 * K * u * (4 * K * u))
                  → Close (B * B + A * A) (B * A + A * B) (16 * (K * (K * u * u)))
              go K u c = record { over = omega (arith, c.over); under = omega (arith, c.under) }

    pub clamped : Fit (unit_clamp t)
    clamped = elim (decide (K den) M) [
      | inl l ↦ negative l
      | inr l ↦ pick Fit (t ≺ 𝟘) (at_zero l) (λ k. pick Fit (𝟙 ≺ t) (at_one l) (λ o. at_inside l (inside t_finite k o)))
    ]

  -- THE PLACE IS GOOD, where the side is not so short that 1e-18 counts
  pub place_good : (K e_18 - M) * (U * (U * U)) ≤ 500 * (v * (h * h)) → Fit (cond (e_18 ≺ abs den) (unit_clamp (num ⊘ den)) 𝟘)
  place_good tiny = pick Fit (e_18 ≺ abs den) clamped (under tiny)
