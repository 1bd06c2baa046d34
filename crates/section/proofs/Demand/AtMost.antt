-- The specification's `AtMost n`, finite and at most 2 ^ n as the floats' own order tests it, bounds the number itself: finite values
-- compare as fractions over one denominator.
-- What is finite and within 01's limit is `AtMost 20`.
use Prim.Native.Nat.{ℕ, suc, ◌+◌, ◌*◌, ◌^◌, ◌≤◌, ◌<◌}
use mathlib.Core.Bool.{Bool, true, false, not, cond}
use mathlib.Core.Path.{◌≡◌, ap, sym, ◌∙◌}
use native.Mathlib.Nat.{le_of_eq, le_of_mul-le-mul_right, le_trans, mul-le-mul_right}
use native.Mathlib.Nat.{mul_right_comm, one-mul}
use native.Mathlib.Omega.{arith}
use lib.Dec.{T, ltb, ltb→lt, leb, leb→le, le→leb, nltb→le}
use lib.Ieee.{Float, nan, inf, fin, binary64, down, lt, neg, of_bits, up}
use lib.IntN.{ℤ, pos}
use lib.Pow.{pow-add}
use Rattle.arith.specs.F64.{◌≺◌, ◌≼◌, limit}
use Rattle.arith.specs.Num.{abs, is_finite}
use Rattle.arith.proofs.Laws.BoundedValue.{bounded_value, BoundedValue, value_up}
use Rattle.arith.proofs.Laws.Sizes.{Given}
use Rattle.arith.proofs.roots.Rounding.Key.{side, unit, unit_pos}
use Rattle.arith.proofs.Laws.Order.{finite_le}
use Rattle.section.specs.Demand.{AtMost}

-- m * 2 ^ e and 2 ^ n as `le` compares them
abbrev size : ℕ → ℤ → ℕ
size m e = m * up e * 1

abbrev most : ℕ → ℤ → ℕ
most n e = 1 * 2 ^ n * down e

scale : (n d : ℕ) → 2 ^ (n + 1074) * d ≡ 1 * 2 ^ n * d * unit binary64
unfolding unit
scale n d = rw one-mul (ap (λ (z : ℕ). z * d) (pow-add 2 n 1074) ∙ mul_right_comm (2 ^ n) (2 ^ 1074) d)

value_of : (n : ℕ) {s : Bool} {m : ℕ} {e : ℤ} → size m e ≤ most n e → BoundedValue binary64 (n + 1074) (fin s m e)
value_of n {s} {m} {e} h =
    let k : m * up e ≤ most n e = omega arith in
    bounded_value (le_trans (mul-le-mul_right (unit binary64) k) (le_of_eq (sym (scale n (down e)))))

-- ---- both ways
at_most_value : {n : ℕ} {x : Float} → AtMost n x → BoundedValue binary64 (n + 1074) x
unfolding is_finite neg
at_most_value {n} {x} U = go x U.ends U.least U.most
  where
    within : (s : Bool) (a c : ℕ) → side (suc (c + a)) true c ≤ side (suc (c + a)) s a
        → side (suc (a + c)) s a ≤ side (suc (a + c)) false c → a ≤ c
    within false a c l h = omega arith
    within true a c l h = omega arith

    go : (x : Float) → T (is_finite x) → T (neg (fin false 1 (pos n)) ≼ x) → T (x ≼ fin false 1 (pos n))
        → BoundedValue binary64 (n + 1074) x
    go nan f l h = absurd f
    go (inf s) f l h = absurd f
    go (fin s m e) f l h =
        value_of n (within s (size m e) (most n e) (leb→le _ _ (rw (finite_le true s 1 m (pos n) e) at l))
        (leb→le _ _ (rw (finite_le s false m 1 e (pos n)) at h)))

pub at_most_given : {n : ℕ} {x : Float} → AtMost n x → Given n x
at_most_given U = record { value = at_most_value U }

pub value_at_most : (n : ℕ) {x : Float} → BoundedValue binary64 (n + 1074) x → AtMost n x
unfolding is_finite neg
value_at_most n (bounded_value {s} {m} {e} X) =
    let w = within s (size m e) (most n e) h in
    record {
      ends = tt;
      least = rw (finite_le true s 1 m (pos n) e) (le→leb _ _ w.0);
      most = rw (finite_le s false m 1 e (pos n)) (le→leb _ _ w.1);
    }
  where
    h : size m e ≤ most n e
    h = let k = le_of_mul-le-mul_right (le_trans X (le_of_eq (scale n (down e)))) (unit_pos binary64) in omega arith

    within : (s : Bool) (a c : ℕ) → a ≤ c → (side (suc (c + a)) true c ≤ side (suc (c + a)) s a)
        × (side (suc (a + c)) s a ≤ side (suc (a + c)) false c)
    within false a c h = omega arith
    within true a c h = omega arith

pub at_most_raise : {i j : ℕ} {x : Float} → AtMost i x → T (leb i j) → AtMost j x
at_most_raise {i} {j} U t =
    let h = leb→le i j t in
    value_at_most j (value_up binary64 (i + 1074) (j + 1074) (omega arith) (at_most_value U))

-- ---- 01's limit
within_limit : (s : Bool) (m : ℕ) (e : ℤ) → T (not (limit ≺ abs (fin s m e))) → size m e ≤ most 20 e
unfolding lt neg of_bits
within_limit false m e l = go (ltb (size m e) (0 * 1 * down e)) (ltb→lt (size m e) (0 * 1 * down e)) l
  where
    go : (b : Bool) → (T b → size m e < 0 * 1 * down e) → T (not (limit ≺ cond b (fin true m e) (fin false m e)))
        → size m e ≤ most 20 e
    go true f l = let c : ⊥ = omega (arith, f tt) in absurd c
    go false f l = nltb→le (most 20 e) (size m e) l
within_limit true m e l = go (ltb 0 (size m e + 0 * 1 * down e)) (nltb→le 0 (size m e + 0 * 1 * down e)) l
  where
    go : (b : Bool) → (T (not b) → size m e + 0 * 1 * down e ≤ 0)
        → T (not (limit ≺ cond b (fin false m e) (fin true m e))) → size m e ≤ most 20 e
    go true f l = nltb→le (most 20 e) (size m e) l
    go false f l = omega (arith, f tt)

pub limit_at_most : (x : Float) → T (is_finite x) → T (not (limit ≺ abs x)) → AtMost 20 x
unfolding is_finite
limit_at_most nan f l = absurd f
limit_at_most (inf s) f l = absurd f
limit_at_most (fin s m e) f l = value_at_most 20 (value_of 20 (within_limit s m e l))
