-- The key of a rounded signed fraction (a - b) / c: the one rounding that every operation makes. It is monotone, and its error is at
-- most half a unit in the last place.
use Rattle.std.proofs.Common.{◌≡◌, ℕ, zero, suc, ◌+◌, ◌-◌, ◌*◌, ◌^◌, ◌<◌, ◌≤◌, min, Bool, true, false, cond, not, T, ltb, sym, ap, ◌∙◌, inl, inr, le_trans, le_of_eq, le_of_lt, mul-le-mul_right, mul_comm, add-mul, one-mul, arith, ltb→lt, nltb→le}
use native.Mathlib.Nat.{min-eq_left, min-eq_right}
use native.Mathlib.Nat.{mul-sub}
use lib.Ieee.{emax, fits, Float, Format, inf, is_nan, low, odd, prec, round, units}
use lib.Ieee.Exact.{odd_sign}
use lib.Ieee.Fits.{and_i, round-fits, round_is}
use lib.Ieee.Order.{drop, kept}
use lib.Pow.{pow-lt}
use Rattle.arith.proofs.roots.Numbers.{decide}
use Rattle.arith.proofs.roots.Rounding.Fraction.{rounded, rounded_le, rounded_mono, rounded_near, rounded_same}
use Rattle.arith.proofs.roots.Rounding.Fraction.{rounded_zero, WithinHalf}
use Rattle.arith.proofs.roots.Rounding.Key.{inf_key, key, mid, number, prec_pos, side, unit, value_key}

-- ---- the rounded signed fraction (a - b) / c, in ticks, as a key
unfoldable pub round_key : Format → ℕ → ℕ → ℕ → ℕ
round_key f a b c = mid f + min (mid f) (rounded (prec f) (a - b) c) - min (mid f) (rounded (prec f) (b - a) c)

pub times_sub : (a b c : ℕ) → (a - b) * c ≡ a * c - b * c
times_sub a b c = mul_comm (a - b) c ∙ mul-sub c a b ∙ ap (λ (z : ℕ). z - c * b) (mul_comm c a) ∙ ap
    (λ (z : ℕ). a * c - z) (mul_comm c b)

-- monotone
pub round_key_mono : (f : Format) (a b c a' b' c' : ℕ) → 0 < c → 0 < c' → a * c' + b' * c ≤ a' * c + b * c'
    → round_key f a b c ≤ round_key f a' b' c'
unfolding round_key
round_key_mono f a b c a' b' c' C C' h =
    let M = mid f in
    let u : (a - b) * c' ≤ (a' - b') * c = rw (times_sub a b c', times_sub a' b' c) (omega arith) in
    let v : (b' - a') * c ≤ (b - a) * c' = rw (times_sub b' a' c, times_sub b a c') (omega arith) in
    let x : rounded (prec f) (a - b) c ≤ rounded (prec f) (a' - b') c' = rounded_mono (prec f) (a - b) c (a' - b') c'
    (prec_pos f) C C' u in
    let y : rounded (prec f) (b' - a') c' ≤ rounded (prec f) (b - a) c = rounded_mono (prec f) (b' - a') c' (b - a) c
    (prec_pos f) C' C v in
    omega arith

pub round_key_same : (f : Format) (a b c a' b' c' : ℕ) → 0 < c → 0 < c' → a * c' + b' * c ≡ a' * c + b * c'
    → round_key f a b c ≡ round_key f a' b' c'
round_key_same f a b c a' b' c' C C' h = let x = round_key_mono f a b c a' b' c' C C' (le_of_eq h) in let y =
    round_key_mono f a' b' c' a b c C' C (le_of_eq (sym h)) in omega arith

-- (a - b) is n with the sign s
abbrev pub Difference : Bool → ℕ → ℕ → ℕ → Type 0
Difference false n a b = a ≡ b + n
Difference true n a b = b ≡ a + n

pub round_key_side : (f : Format) (s : Bool) (n a b c : ℕ) → 0 < c → Difference s n a b
    → round_key f a b c ≡ side (mid f) s (min (mid f) (rounded (prec f) n c))
unfolding round_key
round_key_side f false n a b c C h =
    let e : a - b ≡ n = omega arith in
    let z : b - a ≡ 0 = omega arith in
    rw (e, z, rounded_zero (prec f) c (prec_pos f) C) (omega arith)
round_key_side f true n a b c C h =
    let e : b - a ≡ n = omega arith in
    let z : a - b ≡ 0 = omega arith in
    rw (e, z, rounded_zero (prec f) c (prec_pos f) C) (omega arith)

units_key : (f : Format) (s : Bool) (q k : ℕ) → key f (units f s q k) ≡ side (mid f) s (min (mid f) (q * 2 ^ k))
unfolding units mid unit
units_key f s q k = go (ltb (q * 2 ^ k) (mid f)) (ltb→lt (q * 2 ^ k) (mid f)) (nltb→le (q * 2 ^ k) (mid f))
  where
    go : (b : Bool) → (T b → q * 2 ^ k < mid f) → (T (not b) → mid f ≤ q * 2 ^ k)
        → key f (cond b (odd (suc (prec f)) s q k (low f)) (inf s)) ≡ side (mid f) s (min (mid f) (q * 2 ^ k))
    go true h n = value_key f (odd (suc (prec f)) s q k (low f)) s (q * 2 ^ k) (odd_sign (suc (prec f)) s q k (low f))
        ∙ ap (λ (z : ℕ). side (mid f) s z) (sym (min-eq_right (le_of_lt (h tt))))
    go false h n = inf_key f s ∙ ap (λ (z : ℕ). side (mid f) s z) (sym (min-eq_left (n tt)))

pub round_key_lem : (f : Format) (s : Bool) (num den : ℕ)
    → key f (round f s num den) ≡ side (mid f) s (min (mid f) (rounded (prec f) (num * unit f) den))
unfolding rounded unit
round_key_lem f s num den = ap (λ (z : Float). key f z) (round_is f s num den) ∙ units_key f s
    (kept (prec f) (num * 2 ^ low f) den) (drop (prec f) (num * 2 ^ low f) den)

-- num / den is n / c ticks, and (a - b) / c is that with the sign s
pub round_round_key : (f : Format) (s : Bool) (num den n c a b : ℕ) → 0 < den → 0 < c → num * unit f * c ≡ n * den
    → Difference s n a b → key f (round f s num den) ≡ round_key f a b c
round_round_key f s num den n c a b D C e d =
    round_key_lem f s num den
    ∙ ap (λ (z : ℕ). side (mid f) s (min (mid f) z)) (rounded_same (prec f) (num * unit f) den n c (prec_pos f) D C e)
    ∙ sym (round_key_side f s n a b c C d)

-- ---- no NaN comes out, and a key strictly inside says finite
odd_number : (d : ℕ) (s : Bool) (q k l : ℕ) → T (not (is_nan (odd d s q k l)))
unfolding odd is_nan
odd_number d s zero k l = tt
odd_number d s (suc q) k l = tt

units_number : (f : Format) (s : Bool) (q k : ℕ) → T (not (is_nan (units f s q k)))
unfolding units
units_number f s q k = go (ltb (q * 2 ^ k) (2 ^ (low f + suc (emax f))))
  where
    go : (b : Bool) → T (not (is_nan (cond b (odd (suc (prec f)) s q k (low f)) (inf s))))
    go true = odd_number (suc (prec f)) s q k (low f)
    go false = unfold is_nan in tt

pub round_number : (f : Format) (s : Bool) (a b : ℕ) → T (number f (round f s a b))
round_number f s a b = and_i (fits f (round f s a b)) (not (is_nan (round f s a b))) (round-fits f s a b)
    (rw round_is (units_number f s (kept (prec f) (a * 2 ^ low f) b) (drop (prec f) (a * 2 ^ low f) b)))

-- ---- the error of one rounding, in ticks
pub round_key_near : (f : Format) (a b c d : ℕ) → 0 < c → a < b + 2 ^ (prec f + d) * c → b < a + 2 ^ (prec f + d) * c
    → 2 ^ (prec f + d) ≤ mid f → WithinHalf (round_key f a b c * c + b) (mid f * c + a) (2 ^ d * c)
round_key_near f a b c d C h k m = elim (decide b a) [ inl l ↦ up_case l | inr l ↦ down_case (le_of_lt l) ]
  where
    M : ℕ
    M = mid f

    fit : (n : ℕ) → n < 2 ^ (prec f + d) * c → rounded (prec f) n c ≤ mid f
    fit n l = le_trans (rounded_le (prec f) n c 1 (prec f + d) (prec_pos f) C (pow-lt (prec_pos f))
        (rw one-mul (le_of_lt l))) (rw one-mul m)

    up_case : b ≤ a → WithinHalf (round_key f a b c * c + b) (mid f * c + a) (2 ^ d * c)
    up_case l =
        let n = a - b in
        let N : n < 2 ^ (prec f + d) * c = omega arith in
        let e = rounded_near (prec f) n c d C N in
        rw (
          round_key_side f false n a b c C (omega arith),
          min-eq_right (fit n N),
          add-mul (mid f)
              (rounded (prec f) n c) c,
        ) (omega arith)

    down_case : a ≤ b → WithinHalf (round_key f a b c * c + b) (mid f * c + a) (2 ^ d * c)
    down_case l =
        let n = b - a in
        let N : n < 2 ^ (prec f + d) * c = omega arith in
        let e = rounded_near (prec f) n c d C N in
        let G : rounded (prec f) n c * c ≤ mid f * c = mul-le-mul_right c (fit n N) in
        rw (
          round_key_side f true n a b c C (omega arith),
          min-eq_right (fit n N),
          times_sub (mid f)
              (rounded (prec f) n c) c,
        ) (omega arith)
