-- The calculus of bounds for given values: BoundedValue f j x says that x is finite and at most 2 ^ j ticks, whether the format holds
-- it or not. What an operation makes of such operands is Bounded: one rounding of a bounded fraction. One rule an operation.
use Rattle.std.proofs.Common.{ℕ, zero, suc, ◌+◌, ◌-◌, ◌*◌, ◌/◌, ◌^◌, ◌<◌, ◌≤◌, min, Bool, true, false, cond, ◌&&◌, T, ltb, ℤ, sym, ap, ◌∙◌, le_trans, le_of_eq, le_of_suc-le-suc, add-le-add, mul-le-mul_right, mul_assoc, mul_comm, add-mul, mul-le-mul, mul-pos, one-mul, mul_right_comm, le_of_mul-le-mul_right, arith, pow_mono, pow-add}
use mathlib.Core.Bool.{beq}
use native.Mathlib.Nat.{div-le_of_le-mul}
use native.Mathlib.Nat.{min-le_right, mul-mul-mul_comm}
use native.Mathlib.Nat.{two-pow-succ}
use lib.Ieee.{add, down, fin, fits, Float, Format, inf, low, mul, nan, neg, prec, round, sub, sum, unlike, up}
use lib.Ieee.Fits.{and_i, down_pos}
use lib.Pow.{pow-lt}
use Rattle.arith.proofs.Laws.Bounded.{Bounded, bounded_within, mid_lt, overflow}
use Rattle.arith.proofs.Laws.Bounds.{magnitude_within, Within, within_finite_number}
use Rattle.arith.proofs.Laws.RootBounded.{root_bounded, squares_le}
use Rattle.arith.proofs.roots.Rounding.Fraction.{rounded, rounded_le}
use Rattle.arith.proofs.roots.Rounding.Key.{finite_of, finite_number, key_is, magnitude, mid, prec_pos, representable_of, side}
use Rattle.arith.proofs.roots.Rounding.Key.{unit, unit_pos}
use Rattle.arith.proofs.roots.Rounding.RoundKey.{round_key_lem, round_number}
use Rattle.arith.proofs.roots.Squares.{square}
use Rattle.arith.specs.roots.Roots.{hypot}

pub data BoundedValue (f : Format) (j : ℕ) : Float → Type 0 where
  bounded_value : {s : Bool} {m : ℕ} {e : ℤ} → m * up e * unit f ≤ 2 ^ j * down e → BoundedValue f j (fin s m e)

side_within : (M : ℕ) (s : Bool) (t w : ℕ) → t ≤ w → (M ≤ side M s t + w) × (side M s t ≤ M + w)
side_within M false t w h = omega arith
side_within M true t w h = omega arith

pub bounded→value : (f : Format) (j : ℕ) (x : Float) → Bounded f j x → BoundedValue f j x
bounded→value f j nan X = absurd (finite_of f nan X.sure)
bounded→value f j (inf s) X = absurd (finite_of f (inf s) X.sure)
bounded→value f j (fin s m e) X =
    let x = fin s m e in
    bounded_value (le_trans (le_of_eq (representable_of f x X.sure).value.1)
    (mul-le-mul_right (down e) (magnitude_within f (2 ^ j) x X.sure (bounded_within f j x X))))

pub value→bounded : (f : Format) (j : ℕ) {x : Float} → T (fits f x) → BoundedValue f j x → Bounded f j x
value→bounded f j h (bounded_value {s} {m} {e} X) =
    record { sure = sure; lower = rw (key_is f x) w.0; upper = rw (key_is f x) w.1 }
  where
    x : Float
    x = fin s m e

    sure : T (finite_number f x)
    sure = and_i (fits f x) true h tt

    least : magnitude f x ≤ 2 ^ j
    least = le_of_mul-le-mul_right (le_trans (le_of_eq (sym (representable_of f x sure).value.1)) X) (down_pos e)

    w : (mid f ≤ side (mid f) s (magnitude f x) + 2 ^ j) × (side (mid f) s (magnitude f x) ≤ mid f + 2 ^ j)
    w = side_within (mid f) s (magnitude f x) (2 ^ j) least

pub value_up : (f : Format) (i j : ℕ) {x : Float} → i ≤ j → BoundedValue f i x → BoundedValue f j x
value_up f i j h (bounded_value {s} {m} {e} X) = bounded_value (le_trans X (mul-le-mul_right (down e) (pow_mono h)))

-- ---- one rounding
module _ (f : Format) (k : ℕ) (K : k < overflow f) where
  round_bounded : (s : Bool) (n d : ℕ) → 0 < d → n * unit f ≤ 2 ^ k * d → Bounded f k (round f s n d)
  round_bounded s n d D h =
      let t : rounded (prec f) (n * unit f) d ≤ 2 ^ k = le_trans (rounded_le (prec f) (n * unit f) d 1 k (prec_pos f) D
      (pow-lt (prec_pos f)) (le_trans h (le_of_eq (ap (λ (z : ℕ). z * d) (sym (one-mul (2 ^ k)))))))
      (le_of_eq (one-mul (2 ^ k))) in
      let w = side_within (mid f) s (min (mid f) (rounded (prec f) (n * unit f) d)) (2 ^ k) (le_trans (min-le_right _ _) t) in
      let v : Within f (2 ^ k) (round f s n d) = record {
        lower = rw (round_key_lem f s n d) w.0;
        upper =
            rw (round_key_lem f s n d) w.1;
      } in
      record {
        sure = within_finite_number f (2 ^ k) (round f s n d) (round_number f s n d) v (mid_lt f k K);
        lower =
            v.lower;
        upper = v.upper;
      }

  sum_bounded : (s : Bool) (a : ℕ) (t : Bool) (b c : ℕ) → 0 < c → (a + b) * unit f ≤ 2 ^ k * c
      → Bounded f k (sum f s a t b c)
  unfolding sum
  sum_bounded s a t b c C h = go (beq s t) (ltb a b)
    where
      less : (n : ℕ) → n ≤ a + b → n * unit f ≤ 2 ^ k * c
      less n l = le_trans (mul-le-mul_right (unit f) l) h

      go : (p q : Bool) → Bounded f k (cond p (round f s (a + b) c)
          (cond q (round f t (b - a) c) (round f (s && ltb b a) (a - b) c)))
      go true q = round_bounded s (a + b) c C h
      go false true = round_bounded t (b - a) c C (less (b - a) (omega arith))
      go false false = round_bounded (s && ltb b a) (a - b) c C (less (a - b) (omega arith))

-- ---- sums, products, hypotenuses
spread : (a u w d e : ℕ) → a * u ≤ w * d → a * e * u ≤ w * (d * e)
spread a u w d e h = le_trans (le_of_eq (mul_right_comm a e u)) (le_trans (mul-le-mul_right e h)
    (le_of_eq (mul_assoc w d e)))

pow_sum : (i j k : ℕ) → i < k → j < k → 2 ^ i + 2 ^ j ≤ 2 ^ k
pow_sum i j (suc k) h l = rw (two-pow-succ k) (add-le-add (pow_mono (le_of_suc-le-suc h))
    (pow_mono (le_of_suc-le-suc l)))
pow_sum i j zero h l = let c : ⊥ = omega arith in absurd c

neg_value : (f : Format) (j : ℕ) {x : Float} → BoundedValue f j x → BoundedValue f j (neg x)
unfolding neg
neg_value f j (bounded_value X) = bounded_value X

module _ (f : Format) (i j k : ℕ) (K : k < overflow f) where
  pub add_value : {x y : Float} → i < k → j < k → BoundedValue f i x → BoundedValue f j y → Bounded f k (add f x y)
  unfolding add
  add_value a b (bounded_value {s} {m} {e} X) (bounded_value {s = t} {m = n} {e = d} Y) =
      let D = down e * down d in
      let p = spread (m * up e) (unit f) (2 ^ i) (down e) (down d) X in
      let q : n * up d * down e * unit f ≤ 2 ^ j * D = le_trans (spread (n * up d) (unit f) (2 ^ j) (down d) (down e) Y)
      (le_of_eq (ap (λ (z : ℕ). 2 ^ j * z) (mul_comm (down d) (down e)))) in
      sum_bounded f k K s (m * up e * down d) t (n * up d * down e) D (mul-pos (down_pos e) (down_pos d))
      (le_trans (le_of_eq (add-mul (m * up e * down d) (n * up d * down e) (unit f)))
      (le_trans (add-le-add p q) (le_trans (le_of_eq (sym (add-mul (2 ^ i) (2 ^ j) D)))
      (mul-le-mul_right D (pow_sum i j k a b)))))

  pub sub_value : {x y : Float} → i < k → j < k → BoundedValue f i x → BoundedValue f j y → Bounded f k (sub f x y)
  unfolding sub
  sub_value a b X Y = add_value a b X (neg_value f j Y)

  pub mul_value : {x y : Float} → i + j ≤ k + low f → BoundedValue f i x → BoundedValue f j y → Bounded f k (mul f x y)
  unfolding mul
  mul_value a (bounded_value {s} {m} {e} X) (bounded_value {s = t} {m = n} {e = d} Y) = round_bounded f k K (unlike s t)
      (A * C) D (mul-pos (down_pos e) (down_pos d)) (le_of_mul-le-mul_right h (unit_pos f))
    where
      A : ℕ
      A = m * up e

      C : ℕ
      C = n * up d

      D : ℕ
      D = down e * down d

      u : ℕ
      u = unit f

      pows : 2 ^ i * 2 ^ j ≤ 2 ^ k * u
      pows = unfold unit in rw (← pow-add 2 i j, ← pow-add 2 k (low f)) (pow_mono a)

      h : A * C * u * u ≤ 2 ^ k * D * u
      h =
          le_trans (le_of_eq (mul_assoc (A * C) u u ∙ mul-mul-mul_comm A C u u))
          (le_trans (mul-le-mul X Y)
          (le_trans (le_of_eq (mul-mul-mul_comm (2 ^ i) (down e) (2 ^ j) (down d)))
          (le_trans (mul-le-mul_right D pows) (le_of_eq (mul_right_comm (2 ^ k) u D)))))

  pub hypot_value : {x y : Float} → i < k → j < k → BoundedValue f i x → BoundedValue f j y → Bounded f k (hypot f x y)
  unfolding hypot
  hypot_value a b (bounded_value {s} {m} {e} X) (bounded_value {s = t} {m = n} {e = d} Y) =
      root_bounded f k ((m * up e * 2 ^ low f / down e) ^ 2 + (n * up d * 2 ^ low f / down d) ^ 2) K
      (rw (square (m * up e * 2 ^ low f / down e), square (n * up d * 2 ^ low f / down d))
      (squares_le (m * up e * 2 ^ low f / down e) (n * up d * 2 ^ low f / down d) i j k (whole m e i X)
      (whole n d j Y) a b))
    where
      whole : (m : ℕ) (e : ℤ) (i : ℕ) → m * up e * unit f ≤ 2 ^ i * down e → m * up e * 2 ^ low f / down e ≤ 2 ^ i
      whole m e i h = unfold unit in div-le_of_le-mul (down e) (le_trans h (le_of_eq (mul_comm (2 ^ i) (down e))))
