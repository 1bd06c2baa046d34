-- Each operation is monotone where the exact one is: sums, differences, negation, products, squares and quotients. Each key is one
-- rounding, and rounding is monotone.
use Rattle.std.proofs.Common.{◌≡◌, ℕ, ◌+◌, ◌-◌, ◌*◌, ◌<◌, ◌≤◌, false, T, ◌⊎◌, sym, refl, ap, ◌∙◌, inl, inr, le_trans, le_of_eq, add-zero, mul-le-mul_right, add-mul, mul-le-mul, mul-zero, zero-add, zero-mul, arith, pow_pos}
use lib.Ieee.{add, div, Float, Format, le, mul, neg, sub}
use Rattle.arith.proofs.roots.Numbers.{decide}
use Rattle.arith.proofs.roots.Rounding.Key.{finite_number, key, mid, number, number_of, unit, unit_pos}
use Rattle.arith.proofs.roots.Rounding.KeyOrder.{key→le, le→key}
use Rattle.arith.proofs.roots.Rounding.Product.{mul_key, negative_part, positive_part, mul_number}
use Rattle.arith.proofs.roots.Rounding.Quotient.{div_key, div_number}
use Rattle.arith.proofs.roots.Rounding.RoundKey.{round_key, round_key_mono, round_key_side}
use Rattle.arith.proofs.roots.Rounding.Sum.{add_key, add_number, neg_key, sub_key, sub_number, neg_finite_number}

-- (a + b) ≤ (c + d) times C times u
lift : (a b c d C u : ℕ) → a + b ≤ c + d → a * C * u + b * C * u ≤ c * C * u + d * C * u
lift a b c d C u h =
    le_trans (le_of_eq (sym (add-mul (a * C) (b * C) u) ∙ ap (λ (z : ℕ). z * u) (sym (add-mul a b C))))
    (le_trans (mul-le-mul_right u (mul-le-mul_right C h)) (le_of_eq
    (ap (λ (z : ℕ). z * u) (add-mul c d C) ∙ add-mul (c * C) (d * C) u)))

-- ---- sums and differences grow
module _ (f : Format) (x x' y y' : Float) (p : T (finite_number f x)) (p' : T (finite_number f x'))
    (q : T (finite_number f y)) (q' : T (finite_number f y')) where
  pub add_key_mono : key f x ≤ key f x' → key f y ≤ key f y' → key f (add f x y) ≤ key f (add f x' y')
  add_key_mono h k = rw (add_key f x y p q, add_key f x' y' p' q')
      (round_key_mono f (key f x + key f y) (mid f + mid f) 1 (key f x' + key f y') (mid f + mid f) 1 (pow_pos 0)
      (pow_pos 0) (omega arith))

  pub sub_key_mono : key f x ≤ key f x' → key f y' ≤ key f y → key f (sub f x y) ≤ key f (sub f x' y')
  sub_key_mono h k = rw (sub_key f x y p q, sub_key f x' y' p' q')
      (round_key_mono f (key f x) (key f y) 1 (key f x') (key f y') 1 (pow_pos 0) (pow_pos 0) (omega arith))

  pub add_mono : T (le x x') → T (le y y') → T (le (add f x y) (add f x' y'))
  add_mono h k = key→le f (add f x y) (add f x' y') (add_number f x y p q) (add_number f x' y' p' q')
      (add_key_mono (le→key f x x' (number_of f x p) (number_of f x' p') h)
      (le→key f y y' (number_of f y q) (number_of f y' q') k))

  pub sub_mono : T (le x x') → T (le y' y) → T (le (sub f x y) (sub f x' y'))
  sub_mono h k = key→le f (sub f x y) (sub f x' y') (sub_number f x y p q) (sub_number f x' y' p' q')
      (sub_key_mono (le→key f x x' (number_of f x p) (number_of f x' p') h)
      (le→key f y' y (number_of f y' q') (number_of f y q) k))

neg_anti : (f : Format) (x y : Float) → T (number f x) → T (number f y) → key f x ≤ key f y
    → key f (neg y) ≤ key f (neg x)
neg_anti f x y p q h = omega (arith, neg_key f x p, neg_key f y q)

pub times_key : (f : Format) (x c : Float) → T (finite_number f x) → T (finite_number f c) → mid f ≤ key f c
    → key f (mul f x c) ≡ round_key f (positive_part f x * positive_part f c) (negative_part f x * positive_part f c)
    (unit f)
times_key f x c p q h =
    let z : negative_part f c ≡ 0 = omega arith in
    mul_key f x c p q ∙ rw (
      z,
      mul-zero (positive_part f x),
      mul-zero (negative_part f x),
      zero-add
          (negative_part f x * positive_part f c),
      add-zero (positive_part f x * positive_part f c),
    )

-- x ≤ x' over a common factor
pub times_key_mono : (f : Format) (x x' c : Float) → T (finite_number f x) → T (finite_number f x') → T (finite_number f c)
    → mid f ≤ key f c → key f x ≤ key f x' → key f (mul f x c) ≤ key f (mul f x' c)
times_key_mono f x x' c p p' q h l =
    let C = positive_part f c in
    let e : positive_part f x + negative_part f x' ≤ positive_part f x' + negative_part f x = omega arith in
    rw (times_key f x c p q h, times_key f x' c p' q h)
    (round_key_mono f (positive_part f x * C) (negative_part f x * C) (unit f) (positive_part f x' * C)
    (negative_part f x' * C) (unit f) (unit_pos f) (unit_pos f)
    (lift (positive_part f x) (negative_part f x') (positive_part f x') (negative_part f x) C (unit f) e))

-- ---- squares: by the distance from zero, whatever the sign
unfoldable pub key_size : Format → Float → ℕ
key_size f x = positive_part f x + negative_part f x

square_parts : (a u : ℕ) → (a ≡ 0) ⊎ (u ≡ 0) → (a * a + u * u ≡ (a + u) * (a + u)) × (a * u + u * a ≡ 0)
square_parts a u (inl e) = (rw (e, zero-mul 0, zero-add u) (zero-add (u * u)), rw (e, zero-mul u, mul-zero u) refl)
square_parts a u (inr e) = (rw (e, zero-mul 0, add-zero a) (add-zero (a * a)), rw (e, zero-mul a, mul-zero a) refl)

one_side : (k M : ℕ) → (k - M ≡ 0) ⊎ (M - k ≡ 0)
one_side k M = elim (decide k M) [ inl h ↦ inl (omega arith) | inr h ↦ inr (omega arith) ]

pub square_key : (f : Format) (x : Float) → T (finite_number f x)
    → key f (mul f x x) ≡ round_key f (key_size f x * key_size f x) 0 (unit f)
unfolding key_size
square_key f x p =
    let z = square_parts (positive_part f x) (negative_part f x) (one_side (key f x) (mid f)) in
    mul_key f x x p p ∙ ap (λ (w : ℕ). round_key f w (positive_part f x * negative_part f x + negative_part f
    x * positive_part f x) (unit f)) z.0 ∙ ap (λ (w : ℕ). round_key f (key_size f x * key_size f x) w (unit f))
    z.1

pub square_not_negative : (f : Format) (x : Float) → T (finite_number f x) → mid f ≤ key f (mul f x x)
square_not_negative f x p =
    let q = key_size f x * key_size f x in
    rw (square_key f x p, round_key_side f false q q 0 (unit f) (unit_pos f) (sym (zero-add q))) (omega arith)

pub square_key_mono : (f : Format) (x y : Float) → T (finite_number f x) → T (finite_number f y)
    → key_size f x ≤ key_size f y → key f (mul f x x) ≤ key f (mul f y y)
square_key_mono f x y p q h =
    rw (square_key f x p, square_key f y q)
    (round_key_mono f (key_size f x * key_size f x) 0 (unit f) (key_size f y * key_size f y) 0 (unit f) (unit_pos f)
    (unit_pos f) (rw (
      zero-mul (unit f),
      add-zero (key_size f x * key_size f x * unit f),
      add-zero
          (key_size f y * key_size f y * unit f),
    ) (mul-le-mul_right (unit f) (mul-le-mul h h))))

-- ---- a quotient by y > 0
div_key_mono : (f : Format) (x x' y : Float) → T (finite_number f x) → T (finite_number f x') → T (finite_number f y)
    → mid f < key f y → key f x ≤ key f x' → key f (div f x y) ≤ key f (div f x' y)
div_key_mono f x x' y p p' q h l =
    let e : positive_part f x + negative_part f x' ≤ positive_part f x' + negative_part f x = omega arith in
    let w : 0 < positive_part f y = omega arith in
    rw (div_key f x y p q h, div_key f x' y p' q h)
    (round_key_mono f (positive_part f x * unit f) (negative_part f x * unit f) (positive_part f y)
    (positive_part f x' * unit f) (negative_part f x' * unit f) (positive_part f y) w w
    (lift (positive_part f x) (negative_part f x') (positive_part f x') (negative_part f x) (unit f) (positive_part f y) e))

-- ---- the same in the order of floats; a sign is told by the key of zero, mid
module _ (f : Format) (x y : Float) (p : T (finite_number f x)) (q : T (finite_number f y)) (h : T (le x y)) where
  keys : key f x ≤ key f y
  keys = le→key f x y (number_of f x p) (number_of f y q) h

  pub neg_mono : T (le (neg y) (neg x))
  neg_mono =
      key→le f (neg y) (neg x) (number_of f (neg y) (neg_finite_number f y q)) (number_of f (neg x) (neg_finite_number f x p))
      (neg_anti f x y (number_of f x p) (number_of f y q) keys)

  pub mul_mono : (c : Float) → T (finite_number f c) → mid f ≤ key f c → T (le (mul f x c) (mul f y c))
  mul_mono c r k = key→le f (mul f x c) (mul f y c) (mul_number f x c p r) (mul_number f y c q r)
      (times_key_mono f x y c p q r k keys)

  pub div_mono : (c : Float) → T (finite_number f c) → mid f < key f c → T (le (div f x c) (div f y c))
  div_mono c r k = key→le f (div f x c) (div f y c) (div_number f x c p r k) (div_number f y c q r k)
      (div_key_mono f x y c p q r k keys)
