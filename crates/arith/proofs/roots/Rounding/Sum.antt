-- Sum, negation and difference: each key is one rounding of the exact result.
use Rattle.std.proofs.Common.{◌≡◌, ℕ, ◌+◌, ◌-◌, ◌*◌, ◌<◌, ◌≤◌, Bool, true, false, cond, not, ◌&&◌, T, ltb, sym, refl, ap, ◌∙◌, le_trans, le_of_eq, le_refl, le_of_lt, mul-le-mul_right, add-mul, add_comm, mul-pos, mul-one, le_of_mul-le-mul_right, arith, ltb→lt, nltb→le, pow_pos}
use mathlib.Core.Bool.{beq}
use lib.Ieee.{add, down, fin, fits, Float, Format, inf, is_nan, nan, neg, round, sub, sum, up}
use lib.Ieee.Fits.{and_i, and_l, down_pos, neg-fits}
use lib.Ieee.Scale.{finite}
use Rattle.arith.proofs.roots.Rounding.Key.{finite_of, finite_number, key, magnitude, magnitude_le, mid, number}
use Rattle.arith.proofs.roots.Rounding.Key.{number_of, representable_of, side, unit}
use Rattle.arith.proofs.roots.Rounding.KeyOrder.{cross, cross'}
use Rattle.arith.proofs.roots.Rounding.RoundKey.{round_number, round_round_key, round_key, round_key_same, times_sub}

-- ---- sum
module _ (f : Format) (A B D a b : ℕ) (DP : 0 < D) (p : A * unit f ≡ a * D) (q : B * unit f ≡ b * D) where
  over : A ≤ B → a ≤ b
  over h = le_of_mul-le-mul_right (le_trans (le_of_eq (sym p)) (le_trans (mul-le-mul_right (unit f) h) (le_of_eq q))) DP

  both : (A + B) * unit f * 1 ≡ (a + b) * D
  both = mul-one ((A + B) * unit f) ∙ add-mul A B (unit f) ∙ ap (λ (z : ℕ). z + B * unit f) p ∙ ap
      (λ (z : ℕ). a * D + z) q ∙ sym (add-mul a b D)

  less : (A - B) * unit f * 1 ≡ (a - b) * D
  less = mul-one ((A - B) * unit f) ∙ times_sub A B (unit f) ∙ ap (λ (z : ℕ). z - B * unit f) p ∙ ap
      (λ (z : ℕ). a * D - z) q ∙ sym (times_sub a b D)

module _ (f : Format) (A B D a b : ℕ) (DP : 0 < D) (p : A * unit f ≡ a * D) (q : B * unit f ≡ b * D) (x : a < mid f)
    (y : b < mid f) where
  same_sign : (s : Bool)
      → key f (round f s (A + B) D) ≡ round_key f (side (mid f) s a + side (mid f) s b) (mid f + mid f) 1
  same_sign false = round_round_key f false (A + B) D (a + b) 1 (mid f + a + (mid f + b)) (mid f + mid f) DP (pow_pos 0)
      (both f A B D a b DP p q) (omega arith)
  same_sign true = round_round_key f true (A + B) D (a + b) 1 (mid f - a + (mid f - b)) (mid f + mid f) DP (pow_pos 0)
      (both f A B D a b DP p q) (omega arith)

  -- x is above y
  other_sign : (s : Bool) → B ≤ A
      → key f (round f s (A - B) D) ≡ round_key f (side (mid f) s a + side (mid f) (not s) b) (mid f + mid f) 1
  other_sign false h = let l : b ≤ a = over f B A D b a DP q p h in round_round_key f false (A - B) D (a - b) 1
      (mid f + a + (mid f - b)) (mid f + mid f) DP (pow_pos 0) (less f A B D a b DP p q) (omega arith)
  other_sign true h = let l : b ≤ a = over f B A D b a DP q p h in round_round_key f true (A - B) D (a - b) 1
      (mid f - a + (mid f + b)) (mid f + mid f) DP (pow_pos 0) (less f A B D a b DP p q) (omega arith)

  -- equal: a zero of either sign
  equal_sizes : (s : Bool) → A ≤ B → B ≤ A
      → key f (round f false (A - B) D) ≡ round_key f (side (mid f) s a + side (mid f) (not s) b) (mid f + mid f) 1
  equal_sizes false h k = other_sign false k
  equal_sizes true h k =
      let l : b ≤ a = over f B A D b a DP q p k in
      let m : a ≤ b = over f A B D a b DP p q h in
      round_round_key f false (A - B) D (a - b) 1 (mid f - a + (mid f + b)) (mid f + mid f) DP (pow_pos 0)
      (less f A B D a b DP p q) (omega arith)

module _ (f : Format) (A B D a b : ℕ) (DP : 0 < D) (p : A * unit f ≡ a * D) (q : B * unit f ≡ b * D) (x : a < mid f)
    (y : b < mid f) where
  turned : (s : Bool) → A ≤ B
      → key f (round f (not s) (B - A) D) ≡ round_key f (side (mid f) s a + side (mid f) (not s) b) (mid f + mid f) 1
  turned false h = other_sign f B A D b a DP q p y x true h ∙ ap (λ (z : ℕ). round_key f z (mid f + mid f) 1)
      (add_comm (mid f - b) (mid f + a))
  turned true h = other_sign f B A D b a DP q p y x false h ∙ ap (λ (z : ℕ). round_key f z (mid f + mid f) 1)
      (add_comm (mid f + b) (mid f - a))

  mixed : (s c d : Bool) → (T c → A < B) → (T (not c) → B ≤ A) → (T (not d) → A ≤ B)
      → key f (cond c (round f (not s) (B - A) D) (round f (s && d) (A - B) D)) ≡ round_key f
      (side (mid f) s a + side (mid f) (not s) b) (mid f + mid f) 1
  mixed s true d h k l = turned s (le_of_lt (h tt))
  mixed false false d h k l = other_sign f A B D a b DP p q x y false (k tt)
  mixed true false true h k l = other_sign f A B D a b DP p q x y true (k tt)
  mixed true false false h k l = equal_sizes f A B D a b DP p q x y true (l tt) (k tt)

  sum_key : (s t : Bool) → key f (sum f s A t B D) ≡ round_key f (side (mid f) s a + side (mid f) t b) (mid f + mid f) 1
  unfolding sum
  sum_key false false = same_sign f A B D a b DP p q x y false
  sum_key false true = mixed false (ltb A B) (ltb B A) (ltb→lt A B) (nltb→le A B) (nltb→le B A)
  sum_key true false = mixed true (ltb A B) (ltb B A) (ltb→lt A B) (nltb→le A B) (nltb→le B A)
  sum_key true true = same_sign f A B D a b DP p q x y true

pub add_key : (f : Format) (x y : Float) → T (finite_number f x) → T (finite_number f y)
    → key f (add f x y) ≡ round_key f (key f x + key f y) (mid f + mid f) 1
unfolding add key
add_key f nan y p q = absurd (finite_of f nan p)
add_key f (inf s) y p q = absurd (finite_of f (inf s) p)
add_key f (fin s m e) nan p q = absurd (finite_of f nan q)
add_key f (fin s m e) (inf t) p q = absurd (finite_of f (inf t) q)
add_key f (fin s m e) (fin t n d) p q =
    let x = representable_of f (fin s m e) p in
    let y = representable_of f (fin t n d) q in
    sum_key f (m * up e * down d) (n * up d * down e) (down e * down d) (magnitude f (fin s m e))
    (magnitude f (fin t n d)) (mul-pos (down_pos e) (down_pos d))
    (cross f m e d (magnitude f (fin s m e)) x.value.1) (cross' f n d e (magnitude f (fin t n d)) y.value.1)
    x.small y.small s t

-- ---- negation
side_neg : (M t : ℕ) → t ≤ M → (s : Bool) → side M (not s) t + side M s t ≡ M + M
side_neg M t h false = omega arith
side_neg M t h true = omega arith

pub neg_key : (f : Format) (x : Float) → T (number f x) → key f (neg x) + key f x ≡ mid f + mid f
unfolding neg key magnitude fits is_nan
neg_key f nan h = absurd h
neg_key f (inf s) h = side_neg (mid f) (mid f) (le_refl (mid f)) s
neg_key f (fin s m e) h = side_neg (mid f) (magnitude f (fin s m e)) (magnitude_le f (fin s m e) h) s

neg_finite : (x : Float) → T (finite x) → T (finite (neg x))
unfolding neg
neg_finite nan h = h
neg_finite (inf s) h = h
neg_finite (fin s m e) h = tt

pub neg_finite_number : (f : Format) (x : Float) → T (finite_number f x) → T (finite_number f (neg x))
neg_finite_number f x h = and_i (fits f (neg x)) (finite (neg x)) (neg-fits f x (and_l (fits f x) (finite x) h))
    (neg_finite x (finite_of f x h))

-- ---- difference
sub_is : (f : Format) (x y : Float) → sub f x y ≡ add f x (neg y)
unfolding sub
sub_is f x y = refl

pub sub_key : (f : Format) (x y : Float) → T (finite_number f x) → T (finite_number f y)
    → key f (sub f x y) ≡ round_key f (key f x) (key f y) 1
sub_key f x y p q =
    let n : key f (neg y) + key f y ≡ mid f + mid f = neg_key f y (number_of f y q) in
    ap (λ (z : Float). key f z) (sub_is f x y) ∙ add_key f x (neg y) p (neg_finite_number f y q)
    ∙ round_key_same f (key f x + key f (neg y)) (mid f + mid f) 1 (key f x) (key f y) 1 (pow_pos 0) (pow_pos 0)
    (omega arith)

cond_number : (f : Format) (b : Bool) (x y : Float) → T (number f x) → T (number f y) → T (number f (cond b x y))
cond_number f true x y h k = h
cond_number f false x y h k = k

sum_number : (f : Format) (s : Bool) (a : ℕ) (t : Bool) (b c : ℕ) → T (number f (sum f s a t b c))
unfolding sum
sum_number f s a t b c = cond_number f (beq s t) (round f s (a + b) c)
    (cond (ltb a b) (round f t (b - a) c) (round f (s && ltb b a) (a - b) c)) (round_number f s (a + b) c)
    (cond_number f (ltb a b) (round f t (b - a) c) (round f (s && ltb b a) (a - b) c) (round_number f t (b - a) c)
    (round_number f (s && ltb b a) (a - b) c))

pub add_number : (f : Format) (x y : Float) → T (finite_number f x) → T (finite_number f y) → T (number f (add f x y))
add_number f nan y p q = absurd (finite_of f nan p)
add_number f (inf s) y p q = absurd (finite_of f (inf s) p)
add_number f (fin s m e) nan p q = absurd (finite_of f nan q)
add_number f (fin s m e) (inf t) p q = absurd (finite_of f (inf t) q)
add_number f (fin s m e) (fin t n d) p q = unfold add in sum_number f s (m * up e * down d) t (n * up d * down e)
    (down e * down d)

pub sub_number : (f : Format) (x y : Float) → T (finite_number f x) → T (finite_number f y) → T (number f (sub f x y))
sub_number f x y p q = rw (sub_is f x y) (add_number f x (neg y) p (neg_finite_number f y q))
