-- The key of a quotient is one rounding of the exact quotient, by a divisor of either sign.
use Rattle.std.proofs.Common.{◌≡◌, ℕ, zero, suc, ◌*◌, ◌/◌, ◌<◌, Bool, true, false, cond, T, eqb, ℤ, sym, refl, ap, ◌∙◌, subst, lt_irrefl, zero-lt-suc, mul_assoc, mul_comm, mul-pos, zero-mul, mul_right_comm, arith}
use native.Mathlib.Nat.{mul-mul-mul_comm, zero-div}
use lib.Ieee.{div, down, fin, Float, Format, inf, nan, round, unlike, up}
use lib.Ieee.Fits.{down_pos, up_pos}
use Rattle.arith.proofs.roots.Rounding.Key.{finite_of, finite_number, key, magnitude, mid, negative, number}
use Rattle.arith.proofs.roots.Rounding.Key.{representable_of, side, unit}
use Rattle.arith.proofs.roots.Rounding.Product.{negative_of, negative_part, negative_part_is, positive_of, positive_part}
use Rattle.arith.proofs.roots.Rounding.Product.{positive_part_is}
use Rattle.arith.proofs.roots.Rounding.RoundKey.{Difference, round_number, round_round_key, round_key}

-- ---- quotient by a positive value
pub not_zero : (n : ℕ) → 0 < n → eqb n 0 ≡ false
not_zero zero h = absurd (lt_irrefl 0 h)
not_zero (suc n) h = lib.Dec.eqb-suc-zero n

magnitude_zero : (f : Format) (s : Bool) (e : ℤ) → magnitude f (fin s 0 e) ≡ 0
unfolding magnitude
magnitude_zero f s e = ap (λ (z : ℕ). z / down e) (ap (λ (z : ℕ). z * unit f) (zero-mul (up e)) ∙ zero-mul (unit f))
    ∙ zero-div (down e)

pub digits_pos : (f : Format) (s : Bool) (n : ℕ) (e : ℤ) → 0 < magnitude f (fin s n e) → 0 < n
digits_pos f s zero e h = subst (λ (z : ℕ). 0 < z) (magnitude_zero f s e) h
digits_pos f s (suc n) e h = zero-lt-suc n

quot : (f : Format) (A B a b d1 d2 : ℕ) → A * unit f ≡ a * d1 → B * unit f ≡ b * d2
    → A * d2 * unit f * b ≡ a * unit f * (B * d1)
quot f A B a b d1 d2 p q =
    let U = unit f in
    mul_right_comm (A * d2) U b ∙ ap (λ (z : ℕ). z * U) (mul_assoc A d2 b) ∙ mul_right_comm A (d2 * b) U
    ∙ ap (λ (z : ℕ). z * (d2 * b)) p ∙ ap (λ (z : ℕ). a * d1 * z) (mul_comm d2 b ∙ sym q) ∙ mul-mul-mul_comm a d1 B U
    ∙ ap (λ (z : ℕ). a * B * z) (mul_comm d1 U) ∙ mul-mul-mul_comm a B U d1

signed : (s : Bool) (a u : ℕ) → Difference s (a * u) (positive_of s a * u) (negative_of s a * u)
signed false a u = rw (zero-mul u) (omega arith)
signed true a u = rw (zero-mul u) (omega arith)

sign_false : (s : Bool) → unlike s false ≡ s
sign_false true = refl
sign_false false = refl

pub div_key : (f : Format) (x y : Float) → T (finite_number f x) → T (finite_number f y) → mid f < key f y
    → key f (div f x y) ≡ round_key f (positive_part f x * unit f) (negative_part f x * unit f) (positive_part f y)
div_key f x y p q h = let w : 0 < positive_part f y = omega arith in
    rw (positive_part_is f x p, negative_part_is f x p, positive_part_is f y q)
    (go x y p q (rw (positive_part_is f y q) at w))
  where
    go : (x y : Float) → T (finite_number f x) → T (finite_number f y) → 0 < positive_of (negative y) (magnitude f y)
        → key f (div f x y) ≡ round_key f (positive_of (negative x) (magnitude f x) * unit f)
        (negative_of (negative x) (magnitude f x) * unit f) (positive_of (negative y) (magnitude f y))
    go nan y p q h = absurd (finite_of f nan p)
    go (inf s) y p q h = absurd (finite_of f (inf s) p)
    go (fin s m e) nan p q h = absurd (finite_of f nan q)
    go (fin s m e) (inf t) p q h = absurd (finite_of f (inf t) q)
    go (fin s m e) (fin true n d) p q h = absurd (lt_irrefl 0 h)
    go (fin s m e) (fin false n d) p q h =
        let x = representable_of f (fin s m e) p in
        let y = representable_of f (fin false n d) q in
        let a = magnitude f (fin s m e) in
        let b = magnitude f (fin false n d) in
        let N : 0 < n = digits_pos f false n d h in
        unfold div in
        ap (λ (z : Bool). key f (cond z (cond (eqb m 0) nan (inf (unlike s false)))
        (round f (unlike s false) (m * up e * down d) (n * up d * down e)))) (not_zero n N)
        ∙ ap (λ (z : Bool). key f (round f z (m * up e * down d) (n * up d * down e))) (sign_false s)
        ∙ round_round_key f s (m * up e * down d) (n * up d * down e) (a * unit f) b (positive_of s a * unit f)
        (negative_of s a * unit f)
        (mul-pos (mul-pos N (up_pos d)) (down_pos e)) h
        (quot f (m * up e) (n * up d) a b (down e) (down d) x.value.1 y.value.1)
        (signed s a (unit f))

pub side_above : (M t : ℕ) (s : Bool) → M < side M s t → 0 < t
side_above M t false h = omega arith
side_above M t true h = omega arith

pub div_number : (f : Format) (x y : Float) → T (finite_number f x) → T (finite_number f y) → mid f < key f y
    → T (number f (div f x y))
div_number f nan y p q h = absurd (finite_of f nan p)
div_number f (inf s) y p q h = absurd (finite_of f (inf s) p)
div_number f (fin s m e) nan p q h = absurd (finite_of f nan q)
div_number f (fin s m e) (inf t) p q h = absurd (finite_of f (inf t) q)
div_number f (fin s m e) (fin t n d) p q h = unfold div in subst (λ (z : Bool). T
    (number f (cond z (cond (eqb m 0) nan (inf (unlike s t))) (round f (unlike s t) (m * up e * down d)
    (n * up d * down e))))) (sym (not_zero n N)) (round_number f (unlike s t) (m * up e * down d) (n * up d * down e))
  where
    N : 0 < n
    N = unfold key in digits_pos f t n d (side_above (mid f) (magnitude f (fin t n d)) t h)

-- ---- the quotient by a negative value
signed_not : (s : Bool) (a u : ℕ) → Difference (unlike s true) (a * u) (negative_of s a * u) (positive_of s a * u)
signed_not false a u = rw (zero-mul u) (omega arith)
signed_not true a u = rw (zero-mul u) (omega arith)

pub div_key_neg : (f : Format) (x y : Float) → T (finite_number f x) → T (finite_number f y) → key f y < mid f
    → key f (div f x y) ≡ round_key f (negative_part f x * unit f) (positive_part f x * unit f) (negative_part f y)
div_key_neg f x y p q h = let w : 0 < negative_part f y = omega arith in
    rw (positive_part_is f x p, negative_part_is f x p, negative_part_is f y q)
    (go x y p q (rw (negative_part_is f y q) at w))
  where
    go : (x y : Float) → T (finite_number f x) → T (finite_number f y) → 0 < negative_of (negative y) (magnitude f y)
        → key f (div f x y) ≡ round_key f (negative_of (negative x) (magnitude f x) * unit f)
        (positive_of (negative x) (magnitude f x) * unit f) (negative_of (negative y) (magnitude f y))
    go nan y p q h = absurd (finite_of f nan p)
    go (inf s) y p q h = absurd (finite_of f (inf s) p)
    go (fin s m e) nan p q h = absurd (finite_of f nan q)
    go (fin s m e) (inf t) p q h = absurd (finite_of f (inf t) q)
    go (fin s m e) (fin false n d) p q h = absurd (lt_irrefl 0 h)
    go (fin s m e) (fin true n d) p q h =
        let x = representable_of f (fin s m e) p in
        let y = representable_of f (fin true n d) q in
        let a = magnitude f (fin s m e) in
        let b = magnitude f (fin true n d) in
        let N : 0 < n = digits_pos f true n d h in
        unfold div in
        ap (λ (z : Bool). key f (cond z (cond (eqb m 0) nan (inf (unlike s true)))
        (round f (unlike s true) (m * up e * down d) (n * up d * down e)))) (not_zero n N)
        ∙ round_round_key f (unlike s true) (m * up e * down d) (n * up d * down e) (a * unit f) b
        (negative_of s a * unit f) (positive_of s a * unit f)
        (mul-pos (mul-pos N (up_pos d)) (down_pos e)) h
        (quot f (m * up e) (n * up d) a b (down e) (down d) x.value.1 y.value.1)
        (signed_not s a (unit f))

side_below : (M t : ℕ) (s : Bool) → side M s t < M → 0 < t
side_below M t false h = omega arith
side_below M t true h = omega arith

pub div_number_neg : (f : Format) (x y : Float) → T (finite_number f x) → T (finite_number f y) → key f y < mid f
    → T (number f (div f x y))
div_number_neg f nan y p q h = absurd (finite_of f nan p)
div_number_neg f (inf s) y p q h = absurd (finite_of f (inf s) p)
div_number_neg f (fin s m e) nan p q h = absurd (finite_of f nan q)
div_number_neg f (fin s m e) (inf t) p q h = absurd (finite_of f (inf t) q)
div_number_neg f (fin s m e) (fin t n d) p q h = unfold div in subst
    (λ (z : Bool). T (number f (cond z (cond (eqb m 0) nan (inf (unlike s t)))
    (round f (unlike s t) (m * up e * down d) (n * up d * down e))))) (sym (not_zero n N))
    (round_number f (unlike s t) (m * up e * down d) (n * up d * down e))
  where
    N : 0 < n
    N = unfold key in digits_pos f t n d (side_below (mid f) (magnitude f (fin t n d)) t h)
