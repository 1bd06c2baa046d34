-- The key of a product is one rounding of the exact product.
use Rattle.std.proofs.Common.{◌≡◌, ℕ, ◌+◌, ◌-◌, ◌*◌, ◌≤◌, Bool, true, false, T, ap, ◌∙◌, mul_assoc, mul-pos, mul-zero, zero-mul, arith}
use native.Mathlib.Nat.{mul-mul-mul_comm}
use lib.Ieee.{down, fin, Float, Format, inf, mul, nan, unlike, up}
use lib.Ieee.Fits.{down_pos}
use Rattle.arith.proofs.roots.Rounding.Key.{finite_of, finite_number, key, magnitude, magnitude_le, mid, negative}
use Rattle.arith.proofs.roots.Rounding.Key.{number, number_of, representable_of, side, unit, unit_pos}
use Rattle.arith.proofs.roots.Rounding.RoundKey.{Difference, round_number, round_round_key, round_key}

-- ---- product
-- a float's two parts: up - dn, one of them 0
abbrev pub positive_part : Format → Float → ℕ
positive_part f x = key f x - mid f

abbrev pub negative_part : Format → Float → ℕ
negative_part f x = mid f - key f x

abbrev pub positive_of : Bool → ℕ → ℕ
positive_of false a = a
positive_of true a = 0

abbrev pub negative_of : Bool → ℕ → ℕ
negative_of false a = 0
negative_of true a = a

parts_up : (M a : ℕ) → a ≤ M → (s : Bool) → side M s a - M ≡ positive_of s a
parts_up M a h false = omega arith
parts_up M a h true = omega arith

parts_dn : (M a : ℕ) → a ≤ M → (s : Bool) → M - side M s a ≡ negative_of s a
parts_dn M a h false = omega arith
parts_dn M a h true = omega arith

pub positive_part_is : (f : Format) (x : Float) → T (finite_number f x)
    → positive_part f x ≡ positive_of (negative x) (magnitude f x)
unfolding key
positive_part_is f x h = parts_up (mid f) (magnitude f x) (magnitude_le f x (number_of f x h)) (negative x)

pub negative_part_is : (f : Format) (x : Float) → T (finite_number f x)
    → negative_part f x ≡ negative_of (negative x) (magnitude f x)
unfolding key
negative_part_is f x h = parts_dn (mid f) (magnitude f x) (magnitude_le f x (number_of f x h)) (negative x)

signs : (s t : Bool) (a b : ℕ)
    → Difference (unlike s t) (a * b) (positive_of s a * positive_of t b + negative_of s a * negative_of t b)
    (positive_of s a * negative_of t b + negative_of s a * positive_of t b)
signs false false a b = rw (mul-zero a, zero-mul b) (omega arith)
signs false true a b = rw (mul-zero a, zero-mul b) (omega arith)
signs true false a b = rw (mul-zero a, zero-mul b) (omega arith)
signs true true a b = rw (mul-zero a, zero-mul b) (omega arith)

pub mul_key : (f : Format) (x y : Float) → T (finite_number f x) → T (finite_number f y)
    → key f (mul f x y) ≡ round_key f (positive_part f x * positive_part f y + negative_part f x * negative_part f y)
    (positive_part f x * negative_part f y + negative_part f x * positive_part f y) (unit f)
mul_key f x y p q = rw (positive_part_is f x p, positive_part_is f y q, negative_part_is f x p, negative_part_is f y q)
    (go x y p q)
  where
    go : (x y : Float) → T (finite_number f x) → T (finite_number f y)
        → key f (mul f x y) ≡ round_key f (positive_of (negative x) (magnitude f x) * positive_of (negative y)
        (magnitude f y) + negative_of (negative x) (magnitude f x) * negative_of (negative y) (magnitude f y))
        (positive_of (negative x) (magnitude f x) * negative_of (negative y) (magnitude f y) + negative_of (negative x)
        (magnitude f x) * positive_of (negative y) (magnitude f y)) (unit f)
    go nan y p q = absurd (finite_of f nan p)
    go (inf s) y p q = absurd (finite_of f (inf s) p)
    go (fin s m e) nan p q = absurd (finite_of f nan q)
    go (fin s m e) (inf t) p q = absurd (finite_of f (inf t) q)
    go (fin s m e) (fin t n d) p q =
        let x = representable_of f (fin s m e) p in
        let y = representable_of f (fin t n d) q in
        let a = magnitude f (fin s m e) in
        let b = magnitude f (fin t n d) in
        unfold mul in
        round_round_key f (unlike s t) (m * up e * (n * up d)) (down e * down d) (a * b) (unit f)
        (positive_of s a * positive_of t b + negative_of s a * negative_of t b)
        (positive_of s a * negative_of t b + negative_of s a * positive_of t b)
        (mul-pos (down_pos e) (down_pos d)) (unit_pos f)
        (mul_assoc (m * up e * (n * up d)) (unit f) (unit f) ∙ mul-mul-mul_comm (m * up e) (n * up d) (unit f) (unit f)
        ∙ ap (λ (z : ℕ). z * (n * up d * unit f)) x.value.1 ∙ ap (λ (z : ℕ). a * down e * z) y.value.1
        ∙ mul-mul-mul_comm a (down e) b (down d))
        (signs s t a b)

pub mul_number : (f : Format) (x y : Float) → T (finite_number f x) → T (finite_number f y) → T (number f (mul f x y))
mul_number f nan y p q = absurd (finite_of f nan p)
mul_number f (inf s) y p q = absurd (finite_of f (inf s) p)
mul_number f (fin s m e) nan p q = absurd (finite_of f nan q)
mul_number f (fin s m e) (inf t) p q = absurd (finite_of f (inf t) q)
mul_number f (fin s m e) (fin t n d) p q = unfold mul in round_number f (unlike s t) (m * up e * (n * up d))
    (down e * down d)
