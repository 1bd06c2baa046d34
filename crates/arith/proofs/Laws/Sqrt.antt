-- sqrt of what is not below zero: a number, monotone, nearest, exact at squares. It is the root of a whole number.
use Rattle.std.proofs.Common.{◌≡◌, ℕ, zero, suc, ◌+◌, ◌-◌, ◌*◌, ◌<◌, ◌≤◌, Bool, true, false, T, ℤ, sym, refl, ap, ◌∙◌, subst, zero-le, le_trans, le_of_eq, lt_of_le_of_lt, add-zero, lt_irrefl, mul-le-mul_right, zero-lt-suc, mul-pos, zero-mul, not-le_of_lt, arith, pow_pos}
use lib.Ieee.{down, fin, fits, Float, Format, inf, le, nan, prec, up}
use lib.Ieee.Fits.{and_r, up_pos}
use Rattle.arith.proofs.Laws.Hypot.{inf_key, inf_number, infinite, Kind, kind, le_inf, sqrt_root, usual}
use Rattle.arith.proofs.Laws.Hypot.{unsigned}
use Rattle.arith.proofs.Laws.HypotZero.{zero_magnitude, root_of_square}
use Rattle.arith.proofs.Laws.RootKey.{root_ge, root_le, root_mono, root_number}
use Rattle.arith.proofs.roots.Rounding.Key.{finite_number, key, key_is, magnitude, mid, mid_pos, number, number_of}
use Rattle.arith.proofs.roots.Rounding.Key.{plus_zero, plus_zero_finite_number, plus_zero_key, representable_of, unit}
use Rattle.arith.proofs.roots.Rounding.Key.{unit_pos}
use Rattle.arith.proofs.roots.Rounding.KeyOrder.{key→le, le→key}
use Rattle.arith.specs.roots.Roots.{root, sqrt}
use Rattle.arith.proofs.Laws.NearestRoot.{NearestRoot, root_nearest}

-- ---- the square root of what is not below zero
root_nought : (f : Format) → key f (root f 0) ≡ mid f
root_nought f =
    let a = root_le f 0 0 0 (pow_pos (prec f)) zero-le in
    let b = root_ge f 0 0 0 (pow_pos (prec f)) zero-le zero-le in
    omega arith

sqrt_minus_zero : (f : Format) (e : ℤ) → sqrt f (fin true 0 e) ≡ fin true 0 e
unfolding sqrt
sqrt_minus_zero f e = refl

sqrt_inf : (f : Format) → sqrt f (inf false) ≡ inf false
unfolding sqrt
sqrt_inf f = refl

minus_inf_key : (f : Format) → key f (inf true) ≡ mid f - mid f
unfolding key magnitude
minus_inf_key f = refl

-- what is below zero has a key below zero's
positive_magnitude : (f : Format) (m : ℕ) (e : ℤ) → T (finite_number f (fin true (suc m) e))
    → 0 < magnitude f (fin true (suc m) e)
positive_magnitude f m e h = go (magnitude f (fin true (suc m) e)) (representable_of f (fin true (suc m) e) h).value.1
  where
    go : (t : ℕ) → suc m * up e * unit f ≡ t * down e → 0 < t
    go zero v = absurd (lt_irrefl 0 (subst (λ (z : ℕ). 0 < z) (v ∙ zero-mul (down e))
        (mul-pos (mul-pos (zero-lt-suc m) (up_pos e)) (unit_pos f))))
    go (suc t) v = zero-lt-suc t

negative_key : (f : Format) (m : ℕ) (e : ℤ) → T (finite_number f (fin true (suc m) e))
    → key f (fin true (suc m) e) < mid f
negative_key f m e h =
    let x = fin true (suc m) e in
    lt_of_le_of_lt (le_of_eq (key_is f x)) (go (mid f) (magnitude f x) (positive_magnitude f m e h)
    (representable_of f x h).small)
  where
    go : (M t : ℕ) → 0 < t → t < M → M - t < M
    go M t a b = omega arith

pub sqrt_key : (f : Format) (x : Float) → T (finite_number f x) → mid f ≤ key f x
    → (key f (sqrt f x) ≡ key f (root f (magnitude f x * unit f))) × (key f x ≡ mid f + magnitude f x) × T
    (number f (sqrt f x))
sqrt_key f nan h l = absurd (and_r (fits f nan) false h)
sqrt_key f (inf s) h l = absurd (and_r (fits f (inf s)) false h)
sqrt_key f (fin false m e) h l = (
  ap (λ (z : Float). key f z) (sqrt_root f m e),
  key_is f (fin false m e),
  subst
      (λ (z : Float). T (number f z)) (sym (sqrt_root f m e)) (root_number f (magnitude f (fin false m e) * unit f)),
)
sqrt_key f (fin true zero e) h l =
    let x = fin true 0 e in
    let t : magnitude f x ≡ 0 = zero_magnitude f true e in
    let k : key f x ≡ mid f + magnitude f x = key_is f x ∙ go (mid f) (magnitude f x) t in (
      ap (λ (z : Float). key f z) (sqrt_minus_zero f e) ∙ k ∙ ap (λ (z : ℕ). mid f + z) t ∙ add-zero (mid f) ∙ sym
          (root_nought f) ∙ ap (λ (z : ℕ). key f (root f z)) (sym (ap (λ (z : ℕ). z * unit f) t ∙ zero-mul (unit f))),
      k,
      subst (λ (z : Float). T (number f z)) (sym (sqrt_minus_zero f e)) (number_of f x h),
    )
  where
    go : (M t : ℕ) → t ≡ 0 → M - t ≡ M + t
    go M t h = omega arith
sqrt_key f (fin true (suc m) e) h l = absurd (not-le_of_lt (negative_key f m e h) l)

not_minus_inf : (f : Format) (x : Float) (s : Bool) → x ≡ inf s → mid f ≤ key f x → x ≡ inf false
not_minus_inf f x false e l = e
not_minus_inf f x true e l = absurd (go (mid f) (mid_pos f) (le_trans l
    (le_of_eq (ap (λ (z : Float). key f z) e ∙ minus_inf_key f))))
  where
    go : (M : ℕ) → 0 < M → M ≤ M - M → ⊥
    go M a b = omega arith

not_below : (f : Format) (x : Float) → T (number f x) → T (le plus_zero x) → mid f ≤ key f x
not_below f x p h = le_trans (le_of_eq (sym (plus_zero_key f))) (le→key f plus_zero x
    (number_of f plus_zero (plus_zero_finite_number f)) p h)

pub sqrt_number : (f : Format) (x : Float) → T (number f x) → T (le plus_zero x) → T (number f (sqrt f x))
sqrt_number f x p h = go (kind f x p)
  where
    go : Kind f x → T (number f (sqrt f x))
    go (infinite s e) = subst (λ (z : Float). T (number f z)) (sym
        (ap (λ (z : Float). sqrt f z) (not_minus_inf f x s e (not_below f x p h)) ∙ sqrt_inf f)) (inf_number f false)
    go (usual a b) = (sqrt_key f x b (not_below f x p h)).2

pub sqrt_mono : (f : Format) (x y : Float) → T (number f x) → T (number f y) → T (le plus_zero x) → T (le x y)
    → T (le (sqrt f x) (sqrt f y))
sqrt_mono f x y p q h l = go (kind f x p) (kind f y q)
  where
    k : key f x ≤ key f y
    k = le→key f x y p q l

    X : mid f ≤ key f x
    X = not_below f x p h

    Y : mid f ≤ key f y
    Y = le_trans X k

    go : Kind f x → Kind f y → T (le (sqrt f x) (sqrt f y))
    go u (infinite t e) = subst (λ (z : Float). T (le (sqrt f x) z))
        (sym (ap (λ (z : Float). sqrt f z) (not_minus_inf f y t e Y) ∙ sqrt_inf f))
        (le_inf f (sqrt f x) (sqrt_number f x p h))
    go (infinite s e) (usual c d) =
        absurd (not-le_of_lt (representable_of f y d).small
        (within (mid f) (magnitude f y) (key f x) (key f y) (ap (λ (z : Float). key f z) (not_minus_inf f x s e X)
        ∙ inf_key f) (sqrt_key f y d Y).1 k))
      where
        within : (M t a b : ℕ) → a ≡ M + M → b ≡ M + t → a ≤ b → M ≤ t
        within M t a b e f h = omega arith
    go (usual a b) (usual c d) =
        let u = sqrt_key f x b X in
        let v = sqrt_key f y d Y in
        key→le f (sqrt f x) (sqrt f y) u.2 v.2
        (le_trans (le_of_eq u.0)
        (le_trans (root_mono f (magnitude f x * unit f) (magnitude f y * unit f)
        (mul-le-mul_right (unit f) (less (mid f) (magnitude f x) (magnitude f y) (key f x) (key f y) u.1 v.1
        k)))
        (le_of_eq (sym v.0))))
      where
        less : (M s t a b : ℕ) → a ≡ M + s → b ≡ M + t → a ≤ b → s ≤ t
        less M s t a b e f h = omega arith

-- ---- it is the number nearest the exact root, ties to even; unit f ticks make 1
pub sqrt_nearest : (f : Format) (m : ℕ) (e : ℤ)
    → NearestRoot f (magnitude f (fin false m e) * unit f) (sqrt f (fin false m e))
sqrt_nearest f m e =
    subst (λ (z : Float). NearestRoot f (magnitude f (fin false m e) * unit f) z) (sym (sqrt_root f m e))
    (root_nearest f (magnitude f (fin false m e) * unit f))

-- exact at squares: where y is x * x exactly, its root is |x|
pub sqrt_square : (f : Format) (x : Float) (m : ℕ) (e : ℤ) → T (finite_number f x)
    → magnitude f (fin false m e) * unit f ≡ magnitude f x * magnitude f x → sqrt f (fin false m e) ≡ unsigned x
sqrt_square f x m e p h = sqrt_root f m e ∙ ap (λ (n : ℕ). root f n) h ∙ root_of_square f x p
