-- A float of the format f that is no NaN, as one natural number, its key: its place among all multiples of the smallest value, counted
-- from minus infinity. Zeros of both signs have the key mid, minus infinity 0, plus infinity mid + mid.
use Rattle.std.proofs.Common.{◌≡◌, ℕ, zero, suc, ◌+◌, ◌-◌, ◌*◌, ◌/◌, ◌%◌, ◌^◌, ◌<◌, ◌≤◌, Bool, true, false, not, ◌&&◌, T, eqb, ltb, leb, ℤ, pos, negsuc, sym, refl, ap, ◌∙◌, subst, zero-le, le_of_eq, le_refl, lt_of_lt_of_le, le_of_suc-le-suc, lt_of_le_of_lt, add-zero, le_of_lt, lt_irrefl, mul_assoc, mul_comm, lt_of_mul-lt-mul_right, mul-lt-mul_of_pos_right, one-mul, lt_of_not-le, zero-mul, mul-one, mul_right_comm, not-le_of_lt, mul-div_cancel, arith, ltb→lt, leb→le, pow_pos, pow-add}
use lib.Ieee.{down, emax, fin, fits, Float, Format, inf, is_nan, low, nan, prec, up}
use lib.Ieee.Exact.{HasValue}
use lib.Ieee.Fits.{and_i, and_l, and_r, down_pos, two, two-le_pos}
use lib.Ieee.Scale.{finite}
use lib.Pow.{pow-lt}

unfoldable pub unit : Format → ℕ
unit f = 2 ^ low f

unfoldable pub mid : Format → ℕ
mid f = 2 ^ (low f + suc (emax f))

abbrev pub side : ℕ → Bool → ℕ → ℕ
side M false t = M + t
side M true t = M - t

-- the size in units of the smallest value
unfoldable pub magnitude : Format → Float → ℕ
unfolding unit
magnitude f nan = 0
magnitude f (inf s) = mid f
magnitude f (fin s m e) = m * up e * unit f / down e

abbrev pub negative : Float → Bool
negative nan = false
negative (inf s) = s
negative (fin s m e) = s

unfoldable pub key : Format → Float → ℕ
key f x = side (mid f) (negative x) (magnitude f x)

pub key_is : (f : Format) (x : Float) → key f x ≡ side (mid f) (negative x) (magnitude f x)
unfolding key
key_is f x = refl

pub unit_pos : (f : Format) → 0 < unit f
unfolding unit
unit_pos f = pow_pos (low f)

pub mid_pos : (f : Format) → 0 < mid f
unfolding mid
mid_pos f = pow_pos (low f + suc (emax f))

-- ---- the value that HasValue states, as magnitude
pub magnitude_of_value : (f : Format) (x : Float) (s : Bool) (a : ℕ) → HasValue x s a (unit f) → magnitude f x ≡ a
unfolding magnitude
magnitude_of_value f nan s a h = absurd h
magnitude_of_value f (inf t) s a h = absurd h
magnitude_of_value f (fin t m e) s a h = ap (λ (x : ℕ). x / down e) h.1 ∙ mul-div_cancel a (down_pos e)

pub negative_of_value : (x : Float) (s : Bool) (a c : ℕ) → HasValue x s a c → negative x ≡ s
negative_of_value nan s a c h = absurd h
negative_of_value (inf t) s a c h = absurd h
negative_of_value (fin t m e) s a c h = h.0

-- ---- what it takes to be a finite value of the format
-- magnitude are q * 2 ^ j with at most prec digits in q, and below mid
pub record Representable (f : Format) (x : Float) : Type 0 where
  pub value : HasValue x (negative x) (magnitude f x) (unit f)
  pub q : ℕ
  pub j : ℕ
  pub short : q < 2 ^ prec f
  pub whole : magnitude f x ≡ q * 2 ^ j
  pub small : magnitude f x < mid f

exponent : (i l : ℕ) → 2 ^ i ≤ 2 ^ l → i ≤ l
exponent i l h = le_of_suc-le-suc (lt_of_not-le (λ (k : suc l ≤ i). not-le_of_lt (pow-lt k) h))

pub representable_by : (f : Format) (x : Float) (s : Bool) (q j : ℕ) → HasValue x s (q * 2 ^ j) (unit f)
    → q < 2 ^ prec f → q * 2 ^ j < mid f → Representable f x
representable_by f x s q j v Q S =
    let e : magnitude f x ≡ q * 2 ^ j = magnitude_of_value f x s (q * 2 ^ j) v in
    record {
      value = subst (λ (t : Bool). HasValue x t (magnitude f x) (unit f))
          (sym (negative_of_value x s (q * 2 ^ j) (unit f) v)) (subst (λ (t : ℕ). HasValue x s t (unit f)) (sym e) v);
      q = q;
      j = j;
      short = Q;
      whole = e;
      small = subst (λ (t : ℕ). t < mid f) (sym e) S;
    }

abbrev Scaled : Format → ℤ → Type 0
Scaled f e = (j : ℕ) × (up e * unit f ≡ 2 ^ j * down e)

forth : (i l : ℕ) → i ≤ l → l - i + i ≡ l
forth i l h = omega arith

scaled : (f : Format) (e : ℤ) → down e ≤ 2 ^ low f → Scaled f e
unfolding unit
scaled f (pos k) h = (k + low f, sym (pow-add 2 k (low f)) ∙ sym (mul-one (2 ^ (k + low f))))
scaled f (negsuc k) h = (
  low f - suc k,
  one-mul (2 ^ low f) ∙ ap (λ (x : ℕ). 2 ^ x)
      (sym (forth (suc k) (low f) (exponent (suc k) (low f) h))) ∙ pow-add 2 (low f - suc k) (suc k),
)

below_mid : (f : Format) (a t d : ℕ) → 0 < d → a < 2 ^ suc (emax f) * d → a * unit f ≡ t * d → t < mid f
unfolding unit mid
below_mid f a t d D h e =
    lt_of_mul-lt-mul_right d
    (lt_of_le_of_lt (le_of_eq (sym e))
    (lt_of_lt_of_le (mul-lt-mul_of_pos_right h (pow_pos (low f)))
    (le_of_eq (mul_right_comm (2 ^ suc (emax f)) d (2 ^ low f) ∙ ap (λ (x : ℕ). x * d)
    (mul_comm (2 ^ suc (emax f)) (2 ^ low f) ∙ sym (pow-add 2 (low f) (suc (emax f))))))))

pub representable : (f : Format) (x : Float) → T (finite x) → T (fits f x) → Representable f x
unfolding fits
representable f nan F h = absurd F
representable f (inf s) F h = absurd F
representable f (fin s zero e) F h = representable_by f (fin s 0 e) s 0 0
    (refl, ap (λ (x : ℕ). x * unit f) (zero-mul (up e)) ∙ zero-mul (unit f) ∙ sym (zero-mul (down e)))
    (pow_pos (prec f)) (mid_pos f)
representable f (fin s (suc m) e) F h =
    let a : Bool = eqb (suc m % 2) 1 in
    let b : Bool = ltb (suc m) (2 ^ prec f) in
    let c : Bool = leb (down e) (2 ^ low f) in
    let d : Bool = ltb (suc m * up e) (2 ^ suc (emax f) * down e) in
    let z = scaled f e (leb→le (down e) (2 ^ low f) (and_r (a && b) c (and_l (a && b && c) d h))) in
    let v : suc m * up e * unit f ≡ suc m * 2 ^ z.0 * down e = mul_assoc (suc m) (up e) (unit f) ∙ ap
    (λ (x : ℕ). suc m * x) z.1 ∙ sym (mul_assoc (suc m) (2 ^ z.0) (down e)) in
    representable_by f (fin s (suc m) e) s (suc m) z.0 (refl, v)
    (ltb→lt (suc m) (2 ^ prec f) (and_r a b (and_l (a && b) c (and_l (a && b && c) d h))))
    (below_mid f (suc m * up e) (suc m * 2 ^ z.0) (down e) (down_pos e)
    (ltb→lt (suc m * up e) (2 ^ suc (emax f) * down e) (and_r (a && b && c) d h)) v)

-- a number of the format f: any value but a NaN
abbrev pub number : Format → Float → Bool
number f x = fits f x && not (is_nan x)

abbrev pub finite_number : Format → Float → Bool
finite_number f x = fits f x && finite x

pub representable_of : (f : Format) (x : Float) → T (finite_number f x) → Representable f x
representable_of f x h = representable f x (and_r (fits f x) (finite x) h) (and_l (fits f x) (finite x) h)

finite_number_lem : (x : Float) → T (finite x) → T (not (is_nan x))
unfolding is_nan
finite_number_lem nan h = absurd h
finite_number_lem (inf s) h = absurd h
finite_number_lem (fin s m e) h = tt

pub number_of : (f : Format) (x : Float) → T (finite_number f x) → T (number f x)
number_of f x h = and_i (fits f x) (not (is_nan x)) (and_l (fits f x) (finite x) h)
    (finite_number_lem x (and_r (fits f x) (finite x) h))

pub prec_pos : (f : Format) → 0 < prec f
prec_pos f = two-le_pos (prec f) (two f)

-- ---- the key of what `round` makes
pub value_key : (f : Format) (x : Float) (s : Bool) (a : ℕ) → HasValue x s a (unit f) → key f x ≡ side (mid f) s a
unfolding key
value_key f x s a h = ap (λ (t : Bool). side (mid f) t (magnitude f x)) (negative_of_value x s a (unit f) h) ∙ ap
    (λ (t : ℕ). side (mid f) s t) (magnitude_of_value f x s a h)

pub inf_key : (f : Format) (s : Bool) → key f (inf s) ≡ side (mid f) s (mid f)
unfolding key magnitude
inf_key f s = refl

pub finite_of : (f : Format) (x : Float) → T (finite_number f x) → T (finite x)
finite_of f x h = and_r (fits f x) (finite x) h

pub magnitude_le : (f : Format) (x : Float) → T (number f x) → magnitude f x ≤ mid f
magnitude_le f nan h = unfold magnitude in zero-le
magnitude_le f (inf s) h = unfold magnitude in le_refl (mid f)
magnitude_le f (fin s m e) h = le_of_lt (representable f (fin s m e) tt
    (and_l (fits f (fin s m e)) (not (is_nan (fin s m e))) h)).small

pub finite_inside : (f : Format) (x : Float) → T (number f x) → 0 < key f x → key f x < mid f + mid f
    → T (finite_number f x)
unfolding key magnitude is_nan
finite_inside f nan p h k = absurd (and_r (fits f nan) (not (is_nan nan)) p)
finite_inside f (inf false) p h k = absurd (lt_irrefl (mid f + mid f) k)
finite_inside f (inf true) p h k = let c : ⊥ = omega arith in absurd c
finite_inside f (fin s m e) p h k = and_i (fits f (fin s m e)) true
    (and_l (fits f (fin s m e)) (not (is_nan (fin s m e))) p) tt

-- ---- zero, a root, a hypotenuse
unfoldable pub plus_zero : Float
plus_zero = fin false 0 (pos 0)

pub plus_zero_finite_number : (f : Format) → T (finite_number f plus_zero)
unfolding plus_zero fits
plus_zero_finite_number f = tt

pub plus_zero_key : (f : Format) → key f plus_zero ≡ mid f
unfolding plus_zero
plus_zero_key f = value_key f (fin false 0 (pos 0)) false 0 (refl, zero-mul (unit f)) ∙ add-zero (mid f)
