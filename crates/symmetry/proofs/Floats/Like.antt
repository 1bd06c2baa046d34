-- Two values that are one, or zeros of either sign: every operation but division by them takes such values to such values, and
-- every test and hypot to the same. By cases: a zero's sign is all that differs. Over any format.
use Prim.Native.Nat.{◌*◌, ◌-◌, ◌<◌, ◌≤◌, suc, zero, ℕ}
use mathlib.Core.Bool.{◌&&◌, ◌||◌, Bool, beq, cond, false, not, true}
use mathlib.Core.Path.{ap, refl, subst, sym, ◌∙◌, ◌≡◌}
use native.Mathlib.Nat.{add-zero, mul_comm, add_comm, mul-pos, sub-zero, mul-zero, zero-add, zero-mul, zero-lt-suc}
use native.Mathlib.Omega.{arith}
use lib.Dec.{eqb, leb-suc-zero, leb-zero, leb-suc-suc, eqb-suc-zero, ltb, ltb→lt, lt→ltb, nltb→le, T}
use lib.Ieee.{add, below, binary32, binary64, div, down, eq, fin, Float, Format, inf, le, level, lt, mul, nan, neg, round, sub}
use lib.Ieee.{sum, unlike, up}
use lib.Ieee.Fits.{down_pos, up_pos}
use lib.Ieee.Scale.{round_same}
use lib.IntN.{pos, ℤ}
use lib.Pow.{pow_pos}
use Rattle.arith.specs.roots.Roots.{hypot}
use Rattle.arith.proofs.Laws.Hypot.{hypot_comm}
use Rattle.symmetry.specs.Alike.{Like, same, zeros}

pub like_of : {x y : Float} → x ≡ y → Like x y
like_of {x} e = subst (λ (z : Float). Like x z) e same

pub like_sym : {x y : Float} → Like x y → Like y x
like_sym same = same
like_sym zeros = zeros

pub like_trans : {x y z : Float} → Like x y → Like y z → Like x z
like_trans same k = k
like_trans zeros same = zeros
like_trans zeros zeros = zeros

pub like_cond : (b : Bool) {x x' y y' : Float} → Like x x' → Like y y' → Like (cond b x y) (cond b x' y')
like_cond true l k = l
like_cond false l k = k

-- ---- a zero is rounded to a zero of its sign
pub round_zero : (f : Format) (s : Bool) (c : ℕ) → 0 < c → round f s 0 c ≡ fin s 0 (pos 0)
round_zero f s c C = round_same f s 0 c 0 1 C (pow_pos 0) (zero-mul 1 ∙ sym (zero-mul c)) ∙ at_one f
  where
    at_one : (f : Format) → round f s 0 1 ≡ fin s 0 (pos 0)
    at_one binary32 = unfold round in refl
    at_one binary64 = unfold round in refl

like_zero : {x y : Float} {s t : Bool} → x ≡ fin s 0 (pos 0) → y ≡ fin t 0 (pos 0) → Like x y
like_zero p q = rw (p, q) zeros

-- ---- negation
pub like_neg : {x y : Float} → Like x y → Like (neg x) (neg y)
unfolding neg
like_neg same = same
like_neg zeros = zeros

-- ---- sums
module _ (f : Format) where
  -- ±a / c and a zero of either sign
  sum_zero : (s : Bool) (a : ℕ) (t : Bool) (c : ℕ) → 0 < c → Like (sum f s a t 0 c) (round f s a c)
  unfolding sum
  sum_zero false a false c C = like_of (ap (λ (z : ℕ). round f false z c) (add-zero a))
  sum_zero true a true c C = like_of (ap (λ (z : ℕ). round f true z c) (add-zero a))
  sum_zero false a true c C = rw (leb-suc-zero a, sub-zero a) same
  sum_zero true zero false c C = like_zero {s = false} {t = true} (round_zero f false c C) (round_zero f true c C)
  sum_zero true (suc a) false c C = rw (leb-suc-zero (suc a), leb-suc-suc 0 a, leb-zero a, sub-zero (suc a)) same

  mixed_comm : (a b c : ℕ) → sum f false a true b c ≡ sum f true b false a c
  unfolding sum
  mixed_comm a b c = go (ltb a b) (ltb b a) (ltb→lt a b) (ltb→lt b a) (nltb→le a b) (nltb→le b a)
    where
      go : (p q : Bool) → (T p → a < b) → (T q → b < a) → (T (not p) → b ≤ a) → (T (not q) → a ≤ b)
          → cond p (round f true (b - a) c) (round f false (a - b) c)
          ≡ cond q (round f false (a - b) c) (round f p (b - a) c)
      go true true h k l m = let z : ⊥ = omega (arith, h tt, k tt) in absurd z
      go true false h k l m = refl
      go false true h k l m = refl
      go false false h k l m = ap (λ (z : ℕ). round f false z c) (omega (arith, l tt, m tt))

  sum_comm : (s : Bool) (a : ℕ) (t : Bool) (b c : ℕ) → sum f s a t b c ≡ sum f t b s a c
  unfolding sum
  sum_comm false a false b c = ap (λ (z : ℕ). round f false z c) (add_comm a b)
  sum_comm true a true b c = ap (λ (z : ℕ). round f true z c) (add_comm a b)
  sum_comm false a true b c = mixed_comm a b c
  sum_comm true a false b c = sym (mixed_comm b a c)

  pub add_comm_float : (x y : Float) → add f x y ≡ add f y x
  unfolding add sum
  add_comm_float nan nan = refl
  add_comm_float nan (inf t) = refl
  add_comm_float nan (fin t n d) = refl
  add_comm_float (inf s) nan = refl
  add_comm_float (inf false) (inf false) = refl
  add_comm_float (inf false) (inf true) = refl
  add_comm_float (inf true) (inf false) = refl
  add_comm_float (inf true) (inf true) = refl
  add_comm_float (inf s) (fin t n d) = refl
  add_comm_float (fin s m e) nan = refl
  add_comm_float (fin s m e) (inf t) = refl
  add_comm_float (fin s m e) (fin t n d) =
      sum_comm s (m * up e * down d) t (n * up d * down e) (down e * down d)
      ∙ ap (λ (z : ℕ). sum f t (n * up d * down e) s (m * up e * down d) z) (mul_comm (down e) (down d))

  like_add_right : (x : Float) {y y' : Float} → Like y y' → Like (add f x y) (add f x y')
  unfolding add
  like_add_right x same = same
  like_add_right nan zeros = same
  like_add_right (inf s) zeros = same
  like_add_right (fin s m e) (zeros {s = t} {t = t'} {e = d}) =
      rw (zero-mul (up d), zero-mul (down e))
      (like_trans (sum_zero s (m * up e * down d) t (down e * down d) (mul-pos (down_pos e) (down_pos d)))
      (like_sym (sum_zero s (m * up e * down d) t' (down e * down d) (mul-pos (down_pos e) (down_pos d)))))

  pub like_add : {x x' y y' : Float} → Like x x' → Like y y' → Like (add f x y) (add f x' y')
  like_add {x} {x'} {y} {y'} l k =
      like_trans (like_add_right x k)
      (rw (add_comm_float x y', add_comm_float x' y') (like_add_right y' l))

  pub like_sub : {x x' y y' : Float} → Like x x' → Like y y' → Like (sub f x y) (sub f x' y')
  unfolding sub
  like_sub l k = like_add l (like_neg k)

  -- ---- products
  like_mul_left : (y : Float) {x x' : Float} → Like x x' → Like (mul f x y) (mul f x' y)
  unfolding mul
  like_mul_left y same = same
  like_mul_left nan zeros = same
  like_mul_left (inf s) zeros = same
  like_mul_left (fin t n d) (zeros {s} {t = s'} {e}) =
      rw (zero-mul (up e), zero-mul (n * up d))
      (like_zero (round_zero f (unlike s t) _ (mul-pos (down_pos e) (down_pos d)))
      (round_zero f (unlike s' t) _ (mul-pos (down_pos e) (down_pos d))))

  like_mul_right : (x : Float) {y y' : Float} → Like y y' → Like (mul f x y) (mul f x y')
  unfolding mul
  like_mul_right x same = same
  like_mul_right nan zeros = same
  like_mul_right (inf s) zeros = same
  like_mul_right (fin s m e) (zeros {s = t} {t = t'} {e = d}) =
      rw (zero-mul (up d), mul-zero (m * up e))
      (like_zero (round_zero f (unlike s t) _ (mul-pos (down_pos e) (down_pos d)))
      (round_zero f (unlike s t') _ (mul-pos (down_pos e) (down_pos d))))

  pub like_mul : {x x' y y' : Float} → Like x x' → Like y y' → Like (mul f x y) (mul f x' y')
  like_mul {x} {x'} {y} {y'} l k = like_trans (like_mul_left y l) (like_mul_right x' k)

  -- ---- quotients by one and the same
  pub like_div : (y : Float) {x x' : Float} → Like x x' → Like (div f x y) (div f x' y)
  unfolding div
  like_div y same = same
  like_div nan zeros = same
  like_div (inf t) zeros = zeros
  like_div (fin t zero d) zeros = same
  like_div (fin t (suc n) d) (zeros {s} {t = s'} {e}) =
      rw (eqb-suc-zero n, zero-mul (up e), zero-mul (down d))
      (like_zero (round_zero f (unlike s t) _ positive) (round_zero f (unlike s' t) _ positive))
    where
      positive : 0 < suc n * up d * down e
      positive = mul-pos (mul-pos (zero-lt-suc n) (up_pos d)) (down_pos e)

  -- ---- hypot sees no sign of zero
  hypot_left : (y : Float) {x x' : Float} → Like x x' → hypot f x y ≡ hypot f x' y
  unfolding hypot
  hypot_left y same = refl
  hypot_left nan zeros = refl
  hypot_left (inf t) zeros = refl
  hypot_left (fin t n d) zeros = refl

  pub like_hypot : {x x' y y' : Float} → Like x x' → Like y y' → hypot f x y ≡ hypot f x' y'
  like_hypot {x} {x'} {y} {y'} l k =
      hypot_left y l ∙ hypot_comm f x' y ∙ hypot_left x' k ∙ hypot_comm f y' x'

-- ---- tests
zero_below : (s s' t : Bool) (b : ℕ) → below s 0 t b ≡ below s' 0 t b
zero_below false false t b = refl
zero_below true true t b = refl
zero_below false true false b = ap (ltb 0) (sym (zero-add b))
zero_below true false false b = ap (ltb 0) (zero-add b)
zero_below false true true b = sym (leb-suc-zero b)
zero_below true false true b = leb-suc-zero b

below_zero : (s t t' : Bool) (a : ℕ) → below s a t 0 ≡ below s a t' 0
below_zero s false false a = refl
below_zero s true true a = refl
below_zero false false true a = leb-suc-zero a
below_zero false true false a = sym (leb-suc-zero a)
below_zero true false true a = ap (ltb 0) (add-zero a)
below_zero true true false a = ap (ltb 0) (sym (add-zero a))

lt_left : (y : Float) {x x' : Float} → Like x x' → lt x y ≡ lt x' y
unfolding lt
lt_left y same = refl
lt_left nan zeros = refl
lt_left (inf t) zeros = refl
lt_left (fin t n d) (zeros {s} {t = s'} {e}) =
    rw (zero-mul (up e), zero-mul (down d)) (zero_below s s' t (n * up d * down e))

lt_right : (x : Float) {y y' : Float} → Like y y' → lt x y ≡ lt x y'
unfolding lt
lt_right x same = refl
lt_right nan zeros = refl
lt_right (inf t) zeros = refl
lt_right (fin s m e) (zeros {s = t} {t = t'} {e = d}) =
    rw (zero-mul (up d), zero-mul (down e)) (below_zero s t t' (m * up e * down d))

pub or_true : (b : Bool) → (b || true) ≡ true
or_true true = refl
or_true false = refl

zero_level : (s s' t : Bool) (b : ℕ) → level s 0 t b ≡ level s' 0 t b
zero_level s s' t b = ap (λ (z : Bool). eqb 0 b && z) (or_true (beq s t) ∙ sym (or_true (beq s' t)))

level_zero : (s t t' : Bool) (a : ℕ) → level s a t 0 ≡ level s a t' 0
level_zero s t t' a = go (eqb a 0)
  where
    go : (z : Bool) → (z && (beq s t || z)) ≡ (z && (beq s t' || z))
    go true = or_true (beq s t) ∙ sym (or_true (beq s t'))
    go false = refl

eq_left : (y : Float) {x x' : Float} → Like x x' → eq x y ≡ eq x' y
unfolding eq
eq_left y same = refl
eq_left nan zeros = refl
eq_left (inf t) zeros = refl
eq_left (fin t n d) (zeros {s} {t = s'} {e}) =
    rw (zero-mul (up e), zero-mul (down d)) (zero_level s s' t (n * up d * down e))

eq_right : (x : Float) {y y' : Float} → Like y y' → eq x y ≡ eq x y'
unfolding eq
eq_right x same = refl
eq_right nan zeros = refl
eq_right (inf t) zeros = refl
eq_right (fin s m e) (zeros {s = t} {t = t'} {e = d}) =
    rw (zero-mul (up d), zero-mul (down e)) (level_zero s t t' (m * up e * down d))

pub like_lt : {x x' y y' : Float} → Like x x' → Like y y' → lt x y ≡ lt x' y'
like_lt {x} {x'} {y} {y'} l k = lt_left y l ∙ lt_right x' k

pub like_le : {x x' y y' : Float} → Like x x' → Like y y' → le x y ≡ le x' y'
unfolding le
like_le {x} {x'} {y} {y'} l k = rw (like_lt l k, eq_left y l, eq_right x' k)

-- ---- a zero lies under what is above 0, and nothing above 0 under it
pub zero_under : (s : Bool) (n : ℕ) (e d : ℤ) → T (lt (fin s 0 e) (fin false (suc n) d))
unfolding lt
zero_under s n e d = rw (zero-mul (up e), zero-mul (down d)) (go s)
  where
    b : ℕ
    b = suc n * up d * down e

    B : 0 < b
    B = mul-pos (mul-pos (zero-lt-suc n) (up_pos d)) (down_pos e)

    go : (s : Bool) → T (below s 0 false b)
    go false = lt→ltb 0 b B
    go true = rw (zero-add b) (lt→ltb 0 b B)

pub not_under_zero : (m : ℕ) (d : ℤ) (s : Bool) (e : ℤ) → lt (fin false m d) (fin s 0 e) ≡ false
unfolding lt
not_under_zero m d true e = refl
not_under_zero m d false e = rw (zero-mul (up e), zero-mul (down d)) (leb-suc-zero (m * up d * down e))
