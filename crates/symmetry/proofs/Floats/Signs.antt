-- What a change of sign does: a sum, a difference, a product of negated values is the negated one, up to the sign of a zero; a
-- test of negated values is the test turned round; a magnitude stays. By cases: the sign goes through the rounding. Over any
-- format.
use Prim.Native.Nat.{◌*◌, ◌+◌, ◌-◌, ◌<◌, ◌^◌, ◌≤◌, suc, zero, ℕ}
use mathlib.Core.Bool.{◌&&◌, ◌||◌, Bool, beq, cond, false, not, true}
use mathlib.Core.Path.{ap, refl, subst, sym, ◌∙◌, ◌≡◌}
use native.Mathlib.Nat.{add_comm, mul-pos, zero-lt-suc}
use native.Mathlib.Omega.{arith}
use lib.Dec.{eqb, eqb→eq, eqb-suc-zero, ltb, lt→ltb, nltb→le, T}
use lib.Ieee.{add, below, down, eq, fin, Float, Format, inf, le, level, low, lt, mul, nan, neg, odd, round, sub, sum, units}
use lib.Ieee.{emax, prec, unlike, up, of_bits}
use lib.Ieee.Bits.{is_true}
use lib.Ieee.Fits.{down_pos, eq→eqb, up_pos}
use lib.IntN.{pos, ℤ}
use Rattle.arith.specs.roots.Roots.{hypot}
use Rattle.arith.proofs.Laws.Hypot.{hypot_comm, hypot_neg}
use Rattle.arith.specs.F64.{◌≺◌, 𝟘}
use Rattle.arith.specs.Num.{abs}
use Rattle.symmetry.proofs.Floats.Like.{add_comm_float, like_cond, like_hypot, like_lt, like_mul, like_neg, like_of}
use Rattle.symmetry.proofs.Floats.Like.{like_sym, like_trans, not_under_zero, round_zero}
use Rattle.symmetry.specs.Alike.{Like, same, zeros}

pub neg_neg : (x : Float) → neg (neg x) ≡ x
unfolding neg
neg_neg nan = refl
neg_neg (inf true) = refl
neg_neg (inf false) = refl
neg_neg (fin true m e) = refl
neg_neg (fin false m e) = refl

-- ---- the sign goes through the rounding
odd_neg : (d : ℕ) (s : Bool) (q k l : ℕ) → odd d (not s) q k l ≡ neg (odd d s q k l)
unfolding odd neg
odd_neg d s zero k l = refl
odd_neg d s (suc q) k l = refl

units_neg : (f : Format) (s : Bool) (q k : ℕ) → units f (not s) q k ≡ neg (units f s q k)
unfolding units neg
units_neg f s q k = go (ltb (q * 2 ^ k) (2 ^ (low f + suc (emax f))))
  where
    go : (b : Bool)
        → cond b (odd (suc (prec f)) (not s) q k (low f)) (inf (not s)) ≡ neg (cond b (odd (suc (prec f)) s q k (low f)) (inf s))
    go true = odd_neg (suc (prec f)) s q k (low f)
    go false = refl

pub round_neg : (f : Format) (s : Bool) (a c : ℕ) → round f (not s) a c ≡ neg (round f s a c)
unfolding round
round_neg f s a c = units_neg f s _ _

unlike_not : (s t : Bool) → unlike (not s) t ≡ not (unlike s t)
unlike_not false false = refl
unlike_not false true = refl
unlike_not true false = refl
unlike_not true true = refl

-- ---- sums and differences
module _ (f : Format) where
  mixed_neg : (a b c : ℕ) → 0 < c → Like (sum f true a false b c) (neg (sum f false a true b c))
  unfolding sum
  mixed_neg a b c C = go (ltb a b) (ltb b a) (nltb→le a b) (nltb→le b a)
    where
      none : a ≡ b → Like (round f false (a - b) c) (neg (round f false (a - b) c))
      none e = unfold neg in rw (zero_of e, round_zero f false c C) zeros
        where
          zero_of : a ≡ b → a - b ≡ 0
          zero_of e = omega arith

      go : (p q : Bool) → (T (not p) → b ≤ a) → (T (not q) → a ≤ b)
          → Like (cond p (round f false (b - a) c) (round f q (a - b) c))
          (neg (cond p (round f true (b - a) c) (round f false (a - b) c)))
      go true q h k = like_of (round_neg f true (b - a) c)
      go false true h k = like_of (round_neg f false (a - b) c)
      go false false h k = none (omega (arith, h tt, k tt))

  sum_neg : (s : Bool) (a : ℕ) (t : Bool) (b c : ℕ) → 0 < c → Like (sum f (not s) a (not t) b c) (neg (sum f s a t b c))
  unfolding sum
  sum_neg false a false b c C = like_of (round_neg f false (a + b) c)
  sum_neg true a true b c C = like_of (round_neg f true (a + b) c)
  sum_neg false a true b c C = mixed_neg a b c C
  sum_neg true a false b c C =
      like_sym (subst (λ (z : Float). Like (neg (sum f true a false b c)) z) (neg_neg (sum f false a true b c))
      (like_neg (mixed_neg a b c C)))

  pub add_neg : (x y : Float) → Like (add f (neg x) (neg y)) (neg (add f x y))
  unfolding add neg
  add_neg nan y = same
  add_neg (inf s) nan = same
  add_neg (inf true) (inf true) = same
  add_neg (inf true) (inf false) = same
  add_neg (inf false) (inf true) = same
  add_neg (inf false) (inf false) = same
  add_neg (inf s) (fin t n d) = same
  add_neg (fin s m e) nan = same
  add_neg (fin s m e) (inf t) = same
  add_neg (fin s m e) (fin t n d) =
      sum_neg s (m * up e * down d) t (n * up d * down e) (down e * down d) (mul-pos (down_pos e) (down_pos d))

  pub sub_neg : (x y : Float) → Like (sub f (neg x) (neg y)) (neg (sub f x y))
  unfolding sub
  sub_neg x y = add_neg x (neg y)

  -- x - y and y - x
  pub sub_turned : (x y : Float) → Like (sub f x y) (neg (sub f y x))
  unfolding sub
  sub_turned x y =
      like_trans (like_of (add_comm_float f x (neg y) ∙ ap (λ (z : Float). add f (neg y) z) (sym (neg_neg x))))
      (add_neg y (neg x))

  -- -x - y and -x + y
  pub neg_sub : (x y : Float) → Like (sub f (neg x) y) (neg (add f x y))
  unfolding sub
  neg_sub x y = add_neg x y

  pub neg_add : (x y : Float) → Like (add f (neg x) y) (neg (sub f x y))
  unfolding sub
  neg_add x y = like_trans (like_of (ap (λ (z : Float). add f (neg x) z) (sym (neg_neg y)))) (add_neg x (neg y))

  -- ---- products
  pub mul_neg : (x y : Float) → mul f (neg x) y ≡ neg (mul f x y)
  unfolding mul neg
  mul_neg nan y = refl
  mul_neg (inf s) nan = refl
  mul_neg (inf s) (inf t) = ap inf (unlike_not s t)
  mul_neg (inf s) (fin t zero d) = refl
  mul_neg (inf s) (fin t (suc n) d) = rw (eqb-suc-zero n) (ap inf (unlike_not s t))
  mul_neg (fin s m e) nan = refl
  mul_neg (fin s zero e) (inf t) = refl
  mul_neg (fin s (suc m) e) (inf t) = rw (eqb-suc-zero m) (ap inf (unlike_not s t))
  mul_neg (fin s m e) (fin t n d) =
      ap (λ (b : Bool). round f b (m * up e * (n * up d)) (down e * down d)) (unlike_not s t)
      ∙ round_neg f (unlike s t) (m * up e * (n * up d)) (down e * down d)

-- ---- tests
below_neg : (s t : Bool) (a b : ℕ) → below (not s) a (not t) b ≡ below t b s a
below_neg false false a b = refl
below_neg false true a b = ap (ltb 0) (add_comm a b)
below_neg true false a b = refl
below_neg true true a b = refl

pub lt_neg : (x y : Float) → lt (neg x) (neg y) ≡ lt y x
unfolding lt neg
lt_neg nan nan = refl
lt_neg nan (inf t) = refl
lt_neg nan (fin t n d) = refl
lt_neg (inf s) nan = refl
lt_neg (inf true) (inf true) = refl
lt_neg (inf true) (inf false) = refl
lt_neg (inf false) (inf true) = refl
lt_neg (inf false) (inf false) = refl
lt_neg (inf s) (fin t n d) = refl
lt_neg (fin s m e) nan = refl
lt_neg (fin s m e) (inf true) = refl
lt_neg (fin s m e) (inf false) = refl
lt_neg (fin s m e) (fin t n d) = below_neg s t (m * up e * down d) (n * up d * down e)

eqb_sym : (a b : ℕ) → eqb a b ≡ eqb b a
eqb_sym a b = go (eqb a b) (eqb b a) (eqb→eq a b) (eqb→eq b a) (eq→eqb {a = a} {b = b}) (eq→eqb {a = b} {b = a})
  where
    go : (p q : Bool) → (T p → a ≡ b) → (T q → b ≡ a) → (a ≡ b → T p) → (b ≡ a → T q) → p ≡ q
    go true true h k l m = refl
    go true false h k l m = absurd (m (sym (h tt)))
    go false true h k l m = absurd (l (sym (k tt)))
    go false false h k l m = refl

beq_not : (s t : Bool) → beq (not s) (not t) ≡ beq t s
beq_not false false = refl
beq_not false true = refl
beq_not true false = refl
beq_not true true = refl

level_neg : (s t : Bool) (a b : ℕ) → level (not s) a (not t) b ≡ level t b s a
level_neg s t a b =
    ap (λ (z : Bool). eqb a b && (z || eqb a 0)) (beq_not s t) ∙ go (eqb a b) (eqb b a) (eqb_sym a b) (eqb→eq a b)
  where
    go : (p q : Bool) → p ≡ q → (T p → a ≡ b) → (p && (beq t s || eqb a 0)) ≡ (q && (beq t s || eqb b 0))
    go true q e h = ap (λ (n : ℕ). beq t s || eqb n 0) (h tt) ∙ ap (λ (z : Bool). z && (beq t s || eqb b 0)) e
    go false q e h = ap (λ (z : Bool). z && (beq t s || eqb b 0)) e

eq_neg : (x y : Float) → eq (neg x) (neg y) ≡ eq y x
unfolding eq neg
eq_neg nan nan = refl
eq_neg nan (inf t) = refl
eq_neg nan (fin t n d) = refl
eq_neg (inf s) nan = refl
eq_neg (inf s) (inf t) = beq_not s t
eq_neg (inf s) (fin t n d) = refl
eq_neg (fin s m e) nan = refl
eq_neg (fin s m e) (inf t) = refl
eq_neg (fin s m e) (fin t n d) = level_neg s t (m * up e * down d) (n * up d * down e)

pub le_neg : (x y : Float) → le (neg x) (neg y) ≡ le y x
unfolding le
le_neg x y = rw (lt_neg x y, eq_neg x y)

-- ---- the sign of a value, by its test against 0
pub zero_is : 𝟘 ≡ fin false 0 (pos 0)
zero_is = unfold of_bits in refl

pub plus_not_below : (m : ℕ) (e : ℤ) → lt (fin false m e) 𝟘 ≡ false
plus_not_below m e = unfold of_bits in not_under_zero m e false (pos 0)

minus_below : (m : ℕ) (e : ℤ) → lt (fin true (suc m) e) 𝟘 ≡ true
minus_below m e =
    unfold of_bits lt in
    is_true (ltb 0 (suc m * up e * 1 + 0 * down e))
    (lt→ltb 0 (suc m * up e * 1 + 0 * down e) (omega (arith, mul-pos (zero-lt-suc m) (up_pos e))))

-- ---- magnitudes
pub like_abs : {x y : Float} → Like x y → Like (abs x) (abs y)
like_abs {x} {y} l = rw (like_lt l (same {x = 𝟘})) (like_cond (y ≺ 𝟘) (like_neg l) l)

either_zero : (p q s t u v : Bool) (e : ℤ) → Like (cond p (fin s 0 e) (fin t 0 e)) (cond q (fin u 0 e) (fin v 0 e))
either_zero true true s t u v e = zeros
either_zero true false s t u v e = zeros
either_zero false true s t u v e = zeros
either_zero false false s t u v e = zeros

pub abs_neg : (x : Float) → Like (abs (neg x)) (abs x)
unfolding neg
abs_neg nan = same
abs_neg (inf true) = unfold lt of_bits in same
abs_neg (inf false) = unfold lt of_bits in same
abs_neg (fin s zero e) =
    either_zero (fin (not s) 0 e ≺ 𝟘) (fin s 0 e ≺ 𝟘) (not (not s)) (not s) (not s) s e
abs_neg (fin true (suc m) e) = rw (plus_not_below (suc m) e, minus_below m e) same
abs_neg (fin false (suc m) e) = rw (plus_not_below (suc m) e, minus_below m e) same

-- ---- one up to its sign
pub data Sized : Float → Float → Type 0 where
  kept : {x y : Float} → Like x y → Sized x y
  turned : {x y : Float} → Like x (neg y) → Sized x y

pub sized_abs : {x y : Float} → Sized x y → Like (abs x) (abs y)
sized_abs (kept l) = like_abs l
sized_abs {x} {y} (turned l) = like_trans (like_abs l) (abs_neg y)

module _ (f : Format) where
  sized_left : {x x' : Float} → Sized x x' → (y : Float) → hypot f x y ≡ hypot f x' y
  sized_left (kept l) y = like_hypot f l (same {x = y})
  sized_left {x} {x'} (turned l) y = like_hypot f l (same {x = y}) ∙ hypot_neg f x' y

  pub sized_hypot : {x x' y y' : Float} → Sized x x' → Sized y y' → hypot f x y ≡ hypot f x' y'
  sized_hypot {x} {x'} {y} {y'} l k =
      sized_left l y ∙ hypot_comm f x' y ∙ sized_left k x' ∙ hypot_comm f y' x'

  pub sized_mul : {x x' : Float} → Sized x x' → (y : Float) → Sized (mul f x y) (mul f x' y)
  sized_mul (kept l) y = kept (like_mul f l (same {x = y}))
  sized_mul {x} {x'} (turned l) y =
      turned (subst (λ (z : Float). Like (mul f x y) z) (mul_neg f x' y) (like_mul f l (same {x = y})))
