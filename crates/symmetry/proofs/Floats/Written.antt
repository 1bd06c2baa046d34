-- Two ways to write one finite value: every sum, test and hypot takes them to the same. By cross multiplication. Over any format,
-- and of values that the format need not hold.
use Prim.Native.Nat.{◌*◌, ◌+◌, ◌-◌, ◌/◌, ◌<◌, ◌^◌, ℕ}
use mathlib.Core.Bool.{◌&&◌, Bool, cond, false, true}
use mathlib.Core.Path.{ap, refl, sym, ◌∙◌, ◌≡◌}
use native.Mathlib.Nat.{add-mul, lt_of_mul-lt-mul_right, mul-div_cancel, mul-lt-mul_of_pos_right, mul-pos, zero-mul}
use native.Mathlib.Omega.{arith}
use lib.Dec.{eqb, eqb→eq, ltb, ltb→lt, lt→ltb, T}
use lib.Ieee.{add, below, down, eq, fin, Float, Format, inf, le, level, low, lt, nan, neg, round, sub, sum, up}
use lib.Ieee.Fits.{down_pos, eq→eqb}
use lib.Ieee.Nearest.{div_same}
use lib.Ieee.Scale.{round_same}
use lib.IntN.{ℤ}
use Rattle.arith.specs.roots.Roots.{hypot, root, ticks}
use Rattle.arith.proofs.roots.Rounding.RoundKey.{times_sub}
use Rattle.arith.proofs.Laws.Hypot.{hypot_comm}
use Rattle.symmetry.specs.Alike.{Like, same}
use Rattle.symmetry.proofs.Floats.Like.{add_comm_float, like_add, like_hypot, like_le, like_lt, like_neg, like_of}
use Rattle.symmetry.proofs.Floats.Like.{like_trans}
use Rattle.symmetry.proofs.Floats.Signs.{lt_neg}

pub data Value : Float → Float → Type 0 where
  value : {s : Bool} {m n : ℕ} {e d : ℤ} → m * up e * down d ≡ n * up d * down e → Value (fin s m e) (fin s n d)

pub value_neg : {x y : Float} → Value x y → Value (neg x) (neg y)
unfolding neg
value_neg (value p) = value p

cancel : (a b c : ℕ) → 0 < c → a * c ≡ b * c → a ≡ b
cancel a b c C h = sym (mul-div_cancel a C) ∙ ap (λ (z : ℕ). z / c) h ∙ mul-div_cancel b C

same_bool : (p q : Bool) → (T p → T q) → (T q → T p) → p ≡ q
same_bool true true f g = refl
same_bool true false f g = absurd (f tt)
same_bool false true f g = absurd (g tt)
same_bool false false f g = refl

-- ---- a / c is a' / c'
record Ratio (a a' c c' : ℕ) : Type 0 where
  pub over : a * c' ≡ a' * c

module _ {a b a' b' c c' : ℕ} (C : 0 < c) (C' : 0 < c') (A : Ratio a a' c c') (B : Ratio b b' c c') where
  less_same : ltb a b ≡ ltb a' b'
  less_same = same_bool (ltb a b) (ltb a' b') (λ h. lt→ltb a' b' (there (ltb→lt a b h))) (λ h. lt→ltb a b (back (ltb→lt a' b' h)))
    where
      there : a < b → a' < b'
      there h = lt_of_mul-lt-mul_right c (omega (arith, A.over, B.over, mul-lt-mul_of_pos_right h C'))

      back : a' < b' → a < b
      back h = lt_of_mul-lt-mul_right c' (omega (arith, A.over, B.over, mul-lt-mul_of_pos_right h C))

  equal_same : eqb a b ≡ eqb a' b'
  equal_same = same_bool (eqb a b) (eqb a' b') (λ h. eq→eqb (there (eqb→eq a b h))) (λ h. eq→eqb (back (eqb→eq a' b' h)))
    where
      there : a ≡ b → a' ≡ b'
      there h = cancel a' b' c C (sym A.over ∙ ap (λ (z : ℕ). z * c') h ∙ B.over)

      back : a' ≡ b' → a ≡ b
      back h = cancel a b c' C' (A.over ∙ ap (λ (z : ℕ). z * c) h ∙ sym B.over)

  sum_over_lem : Ratio (a + b) (a' + b') c c'
  sum_over_lem = record { over = omega (arith, A.over, B.over, add-mul a b c', add-mul a' b' c) }

  less_over : (a - b) * c' ≡ (a' - b') * c
  less_over =
      times_sub a b c' ∙ ap (λ (z : ℕ). z - b * c') A.over ∙ ap (λ (z : ℕ). a' * c - z) B.over
      ∙ sym (times_sub a' b' c)

module _ (f : Format) {a b a' b' c c' : ℕ} (C : 0 < c) (C' : 0 < c') (A : Ratio a a' c c') (B : Ratio b b' c c') where
  mixed_same : (s t : Bool) → cond (ltb a b) (round f t (b - a) c) (round f (s && ltb b a) (a - b) c)
      ≡ cond (ltb a' b') (round f t (b' - a') c') (round f (s && ltb b' a') (a' - b') c')
  mixed_same s t =
      rw (
        less_same C C' A B,
        less_same C C' B A,
        round_same f t (b - a) c (b' - a') c' C C' (less_over C C' B A),
        round_same f (s && ltb b' a') (a - b) c (a' - b') c' C C' (less_over C C' A B),
      )

  sum_same : (s t : Bool) → sum f s a t b c ≡ sum f s a' t b' c'
  unfolding sum
  sum_same false false = round_same f false (a + b) c (a' + b') c' C C' (sum_over_lem C C' A B).over
  sum_same true true = round_same f true (a + b) c (a' + b') c' C C' (sum_over_lem C C' A B).over
  sum_same false true = mixed_same false true
  sum_same true false = mixed_same true false

below_same : {a b a' b' c c' : ℕ} → 0 < c → 0 < c' → Ratio a a' c c' → Ratio b b' c c' → (s t : Bool)
    → below s a t b ≡ below s a' t b'
below_same C C' A B false false = less_same C C' A B
below_same C C' A B false true = refl
below_same {a} {b} {a'} {b'} {c} {c'} C C' A B true false = less_same C C' none (sum_over_lem C C' A B)
  where
    none : Ratio 0 0 c c'
    none = record { over = zero-mul c' ∙ sym (zero-mul c) }
below_same C C' A B true true = less_same C C' B A

module _ (m n : ℕ) (e d c : ℤ) (p : m * up e * down d ≡ n * up d * down e) where
  own_over : Ratio (m * up e * down c) (n * up d * down c) (down e) (down d)
  own_over = record { over = omega (arith, ap (λ (z : ℕ). z * down c) p) }

  own_over_product : Ratio (m * up e * down c) (n * up d * down c) (down c * down e) (down c * down d)
  own_over_product = record { over = omega (arith, ap (λ (z : ℕ). z * (down c * down c)) p) }

  other_over : (k : ℕ) → Ratio (k * down e) (k * down d) (down e) (down d)
  other_over k = record { over = omega arith }

  other_over_product : (k : ℕ) → Ratio (k * down e) (k * down d) (down c * down e) (down c * down d)
  other_over_product k = record { over = omega arith }

module _ (f : Format) where
  pub value_add : (x : Float) {y y' : Float} → Value y y' → add f x y ≡ add f x y'
  unfolding add
  value_add nan (value p) = refl
  value_add (inf t) (value p) = refl
  value_add (fin t k c) (value {s} {m} {n} {e} {d} p) =
      sum_same f (mul-pos (down_pos c) (down_pos e)) (mul-pos (down_pos c) (down_pos d))
      (other_over_product m n e d c p (k * up c)) (own_over_product m n e d c p) t s

  pub value_hypot : (y : Float) {x x' : Float} → Value x x' → hypot f x y ≡ hypot f x' y
  unfolding hypot
  value_hypot nan (value p) = refl
  value_hypot (inf t) (value p) = refl
  value_hypot (fin t k c) (value {s} {m} {n} {e} {d} p) =
      ap (λ (z : ℕ). root f (z ^ 2 + ticks f (fin t k c) ^ 2))
      (div_same (m * up e * 2 ^ low f) (down e) (n * up d * 2 ^ low f) (down d) (down_pos e) (down_pos d)
      (over (2 ^ low f)))
    where
      over : (l : ℕ) → m * up e * l * down d ≡ n * up d * l * down e
      over l = omega (arith, ap (λ (z : ℕ). z * l) p)

value_lt_left : (y : Float) {x x' : Float} → Value x x' → lt x y ≡ lt x' y
unfolding lt
value_lt_left nan (value p) = refl
value_lt_left (inf t) (value p) = refl
value_lt_left (fin t k c) (value {s} {m} {n} {e} {d} p) =
    below_same (down_pos e) (down_pos d) (own_over m n e d c p) (other_over m n e d c p (k * up c)) s t

-- ---- less or equal
value_level : {a b a' b' c c' : ℕ} → 0 < c → 0 < c' → Ratio a a' c c' → Ratio b b' c c' → (s t : Bool)
    → level s a t b ≡ level s a' t b'
value_level {a} {b} {a'} {b'} {c} {c'} C C' A B s t =
    rw (equal_same C C' A B, equal_same C C' A (none C C'))
  where
    none : {c c' : ℕ} → 0 < c → 0 < c' → Ratio 0 0 c c'
    none {c} {c'} h k = record { over = zero-mul c' ∙ sym (zero-mul c) }

value_eq_left : (y : Float) {x x' : Float} → Value x x' → eq x y ≡ eq x' y
unfolding eq
value_eq_left nan (value p) = refl
value_eq_left (inf t) (value p) = refl
value_eq_left (fin t k c) (value {s} {m} {n} {e} {d} p) =
    value_level (down_pos e) (down_pos d) (own_over m n e d c p) (other_over m n e d c p (k * up c)) s t

-- ---- one value, or two ways to write it, or zeros of either sign
pub data Equal : Float → Float → Type 0 where
  one : {x y : Float} → Like x y → Equal x y
  via : {x w y : Float} → Like x w → Value w y → Equal x y

pub equal_neg : {x y : Float} → Equal x y → Equal (neg x) (neg y)
equal_neg (one l) = one (like_neg l)
equal_neg (via l p) = via (like_neg l) (value_neg p)

module _ (f : Format) where
  add_right : (x : Float) {y y' : Float} → Equal y y' → Like (add f x y) (add f x y')
  add_right x (one l) = like_add f (same {x = x}) l
  add_right x (via l p) = like_trans (like_add f (same {x = x}) l) (like_of (value_add f x p))

  pub equal_add : {x x' y y' : Float} → Equal x x' → Equal y y' → Like (add f x y) (add f x' y')
  equal_add {x} {x'} {y} {y'} l k =
      like_trans (add_right x k) (rw (add_comm_float f x y', add_comm_float f x' y') (add_right y' l))

  pub equal_sub : {x x' y y' : Float} → Equal x x' → Equal y y' → Like (sub f x y) (sub f x' y')
  unfolding sub
  equal_sub l k = equal_add l (equal_neg k)

  hypot_left : (y : Float) {x x' : Float} → Equal x x' → hypot f x y ≡ hypot f x' y
  hypot_left y (one l) = like_hypot f l (same {x = y})
  hypot_left y (via l p) = like_hypot f l (same {x = y}) ∙ value_hypot f y p

  pub equal_hypot : {x x' y y' : Float} → Equal x x' → Equal y y' → hypot f x y ≡ hypot f x' y'
  equal_hypot {x} {x'} {y} {y'} l k = hypot_left y l ∙ hypot_comm f x' y ∙ hypot_left x' k ∙ hypot_comm f y' x'

lt_left : (y : Float) {x x' : Float} → Equal x x' → lt x y ≡ lt x' y
lt_left y (one l) = like_lt l (same {x = y})
lt_left y (via l p) = like_lt l (same {x = y}) ∙ value_lt_left y p

pub equal_lt : {x x' y y' : Float} → Equal x x' → Equal y y' → lt x y ≡ lt x' y'
equal_lt {x} {x'} {y} {y'} l k = lt_left y l ∙ sym (lt_neg y x') ∙ lt_left (neg x') (equal_neg k) ∙ lt_neg y' x'

pub equal_le_left : (y : Float) {x x' : Float} → Equal x x' → le x y ≡ le x' y
equal_le_left y (one l) = like_le l (same {x = y})
equal_le_left y (via {w} {y = x'} l p) =
    like_le l (same {x = y}) ∙ (unfold le in rw (value_lt_left y p, value_eq_left y p))

pub equal_cond : (b : Bool) {x x' y y' : Float} → Equal x x' → Equal y y' → Equal (cond b x y) (cond b x' y')
equal_cond true l k = l
equal_cond false l k = k
