-- The order of floats: total on numbers, transitive, and what min, max and clamp are in it. On numbers it is the order of keys.
use Rattle.std.proofs.Common.{◌≡◌, ℕ, suc, ◌+◌, ◌*◌, ◌<◌, ◌≤◌, min as minℕ, max as maxℕ, Bool, true, false, cond, not, ◌||◌, T, ltb, leb, ◌⊎◌, ℤ, sym, refl, ap, ◌∙◌, subst, inl, inr, le_refl, le_antisymm, zero-mul, not-le_of_lt, arith, le→leb, ltb→lt, lt→ltb, leb→le}
use mathlib.Core.Bool.{beq}
use lib.Dec.{nleb→lt}
use lib.Ieee.{down, eq, fin, Float, Format, inf, le, lt, nan, up}
use lib.Ieee.Fits.{eq→eqb}
use Rattle.arith.proofs.roots.Numbers.{decide}
use Rattle.arith.proofs.roots.Rounding.Key.{key, number, side}
use Rattle.arith.proofs.roots.Rounding.KeyOrder.{eq_key, key→le, key→lt, le_key, le→key, lt_key, lt→key, nlt→key, side_eq}
use Rattle.arith.proofs.roots.Rounding.KeyOrder.{side_lt}
use Rattle.arith.proofs.roots.Tests.{lt_or_eq}
use Rattle.arith.specs.Num.{clamp, is_finite, max, min}

flip : (a b : ℕ) → ltb a b ≡ not (leb b a)
flip a b = go (leb b a) (leb→le b a) (nleb→lt b a) (ltb a b) (ltb→lt a b) (lt→ltb a b)
  where
    go : (s : Bool) → (T s → b ≤ a) → (T (not s) → a < b) → (t : Bool) → (T t → a < b) → (a < b → T t) → t ≡ not s
    go true h k true x y = absurd (not-le_of_lt (x tt) (h tt))
    go true h k false x y = refl
    go false h k true x y = refl
    go false h k false x y = absurd (y (k tt))

module _ (f : Format) (x y : Float) (p : T (number f x)) (q : T (number f y)) where
  pub le_or_lt : T (le x y) ⊎ T (lt y x)
  le_or_lt = elim (decide (key f x) (key f y)) [ inl h ↦ inl (key→le f x y p q h) | inr h ↦ inr (key→lt f y x q p h) ]

  pub le_antisym_float : T (le x y) → T (le y x) → T (eq x y)
  le_antisym_float h k = subst (λ (b : Bool). T b) (sym (eq_key f x y p q))
      (eq→eqb {a = key f x} {b = key f y} (le_antisymm (le→key f x y p q h) (le→key f y x q p k)))

  pub lt_is_not_le : lt x y ≡ not (le y x)
  lt_is_not_le = lt_key f x y p q ∙ flip (key f x) (key f y) ∙ ap not (sym (le_key f y x q p))

module _ (f : Format) (x y z : Float) (p : T (number f x)) (q : T (number f y)) (r : T (number f z)) where
  pub le_trans_float : T (le x y) → T (le y z) → T (le x z)
  le_trans_float h k = key→le f x z p r (omega (arith, le→key f x y p q h, le→key f y z q r k))

  pub lt_le_trans : T (lt x y) → T (le y z) → T (lt x z)
  lt_le_trans h k = key→lt f x z p r (omega (arith, lt→key f x y p q h, le→key f y z q r k))

-- ---- of any two finite values, whatever the format: both over one denominator
module _ (s t : Bool) (m n : ℕ) (e d : ℤ) where
  abbrev left : ℕ
  left = m * up e * down d

  abbrev right : ℕ
  right = n * up d * down e

  abbrev place : Bool → ℕ → ℕ
  place s a = side (suc (left + right)) s a

  pub finite_le : le (fin s m e) (fin t n d) ≡ leb (place s left) (place t right)
  unfolding le eq lt
  finite_le =
      let M = suc (left + right) in
      rw (
        side_lt M left right (omega arith) (omega arith) (omega arith) s t,
        side_eq M left right (omega arith) (omega arith) (omega arith) s t,
      ) (lt_or_eq (place s left) (place t right))

  pub finite_lt_is_not_le : lt (fin s m e) (fin t n d) ≡ not (le (fin t n d) (fin s m e))
  unfolding lt le eq
  finite_lt_is_not_le =
      let M = suc (left + right) in
      rw (
        side_lt M left right (omega arith) (omega arith) (omega arith) s t,
        side_lt M right left (omega arith) (omega arith) (omega arith) t s,
        side_eq M right left (omega arith) (omega arith) (omega arith) t s,
        lt_or_eq (side M t right) (side M s left),
      ) (flip (side M s left) (side M t right))

-- zeros of both signs are equal
pub zeros_equal : (s t : Bool) (e d : ℤ) → eq (fin s 0 e) (fin t 0 d) ≡ true
unfolding eq
zeros_equal s t e d = rw (zero-mul (up e), zero-mul (up d), zero-mul (down d), zero-mul (down e)) (go (beq s t))
  where
    go : (b : Bool) → (b || true) ≡ true
    go true = refl
    go false = refl

pub nle→key : (f : Format) (x y : Float) → T (number f x) → T (number f y) → T (not (le x y)) → key f y < key f x
nle→key f x y p q h = nleb→lt (key f x) (key f y) (subst (λ (b : Bool). T (not b)) (le_key f x y p q) h)

-- max(a, b) is a if a ≥ b, else b
pub max_key : (f : Format) (a b : Float) → T (number f a) → T (number f b)
    → key f (cond (le b a) a b) ≡ maxℕ (key f a) (key f b)
max_key f a b p q = go (le b a) (le→key f b a q p) (λ h. lt→key f a b p q h) (nle→key f b a q p)
  where
    go : (t : Bool) → (T t → key f b ≤ key f a) → (T (lt a b) → key f a < key f b) → (T (not t) → key f a < key f b)
        → key f (cond t a b) ≡ maxℕ (key f a) (key f b)
    go true h k l = omega (arith, h tt)
    go false h k l = omega (arith, l tt)

pub min_key : (f : Format) (a b : Float) → T (number f a) → T (number f b)
    → key f (cond (le a b) a b) ≡ minℕ (key f a) (key f b)
min_key f a b p q = go (le a b) (le→key f a b p q) (nle→key f a b p q)
  where
    go : (t : Bool) → (T t → key f a ≤ key f b) → (T (not t) → key f b < key f a)
        → key f (cond t a b) ≡ minℕ (key f a) (key f b)
    go true h l = omega (arith, h tt)
    go false h l = omega (arith, l tt)

pub clamp_key : (f : Format) (c a b : Float) → T (number f c) → T (number f a) → T (number f b) → key f a ≤ key f b
    → key f (clamp c a b) ≡ maxℕ (key f a) (minℕ (key f c) (key f b))
clamp_key f c a b p q r h = go (lt c a) (lt b c) (lt→key f c a p q) (nlt→key f c a p q) (lt→key f b c r p)
    (nlt→key f b c r p)
  where
    go : (s t : Bool) → (T s → key f c < key f a) → (T (not s) → key f a ≤ key f c) → (T t → key f b < key f c)
        → (T (not t) → key f c ≤ key f b) → key f (cond s a (cond t b c)) ≡ maxℕ (key f a) (minℕ (key f c) (key f b))
    go true t x y u v = omega (arith, x tt)
    go false true x y u v = omega (arith, y tt, u tt)
    go false false x y u v = omega (arith, y tt, v tt)

-- ---- of any two finite values
le_itself : (x : Float) → T (is_finite x) → T (le x x)
unfolding is_finite
le_itself nan h = absurd h
le_itself (inf s) h = absurd h
le_itself (fin s m e) h =
    let k = place s s m m e e s (m * up e * down e) in
    rw (finite_le s s m m e e) (le→leb k k (le_refl k))

pub min_le_max : (x y : Float) → T (is_finite x) → T (is_finite y) → T (le (min x y) (max x y))
min_le_max x y X Y = go (le x y) (le y x) (λ h. h) (λ h. h)
  where
    go : (p q : Bool) → (T p → T (le x y)) → (T q → T (le y x)) → T (le (cond p x y) (cond q x y))
    go true true f g = le_itself x X
    go true false f g = f tt
    go false true f g = g tt
    go false false f g = le_itself y Y

pub min_infinity : (x : Float) → min (inf false) x ≡ x
unfolding le
min_infinity nan = refl
min_infinity (inf false) = refl
min_infinity (inf true) = refl
min_infinity (fin s m e) = refl
