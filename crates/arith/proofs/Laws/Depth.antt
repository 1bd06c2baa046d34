-- How deep an interval can be halved: each half is half as wide, to within the rounding of its middle.
use Rattle.std.proofs.Common.{◌≡◌, ℕ, zero, suc, ◌+◌, ◌-◌, ◌*◌, ◌^◌, ◌<◌, ◌≤◌, T, sym, ap, ◌∙◌, subst, inl, inr, le_trans, le_of_eq, lt_of_lt_of_le, le_of_suc-le-suc, add-mul, eq-or-lt_of_le, mul-le-mul_left, one-mul, mul-one, mul-add, not-le_of_lt, arith, pow_pos}
use native.Mathlib.Nat.{two-pow-succ}
use lib.Ieee.{add, Float, Format, lt, mul, prec, sub}
use Rattle.arith.proofs.Laws.Bounds.{Within}
use Rattle.arith.proofs.Laws.Exact.{round_key_self}
use Rattle.arith.proofs.Laws.Middle.{Between, half_near, IsHalf, middle, sum_finite_number}
use Rattle.arith.proofs.roots.Numbers.{decide}
use Rattle.arith.proofs.roots.Rounding.Key.{finite_number, key, mid, number_of}
use Rattle.arith.proofs.roots.Rounding.KeyOrder.{lt→key}
use Rattle.arith.proofs.roots.Rounding.RoundKey.{round_key, round_key_mono, round_key_near}
use Rattle.arith.proofs.roots.Rounding.Sum.{add_key, sub_key, sub_number}

-- ---- twice the middle is the ends' sum to within half a unit in the last place of the sum, and a tick
module _ (f : Format) (a b : Float) (p : T (finite_number f a)) (q : T (finite_number f b)) (w : ℕ) (A : Within f w a)
    (B : Within f w b) (W : w + w < mid f) (h : key f a ≤ key f b) where
  pub middle_near : (m : Float) → IsHalf f m → (d : ℕ) → w + w < 2 ^ (prec f + d) → 2 ^ (prec f + d) ≤ mid f
      → (4 * key f (mul f (add f a b) m) ≤ 2 * (key f a + key f b) + 2 ^ d + 2) ×
      (2 * (key f a + key f b) ≤ 4 * key f (mul f (add f a b) m) + 2 ^ d + 2)
  middle_near m i d l u =
      let s = add f a b in
      let n = half_near f s m (sum_finite_number f a b p q w A B W h) i in
      let e = round_key_near f (key f a + key f b) (mid f + mid f) 1 d (pow_pos 0) (rw mul-one (omega arith))
      (rw mul-one (omega arith)) u in
      let k : key f s ≡ round_key f (key f a + key f b) (mid f + mid f) 1 = add_key f a b p q in
      omega arith

-- ---- an interval at depth i: its width w is at most W / 2 ^ i + e / 2
pub record Level (W e i w : ℕ) : Type 0 where
  pub held : 2 ^ i * (2 * w) ≤ 2 * W + 2 ^ i * e

pub level_start : (W e : ℕ) → Level W e 0 W
level_start W e = record { held = rw (one-mul (2 * W)) (omega arith) }

-- half of it, to within e / 4, is one deeper
level_half : (W e i w w' : ℕ) → 4 * w' ≤ 2 * w + e → Level W e i w → Level W e (suc i) w'
level_half W e i w w' h l =
    let P = 2 ^ i in
    let x : P * (4 * w') ≤ P * (2 * w + e) = mul-le-mul_left P h in
    let y : P * (2 * w + e) ≡ P * (2 * w) + P * e = mul-add P (2 * w) e in
    let z : (P + P) * (2 * w') ≡ P * (4 * w') = add-mul P P (2 * w') ∙ sym (mul-add P (2 * w') (2 * w')) ∙ ap
    (λ (t : ℕ). P * t) (four w') in
    let v : (P + P) * e ≡ P * e + P * e = add-mul P P e in
    record { held = rw (two-pow-succ i) (omega (arith, l.held)) }
  where
    four : (t : ℕ) → 2 * t + 2 * t ≡ 4 * t
    four t = omega arith

-- what is deep is shallow
pub level_down : (W e i w : ℕ) → Level W e (suc i) w → Level W e i w
level_down W e i w l =
    let P = 2 ^ i in
    let x : (P + P) * (2 * w) ≡ P * (2 * w) + P * (2 * w) = add-mul P P (2 * w) in
    let y : (P + P) * e ≡ P * e + P * e = add-mul P P e in
    let k : (P + P) * (2 * w) ≤ 2 * W + (P + P) * e = subst (λ (z : ℕ). z * (2 * w) ≤ 2 * W + z * e) (two-pow-succ i)
    l.held in
    record { held = omega arith }

level_reach : (W e n i w : ℕ) → n ≤ i → Level W e i w → Level W e n w
level_reach W e n zero w g l = subst (λ (z : ℕ). Level W e z w) (let z : 0 ≡ n = omega arith in z) l
level_reach W e n (suc i) w g l = elim (eq-or-lt_of_le g) [
  | inl z ↦ subst (λ (x : ℕ). Level W e x w) (sym z) l
  | inr z
      ↦ level_reach W e n i w (le_of_suc-le-suc z) (level_down W e i w l)
]

pub level_wide : (W W' e i w : ℕ) → W ≤ W' → Level W e i w → Level W' e i w
level_wide W W' e i w h l = record { held = omega arith }

-- an interval wider than t is not as deep as n
level_stop : (W e n t i w : ℕ) → 2 * W + 2 ^ n * e < 2 ^ n * (2 * t) → t ≤ w → Level W e i w → i < n
level_stop W e n t i w h k l = elim (decide n i) [
  | inl g ↦ absurd (not-le_of_lt
      (lt_of_lt_of_le h (mul-le-mul_left (2 ^ n) (two_le t w k))) (level_reach W e n i w g l).held)
  | inr g ↦ g
]
  where
    two_le : (t w : ℕ) → t ≤ w → 2 * t ≤ 2 * w
    two_le t w k = omega arith

-- ---- a rounded width above c is an exact width above c
width_above : (f : Format) (a b c : Float) → T (finite_number f a) → T (finite_number f b) → T (finite_number f c)
    → key f c < key f (sub f b a) → key f c + key f a < key f b + mid f
width_above f a b c p q r h = elim (decide (key f b + mid f) (key f c + key f a)) [
  | inl g ↦ absurd (not-le_of_lt h (le_trans (le_of_eq (sub_key f b a q p))
      (le_trans (round_key_mono f (key f b) (key f a) 1 (key f c) (mid f) 1 (pow_pos 0) (pow_pos 0) (omega arith))
      (le_of_eq (round_key_self f c r)))))
  | inr g ↦ g
]

-- ---- both halves of a..b, in exact widths
pub halves : (f : Format) (a b : Float) → T (finite_number f a) → T (finite_number f b) → (w : ℕ) → Within f w a
    → Within f w b → w + w < mid f → key f a ≤ key f b → (m : Float) → IsHalf f m → (d : ℕ) → w + w < 2 ^ (prec f + d)
    → 2 ^ (prec f + d) ≤ mid f
    → (W i : ℕ) → Level W (2 ^ d + 2) i (key f b - key f a)
    → Level W (2 ^ d + 2) (suc i) (key f (mul f (add f a b) m) - key f a) × Level W (2 ^ d + 2) (suc i)
    (key f b - key f (mul f (add f a b) m))
halves f a b p q w A B G h m j d l u W i L =
    let n = middle_near f a b p q w A B G h m j d l u in
    let z = middle f a b p q w A B G h m j in
    let c = mul f (add f a b) m in (
      level_half W (2 ^ d + 2) i (key f b - key f a) (key f c - key f a) (omega arith) L,
      level_half W (2 ^ d + 2) i (key f b - key f a) (key f b - key f c) (omega arith) L,
    )

-- ---- one split, over any format: c is the least width that is halved
pub record Scale (f : Format) (c m : Float) (w d W n : ℕ) : Type 0 where
  pub c_sure : T (finite_number f c)
  pub c_pos : mid f ≤ key f c
  pub half_of : IsHalf f m
  pub room : w + w < mid f
  pub digits : w + w < 2 ^ (prec f + d)
  pub digits_mid : 2 ^ (prec f + d) ≤ mid f
  pub depth : 2 * W + 2 ^ n * (2 ^ d + 2) < 2 ^ n * (2 * (key f c - mid f))

pub record Split (f : Format) (a b c m : Float) (w d W n i : ℕ) : Type 0 where
  pub shallow : i < n
  pub between : Between f a b (mul f (add f a b) m)
  pub left : Level W (2 ^ d + 2) (suc i) (key f (mul f (add f a b) m) - key f a)
  pub right : Level W (2 ^ d + 2) (suc i) (key f b - key f (mul f (add f a b) m))

pub split : (f : Format) (a b c m : Float) (w d W n i : ℕ) → Scale f c m w d W n → T (finite_number f a)
    → T (finite_number f b) → Within f w a → Within f w b → key f a ≤ key f b → Level W (2 ^ d + 2) i (key f b - key f a)
    → T (lt c (sub f b a)) → Split f a b c m w d W n i
split f a b c m w d W n i S p q A B h L t =
    let wide = width_above f a b c p q S.c_sure (lt→key f c (sub f b a) (number_of f c S.c_sure)
    (sub_number f b a q p) t) in
    let both = halves f a b p q w A B S.room h m S.half_of d S.digits S.digits_mid W i L in
    record {
      shallow = level_stop W (2 ^ d + 2) n (key f c - mid f) i (key f b - key f a) S.depth
          (wide_enough (key f a) (key f b) (key f c) (mid f) wide) L;
      between = middle f a b p q w A B S.room h m S.half_of;
      left = both.0;
      right = both.1;
    }
  where
    wide_enough : (a b c M : ℕ) → c + a < b + M → c - M ≤ b - a
    wide_enough a b c M h = omega arith
