-- A point a + d·s of a segment, 0 ≤ s ≤ 1, as rounded: no lower than the lower of its computed ends a and a + d, no higher than the
-- higher. By monotone rounding: d·s lies from 0 to d. A NaN is neither lower nor higher.
use Rattle.std.proofs.Common.{◌≡◌, ℕ, ◌+◌, ◌*◌, ◌<◌, ◌≤◌, Bool, true, false, cond, not, T, sym, refl, ap, ◌∙◌, subst, inl, inr, le_trans, le_of_eq, le_of_lt, add-mul, mul-le-mul_left, zero-mul, arith, pow_pos, le-ltb}
use lib.Ieee.{add, fin, Float, Format, inf, lt, mul, nan, sub}
use Rattle.arith.proofs.roots.Numbers.{decide}
use Rattle.arith.proofs.roots.Rounding.Key.{finite_inside, finite_number, key, key_is, magnitude, mid, mid_pos, negative, number}
use Rattle.arith.proofs.roots.Rounding.Key.{number_of, representable_of, side, unit, unit_pos}
use Rattle.arith.proofs.roots.Rounding.KeyOrder.{lt_key}
use Rattle.arith.proofs.roots.Rounding.Product.{mul_number, negative_part, positive_part}
use Rattle.arith.proofs.roots.Rounding.RoundKey.{round_key, round_key_mono, round_key_side}
use Rattle.arith.proofs.roots.Rounding.Sum.{add_key, add_number, sub_key}
use Rattle.arith.proofs.Laws.Exact.{add_ge, round_key_self}
use Rattle.arith.proofs.Laws.Monotone.{add_key_mono, times_key}
use Rattle.arith.proofs.Laws.OrderHeld.{not_less_nan}

-- ---- a part t·c / unit of t, for c ≤ unit, rounds to no more than t, and to no less than 0; the same below 0
module _ (f : Format) (k t c : ℕ) (h : c ≤ unit f) where
  grown : k ≡ mid f + t → round_key f (t * c) 0 (unit f) ≤ round_key f k (mid f) 1
  grown e = round_key_mono f (t * c) 0 (unit f) k (mid f) 1 (unit_pos f) (pow_pos 0)
      (subst (λ (z : ℕ). t * c * 1 + mid f * unit f ≤ z * unit f + 0 * 1) (sym e)
      (omega (arith, mul-le-mul_left t h, add-mul (mid f) t (unit f))))

  shrunk : k + t ≡ mid f → round_key f k (mid f) 1 ≤ round_key f 0 (t * c) (unit f)
  shrunk e = round_key_mono f k (mid f) 1 0 (t * c) (unit f) (pow_pos 0) (unit_pos f)
      (subst (λ (z : ℕ). k * unit f + t * c * 1 ≤ 0 * 1 + z * unit f) e
      (omega (arith, mul-le-mul_left t h, add-mul k t (unit f))))

no_less : (f : Format) (n : ℕ) → mid f ≤ round_key f n 0 (unit f)
no_less f n = rw (round_key_side f false n n 0 (unit f) (unit_pos f) (omega arith)) (omega arith)

no_more : (f : Format) (n : ℕ) → round_key f 0 n (unit f) ≤ mid f
no_more f n = rw (round_key_side f true n 0 n (unit f) (unit_pos f) (omega arith)) (omega arith)

add_le : (f : Format) (a d : Float) → T (finite_number f a) → T (finite_number f d) → key f d ≤ mid f → key f (add f a d) ≤ key f a
add_le f a d A D h =
    le_trans (le_of_eq (add_key f a d A D))
    (le_trans (round_key_mono f (key f a + key f d) (mid f + mid f) 1 (key f a) (mid f) 1 (pow_pos 0) (pow_pos 0)
    (omega (arith, h))) (le_of_eq (round_key_self f a A)))

inside : (f : Format) (x : Float) → T (finite_number f x) → (0 < key f x) × (key f x < mid f + mid f)
inside f x p = rw (key_is f x) (go (mid f) (magnitude f x) (representable_of f x p).small (negative x))
  where
    go : (m t : ℕ) → t < m → (s : Bool) → (0 < side m s t) × (side m s t < m + m)
    go m t h false = (omega arith, omega arith)
    go m t h true = (omega arith, omega arith)

module _ (f : Format) (a d s : Float) (A : T (finite_number f a)) (D : T (finite_number f d)) (S : T (finite_number f s))
    (least : mid f ≤ key f s) (most : key f s ≤ mid f + unit f) where
  abbrev c : ℕ
  c = positive_part f s

  small : c ≤ unit f
  small = omega (arith, least, most)

  up_key : mid f ≤ key f d → key f (mul f d s) ≡ round_key f (positive_part f d * c) 0 (unit f)
  up_key h = let z : negative_part f d ≡ 0 = omega arith in
      times_key f d s D S least
      ∙ ap (λ (n : ℕ). round_key f (positive_part f d * c) n (unit f)) (ap (λ (n : ℕ). n * c) z ∙ zero-mul c)

  down_key : key f d ≤ mid f → key f (mul f d s) ≡ round_key f 0 (negative_part f d * c) (unit f)
  down_key h = let z : positive_part f d ≡ 0 = omega arith in
      times_key f d s D S least
      ∙ ap (λ (n : ℕ). round_key f n (negative_part f d * c) (unit f)) (ap (λ (n : ℕ). n * c) z ∙ zero-mul c)

  part_up : mid f ≤ key f d → (mid f ≤ key f (mul f d s)) × (key f (mul f d s) ≤ key f d)
  part_up h = (
    rw (up_key h) (no_less f (positive_part f d * c)),
    le_trans (le_of_eq (up_key h)) (le_trans (grown f (key f d) (positive_part f d) c small (omega arith))
        (le_of_eq (round_key_self f d D))),
  )

  part_down : key f d ≤ mid f → (key f d ≤ key f (mul f d s)) × (key f (mul f d s) ≤ mid f)
  part_down h = (
    le_trans (le_of_eq (sym (round_key_self f d D)))
        (le_trans (shrunk f (key f d) (negative_part f d) c small (omega arith)) (le_of_eq (sym (down_key h)))),
    rw (down_key h) (no_more f (negative_part f d * c)),
  )

  part_finite : T (finite_number f (mul f d s))
  part_finite =
      let i = inside f d D in
      elim (decide (mid f) (key f d)) [
        | inl h ↦ finite_inside f (mul f d s) (mul_number f d s D S) (omega (arith, part_up h, mid_pos f))
            (omega (arith, part_up h))
        | inr h ↦ finite_inside f (mul f d s) (mul_number f d s D S) (omega (arith, part_down (le_of_lt h)))
            (omega (arith, part_down (le_of_lt h), mid_pos f))
      ]

  abbrev on : Float
  on = add f a (mul f d s)

  up_low : mid f ≤ key f d → key f a ≤ key f on
  up_low h = add_ge f a (mul f d s) A part_finite (part_up h).0

  up_high : mid f ≤ key f d → key f on ≤ key f (add f a d)
  up_high h = add_key_mono f a a (mul f d s) d A A part_finite D (omega arith) (part_up h).1

  down_low : key f d ≤ mid f → key f (add f a d) ≤ key f on
  down_low h = add_key_mono f a a d (mul f d s) A A D part_finite (omega arith) (part_down h).0

  down_high : key f d ≤ mid f → key f on ≤ key f a
  down_high h = add_le f a (mul f d s) A part_finite (part_down h).1

  on_number : T (number f on)
  on_number = add_number f a (mul f d s) A part_finite

  end_number : T (number f (add f a d))
  end_number = add_number f a d A D

  -- b tells on which side of 0 the step d lies
  share_not_below : (b : Bool) → (T b → key f d ≤ mid f) → (T (not b) → mid f ≤ key f d)
      → lt on (cond b (add f a d) a) ≡ false
  share_not_below true h k = lt_key f on (add f a d) on_number end_number ∙ le-ltb _ _ (down_low (h tt))
  share_not_below false h k = lt_key f on a on_number (number_of f a A) ∙ le-ltb _ _ (up_low (k tt))

  share_not_above : (b : Bool) → (T b → key f d ≤ mid f) → (T (not b) → mid f ≤ key f d)
      → lt (cond b a (add f a d)) on ≡ false
  share_not_above true h k = lt_key f a on (number_of f a A) on_number ∙ le-ltb _ _ (down_high (h tt))
  share_not_above false h k = lt_key f (add f a d) on end_number on_number ∙ le-ltb _ _ (up_high (k tt))

-- ---- s from 0 to 1, or a NaN
pub data Share (f : Format) (s : Float) : Type 0 where
  no_number : s ≡ nan → Share f s
  share : T (finite_number f s) → mid f ≤ key f s → key f s ≤ mid f + unit f → Share f s

mul_nan : (f : Format) (d : Float) → mul f d nan ≡ nan
unfolding mul
mul_nan f nan = refl
mul_nan f (inf s) = refl
mul_nan f (fin s m e) = refl

pub add_nan : (f : Format) (a : Float) → add f a nan ≡ nan
unfolding add
add_nan f nan = refl
add_nan f (inf s) = refl
add_nan f (fin s m e) = refl

nan_below : (v : Float) → lt nan v ≡ false
unfolding lt
nan_below v = refl

point_nan : (f : Format) (a d s : Float) → s ≡ nan → add f a (mul f d s) ≡ nan
point_nan f a d s e = rw (e, mul_nan f d, add_nan f a)

module _ (f : Format) (a d s : Float) (A : T (finite_number f a)) (D : T (finite_number f d)) (b : Bool)
    (h : T b → key f d ≤ mid f) (k : T (not b) → mid f ≤ key f d) where
  pub point_not_below : Share f s → lt (add f a (mul f d s)) (cond b (add f a d) a) ≡ false
  point_not_below (no_number e) = rw (point_nan f a d s e) (nan_below (cond b (add f a d) a))
  point_not_below (share S l m) = share_not_below f a d s A D S l m b h k

  pub point_not_above : Share f s → lt (cond b a (add f a d)) (add f a (mul f d s)) ≡ false
  point_not_above (no_number e) = rw (point_nan f a d s e) (not_less_nan (cond b a (add f a d)))
  point_not_above (share S l m) = share_not_above f a d s A D S l m b h k

-- ---- a itself and a + d
module _ (f : Format) (a d : Float) (A : T (finite_number f a)) (D : T (finite_number f d)) where
  pub step_up : mid f ≤ key f d → lt (add f a d) a ≡ false
  step_up h = lt_key f (add f a d) a (add_number f a d A D) (number_of f a A) ∙ le-ltb _ _ (add_ge f a d A D h)

  pub step_down : key f d ≤ mid f → lt a (add f a d) ≡ false
  step_down h = lt_key f a (add f a d) (number_of f a A) (add_number f a d A D) ∙ le-ltb _ _ (add_le f a d A D h)

-- x - x is 0
pub no_step : (f : Format) (x : Float) → T (finite_number f x) → key f (sub f x x) ≡ mid f
unfolding round_key
no_step f x X = omega (arith, sub_key f x x X X)
