-- Halving, and the middle (a + b) * 0.5: it lies between a and b, since 2a and 2b are their own roundings and rounding is monotone.
use Rattle.std.proofs.Common.{◌≡◌, ℕ, zero, suc, ◌+◌, ◌*◌, ◌^◌, ◌<◌, ◌≤◌, min, Bool, true, false, T, negsuc, sym, refl, ap, ◌∙◌, subst, le_trans, le_of_eq, lt_of_lt_of_le, lt_of_le_of_lt, add-zero, le_of_lt, zero-lt-suc, mul_assoc, add-mul, pow-suc, mul-one, mul-add, arith, lit≤, pow_pos, pow_mono}
use native.Mathlib.Nat.{two-pow-succ}
use lib.Ieee.{add, binary32, binary64, emax, fin, fits, Float, Format, low, mul, prec}
use lib.Ieee.Fits.{reach}
use Rattle.arith.proofs.Laws.Bounds.{magnitude_within, Within}
use Rattle.arith.proofs.Laws.Exact.{diff_key, round_key_fix, round_key_self, round_key_twice}
use Rattle.arith.proofs.Laws.Monotone.{times_key}
use Rattle.arith.proofs.roots.Rounding.Key.{finite_inside, finite_number, key, key_is, magnitude, mid, negative}
use Rattle.arith.proofs.roots.Rounding.Key.{Representable, representable_of, side, unit, unit_pos}
use Rattle.arith.proofs.roots.Rounding.Product.{mul_number, negative_part, positive_part}
use Rattle.arith.proofs.roots.Rounding.RoundKey.{round_key, round_key_mono, round_key_near, round_key_same}
use Rattle.arith.proofs.roots.Rounding.Sum.{add_key, add_number}

-- ---- HALVING: h is one half
unfoldable pub IsHalf : Format → Float → Type 0
IsHalf f h = T (finite_number f h) × (mid f ≤ key f h) × (positive_part f h + positive_part f h ≡ unit f)

half_key : (f : Format) (x h : Float) → T (finite_number f x) → IsHalf f h
    → key f (mul f x h) ≡ round_key f (key f x) (mid f) 2
unfolding IsHalf
half_key f x h p i =
    let H = positive_part f h in
    let a = positive_part f x in
    let u = negative_part f x in
    let b : (a + mid f) * (H + H) ≡ (key f x + u) * (H + H) = ap (λ (z : ℕ). z * (H + H)) (omega arith) in
    let e : a * H * 2 + mid f * (H + H) ≡ key f x * (H + H) + u * H * 2 = omega
    (arith, add-mul a (mid f) (H + H), add-mul (key f x) u (H + H), b, mul-add a H H, mul-add u H H) in
    times_key f x h p i.0 i.1
    ∙ round_key_same f (a * H) (u * H) (unit f) (key f x) (mid f) 2 (unit_pos f) (zero-lt-suc 1)
    (subst (λ (U : ℕ). a * H * 2 + mid f * U ≡ key f x * U + u * H * 2) i.2 e)

unfoldable pub half : Float
half = fin false 1 (negsuc 0)

pub half_is : (f : Format) → IsHalf f half
unfolding IsHalf half key magnitude mid unit fits
half_is binary32 = (tt, lit≤ tt, refl)
half_is binary64 = (tt, lit≤ tt, refl)

half_finite_number : (f : Format) (m : Float) → IsHalf f m → T (finite_number f m)
unfolding IsHalf
half_finite_number f m i = i.0

-- ---- the middle lies between
pub record Between (f : Format) (a b m : Float) : Type 0 where
  pub sure : T (finite_number f m)
  pub low_end : key f a ≤ key f m
  pub high_end : key f m ≤ key f b

module _ (f : Format) (a b : Float) (p : T (finite_number f a)) (q : T (finite_number f b)) (w : ℕ) (A : Within f w a)
    (B : Within f w b) (W : w + w < mid f) (h : key f a ≤ key f b) where
  twice_a : round_key f (key f a + key f a) (mid f + mid f) 1 + mid f ≡ key f a + key f a
  twice_a = round_key_twice f a p (let t : magnitude f a ≤ w = magnitude_within f w a p A in omega arith)

  twice_b : round_key f (key f b + key f b) (mid f + mid f) 1 + mid f ≡ key f b + key f b
  twice_b = round_key_twice f b q (let t : magnitude f b ≤ w = magnitude_within f w b q B in omega arith)

  sum_low : key f a + key f a ≤ key f (add f a b) + mid f
  sum_low = rw (add_key f a b p q) (let z = round_key_mono f (key f a + key f a) (mid f + mid f) 1 (key f a + key f b)
      (mid f + mid f) 1 (pow_pos 0) (pow_pos 0) (omega arith) in omega (arith, twice_a))

  sum_high : key f (add f a b) + mid f ≤ key f b + key f b
  sum_high = rw (add_key f a b p q) (let z = round_key_mono f (key f a + key f b) (mid f + mid f) 1 (key f b + key f b)
      (mid f + mid f) 1 (pow_pos 0) (pow_pos 0) (omega arith) in omega (arith, twice_b))

  pub sum_finite_number : T (finite_number f (add f a b))
  sum_finite_number = finite_inside f (add f a b) (add_number f a b p q) (omega (arith, sum_low))
      (omega (arith, sum_high))

  pub middle : (m : Float) → IsHalf f m → Between f a b (mul f (add f a b) m)
  middle m i =
      let s = add f a b in
      let l : key f a ≤ key f (mul f s m) = le_trans (le_of_eq (sym (round_key_self f a p)))
      (le_trans (round_key_mono f (key f a) (mid f) 1 (key f s) (mid f) 2 (pow_pos 0) (zero-lt-suc 1)
      (omega (arith, sum_low))) (le_of_eq (sym (half_key f s m sum_finite_number i)))) in
      let u : key f (mul f s m) ≤ key f b = le_trans (le_of_eq (half_key f s m sum_finite_number i))
      (le_trans (round_key_mono f (key f s) (mid f) 2 (key f b) (mid f) 1 (zero-lt-suc 1) (pow_pos 0)
      (omega (arith, sum_high))) (le_of_eq (round_key_self f b q))) in
      record {
        sure = finite_inside f (mul f s m) (mul_number f s m sum_finite_number (half_finite_number f m i)) (omega arith)
            (omega arith);
        low_end = l;
        high_end = u;
      }

even_case : (M t u : ℕ) (s : Bool) → t ≡ u + u → t < M → side M s (min M u) + side M s (min M u) ≡ M + side M s t
even_case M t u false e h = omega arith
even_case M t u true e h = omega arith

near_key : (M t : ℕ) (s : Bool) → t ≤ M → (side M s t ≤ M + t) × (M ≤ side M s t + t)
near_key M t false h = omega arith
near_key M t true h = omega arith

fits_mid : (p l e : ℕ) → p ≤ suc e → p + 0 ≤ l + suc e
fits_mid p l e h = omega arith

pow_mono_mid : (f : Format) → 2 ^ (prec f + 0) ≤ mid f
unfolding mid
pow_mono_mid f = pow_mono (fits_mid (prec f) (low f) (emax f) (reach f))

-- halving is exact but for a last odd tick
pub half_near : (f : Format) (x m : Float) → T (finite_number f x) → IsHalf f m
    → (key f (mul f x m) + key f (mul f x m) ≤ mid f + key f x + 1) ×
    (mid f + key f x ≤ key f (mul f x m) + key f (mul f x m) + 1)
half_near f x m p i = rw (half_key f x m p i) (go H.j H.whole)
  where
    H : Representable f x
    H = representable_of f x p

    even : (s : Bool) (q j : ℕ) → q < 2 ^ prec f → magnitude f x ≡ q * 2 ^ suc j
        → (round_key f (side (mid f) s (magnitude f x)) (mid f) 2 ≡ side (mid f) s (min (mid f) (q * 2 ^ j)))
    even s q j Q e = round_key_fix f s q j (side (mid f) s (magnitude f x)) (mid f) 2 (zero-lt-suc 1) Q
        (rw (← e', ← e) (diff_key (mid f) (magnitude f x) s (le_of_lt H.small)))
      where
        e' : q * 2 ^ suc j ≡ q * 2 ^ j * 2
        e' = ap (λ (z : ℕ). q * z) (pow-suc 2 j) ∙ sym (mul_assoc q (2 ^ j) 2)

    go : (j : ℕ) → magnitude f x ≡ H.q * 2 ^ j
        → (round_key f (key f x) (mid f) 2 + round_key f (key f x) (mid f) 2 ≤ mid f + key f x + 1) ×
        (mid f + key f x ≤ round_key f (key f x) (mid f) 2 + round_key f (key f x) (mid f) 2 + 1)
    go zero e =
        let P = 2 ^ (prec f + 0) in
        let T' : magnitude f x < P = lt_of_le_of_lt (le_of_eq (e ∙ mul-one H.q))
        (lt_of_lt_of_le H.short (le_of_eq (ap (λ (z : ℕ). 2 ^ z) (sym (add-zero (prec f)))))) in
        let z = near_key (mid f) (magnitude f x) (negative x) (le_of_lt H.small) in
        let n = round_key_near f (key f x) (mid f) 2 0 (zero-lt-suc 1) (rw (key_is f x) (omega (arith, z.0)))
        (rw (key_is f x) (omega (arith, z.1))) (pow_mono_mid f) in
        omega arith
    go (suc j) e =
        let u = H.q * 2 ^ j in
        let d : magnitude f x ≡ u + u = e ∙ ap (λ (z : ℕ). H.q * z) (two-pow-succ j) ∙ mul-add H.q (2 ^ j)
        (2 ^ j) in
        let E : round_key f (key f x) (mid f) 2 ≡ side (mid f) (negative x) (min (mid f) u) = ap
        (λ (z : ℕ). round_key f z (mid f) 2) (key_is f x) ∙ even (negative x) H.q j H.short e in
        let W = even_case (mid f) (magnitude f x) u (negative x) d H.small in
        let K : key f x ≡ side (mid f) (negative x) (magnitude f x) = key_is f x in
        rw (E, K) (omega arith)
