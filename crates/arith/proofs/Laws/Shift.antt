-- x - y ≤ x ≤ x + y for any finite y ≥ 0, whether or not the format holds y: the keys of both as fractions over one denominator.
use Rattle.std.proofs.Common.{◌≡◌, ℕ, ◌+◌, ◌-◌, ◌*◌, ◌<◌, ◌≤◌, Bool, true, false, cond, not, T, ltb, ℤ, sym, refl, ap, ◌∙◌, le_of_lt, mul-le-mul_right, add-mul, mul-pos, zero-mul, arith, ltb→lt, nltb→le, pow_pos}
use lib.Ieee.{add, down, fin, Float, Format, inf, nan, neg, round, sub, sum, up}
use lib.Ieee.Fits.{down_pos}
use Rattle.arith.proofs.Laws.Exact.{round_key_self}
use Rattle.arith.proofs.roots.Rounding.Key.{finite_of, finite_number, key, key_is, magnitude, mid, representable_of}
use Rattle.arith.proofs.roots.Rounding.Key.{side, unit}
use Rattle.arith.proofs.roots.Rounding.KeyOrder.{cross}
use Rattle.arith.proofs.roots.Rounding.RoundKey.{Difference, round_round_key, round_key, round_key_mono, round_key_same}
use Rattle.arith.proofs.roots.Rounding.RoundKey.{times_sub}

-- ±a as a difference
abbrev pub plus_part : Bool → ℕ → ℕ
plus_part false a = a
plus_part true a = 0

abbrev pub less_part : Bool → ℕ → ℕ
less_part false a = 0
less_part true a = a

module _ (f : Format) where
  round_as : (s : Bool) (n c a b : ℕ) → 0 < c → Difference s (n * unit f) a b → key f (round f s n c) ≡ round_key f a b c
  round_as s n c a b C h = round_round_key f s n c (n * unit f) c a b C C refl h

  sum_key : (s t : Bool) (a b c : ℕ) → 0 < c
      → key f (sum f s a t b c) ≡ round_key f ((plus_part s a + plus_part t b) * unit f)
      ((less_part s a + less_part t b) * unit f) c
  unfolding sum
  sum_key false false a b c C = round_as false (a + b) c ((a + b) * unit f) (0 * unit f) C
      (omega (arith, zero-mul (unit f)))
  sum_key true true a b c C = round_as true (a + b) c (0 * unit f) ((a + b) * unit f) C
      (omega (arith, zero-mul (unit f)))
  sum_key false true a b c C = go (ltb a b) (ltb→lt a b) (nltb→le a b)
    where
      go : (p : Bool) → (T p → a < b) → (T (not p) → b ≤ a)
          → key f (cond p (round f true (b - a) c) (round f false (a - b) c)) ≡ round_key f ((a + 0) * unit f)
          ((0 + b) * unit f) c
      go true h k = round_as true (b - a) c ((a + 0) * unit f) ((0 + b) * unit f) C
          (rw (sym (add-mul (a + 0) (b - a) (unit f))) (ap (λ (z : ℕ). z * unit f) (omega (arith, h tt))))
      go false h k = round_as false (a - b) c ((a + 0) * unit f) ((0 + b) * unit f) C
          (rw (sym (add-mul (0 + b) (a - b) (unit f))) (ap (λ (z : ℕ). z * unit f) (omega (arith, k tt))))
  sum_key true false a b c C = go (ltb a b) (ltb→lt a b) (nltb→le a b) (ltb b a) (nltb→le b a)
    where
      go : (p : Bool) → (T p → a < b) → (T (not p) → b ≤ a) → (q : Bool) → (T (not q) → a ≤ b)
          → key f (cond p (round f false (b - a) c) (round f q (a - b) c)) ≡ round_key f ((0 + b) * unit f)
          ((a + 0) * unit f) c
      go true h k q l = round_as false (b - a) c ((0 + b) * unit f) ((a + 0) * unit f) C
          (rw (sym (add-mul (a + 0) (b - a) (unit f))) (ap (λ (z : ℕ). z * unit f) (omega (arith, h tt))))
      go false h k true l = round_as true (a - b) c ((0 + b) * unit f) ((a + 0) * unit f) C
          (rw (sym (add-mul (0 + b) (a - b) (unit f))) (ap (λ (z : ℕ). z * unit f) (omega (arith, k tt))))
      go false h k false l = round_as false (a - b) c ((0 + b) * unit f) ((a + 0) * unit f) C
          (rw (sym (add-mul (a + 0) (a - b) (unit f))) (ap (λ (z : ℕ). z * unit f) (omega (arith, k tt, l tt))))

  -- x itself over the denominator of a sum
  self_key : (s : Bool) (m : ℕ) (e d : ℤ) → T (finite_number f (fin s m e))
      → key f (fin s m e) ≡ round_key f (plus_part s (m * up e * down d) * unit f)
      (less_part s (m * up e * down d) * unit f) (down e * down d)
  self_key s m e d p =
      let x = fin s m e in
      let h = representable_of f x p in
      let c = cross f m e d (magnitude f x) h.value.1 in
      sym (round_key_self f x p) ∙ round_key_same f (key f x) (mid f) 1 _ _ (down e * down d) (pow_pos 0)
      (mul-pos (down_pos e) (down_pos d)) (by s (key f x) (magnitude f x) (key_is f x) (le_of_lt h.small)
      (m * up e * down d) c)
    where
      D : ℕ
      D = down e * down d

      by : (s : Bool) (k t : ℕ) → k ≡ side (mid f) s t → t ≤ mid f → (A : ℕ) → A * unit f ≡ t * D
          → k * D + less_part s A * unit f * 1 ≡ plus_part s A * unit f * 1 + mid f * D
      by false k t i l A c = rw i (omega (arith, add-mul (mid f) t D, zero-mul (unit f)))
      by true k t i l A c = rw i (omega (arith, times_sub (mid f) t D, mul-le-mul_right D l, zero-mul (unit f)))

  grows : (a b a' b' c : ℕ) → 0 < c → a + b' ≤ a' + b
      → round_key f (a * unit f) (b * unit f) c ≤ round_key f (a' * unit f) (b' * unit f) c
  grows a b a' b' c C h =
      round_key_mono f (a * unit f) (b * unit f) c (a' * unit f) (b' * unit f) c C C
      (rw (
        sym (add-mul (a * unit f) (b' * unit f) c),
        sym (add-mul (a' * unit f) (b * unit f) c),
        sym (add-mul a b' (unit f)),
        sym (add-mul a' b (unit f)),
      ) (mul-le-mul_right c (mul-le-mul_right (unit f) h)))

  pub add_value_ge : (x : Float) (t : Bool) (n : ℕ) (d : ℤ) → T (finite_number f x) → less_part t (n * up d) ≡ 0
      → key f x ≤ key f (add f x (fin t n d))
  add_value_ge nan t n d p z = absurd (finite_of f nan p)
  add_value_ge (inf s) t n d p z = absurd (finite_of f (inf s) p)
  add_value_ge (fin s m e) t n d p z =
      let A = m * up e * down d in
      let C = n * up d * down e in
      unfold add in
      rw (self_key s m e d p, sum_key s t A C (down e * down d) (mul-pos (down_pos e) (down_pos d)))
      (grows (plus_part s A) (less_part s A) (plus_part s A + plus_part t C) (less_part s A + less_part t C)
      (down e * down d) (mul-pos (down_pos e) (down_pos d)) (omega (arith, none t (n * up d) (down e) z)))
    where
      none : (t : Bool) (a c : ℕ) → less_part t a ≡ 0 → less_part t (a * c) ≡ 0
      none false a c z = refl
      none true a c z = rw z (zero-mul c)

  pub sub_value_le : (x : Float) (t : Bool) (n : ℕ) (d : ℤ) → T (finite_number f x) → less_part t (n * up d) ≡ 0
      → key f (sub f x (fin t n d)) ≤ key f x
  sub_value_le nan t n d p z = absurd (finite_of f nan p)
  sub_value_le (inf s) t n d p z = absurd (finite_of f (inf s) p)
  sub_value_le (fin s m e) t n d p z =
      let A = m * up e * down d in
      let C = n * up d * down e in
      unfold sub add neg in
      rw (self_key s m e d p, sum_key s (not t) A C (down e * down d) (mul-pos (down_pos e) (down_pos d)))
      (grows (plus_part s A + plus_part (not t) C) (less_part s A + less_part (not t) C) (plus_part s A) (less_part s A)
      (down e * down d) (mul-pos (down_pos e) (down_pos d)) (omega (arith, none t (n * up d) (down e) z)))
    where
      none : (t : Bool) (a c : ℕ) → less_part t a ≡ 0 → plus_part (not t) (a * c) ≡ 0
      none false a c z = refl
      none true a c z = rw z (zero-mul c)
