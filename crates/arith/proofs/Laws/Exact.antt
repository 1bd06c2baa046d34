-- What has few enough digits is its own rounding: x itself, x + c and x - c against x, twice x, x - 0; and two values of one sign
-- and size are one.
use Rattle.std.proofs.Common.{◌≡◌, ℕ, suc, ◌+◌, ◌-◌, ◌*◌, ◌/◌, ◌^◌, ◌<◌, ◌≤◌, min, Bool, true, false, cond, not, T, ℤ, pos, sym, refl, ap, ◌∙◌, subst, zero-le, le_trans, le_of_eq, add-zero, le_of_lt, mul-pos, zero-mul, mul-one, mul-add, not-le_of_lt, mul-div_cancel, arith, pow_pos, le-ltb}
use native.Mathlib.Nat.{min-eq_right}
use native.Mathlib.Nat.{two-pow-succ}
use lib.Ieee.{add, down, fin, fits, Float, Format, hid, inf, is_nan, le, low, nan, neg, prec, round, size, sub, sum, to_bits, top}
use lib.Ieee.{up}
use lib.Ieee.Bits.{of_bits-to_bits}
use lib.Ieee.Exact.{HasValue, round_exact}
use lib.Ieee.Fits.{and_l, and_r, down_pos}
use Rattle.arith.proofs.roots.Rounding.Fraction.{rounded, rounded_fix}
use Rattle.arith.proofs.roots.Rounding.Key.{finite_of, finite_number, key, key_is, magnitude, magnitude_le, mid, negative}
use Rattle.arith.proofs.roots.Rounding.Key.{negative_of_value, number, number_of, plus_zero, plus_zero_finite_number, plus_zero_key}
use Rattle.arith.proofs.roots.Rounding.Key.{Representable, representable, representable_of, side, unit}
use Rattle.arith.proofs.roots.Rounding.RoundKey.{Difference, round_key, round_key_mono, round_key_side}
use Rattle.arith.proofs.roots.Rounding.Sum.{add_key, add_number, sub_key, sub_number}
use Rattle.arith.proofs.roots.Rounding.KeyOrder.{cross, key→le}
use Rattle.arith.proofs.Laws.OrderHeld.{number_held}

-- ---- fixed points: (a - b) / c is the signed n = q * 2 ^ j
pub round_key_fix : (f : Format) (s : Bool) (q j a b c : ℕ) → 0 < c → q < 2 ^ prec f → Difference s (q * 2 ^ j * c) a b
    → round_key f a b c ≡ side (mid f) s (min (mid f) (q * 2 ^ j))
round_key_fix f s q j a b c C Q d = round_key_side f s (q * 2 ^ j * c) a b c C d ∙ ap
    (λ (z : ℕ). side (mid f) s (min (mid f) z)) (rounded_fix (prec f) q j c C Q)

pub diff_key : (M t : ℕ) (s : Bool) → t ≤ M → Difference s t (side M s t) M
diff_key M t false h = refl
diff_key M t true h = omega arith

-- x itself
pub round_key_self : (f : Format) (x : Float) → T (finite_number f x) → round_key f (key f x) (mid f) 1 ≡ key f x
round_key_self f x p =
    let h = representable_of f x p in
    let l : magnitude f x ≤ mid f = le_of_lt h.small in
    rw (key_is f x)
    (round_key_side f (negative x) (magnitude f x) (side (mid f) (negative x) (magnitude f x)) (mid f) 1 (pow_pos 0)
    (diff_key (mid f) (magnitude f x) (negative x) l)
    ∙ ap (λ (z : ℕ). side (mid f) (negative x) (min (mid f) z)) (self f x h)
    ∙ ap (λ (z : ℕ). side (mid f) (negative x) z) (min-eq_right l))
  where
    self : (f : Format) (x : Float) → Representable f x → rounded (prec f) (magnitude f x) 1 ≡ magnitude f x
    self f x h = rw h.whole (ap (λ (z : ℕ). rounded (prec f) z 1) (sym (mul-one (h.q * 2 ^ h.j))) ∙ rounded_fix
        (prec f) h.q h.j 1 (pow_pos 0) h.short)

-- ---- x + c is no less than x for c ≥ 0: best ≤ best + 1e-12
pub add_ge : (f : Format) (x c : Float) → T (finite_number f x) → T (finite_number f c) → mid f ≤ key f c
    → key f x ≤ key f (add f x c)
add_ge f x c p q h =
    let e : round_key f (key f x) (mid f) 1 ≤ round_key f (key f x + key f c) (mid f + mid f) 1 = round_key_mono f
    (key f x) (mid f) 1 (key f x + key f c) (mid f + mid f) 1 (pow_pos 0) (pow_pos 0) (omega arith) in
    le_trans (le_of_eq (sym (round_key_self f x p))) (le_trans e (le_of_eq (sym (add_key f x c p q))))

-- x - c is no more than x
pub sub_le : (f : Format) (x c : Float) → T (finite_number f x) → T (finite_number f c) → mid f ≤ key f c
    → key f (sub f x c) ≤ key f x
sub_le f x c p q h =
    le_trans (le_of_eq (sub_key f x c p q))
    (le_trans (round_key_mono f (key f x) (key f c) 1 (key f x) (mid f) 1 (pow_pos 0) (pow_pos 0) (omega arith))
    (le_of_eq (round_key_self f x p)))

-- x ≤ x + c in the order of floats
pub add_not_less : (f : Format) (x c : Float) → T (finite_number f x) → T (finite_number f c) → mid f ≤ key f c
    → T (le x (add f x c))
add_not_less f x c p q h = key→le f x (add f x c) (number_of f x p) (add_number f x c p q) (add_ge f x c p q h)

-- ---- twice x, where that is in range
pub round_key_twice : (f : Format) (x : Float) → T (finite_number f x) → magnitude f x + magnitude f x ≤ mid f
    → round_key f (key f x + key f x) (mid f + mid f) 1 + mid f ≡ key f x + key f x
round_key_twice f x p b =
    let h = representable_of f x p in
    let t = magnitude f x in
    let s = negative x in
    let w : h.q * 2 ^ suc h.j ≡ t + t = twice h.q h.j t h.whole in
    let e : round_key f (side (mid f) s t + side (mid f) s t) (mid f + mid f) 1 ≡ side (mid f) s (t + t) =
    round_key_fix f s h.q (suc h.j) (side (mid f) s t + side (mid f) s t) (mid f + mid f) 1 (pow_pos 0) h.short
    (subst (λ (z : ℕ). Difference s z (side (mid f) s t + side (mid f) s t) (mid f + mid f))
    (sym (mul-one (h.q * 2 ^ suc h.j) ∙ w)) (diff_two (mid f) t s b))
    ∙ ap (λ (z : ℕ). side (mid f) s (min (mid f) z)) w ∙ ap (λ (z : ℕ). side (mid f) s z) (min-eq_right b) in
    rw (key_is f x) (ap (λ (z : ℕ). z + mid f) e ∙ sum_two (mid f) t s b)
  where
    twice : (q j t : ℕ) → t ≡ q * 2 ^ j → q * 2 ^ suc j ≡ t + t
    twice q j t e = rw (two-pow-succ j, mul-add q (2 ^ j) (2 ^ j), e) refl

    diff_two : (M t : ℕ) (s : Bool) → t + t ≤ M → Difference s (t + t) (side M s t + side M s t) (M + M)
    diff_two M t false h = omega arith
    diff_two M t true h = omega arith

    sum_two : (M t : ℕ) (s : Bool) → t + t ≤ M → side M s (t + t) + M ≡ side M s t + side M s t
    sum_two M t false h = omega arith
    sum_two M t true h = omega arith

-- ---- one leg of zero: the size of the other
-- two values of the format with one sign and one size are one
bits_of : (f : Format) (x : Float) (s : Bool) (a : ℕ) → HasValue x s a (2 ^ low f)
    → to_bits f x ≡ cond s (top f) 0 + (size a - prec f) * hid f + a / 2 ^ (size a - prec f)
unfolding to_bits
bits_of f nan s a h = absurd h
bits_of f (inf t) s a h = absurd h
bits_of f (fin t m e) s a h =
    ap (λ (z : ℕ). cond t (top f) 0 + (size z - prec f) * hid f + z / 2 ^ (size z - prec f))
    (ap (λ (z : ℕ). z / down e) h.1 ∙ mul-div_cancel a (down_pos e))
    ∙ ap (λ (b : Bool). cond b (top f) 0 + (size a - prec f) * hid f + a / 2 ^ (size a - prec f)) h.0

pub value_unique : (f : Format) (x y : Float) (s : Bool) (a : ℕ) → T (fits f x) → T (fits f y)
    → HasValue x s a (2 ^ low f) → HasValue y s a (2 ^ low f) → x ≡ y
value_unique f x y s a p q h k = sym (of_bits-to_bits f x p) ∙ ap (λ (z : ℕ). lib.Ieee.of_bits f z)
    (bits_of f x s a h ∙ sym (bits_of f y s a k)) ∙ of_bits-to_bits f y q

-- two numbers of one sign and one key are one
same_size : (M t u : ℕ) (s : Bool) → t ≤ M → u ≤ M → side M s t ≡ side M s u → t ≡ u
same_size M t u false x y e = omega arith
same_size M t u true x y e = omega arith

finite_value : (f : Format) (s : Bool) (m : ℕ) (e : ℤ) → T (number f (fin s m e)) → Representable f (fin s m e)
finite_value f s m e p = representable f (fin s m e) tt (and_l (fits f (fin s m e)) (not (is_nan (fin s m e))) p)

below_mid : (f : Format) (s : Bool) (m : ℕ) (e : ℤ) → T (number f (fin s m e)) → mid f ≡ magnitude f (fin s m e) → ⊥
below_mid f s m e p k = not-le_of_lt (finite_value f s m e p).small (le_of_eq k)

one_of_size : (f : Format) (x y : Float) → T (number f x) → T (number f y) → negative x ≡ negative y
    → magnitude f x ≡ magnitude f y → x ≡ y
unfolding is_nan magnitude unit
one_of_size f nan y p q s e = absurd (and_r (fits f nan) false p)
one_of_size f (inf s) nan p q e k = absurd (and_r (fits f nan) false q)
one_of_size f (inf s) (inf t) p q e k = ap (λ (b : Bool). inf b) e
one_of_size f (inf s) (fin t n j) p q e k = absurd (below_mid f t n j q k)
one_of_size f (fin s m i) nan p q e k = absurd (and_r (fits f nan) false q)
one_of_size f (fin s m i) (inf t) p q e k = absurd (below_mid f s m i p (sym k))
one_of_size f (fin s m i) (fin t n j) p q e k =
    value_unique f (fin s m i) (fin t n j) s (magnitude f (fin s m i)) (number_held f (fin s m i) p)
    (number_held f (fin t n j) q) (finite_value f s m i p).value
    (subst (λ (b : Bool). HasValue (fin t n j) b (magnitude f (fin s m i)) (2 ^ low f)) (sym e)
    (subst (λ (a : ℕ). HasValue (fin t n j) t a (2 ^ low f)) (sym k) (finite_value f t n j q).value))

pub key_unique : (f : Format) (x y : Float) → T (number f x) → T (number f y) → negative x ≡ negative y
    → key f x ≡ key f y → x ≡ y
key_unique f x y p q s e = one_of_size f x y p q s
    (same_size (mid f) (magnitude f x) (magnitude f y) (negative x) (magnitude_le f x p) (magnitude_le f y q)
    (sym (key_is f x) ∙ e ∙ key_is f y ∙ ap (λ (t : Bool). side (mid f) t (magnitude f y)) (sym s)))

-- ---- x - 0 is x, a zero keeping its sign
module _ (f : Format) (m : ℕ) (e : ℤ) where
  -- x over the denominator of a difference with zero
  abbrev over : ℕ
  over = m * up e * 1

  less_nothing : (s : Bool) → sum f s over true (0 * 1 * down e) (down e * 1) ≡ round f s over (down e * 1)
  unfolding sum
  less_nothing true = rw (zero-mul (down e), add-zero over)
  less_nothing false = let nothing : over - 0 ≡ over = omega arith in rw (zero-mul (down e), le-ltb over 0 zero-le, nothing)

  round_sign : (s : Bool) → T (finite_number f (fin s m e)) → negative (round f s over (down e * 1)) ≡ s
  round_sign s p =
      let h = representable_of f (fin s m e) p in
      unfold unit mid in
      negative_of_value (round f s over (down e * 1)) s over (down e * 1)
      (round_exact f s over (down e * 1) h.q h.j (mul-pos (down_pos e) (pow_pos 0)) h.short
      (subst (λ (z : ℕ). z < mid f) h.whole h.small)
      (subst (λ (z : ℕ). over * unit f ≡ z * (down e * 1)) h.whole
      (cross f m e (pos 0) (magnitude f (fin s m e)) h.value.1)))

sub_zero_sign : (f : Format) (x : Float) → T (finite_number f x) → negative (sub f x plus_zero) ≡ negative x
unfolding sub add neg plus_zero
sub_zero_sign f nan p = absurd (finite_of f nan p)
sub_zero_sign f (inf s) p = absurd (finite_of f (inf s) p)
sub_zero_sign f (fin s m e) p = ap negative (less_nothing f m e s) ∙ round_sign f m e s p

pub sub_zero : (f : Format) (x : Float) → T (finite_number f x) → sub f x plus_zero ≡ x
sub_zero f x p =
    let z = plus_zero_finite_number f in
    key_unique f (sub f x plus_zero) x (sub_number f x plus_zero p z) (number_of f x p) (sub_zero_sign f x p)
    (sub_key f x plus_zero p z ∙ ap (λ (k : ℕ). round_key f (key f x) k 1) (plus_zero_key f) ∙ round_key_self f x p)
