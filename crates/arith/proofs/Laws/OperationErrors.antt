-- THE ERROR OF EACH OPERATION of a format, in whole multiples of its smallest value. An operand is its key; nothing is
-- subtracted: that x - y was rounded to z with an error of at most e says that z + y and zero + x are at most e apart.
use Rattle.std.proofs.Common.{◌≡◌, ℕ, zero, suc, ◌+◌, ◌-◌, ◌*◌, ◌^◌, ◌<◌, ◌≤◌, T, sym, refl, ap, ◌∙◌, inl, inr, le_trans, le_of_eq, le_refl, zero-lt-suc, mul-le-mul_left, mul-one, arith}
use native.Mathlib.Nat.{le_of_mul-le-mul_left}
use native.Mathlib.Nat.{two-pow-succ}
use lib.Ieee.{add, div, Float, Format, mul, prec, sub}
use Rattle.arith.proofs.roots.Rounding.Key.{finite_number, key, mid, prec_pos, unit, unit_pos}
use Rattle.arith.proofs.roots.Rounding.Product.{mul_key, negative_part, positive_part}
use Rattle.arith.proofs.roots.Rounding.Quotient.{div_key}
use Rattle.arith.proofs.roots.Rounding.RoundKey.{round_key}
use Rattle.arith.proofs.roots.Rounding.Sum.{add_key, sub_key}
use Rattle.arith.proofs.roots.Root.Sticky.{double_square, ge_sticky_root, le_sticky_root, sticky_root, sticky_root_le}
use Rattle.arith.specs.roots.Roots.{hypot, root}
use Rattle.arith.proofs.Laws.HypotKey.{hypot_is, root_not_negative}
use Rattle.arith.proofs.Laws.Monotone.{key_size}
use Rattle.arith.proofs.Laws.RootKey.{root_key}
use Rattle.arith.proofs.Laws.RoundingError.{Close, round_key_close, round_key_error, round_key_error_of}
use Rattle.arith.specs.Whole.{apart}

-- half the number of significands: the largest K whose 2 K th the format can tell
unfoldable pub half : Format → ℕ
half f = 2 ^ (prec f - 1)

pub half_twice : (f : Format) → 2 ^ prec f ≡ 2 * half f
unfolding half
half_twice f = go (prec f) (prec_pos f)
  where
    go : (p : ℕ) → 0 < p → 2 ^ p ≡ 2 * 2 ^ (p - 1)
    go zero h = let c : ⊥ = omega arith in absurd c
    go (suc p) h = let e : suc p - 1 ≡ p = omega arith in rw e (two-pow-succ p ∙ twice (2 ^ p))
      where
        twice : (z : ℕ) → z + z ≡ 2 * z
        twice z = omega arith

pub apart_most : (a b h : ℕ) → a ≤ b + h → b ≤ a + h → apart a b ≤ h
unfolding apart
apart_most a b h l m = omega arith

pub apart_over : (a b : ℕ) → a ≤ b + apart a b
unfolding apart
apart_over a b = omega arith

pub apart_under : (a b : ℕ) → b ≤ a + apart a b
unfolding apart
apart_under a b = omega arith

-- ---- products of signed numbers, as keys: x is s - s' from M, y is t - t'
product : (M x y s s' t t' : ℕ) → x + s' ≡ M + s → y + t' ≡ M + t
    → s * t + s' * t' + (M * x + M * y) ≡ s * t' + s' * t + (x * y + M * M)
product M x y s s' t t' p q =
    omega (arith, ap (λ z. z * y) p, ap (λ z. s * z) q, ap (λ z. s' * z) q, ap (λ z. M * z) p)

pub cancel : (k x y h : ℕ) → 0 < k → Close (k * x) (k * y) (k * h) → Close x y h
cancel k x y h P c = record {
  over = le_of_mul-le-mul_left (le_trans c.over (le_of_eq (sums y))) P;
  under = le_of_mul-le-mul_left (le_trans c.under (le_of_eq (sums x))) P;
}
  where
    sums : (z : ℕ) → k * z + k * h ≡ k * (z + h)
    sums z = omega arith

-- a fraction a - b known as c - d
pub moved : (k X M a b c d H : ℕ) → a + d ≡ b + c → Close (k * (X + b)) (k * (M + a)) H → Close (k * (X + d)) (k * (M + c)) H
moved k X M a b c d H e r = record {
  over = omega (arith, r.over, ap (λ z. k * z) e);
  under = omega (arith, r.under, ap (λ z. k * z) e);
}

module _ (f : Format) where
  -- the parts of a key
  parted : (k M : ℕ) → k + (M - k) ≡ M + (k - M)
  parted k M = omega arith

  module _ (x y : Float) (X : T (finite_number f x)) (Y : T (finite_number f y)) where
    -- differences and sums
    module _ (e : ℕ) (range : 2 ^ (prec f + suc e) ≤ mid f) where
      pub sub_close : Close (key f x) (key f y) (2 ^ (prec f + suc e))
          → Close (key f (sub f x y) + key f y) (mid f + key f x) (2 ^ e)
      sub_close h =
          let r = round_key_close f (key f x) (key f y) 1 e (zero-lt-suc 0) range (omega (arith, h.over))
          (omega (arith, h.under)) in
          rw (sub_key f x y X Y) (record { over = omega (arith, r.over); under = omega (arith, r.under) })

      pub add_close : Close (key f x + key f y) (mid f + mid f) (2 ^ (prec f + suc e))
          → Close (key f (add f x y) + mid f) (key f x + key f y) (2 ^ e)
      add_close h =
          let r = round_key_close f (key f x + key f y) (mid f + mid f) 1 e (zero-lt-suc 0) range (omega (arith, h.over))
          (omega (arith, h.under)) in
          rw (add_key f x y X Y) (record { over = omega (arith, r.over); under = omega (arith, r.under) })

    digits : half f ≤ 2 ^ (prec f - 1)
    digits = unfold half in le_refl (2 ^ (prec f - 1))

    -- as a share
    pub sub_share : apart (key f x) (key f y) ≤ mid f
        → Close (2 * half f * (key f (sub f x y) + key f y)) (2 * half f * (mid f + key f x)) (apart (key f x) (key f y))
    sub_share h =
        let r = round_key_error f (half f) digits (key f x) (key f y) 1 (apart (key f x) (key f y)) (zero-lt-suc 0) (inl refl)
        (apart_over (key f x) (key f y)) (apart_under (key f x) (key f y)) (le_trans h (le_of_eq (sym (mul-one (mid f))))) in
        rw (sub_key f x y X Y) (record { over = omega (arith, r.over); under = omega (arith, r.under) })

    pub add_share : (H : ℕ) → Close (key f x + key f y) (mid f + mid f) H → H ≤ mid f
        → Close (2 * half f * (key f (add f x y) + mid f)) (2 * half f * (key f x + key f y)) H
    add_share H h l =
        let r = round_key_error f (half f) digits (key f x + key f y) (mid f + mid f) 1 H (zero-lt-suc 0) (inl refl) h.over
        h.under (le_trans l (le_of_eq (sym (mul-one (mid f))))) in
        rw (add_key f x y X Y) (record { over = omega (arith, r.over); under = omega (arith, r.under) })

    -- products
    pub mul_share : (H : ℕ) → apart (key f x) (mid f) * apart (key f y) (mid f) ≤ H → half f * unit f ≤ H
        → H ≤ mid f * unit f
        → Close (2 * half f * (key f (mul f x y) * unit f + (mid f * key f x + mid f * key f y)))
        (2 * half f * (mid f * unit f + (key f x * key f y + mid f * mid f))) H
    unfolding apart
    mul_share H h k l =
        let s = positive_part f x in
        let s' = negative_part f x in
        let t = positive_part f y in
        let t' = negative_part f y in
        let r = round_key_error f (half f) digits (s * t + s' * t') (s * t' + s' * t) (unit f) H (unit_pos f) (inr k)
        (le_trans (over s s' t t') (bound (s * t' + s' * t) h)) (le_trans (under s s' t t') (bound (s * t + s' * t') h)) l in
        rw (mul_key f x y X Y)
        (moved (2 * half f) (round_key f (s * t + s' * t') (s * t' + s' * t) (unit f) * unit f) (mid f * unit f) (s * t + s' * t')
        (s * t' + s' * t) (key f x * key f y + mid f * mid f) (mid f * key f x + mid f * key f y) H
        (product (mid f) (key f x) (key f y) s s' t t' (parted (key f x) (mid f)) (parted (key f y) (mid f))) r)
      where
        over : (s s' t t' : ℕ) → s * t + s' * t' ≤ s * t' + s' * t + (s + s') * (t + t')
        over s s' t t' = omega arith

        under : (s s' t t' : ℕ) → s * t' + s' * t ≤ s * t + s' * t' + (s + s') * (t + t')
        under s s' t t' = omega arith

        bound : (z : ℕ) {w : ℕ} → w ≤ H → z + w ≤ z + H
        bound z h = omega arith

    -- a quotient by a positive value, its result at most h
    pub div_share : (h H : ℕ) → mid f < key f y → mid f ≤ key f (div f x y) + h → key f (div f x y) ≤ mid f + h → h < mid f
        → h * (key f y - mid f) ≤ H → half f * (key f y - mid f) ≤ H
        → Close (2 * half f * (key f (div f x y) * (key f y - mid f) + mid f * unit f))
        (2 * half f * (mid f * (key f y - mid f) + key f x * unit f)) H
    div_share h H y⁺ lo hi l q k =
        let e = div_key f x y X Y y⁺ in
        let c : 0 < key f y - mid f = omega arith in
        let r = round_key_error_of f (half f) digits (positive_part f x * unit f) (negative_part f x * unit f) (key f y - mid f) H c
        (inr k) h (rw e at lo) (rw e at hi) l q in
        rw e (moved (2 * half f)
        (round_key f (positive_part f x * unit f) (negative_part f x * unit f) (key f y - mid f) * (key f y - mid f))
        (mid f * (key f y - mid f)) (positive_part f x * unit f) (negative_part f x * unit f) (key f x * unit f) (mid f * unit f) H
        (times (positive_part f x) (negative_part f x) (key f x) (mid f) (unit f) (parted (key f x) (mid f))) r)
      where
        times : (s s' x M u : ℕ) → x + s' ≡ M + s → s * u + M * u ≡ s' * u + x * u
        times s s' x M u e = omega (arith, ap (λ z. z * u) e)

    pub mul_close : (e : ℕ) → 2 ^ (prec f + suc e) ≤ mid f
        → apart (key f x) (mid f) * apart (key f y) (mid f) ≤ 2 ^ (prec f + suc e) * unit f
        → Close (key f (mul f x y) * unit f + (mid f * key f x + mid f * key f y))
        (mid f * unit f + (key f x * key f y + mid f * mid f)) (2 ^ e * unit f)
    unfolding apart
    mul_close e range h =
        let s = positive_part f x in
        let s' = negative_part f x in
        let t = positive_part f y in
        let t' = negative_part f y in
        let r = round_key_close f (s * t + s' * t') (s * t' + s' * t) (unit f) e (unit_pos f) range
        (le_trans (over s s' t t') (bound (s * t' + s' * t) h)) (le_trans (under s s' t t') (bound (s * t + s' * t') h)) in
        let p = product (mid f) (key f x) (key f y) s s' t t' (parted (key f x) (mid f)) (parted (key f y) (mid f)) in
        rw (mul_key f x y X Y) (shift (round_key f (s * t + s' * t') (s * t' + s' * t) (unit f) * unit f) (mid f * unit f)
        (s * t + s' * t') (s * t' + s' * t) (key f x * key f y + mid f * mid f) (mid f * key f x + mid f * key f y)
        (2 ^ e * unit f) p r)
      where
        over : (s s' t t' : ℕ) → s * t + s' * t' ≤ s * t' + s' * t + (s + s') * (t + t')
        over s s' t t' = omega arith

        under : (s s' t t' : ℕ) → s * t' + s' * t ≤ s * t + s' * t' + (s + s') * (t + t')
        under s s' t t' = omega arith

        bound : (z : ℕ) {w : ℕ} → w ≤ 2 ^ (prec f + suc e) * unit f → z + w ≤ z + 2 ^ (prec f + suc e) * unit f
        bound z h = omega arith

        shift : (X M a b c d H : ℕ) → a + d ≡ b + c → Close (X + b) (M + a) H → Close (X + d) (M + c) H
        shift X M a b c d H e r = record { over = omega (arith, r.over); under = omega (arith, r.under) }

-- ---- a hypot, h of the smallest values: the exact root of N lies between h less e and h more e
pub record RootClose (N h e : ℕ) : Type 0 where
  pub least : (h - e) * (h - e) ≤ N
  pub most : N ≤ (h + e) * (h + e)

pub root_close : (f : Format) (N e : ℕ) → 2 ^ (prec f + suc e) ≤ mid f → N ≤ 2 ^ (prec f + suc e) * 2 ^ (prec f + suc e)
    → RootClose N (key f (root f N) - mid f) (2 ^ e)
root_close f N e range h =
    let B = 2 ^ (prec f + suc e) in
    let s = sticky_root N in
    let l : s ≤ 2 * (2 * B) = sticky_root_le N (2 * B) (le_trans (mul-le-mul_left 4 h) (le_of_eq (sym (double_square B)))) in
    let r = round_key_close f s 0 4 e (zero-lt-suc 3) range (omega arith) (omega arith) in
    let k = root_key f N in
    let p = root_not_negative f N in
    let c : Close (4 * (key f (root f N) - mid f)) s (4 * 2 ^ e) = back (key f (root f N)) (mid f) s (2 ^ e) p (rw (← k) at r) in
    record { least = least_of_lem (key f (root f N) - mid f) (2 ^ e) c; most = most_of (key f (root f N) - mid f) (2 ^ e) c }
  where
    back : (k M s e : ℕ) → M ≤ k → Close (k * 4 + 0) (M * 4 + s) (e * 4) → Close (4 * (k - M)) s (4 * e)
    back k M s e p r = record { over = omega (arith, r.over); under = omega (arith, r.under) }

    four : (m : ℕ) → 2 * m * (2 * m) ≤ 4 * N → m * m ≤ N
    four m h = omega (arith, double_square m)

    least_of_lem : (h e : ℕ) → Close (4 * h) (sticky_root N) (4 * e) → (h - e) * (h - e) ≤ N
    least_of_lem h e c =
        four (h - e) (ge_sticky_root N (2 * (h - e)) (let l : 2 * (2 * (h - e)) ≤ sticky_root N = omega (arith, c.over) in l))

    most_of : (h e : ℕ) → Close (4 * h) (sticky_root N) (4 * e) → N ≤ (h + e) * (h + e)
    most_of h e c =
        let m = le_sticky_root N (2 * (h + e)) (let l : sticky_root N ≤ 2 * (2 * (h + e)) = omega (arith, c.under) in l) in
        omega (arith, double_square (h + e))

pub hypot_close : (f : Format) (x y : Float) (e : ℕ) → T (finite_number f x) → T (finite_number f y) → 2 ^ (prec f + suc e) ≤ mid f
    → apart (key f x) (mid f) * apart (key f x) (mid f) + apart (key f y) (mid f) * apart (key f y) (mid f)
    ≤ 2 ^ (prec f + suc e) * 2 ^ (prec f + suc e)
    → RootClose (apart (key f x) (mid f) * apart (key f x) (mid f) + apart (key f y) (mid f) * apart (key f y) (mid f))
    (key f (hypot f x y) - mid f) (2 ^ e)
unfolding apart key_size
hypot_close f x y e X Y range h =
    rw (hypot_is f x y X Y) (root_close f (key_size f x * key_size f x + key_size f y * key_size f y) e range h)
