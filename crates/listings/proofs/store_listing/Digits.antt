-- Numbers as digits: one digit more in front of the last, how many there are, and the bits of a float.
use Prim.Native.Nat.{ℕ, zero, suc, ◌+◌, ◌-◌, ◌/◌, ◌%◌, ◌^◌, ◌<◌, ◌≤◌}
use native.Mathlib.Nat.{pow-suc}
use native.Mathlib.Omega.{arith}
use mathlib.Core.Bool.{Bool, true, false, cond}
use mathlib.Core.List.{List, [], ◌∷◌, ◌++◌}
use mathlib.Core.Logic.{⊎_elim}
use mathlib.Core.Path.{◌≡◌, refl, ap}
use lib.ListN.{length, length-append}
use lib.Seq.{length-sets}
use lib.Dec.{ltb}
use lib.Ieee.{Float, binary64, eq, of_bits, to_bits}
use borrow.Author.Tests.{lt-ltb, le-ltb, ltb-false}
use Rattle.arith.specs.F64.{𝟘}
use Rattle.arith.proofs.roots.Numbers.{decide}
use Rattle.arith.proofs.roots.Pattern.Special.{unlike_itself}
use Rattle.listings.specs.store_listing.Text.{digit, decimal_at_most, decimal, hex, bits}
use Rattle.listings.specs.store_listing.Steps.{Written}
use Rattle.listings.proofs.store_listing.Writing.{room_first, room_next, nothing_written}

-- ---- hexadecimal
pub hex_step : (k n : ℕ) → (k ≡ 0 → ⊥) → hex k n ≡ hex (k - 1) (n / 16) ++ (digit (n % 16) ∷ [])
unfolding hex
hex_step zero n h = absurd (h refl)
hex_step (suc k) n h = rw one_less
  where
    one_less : suc k - 1 ≡ k
    one_less = omega arith

pub length_hex : (k n : ℕ) → length (hex k n) ≡ k
unfolding hex
length_hex zero n = refl
length_hex (suc k) n = omega (arith, length-append (hex k (n / 16)) (digit (n % 16) ∷ []), length_hex k (n / 16))

-- ---- decimal: any bound from n on gives the same digits
abbrev tens : ℕ → List ℕ → List ℕ
tens n front = cond (ltb n 10) (digit n ∷ []) (front ++ (digit (n % 10) ∷ []))

same_tens : (n : ℕ) {l m : List ℕ} → (10 ≤ n → l ≡ m) → tens n l ≡ tens n m
same_tens n {l} {m} h = go (ltb n 10) refl
  where
    go : (small : Bool) → ltb n 10 ≡ small
        → cond small (digit n ∷ []) (l ++ (digit (n % 10) ∷ [])) ≡ cond small (digit n ∷ []) (m ++ (digit (n % 10) ∷ []))
    go true e = refl
    go false e = rw (h (ltb-false n 10 e))

same_digits : (j k n : ℕ) → n ≤ j → n ≤ k → decimal_at_most j n ≡ decimal_at_most k n
unfolding decimal_at_most
same_digits zero zero n hj hk = refl
same_digits zero (suc k) n hj hk = rw (lt-ltb n 10 (omega arith))
same_digits (suc j) zero n hj hk = rw (lt-ltb n 10 (omega arith))
same_digits (suc j) (suc k) n hj hk =
    same_tens n (λ large. same_digits j k (n / 10) (omega arith) (omega arith))

pub decimal_one : (n : ℕ) → n < 10 → decimal n ≡ digit n ∷ []
unfolding decimal decimal_at_most
decimal_one zero h = refl
decimal_one (suc n) h = rw (lt-ltb (suc n) 10 h)

pub decimal_step : (n : ℕ) → 10 ≤ n → decimal n ≡ decimal (n / 10) ++ (digit (n % 10) ∷ [])
unfolding decimal decimal_at_most
decimal_step zero h = absurd (omega arith)
decimal_step (suc n) h =
    rw (le-ltb (suc n) 10 h, same_digits n (suc n / 10) (suc n / 10) (omega arith) (omega arith))

-- ---- how many digits
pub length_one : (n : ℕ) → n < 10 → length (decimal n) ≡ 1
length_one n h = ap length (decimal_one n h)

pub length_step : (n : ℕ) → 10 ≤ n → length (decimal n) ≡ length (decimal (n / 10)) + 1
length_step n h =
    omega (arith, ap length (decimal_step n h), length-append (decimal (n / 10)) (digit (n % 10) ∷ []))

-- at most k digits below 10 ^ k, and at least one
pub few_digits : (k n : ℕ) → n < 10 ^ suc k → length (decimal n) ≤ suc k
few_digits zero n h = omega (arith, length_one n h)
few_digits (suc k) n h =
    ⊎_elim
    (λ (large : 10 ≤ n).
    omega (arith, length_step n large, few_digits k (n / 10) (omega (arith, pow-suc 10 (suc k)))))
    (λ (small : n < 10). omega (arith, length_one n small))
    (decide 10 n)

pub some_digit : (n : ℕ) → 1 ≤ length (decimal n)
some_digit n =
    ⊎_elim
    (λ (large : 10 ≤ n). omega (arith, length_step n large))
    (λ (small : n < 10). omega (arith, length_one n small))
    (decide 10 n)

-- ---- room for the digits
module _ (at n : ℕ) {most : ℕ} (room : at + length (decimal n) ≤ most) where
  pub room_one : n < 10 → at < most
  room_one h = omega (arith, ap length (decimal_one n h))

  pub room_rest : 10 ≤ n → at + length (decimal (n / 10)) ≤ most
  room_rest h = room_first at (decimal (n / 10)) (digit (n % 10) ∷ []) (rw (decimal_step n h) at room)

pub room_last :
    {before mid : List ℕ} {at m : ℕ} (n : ℕ) → at + length (decimal n) ≤ length before → 10 ≤ n
    → Written before at (decimal (n / 10)) mid m → m < length mid
room_last n room h first = omega (arith, room_next first (digit (n % 10) ∷ []) (rw (decimal_step n h) at room))

pub hex_room :
    {before mid : List ℕ} {at m : ℕ} (k n : ℕ) → at + k ≤ length before → (k ≡ 0 → ⊥)
    → Written before at (hex (k - 1) n) mid m → m < length mid
hex_room {before} {mid} {at} k n room h first =
    omega (arith, first.end, length_hex (k - 1) n, ap length first.text, length-sets before at (hex (k - 1) n))

pub hex_none : (l : List ℕ) (at k n : ℕ) → k ≡ 0 → Written l at (hex k n) l at
unfolding hex
hex_none l at k n h = rw h (nothing_written l at)

-- ---- the bits that are printed
pub bits_zero : to_bits binary64 𝟘 ≡ 0
unfolding to_bits of_bits
bits_zero = refl

pub bits_nan : (x : Float) → eq x x ≡ false → to_bits binary64 x ≡ 0x7ff8000000000000
unfolding to_bits
bits_nan x h = rw (unlike_itself x h)

pub length_bits : (x : Float) → length (bits x) ≡ 16
unfolding bits
length_bits x = length_hex 16 (to_bits binary64 (cond (eq x 𝟘) 𝟘 x))
