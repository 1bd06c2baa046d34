-- Zero in the steps of a placement: x - x is +0 for every finite x, and +0 times a count, and that divided by a count above 0,
-- is +0 again. By the one value of size 0.
use Prim.Native.Nat.{ℕ, suc, ◌+◌, ◌*◌, ◌-◌, ◌^◌, ◌<◌, ◌≤◌}
use native.Mathlib.Nat.{le_refl, mul-pos, zero-mul}
use native.Mathlib.Omega.{arith}
use mathlib.Core.Bool.{Bool, true, false}
use mathlib.Core.Logic.{inl, inr}
use mathlib.Core.Path.{◌≡◌, refl, ap, subst, sym, ◌∙◌}
use borrow.Author.Tests.{le-ltb, ne_eqb}
use lib.Dec.{T, ltb}
use lib.Pow.{pow_pos}
use lib.IntN.{ℤ, pos}
use lib.Ieee.{Float, Format, nan, inf, fin, binary64, down, emax, fits, low, prec, up}
use lib.Ieee.{add, div, mul, neg, of_bits, of_int, round, sub, sum}
use lib.Ieee.Back.{round_whole}
use lib.Ieee.Exact.{HasValue, round_exact}
use lib.Ieee.Fits.{down_pos, round-fits, up_pos}
use Rattle.arith.specs.F64.{◌⊕◌, ◌⊖◌, ◌⊗◌, ◌⊘◌, 𝟘}
use Rattle.arith.specs.Num.{is_finite}
use Rattle.arith.proofs.Laws.Exact.{value_unique}
use Rattle.arith.proofs.roots.Numbers.{decide}
use Rattle.bodies.specs.moves.Placement.{offset}

abbrev nought : Float
nought = fin false 0 (pos 0)

no_size : (a c d : ℕ) → 0 < c → a * c ≡ 0 * d → a ≡ 0
no_size a c d C e =
    elim (decide a 0) [
      | inl h ↦ omega (arith, h)
      | inr h ↦ absurd (let p = mul-pos h C in let q = e ∙ zero-mul d in omega (arith, p, q))
    ]

-- of size 0, over whichever denominator
any_denominator : (x : Float) (s : Bool) (c b : ℕ) → 0 < c → HasValue x s 0 c → HasValue x s 0 b
any_denominator nan s c b C h = h
any_denominator (inf t) s c b C h = h
any_denominator (fin t m e) s c b C h =
    (h.0, rw (no_size (m * up e) c (down e) C h.1, zero-mul b, zero-mul (down e)))

-- nothing times anything
nothing : (a b c : ℕ) → 0 * a * b ≡ 0 * c
nothing a b c = omega arith

round_nought : (f : Format) (num den : ℕ) → num ≡ 0 → 0 < den → T (fits f nought) → round f false num den ≡ nought
round_nought f num den e D z =
    ap (λ (a : ℕ). round f false a den) e
    ∙ value_unique f (round f false 0 den) nought false 0 (round-fits f false 0 den) z
    (any_denominator (round f false 0 den) false den (2 ^ low f) D exact) (refl, nothing (up (pos 0)) (2 ^ low f) (down (pos 0)))
  where
    exact : HasValue (round f false 0 den) false 0 den
    exact =
        round_exact f false 0 den 0 0 D (pow_pos (prec f))
        (subst (λ (a : ℕ). a < 2 ^ (low f + suc (emax f))) (sym (zero-mul (2 ^ 0))) (pow_pos (low f + suc (emax f))))
        (zero-mul (2 ^ low f) ∙ sym (nothing (2 ^ 0) den 1) ∙ refl)

nought_fits : T (fits binary64 nought)
unfolding fits
nought_fits = tt

-- ---- the operations
is_nought : 𝟘 ≡ nought
unfolding of_bits
is_nought = refl

same : (a : ℕ) → ltb a a ≡ false
same a = le-ltb a a (le_refl a)

less_itself : (a : ℕ) (e : ℤ) → round binary64 false (a - a) (down e * down e) ≡ nought
less_itself a e =
    round_nought binary64 (a - a) (down e * down e) (omega arith) (mul-pos (down_pos e) (down_pos e)) nought_fits

sub_itself : (x : Float) → T (is_finite x) → x ⊖ x ≡ nought
unfolding is_finite sub add neg sum
sub_itself nan h = absurd h
sub_itself (inf s) h = absurd h
sub_itself (fin true m e) h = rw (same (m * up e * down e)) (less_itself (m * up e * down e) e)
sub_itself (fin false m e) h = rw (same (m * up e * down e)) (less_itself (m * up e * down e) e)

true_false : {A : Type 0} → true ≡ false → A
true_false e = absurd (subst T e tt)

nought_times : (x : Float) (n : ℕ) → HasValue x false n 1 → nought ⊗ x ≡ nought
unfolding mul
nought_times nan n h = absurd h
nought_times (inf s) n h = absurd h
nought_times (fin true m e) n h = true_false h.0
nought_times (fin false m e) n h =
    round_nought binary64 (0 * up (pos 0) * (m * up e)) (down (pos 0) * down e) (nothing (up (pos 0)) (m * up e) 0)
    (mul-pos (down_pos (pos 0)) (down_pos e)) nought_fits

nought_over : (x : Float) (n : ℕ) → 0 < n → HasValue x false n 1 → nought ⊘ x ≡ nought
unfolding div
nought_over nan n N h = absurd h
nought_over (inf s) n N h = absurd h
nought_over (fin true m e) n N h = true_false h.0
nought_over (fin false m e) n N h =
    rw (ne_eqb m 0 (λ z. omega (arith, size, z)))
    (round_nought binary64 (0 * up (pos 0) * down e) (m * up e * down (pos 0)) (nothing (up (pos 0)) (down e) 0)
    (mul-pos (mul-pos size (up_pos e)) (down_pos (pos 0))) nought_fits)
  where
    size : 0 < m
    size =
        elim (decide m 0) [
          | inl l ↦ absurd (none l)
          | inr l ↦ l
        ]
      where
        none : m ≤ 0 → ⊥
        none l =
            let p : 0 < n * down e = mul-pos N (down_pos e) in
            let z : m ≡ 0 = omega (arith, l) in
            let q : m * up e * 1 ≡ 0 = rw z (nothing (up e) 1 0) in
            let k = h.1 in
            omega (arith, p, q, k)

-- ---- the offset between equal ends: start + 0
pub offset_still : (x : Float) → T (is_finite x) → (n i : ℕ) → 0 < n → n ≤ 2 ^ 53 → i ≤ 2 ^ 53 → offset x x n i ≡ x ⊕ 𝟘
unfolding of_int
offset_still x X n i N l k =
    ap (λ (y : Float). x ⊕ y)
    (ap (λ (y : Float). (y ⊗ round binary64 false i 1) ⊘ round binary64 false n 1) (sub_itself x X)
    ∙ ap (λ (y : Float). y ⊘ round binary64 false n 1)
    (nought_times (round binary64 false i 1) i (round_whole binary64 false i k))
    ∙ nought_over (round binary64 false n 1) n N (round_whole binary64 false n l)
    ∙ sym is_nought)
