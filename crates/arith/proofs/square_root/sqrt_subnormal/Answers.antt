-- `arith::square_root::sqrt_subnormal`. The highest digit comes to 2^52 as b is multiplied by 2^s, which the exponent takes back.
use Rattle.std.proofs.Common.{◌≡◌, ℕ, suc, ◌+◌, ◌-◌, ◌*◌, ◌^◌, ◌<◌, ◌≤◌, sym, ap, ◌∙◌, le_trans, le_of_eq, lt_of_le_of_lt, lt_of_lt_of_le, lt_trans, mul-le-mul_right, mul-lt-mul_of_pos_right, mul_assoc, pow_pos, pow-add, arith}
use Rattle.std.proofs.lemmas.Nat.{leading_top}
use lib.Count.{count_leading_zeros}
use Rattle.arith.proofs.roots.Root.Digits.{exponent_lt}
use Rattle.arith.proofs.roots.Root.SqrtValue.{small_sqrt}
use Rattle.arith.specs.roots.Steps.{Subnormal}
use Rattle.arith.proofs.square_root.sqrt_subnormal.Goals as goal

-- z, the count of leading zeros, is that of a number below 2^52, and multiplied by 2^(z - 11) the number has 53 digits
record Raised (b z : ℕ) : Type 0 where
  enough : 11 ≤ z
  few : z < 64
  least : 2 ^ 52 ≤ b * 2 ^ (z - 11)
  most : b * 2 ^ (z - 11) < 2 ^ 53

raised : (b z j : ℕ) → b < 2 ^ 52 → z + suc j ≡ 64 → 2 ^ j ≤ b → b < 2 ^ suc j → Raised b z
raised b z j h e l m =
    let k : j < 52 = exponent_lt j 52 (lt_of_le_of_lt l h) in
    record {
      enough = omega arith;
      few = omega arith;
      least = le_trans (le_of_eq (ap (λ (n : ℕ). 2 ^ n) (let f : 52 ≡ j + (z - 11) = omega arith in f) ∙ pow-add 2 j (z - 11)))
          (mul-le-mul_right (2 ^ (z - 11)) l);
      most = lt_of_lt_of_le (mul-lt-mul_of_pos_right m (pow_pos (z - 11)))
          (le_of_eq (sym (pow-add 2 (suc j) (z - 11)) ∙ ap (λ (n : ℕ). 2 ^ n) (let f : suc j + (z - 11) ≡ 53 = omega arith in f)));
    }

found : (b : ℕ) → Subnormal b → Raised b (count_leading_zeros 64 b)
found b s = let t = leading_top 64 b s.positive (lt_trans s.small (omega arith)) in
    raised b (count_leading_zeros 64 b) t.0 s.small t.1 t.2 t.3

pub overflow_sub-s : goal.overflow_sub-s
overflow_sub-s c = (found _ c.requires).enough

taken_back : (b m s : ℕ) → s ≤ 1024 → m ≡ b * 2 ^ s → m * 2 ^ (1024 - s) ≡ b * 2 ^ 1024
taken_back b m s h e =
    ap (λ (n : ℕ). n * 2 ^ (1024 - s)) e
    ∙ mul_assoc b (2 ^ s) (2 ^ (1024 - s))
    ∙ ap (λ (n : ℕ). b * n) (sym (pow-add 2 s (1024 - s)))
    ∙ ap (λ (n : ℕ). b * 2 ^ n) (let f : s + (1024 - s) ≡ 1024 = omega arith in f)

pub sqrt_searched-requires : goal.sqrt_searched-requires
sqrt_searched-requires c =
    let r = found _ c.requires in
    let l = r.least in
    let m = r.most in
    let f = r.few in
    record {
      digits = record { least = omega arith; most = omega arith };
      exponent_least = omega arith;
      exponent_most = omega arith;
    }

pub returns : goal.returns
returns c =
    let r = found _ c.requires in
    let m = r.most in
    let f = r.few in
    small_sqrt _ _ _ _ c.requires.small
    (rw c.from.ensures (taken_back _ _ _ (omega arith) (omega arith)))
    c.sqrt_searched.ensures
