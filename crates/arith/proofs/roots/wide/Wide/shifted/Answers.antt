-- `arith::roots::wide::Wide::shifted`. The lower limb gets what the shift takes from the upper one.
use Rattle.std.proofs.Common.{◌≡◌, ℕ, ◌+◌, ◌-◌, ◌*◌, ◌/◌, ◌%◌, ◌^◌, ◌<◌, ◌≤◌, sym, ap, ◌∙◌, le_trans, le_of_eq, mul-le-mul_right, mul_assoc, div-lt_iff_lt-mul, arith, pow_pos, pow-add, shr-shr}
use Rattle.std.proofs.Math.Nat.{mod-lt, mul-mod_left}
use Rattle.std.proofs.lemmas.Nat.{mod-pow-add}
use native.Mathlib.Nat.{mul-add-div_right}
use lib.Pow.{shl-shr, mod-mod-pow}
use Rattle.arith.proofs.roots.wide.Wide.shifted.Goals as goal

-- 2^56 is 2^r * 2^s
powers : (r s : ℕ) → r + s ≡ 56 → 2 ^ 56 ≡ 2 ^ r * 2 ^ s
powers r s e = ap (λ (n : ℕ). 2 ^ n) (sym e) ∙ pow-add 2 r s

-- the upper part
upper : (h r s : ℕ) → r + s ≡ 56 → h * 2 ^ r / 2 ^ 56 ≡ h / 2 ^ s
upper h r s e = ap (λ (n : ℕ). h * 2 ^ r / 2 ^ n) (sym e) ∙ sym (shr-shr (h * 2 ^ r) r s) ∙ ap (λ (n : ℕ). n / 2 ^ s)
    (shl-shr h r)

whole : (h l r s : ℕ) → r + s ≡ 56 → (h * 2 ^ 56 + l) / 2 ^ s ≡ h * 2 ^ r + l / 2 ^ s
whole h l r s e =
    ap (λ (n : ℕ). (h * n + l) / 2 ^ s) (powers r s e)
    ∙ ap (λ (n : ℕ). (n + l) / 2 ^ s) (sym (mul_assoc h (2 ^ r) (2 ^ s)))
    ∙ mul-add-div_right (pow_pos s) (h * 2 ^ r) l

parts : (n : ℕ) → n ≡ n / 2 ^ 56 * 2 ^ 56 + n % 2 ^ 56
parts n = omega arith

law : (h l s : ℕ) → s ≤ 56
    → h / 2 ^ s * 2 ^ 56 + (h * 2 ^ (56 - s) % 2 ^ 64 % 2 ^ 56 + l / 2 ^ s) ≡ (h * 2 ^ 56 + l) / 2 ^ s
law h l s g =
    let e : (56 - s) + s ≡ 56 = omega arith in
    let u = upper h (56 - s) s e in
    let w = whole h l (56 - s) s e in
    let m = mod-mod-pow (h * 2 ^ (56 - s)) 8 56 in
    let p = parts (h * 2 ^ (56 - s)) in
    omega arith

-- the bits that come from above leave room for those of the lower limb
beside : (m l x r t : ℕ) → m ≡ x * r → (x + 1) * r ≤ t → l < r → m + l < t
beside m l x r t e h g = omega arith

room : (h l s : ℕ) → s ≤ 56 → l < 2 ^ 56 → h * 2 ^ (56 - s) % 2 ^ 64 % 2 ^ 56 + l / 2 ^ s < 2 ^ 56
room h l s g b =
    let r : ℕ = 56 - s in
    let q : ℕ = h * 2 ^ r / 2 ^ r % 2 ^ s in
    let split : 2 ^ 56 ≡ 2 ^ s * 2 ^ r = powers s r (omega arith) in
    let rest : h * 2 ^ r % 2 ^ r ≡ 0 = mul-mod_left h (2 ^ r) in
    let upper : h * 2 ^ r % 2 ^ 64 % 2 ^ 56 ≡ q * 2 ^ r = mod-mod-pow (h * 2 ^ r) 8 56
    ∙ ap (λ (n : ℕ). h * 2 ^ r % 2 ^ n) (let e : 56 ≡ s + r = omega arith in e) ∙ mod-pow-add (h * 2 ^ r) s r
    ∙ (let e : q * 2 ^ r + h * 2 ^ r % 2 ^ r ≡ q * 2 ^ r = omega arith in e) in
    let below : q + 1 ≤ 2 ^ s = let l : q < 2 ^ s = mod-lt (h * 2 ^ r / 2 ^ r) (pow_pos s) in omega arith in
    let least : l < 2 ^ r * 2 ^ s = omega arith in
    beside (h * 2 ^ r % 2 ^ 64 % 2 ^ 56) (l / 2 ^ s) q (2 ^ r) (2 ^ 56) upper
    (le_trans (mul-le-mul_right (2 ^ r) below) (le_of_eq (sym split))) ((div-lt_iff_lt-mul (pow_pos s)).1 least)

pub invariant_of-result : goal.invariant_of-result
invariant_of-result c = record { lo_small = room _ _ _ c.requires (omega arith) }

pub returns : goal.returns
returns c = law c.args.self.hi c.args.self.lo c.args.sh c.requires
