-- Which digits of a square are lost when it is shifted.
use Rattle.std.proofs.Common.{◌≡◌, ℕ, ◌+◌, ◌-◌, ◌*◌, ◌/◌, ◌%◌, ◌^◌, ◌<◌, ◌≤◌, Bool, true, false, not, eqb, sym, refl, ap, ◌∙◌, inl, inr, arith}
use Rattle.std.proofs.lemmas.Bool.{eqb-false, eqb-true, true≢false}
use lib.Pow.{mod-mod-pow}
use Rattle.arith.proofs.roots.Numbers.{decide}
use Rattle.arith.specs.roots.Steps.{sq, Sticky, whole}
use Rattle.arith.specs.declared.roots.wide.Wide.{Wide}

-- the square is h * 2 ^ 56 + l: the digits that are lost are those of l
lost : (m d h l : ℕ) → d < 27 → l < 2 ^ 56 → h * 2 ^ 56 + l ≡ 2 * m * (2 * m)
    → sq (2 * m) % 2 ^ (2 * d) ≡ l % 2 ^ (2 * d)
lost m d h l D L e =
    ap (λ (x : ℕ). x % 2 ^ (2 * d)) (sym e)
    ∙ sym (mod-mod-pow (h * 2 ^ 56 + l) (56 - 2 * d) (2 * d))
    ∙ ap (λ (x : ℕ). (h * 2 ^ 56 + l) % 2 ^ x % 2 ^ (2 * d)) (let x : 56 - 2 * d + 2 * d ≡ 56 = omega arith in x)
    ∙ ap (λ (x : ℕ). x % 2 ^ (2 * d)) (let x : (h * 2 ^ 56 + l) % 2 ^ 56 ≡ l = omega arith in x)

pub kept_back : (l s : ℕ) → l < 2 ^ 56 → l / 2 ^ s * 2 ^ s % 2 ^ 64 ≡ l / 2 ^ s * 2 ^ s
kept_back l s h = let x : l / 2 ^ s * 2 ^ s ≤ l = native.Mathlib.Nat.div-mul-le_self l (2 ^ s) in go (l / 2 ^ s * 2 ^ s)
    (omega arith)
  where
    go : (x : ℕ) → x < 2 ^ 56 → x % 2 ^ 64 ≡ x
    go x h = omega arith

pub sticky_told : (m d : ℕ) (q : Wide) → d < 27 → whole q ≡ 2 * m * (2 * m)
    → Sticky m d (not (eqb (q.lo / 2 ^ (2 * d) * 2 ^ (2 * d) % 2 ^ 64) q.lo))
sticky_told m d q D s = told (eqb (q.lo / 2 ^ (2 * d) * 2 ^ (2 * d) % 2 ^ 64) q.lo) refl
  where
    told : (b : Bool) → eqb (q.lo / 2 ^ (2 * d) * 2 ^ (2 * d) % 2 ^ 64) q.lo ≡ b → Sticky m d (not b)
    told true e =
        let z = eqb-true _ _ e in
        let a = lost m d q.hi q.lo D q.lo_small s in
        let b = lib.Pow.split q.lo (2 * d) in
        let c = kept_back q.lo (2 * d) q.lo_small in
        record { exact = λ x. omega arith; more = λ x. absurd (true≢false (sym x)) }
    told false e =
        let z = eqb-false _ _ e in
        let a = lost m d q.hi q.lo D q.lo_small s in
        let b = lib.Pow.split q.lo (2 * d) in
        let c = kept_back q.lo (2 * d) q.lo_small in
        let n : 0 < q.lo % 2 ^ (2 * d) = elim (decide (q.lo % 2 ^ (2 * d)) 0) [ inl x ↦ absurd (z (omega arith)) | inr x ↦ x ] in
        record { exact = λ x. absurd (true≢false x); more = λ x. omega arith }
