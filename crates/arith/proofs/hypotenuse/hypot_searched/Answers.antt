-- `arith::hypotenuse::hypot_searched`. 27 binades apart the larger operand is the root; nearer, the candidate that the search finds is its bits, or infinity's.
use Rattle.std.proofs.Common.{◌≡◌, ℕ, zero, suc, ◌<◌, refl, zero-lt-suc, rules}
use Rattle.arith.proofs.roots.Root.HypotCore.{any_far, any_shift, any_law, capped, nothing}
use Rattle.arith.proofs.hypotenuse.hypot_searched.Goals as goal

positive : (n : ℕ) → (n ≡ 0 → ⊥) → 0 < n
positive zero h = absurd (h refl)
positive (suc n) h = zero-lt-suc n

pub returns-then-d-ge27 : goal.returns-then-d-ge27
returns-then-d-ge27 c = any_far _ _ _ _ c.exponent-eb.ensures c.exponent-es.ensures
    c.requires c.if-d-ge27.true

pub returns-then-big-eq0 : goal.returns-then-big-eq0
returns-then-big-eq0 c = nothing _ _ c.if-big-eq0.true c.requires.ordered

pub hypot_significand-s-requires : goal.hypot_significand-s-requires
hypot_significand-s-requires c =
    let s = any_shift _ _ _ _ c.exponent-eb.ensures
    c.exponent-es.ensures c.requires.ordered in
    let p = positive _ c.if-big-eq0.false in
    search rules

pub returns : goal.returns
returns c = rw c.min.ensures (capped _ _ _ (any_law _ _ _ _ _ _ c.exponent-eb.ensures c.exponent-es.ensures
    c.requires.ordered (positive _ c.if-big-eq0.false) c.sticky-t.ensures c.hypot_significand-s.ensures))
