-- `arith::hypotenuse::hypot_tested`. 27 binades apart the larger operand is the root; nearer, what passes the test is.
use Rattle.std.proofs.Common.{◌≡◌, ℕ, ◌+◌, ◌-◌, ◌%◌, ◌^◌, ◌<◌, ◌≤◌, zero-le, arith}
use Rattle.arith.proofs.roots.Root.HypotCore.{far_bits, fast_binade}
use Rattle.arith.proofs.hypotenuse.hypot_tested.Goals as goal

-- what is taken away and wraps, put back
back : (a b : ℕ) → a < 2 ^ 64 → b ≤ 2 ^ 64 → ((a + (2 ^ 64 - b)) % 2 ^ 64 + b) % 2 ^ 64 ≡ a
back a b h k = omega arith

pub returns-then-d-gt26 : goal.returns-then-d-gt26
returns-then-d-gt26 c = far_bits _ _
    (record { at_least = zero-le; ordered = c.requires.1.ordered; fine = omega arith }) (omega arith)

pub returns-then-r-le-T53 : goal.returns-then-r-le-T53
returns-then-r-le-T53 c = fast_binade _ _ _ _ _ _ _ c.requires.1 (omega arith)
    (back _ _ (omega arith) (omega arith)) (omega arith) c.scaled-aa.ensures c.scaled-bb.ensures c.in_ok-r.ensures
    c.if-r-gt-T52.true c.if-r-le-T53.true
