-- `section::convex::convex::share_a_sign` meets its contract: each flag says whether a cross product of an edge below k
-- lies on its side, and not both are set.
use native.Mathlib.Omega.{arith}
use mathlib.Core.Path.{refl}
use Rattle.section.specs.profile.Vertices.{any}
use Rattle.section.specs.convex.Convex.{point_in_convex}
use Rattle.section.proofs.convex.Flags.{flag_more, both_set, not_both_set}
use Rattle.section.proofs.convex.convex.share_a_sign.Goals as goal

pub loop-k-init : goal.loop-k-init
unfolding any
loop-k-init c = (refl, refl, refl)

pub returns-then-left-right : goal.returns-then-left-right
unfolding point_in_convex
returns-then-left-right c =
    let before = c.loop-k.invariant in
    both_set _ _ _ _
    (flag_more _ _ before.0 (rw c.orient_at-cross.ensures))
    (flag_more _ _ before.1 (rw c.orient_at-cross.ensures))
    (omega arith)
    c.if-left-right.true

pub loop-k-preserved : goal.loop-k-preserved
loop-k-preserved c =
    let before = c.loop-k.invariant in (
      flag_more _ _ before.0 (rw c.orient_at-cross.ensures),
      flag_more _ _ before.1 (rw c.orient_at-cross.ensures),
      c.if-left-right.false,
    )

pub returns : goal.returns
unfolding point_in_convex
returns c =
    let inv = c.loop-k.invariant in
    not_both_set _ _ _ _ inv.0 inv.1 (omega arith) inv.2
