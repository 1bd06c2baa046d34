-- `section::convex::convex::parted` meets its contract: one cross product is positive, and another negative.
use Rattle.section.specs.convex.Convex.{point_in_convex}
use Rattle.section.proofs.convex.Flags.{both_somewhere}
use Rattle.section.proofs.convex.convex.parted.Goals as goal

pub returns-then-first : goal.returns-then-first
unfolding point_in_convex
returns-then-first c =
    λ t. both_somewhere _ _ _ _ _ c.requires.0 c.requires.1
    (rw (← c.orient_at-first.ensures) c.if-first.true) (rw (← c.orient_at-second.ensures) t)

pub returns-then-second : goal.returns-then-second
unfolding point_in_convex
returns-then-second c =
    λ t. both_somewhere _ _ _ _ _ c.requires.1 c.requires.0
    (rw (← c.orient_at-second.ensures) c.if-second.true) (rw (← c.orient_at-first.ensures) t)
