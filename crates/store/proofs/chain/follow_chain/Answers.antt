-- `store::chain::follow_chain`. One record of the chain is passed in a turn.
use native.Mathlib.Omega.{arith}
use Rattle.store.proofs.Following.{starts, turn_ends, turn_breaks, turn_goes_on, used_up, ended, stopped}
use borrow.Author.Rules.{rules}
use Rattle.store.proofs.chain.follow_chain.Goals as goal

pub loop-n-init : goal.loop-n-init
loop-n-init c = starts c.requires

pub returns-then-next-eq0 : goal.returns-then-next-eq0
returns-then-next-eq0 c =
    ended (turn_ends c.loop-n.invariant c.loop-n-test.true c.visit-next.ensures c.if-next-eq0.true) (search rules)

pub returns-then-is_bad : goal.returns-then-is_bad
returns-then-is_bad c =
    stopped (turn_breaks c.loop-n.invariant c.loop-n-test.true c.visit-next.ensures c.if-next-eq0.false c.is_bad.ensures c.if-is_bad.true)

pub loop-n-preserved : goal.loop-n-preserved
loop-n-preserved c =
    turn_goes_on c.loop-n.invariant c.loop-n-test.true c.visit-next.ensures c.if-next-eq0.false c.is_bad.ensures
    c.if-is_bad.false

pub returns-after-loop-n : goal.returns-after-loop-n
returns-after-loop-n c = stopped (used_up c.loop-n.invariant (omega arith))
