-- `store::chain::follow_chain`. One record of the chain is passed in a turn.
use Rattle.store.proofs.Following.{Following}
use Rattle.store.proofs.chain.follow_chain.Given as goal

abbrev pub invariant-loop-n : goal.invariant-loop-n
invariant-loop-n l = Following l.store l.order l.marks l.k l.n
