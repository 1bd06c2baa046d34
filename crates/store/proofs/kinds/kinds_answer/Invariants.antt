-- `store::kinds::kinds_answer` meets its contract: what is left to look at gives the answer.
use mathlib.Core.Path.{◌≡◌}
use lib.ListN.{drop}
use Rattle.store.specs.Kinds.{kinds_answer}
use Rattle.store.proofs.kinds.kinds_answer.Given as goal

abbrev pub invariant-loop-k : goal.invariant-loop-k
invariant-loop-k l = kinds_answer l.store l.order ≡ kinds_answer l.store (drop l.k-index l.order)
