-- `store::reader::radii::radii_answer` meets its contract: what is left to look at gives the answer.
use mathlib.Core.Path.{◌≡◌}
use lib.ListN.{drop}
use Rattle.store.specs.Radii.{radii_answer}
use Rattle.store.proofs.reader.radii.radii_answer.Given as goal

abbrev pub invariant-loop-k : goal.invariant-loop-k
invariant-loop-k l = radii_answer l.store l.order ≡ radii_answer l.store (drop l.k-index l.order)
