-- `store::edits::allowing::add_not_allowed` meets its contract.
use Rattle.store.specs.edits.Edits.{not_allowed}
use Rattle.store.proofs.edits.allowing.add_not_allowed.Goals as goal

pub returns-in-Setter : goal.returns-in-Setter
unfolding not_allowed
returns-in-Setter c = rw c.in-Setter.is

pub returns-in-Operator : goal.returns-in-Operator
unfolding not_allowed
returns-in-Operator c = rw (c.in-Operator.is, ← c.is_kind.ensures)
