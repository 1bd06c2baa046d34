-- `store::reader::radii::below_axis` meets its contract.
use Rattle.store.specs.Radii.{below_axis}
use Rattle.store.proofs.reader.radii.below_axis.Goals as goal

pub returns-then-is_kind : goal.returns-then-is_kind
unfolding below_axis
returns-then-is_kind c = rw (← c.if-is_kind.ensures, ← c.number_of.ensures)

pub returns-else-is_kind : goal.returns-else-is_kind
unfolding below_axis
returns-else-is_kind c = rw (c.if-is_kind.false, ← c.if-is_kind.ensures)
