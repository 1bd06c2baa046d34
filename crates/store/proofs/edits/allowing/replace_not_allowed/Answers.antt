-- `store::edits::allowing::replace_not_allowed` meets its contract.
use borrow.Author.Tests.{eq-eqb, ne_eqb}
use Rattle.store.specs.edits.Edits.{not_allowed}
use Rattle.store.proofs.edits.allowing.replace_not_allowed.Goals as goal

pub returns-in-Setter : goal.returns-in-Setter
unfolding not_allowed
returns-in-Setter c = rw c.in-Setter.is

pub returns-then-k-eq0 : goal.returns-then-k-eq0
unfolding not_allowed
returns-then-k-eq0 c = rw (c.in-Operator.is, eq-eqb _ _ c.if-k-eq0.true)

pub returns-then-is_kind : goal.returns-then-is_kind
unfolding not_allowed
returns-then-is_kind c =
    rw (c.in-Operator.is, ne_eqb _ _ c.if-k-eq0.false, c.if-is_kind.true, ← c.if-is_kind.ensures)

pub returns-then-next_of : goal.returns-then-next_of
unfolding not_allowed
returns-then-next_of c =
    rw (
      c.in-Operator.is,
      ne_eqb _ _ c.if-k-eq0.false,
      ← c.if-is_kind.ensures,
      ← c.next_of.ensures,
      ← c.next_of-else-is_kind.ensures,
      ne_eqb _ _ c.if-next_of.true,
    )

pub returns-else-next_of : goal.returns-else-next_of
unfolding not_allowed
returns-else-next_of c =
    rw (
      c.in-Operator.is,
      ne_eqb _ _ c.if-k-eq0.false,
      ← c.if-is_kind.ensures,
      ← c.next_of.ensures,
      ← c.next_of-else-is_kind.ensures,
      eq-eqb _ _ c.if-next_of.false,
    ) c.is_kind-else-next_of.ensures
