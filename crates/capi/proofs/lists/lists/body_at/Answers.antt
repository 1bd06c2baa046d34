-- `capi::lists::lists::body_at` meets its contract.
use borrow.Author.Tests.{eq-eqb, ne_eqb}
use Rattle.capi.proofs.lists.lists.body_at.Goals as goal

pub returns-then-kind-eq2 : goal.returns-then-kind-eq2
returns-then-kind-eq2 c = rw (eq-eqb _ _ c.if-kind-eq2.true, ← c.sphere_at.ensures)

pub returns-then-kind-eq3 : goal.returns-then-kind-eq3
returns-then-kind-eq3 c = rw (ne_eqb _ _ c.if-kind-eq2.false, eq-eqb _ _ c.if-kind-eq3.true, ← c.box_at.ensures)

pub returns : goal.returns
returns c = rw (ne_eqb _ _ c.if-kind-eq2.false, ne_eqb _ _ c.if-kind-eq3.false, ← c.cylinder_at.ensures)
