-- `loads::printing::seed_of` is its definition.
use borrow.Author.Tests.{eq-eqb, ne_eqb}
use Rattle.loads.specs.Printed.{seed_of}
use Rattle.loads.proofs.printing.seed_of.Goals as goal

pub returns-then-n-eq16 : goal.returns-then-n-eq16
unfolding seed_of
returns-then-n-eq16 c = rw (eq-eqb _ _ c.if-n-eq16.true) c.u64_at.ensures

pub returns : goal.returns
unfolding seed_of
returns c = rw (ne_eqb _ _ c.if-n-eq16.false)
