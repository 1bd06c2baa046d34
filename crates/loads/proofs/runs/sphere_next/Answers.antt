-- `loads::runs::sphere_next` is its definition.
use native.Mathlib.Omega.{arith}
use borrow.Author.Tests.{eq-eqb, ne_eqb}
use Rattle.loads.specs.Load.{sphere_next}
use Rattle.loads.proofs.runs.sphere_next.Goals as goal

pub returns-then-j-eq31 : goal.returns-then-j-eq31
unfolding sphere_next
returns-then-j-eq31 c = rw (eq-eqb _ _ c.if-j-eq31.true)

pub returns : goal.returns
unfolding sphere_next
returns c = rw (ne_eqb _ _ c.if-j-eq31.false) (omega arith)
