-- `store::edits::judging::space_answer` meets its contract.
use native.Mathlib.Omega.{arith}
use mathlib.Core.Path.{sym}
use lib.ListN.{length-take}
use Rattle.store.proofs.Handed.{handed_on}
use Rattle.store.proofs.edits.Good.{length_within}
use borrow.Author.Tests.{eq-eqb, ne_eqb}
use Rattle.store.specs.edits.Edits.{space_answer}
use Rattle.store.proofs.edits.judging.space_answer.Goals as goal

pub returns-then-space-ne20480 : goal.returns-then-space-ne20480
unfolding space_answer
returns-then-space-ne20480 c = rw (c.into.ensures, ne_eqb _ _ c.if-space-ne20480.true)

pub returns-in_err-length_answer : goal.returns-in_err-length_answer
unfolding space_answer
returns-in_err-length_answer c =
    rw (handed_on _ c.from_residual.ensures, eq-eqb _ _ c.if-space-ne20480.false, ← c.in_err-length_answer.ensures)

pub slice_bounds-read_store-end : goal.slice_bounds-read_store-end
slice_bounds-read_store-end c =
    simp length-take (omega (arith, length_within _ (sym c.in_ok-length_answer.ensures)))

pub returns : goal.returns
unfolding space_answer
returns c =
    rw (eq-eqb _ _ c.if-space-ne20480.false, ← c.in_ok-length_answer.ensures, ← c.read_store.ensures)
