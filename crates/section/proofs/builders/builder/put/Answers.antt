-- `section::builders::builder::put` meets its contract.
use native.Mathlib.Omega.{arith}
use lib.ListN.{length-set}
use borrow.Author.Tests.{le-ltb, lt-ltb}
use Rattle.section.specs.builders.Steps.{written}
use Rattle.section.proofs.builders.builder.put.Goals as goal

pub bounds-space-i-then-at-limit : goal.bounds-space-i-then-at-limit
bounds-space-i-then-at-limit c = simp length-set (omega arith)

pub returns-then-at-limit : goal.returns-then-at-limit
unfolding written
returns-then-at-limit c = rw (lt-ltb _ _ c.if-at-limit.true)

pub returns-else-at-limit : goal.returns-else-at-limit
unfolding written
returns-else-at-limit c = rw (le-ltb _ _ c.if-at-limit.false)
