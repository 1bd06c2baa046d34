-- `store::store_edits::editing::add` meets its contract.
use native.Mathlib.Omega.{arith}
use mathlib.Core.Path.{sym, ◌∙◌}
use lib.ListN.{length-take}
use Rattle.store.proofs.edits.Good.{front_fits}
use Rattle.store.proofs.edits.Decided.{right_space, all_small, some_read, last_read, last_small, add_22, add_23, add_done}
use borrow.Author.Rules.{rules}
use Rattle.store.proofs.store_edits.editing.add.Goals as goal

pub slice_bounds-add_not_allowed-end : goal.slice_bounds-add_not_allowed-end
slice_bounds-add_not_allowed-end c =
    omega (arith, front_fits _ _ c.requires)

pub slice_bounds-add_not_allowed-end-2 : goal.slice_bounds-add_not_allowed-end-2
slice_bounds-add_not_allowed-end-2 c =
    simp length-take (omega (arith, front_fits _ _ c.requires))

pub returns-then-add_not_allowed : goal.returns-then-add_not_allowed
returns-then-add_not_allowed c =
    add_22 _ _ _ _ c.requires (sym c.add_not_allowed.ensures ∙ c.if-add_not_allowed.true)

pub slice_bounds-lowest-end : goal.slice_bounds-lowest-end
slice_bounds-lowest-end c =
    simp length-take (omega (arith, c.chain_of-count.ensures.1))

pub lowest-m-requires : goal.lowest-m-requires
lowest-m-requires c =
    let right = c.requires in
    (all_small _ _ right c.chain_of-count.ensures.0, (right_space _ _ right).2)

pub returns-then-m-ge512 : goal.returns-then-m-ge512
returns-then-m-ge512 c =
    add_23 _ _ _ _ c.requires (sym c.add_not_allowed.ensures ∙ c.if-add_not_allowed.false)
    c.chain_of-count.ensures.0 c.lowest-m.ensures c.if-m-ge512.true

pub overflow_sub-last : goal.overflow_sub-last
overflow_sub-last c =
    let read = c.chain_of-count in
    omega (arith, some_read _ _ read.new.order read.result c.requires read.ensures.0 (search rules))

pub length_with-requires : goal.length_with-requires
length_with-requires c =
    (right_space _ _ c.requires).1

pub try_add-requires : goal.try_add-requires
try_add-requires c = (
  (right_space _ _ c.requires).0,
  c.if-m-ge512.false,
  last_small _ _ c.chain_of-count.new.order c.chain_of-count.result c.requires c.chain_of-count.ensures.0 (search rules),
)

pub returns : goal.returns
returns c =
    add_done _ _ _ _ c.requires (sym c.add_not_allowed.ensures ∙ c.if-add_not_allowed.false)
    c.chain_of-count.ensures.0 c.lowest-m.ensures c.if-m-ge512.false
    (last_read _ _ c.chain_of-count.new.order c.chain_of-count.result c.requires c.chain_of-count.ensures.0
    (search rules))
    c.length_with.ensures c.try_add.ensures
