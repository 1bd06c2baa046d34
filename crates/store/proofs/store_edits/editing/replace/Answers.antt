-- `store::store_edits::editing::replace` meets its contract.
use native.Mathlib.Omega.{arith}
use mathlib.Core.Path.{sym, ◌∙◌}
use lib.ListN.{length-take}
use Rattle.store.proofs.edits.Good.{front_fits}
use Rattle.store.proofs.edits.Decided.{right_space, chained_small, replace_24, replace_22, replace_done}
use Rattle.store.proofs.store_edits.editing.replace.Goals as goal

pub slice_bounds-holds-end : goal.slice_bounds-holds-end
slice_bounds-holds-end c =
    simp length-take (omega (arith, c.chain_of-count.ensures.1))

pub returns-then-not-holds : goal.returns-then-not-holds
returns-then-not-holds c =
    replace_24 _ _ _ _ _ c.requires c.chain_of-count.ensures.0
    (sym c.holds.ensures ∙ c.if-not-holds.true)

pub slice_bounds-replace_not_allowed-end : goal.slice_bounds-replace_not_allowed-end
slice_bounds-replace_not_allowed-end c =
    omega (arith, front_fits _ _ c.requires)

pub slice_bounds-replace_not_allowed-end-2 : goal.slice_bounds-replace_not_allowed-end-2
slice_bounds-replace_not_allowed-end-2 c =
    simp length-take (omega (arith, front_fits _ _ c.requires))

pub returns-then-replace_not_allowed : goal.returns-then-replace_not_allowed
returns-then-replace_not_allowed c =
    replace_22 _ _ _ _ _ c.requires c.chain_of-count.ensures.0
    (sym c.holds.ensures ∙ c.if-not-holds.false)
    (sym c.replace_not_allowed.ensures ∙ c.if-replace_not_allowed.true)

pub try_replace-requires : goal.try_replace-requires
try_replace-requires c = (
  (right_space _ _ c.requires).0,
  chained_small _ _ c.requires c.chain_of-count.ensures.0 (sym c.holds.ensures ∙ c.if-not-holds.false),
)

pub returns : goal.returns
returns c =
    replace_done _ _ _ _ _ c.requires c.chain_of-count.ensures.0
    (sym c.holds.ensures ∙ c.if-not-holds.false)
    (sym c.replace_not_allowed.ensures ∙ c.if-replace_not_allowed.false)
    c.try_replace.ensures
