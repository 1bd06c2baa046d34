-- `store::kinds::kinds_answer` meets its contract: what is left to look at gives the answer.
use mathlib.Core.Bool.{not}
use mathlib.Core.Path.{sym, ap, ◌∙◌}
use Rattle.store.proofs.Lists.{first_more, first_found, first_end}
use Rattle.store.proofs.kinds.kinds_answer.Goals as goal

pub loop-k-preserved : goal.loop-k-preserved
loop-k-preserved c =
    c.loop-k.invariant ∙ first_more _ _ _ _ c.loop-k-test.true (ap not (sym c.right_kind.ensures ∙ c.if-not-right_kind.false))

pub returns-then-not-right_kind : goal.returns-then-not-right_kind
returns-then-not-right_kind c =
    sym (c.loop-k.invariant ∙ first_found _ _ _ _ c.loop-k-test.true
    (ap not (sym c.right_kind.ensures ∙ c.if-not-right_kind.true)))

pub returns : goal.returns
returns c = sym (c.loop-k.invariant ∙ first_end _ _ _ _ c.loop-k-test.false)
