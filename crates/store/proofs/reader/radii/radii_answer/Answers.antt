-- `store::reader::radii::radii_answer` meets its contract: what is left to look at gives the answer.
use mathlib.Core.Path.{sym, ◌∙◌}
use Rattle.store.proofs.Lists.{first_more, first_found, first_end}
use Rattle.store.proofs.reader.radii.radii_answer.Goals as goal

pub loop-k-preserved : goal.loop-k-preserved
loop-k-preserved c =
    c.loop-k.invariant ∙ first_more _ _ _ _ c.loop-k-test.true (sym c.below_axis.ensures ∙ c.if-below_axis.false)

pub returns-then-below_axis : goal.returns-then-below_axis
returns-then-below_axis c =
    sym (c.loop-k.invariant ∙ first_found _ _ _ _ c.loop-k-test.true (sym c.below_axis.ensures ∙ c.if-below_axis.true))

pub returns : goal.returns
returns c = sym (c.loop-k.invariant ∙ first_end _ _ _ _ c.loop-k-test.false)
