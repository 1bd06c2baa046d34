-- `section::refusals::refusal::any_number` meets its contract: what is not yet tried decides for the whole list.
use mathlib.Core.Path.{refl, sym, ◌∙◌}
use Rattle.section.proofs.profile.Refusals.AnyOf.{any_of_more, any_of_at, any_of_end}
use Rattle.section.proofs.refusals.refusal.any_number.Goals as goal

pub loop-x-init : goal.loop-x-init
loop-x-init g c = λ t h. refl

pub returns-then-test : goal.returns-then-test
returns-then-test g c = λ t h.
    any_of_at _ _ _ (c.loop-x.invariant t h) c.loop-x-test.true (sym (h _ _ c.test.ensures) ∙ c.if-test.true)

pub loop-x-preserved : goal.loop-x-preserved
loop-x-preserved g c = λ t h.
    any_of_more _ _ _ (c.loop-x.invariant t h) c.loop-x-test.true (sym (h _ _ c.test.ensures) ∙ c.if-test.false)

pub returns : goal.returns
returns g c = λ t h. any_of_end _ _ _ (c.loop-x.invariant t h) c.loop-x-test.false
