-- `section::refusals::refusal::numbers_refusal` meets its contract: what is beyond the limit is what 4 or 5 turns down.
use mathlib.Core.Path.{sym, ◌∙◌}
use Rattle.section.specs.profile.Refusals.{refusal}
use Rattle.section.proofs.profile.Refusals.Beyond.{none_refused, some_over}
use Rattle.section.proofs.refusals.refusal.numbers_refusal.Goals as goal

pub returns-then-not_finite_in : goal.returns-then-not_finite_in
unfolding refusal
returns-then-not_finite_in c = rw (← c.not_finite_in.ensures, c.if-not_finite_in.true)

pub returns-then-beyond_limit_in : goal.returns-then-beyond_limit_in
unfolding refusal
returns-then-beyond_limit_in c =
    let finite = sym c.not_finite_in.ensures ∙ c.if-not_finite_in.false in
    rw (finite, some_over _ (sym c.beyond_limit_in.ensures ∙ c.if-beyond_limit_in.true) finite)

pub returns : goal.returns
returns c = none_refused _ (sym c.beyond_limit_in.ensures ∙ c.if-beyond_limit_in.false)
