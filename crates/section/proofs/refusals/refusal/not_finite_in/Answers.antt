-- `section::refusals::refusal::not_finite_in` meets its contract: a list in parts.
use Rattle.section.proofs.profile.Refusals.AnyOf.{any_of_append}
use Rattle.section.proofs.refusals.refusal.not_finite_in.Goals as goal

pub returns-then-any_not_finite : goal.returns-then-any_not_finite
returns-then-any_not_finite c = rw (any_of_append, ← c.any_not_finite.ensures, c.if-any_not_finite.true)

pub returns-then-any_not_finite-2 : goal.returns-then-any_not_finite-2
returns-then-any_not_finite-2 c =
    rw (
      any_of_append,
      any_of_append,
      ← c.any_not_finite.ensures,
      c.if-any_not_finite.false,
      ← c.any_not_finite-2.ensures,
      c.if-any_not_finite-2.true,
    )

pub returns : goal.returns
returns c =
    rw (
      any_of_append,
      any_of_append,
      ← c.any_not_finite.ensures,
      c.if-any_not_finite.false,
      ← c.any_not_finite-2.ensures,
      c.if-any_not_finite-2.false,
      ← c.any_not_finite-3.ensures,
    )
