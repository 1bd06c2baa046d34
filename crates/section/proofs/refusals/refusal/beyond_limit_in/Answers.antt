-- `section::refusals::refusal::beyond_limit_in` meets its contract: a list in parts.
use Rattle.section.proofs.profile.Refusals.AnyOf.{any_of_append}
use Rattle.section.proofs.refusals.refusal.beyond_limit_in.Goals as goal

pub returns-then-any_beyond_limit : goal.returns-then-any_beyond_limit
returns-then-any_beyond_limit c = rw (any_of_append, ← c.any_beyond_limit.ensures, c.if-any_beyond_limit.true)

pub returns-then-any_beyond_limit-2 : goal.returns-then-any_beyond_limit-2
returns-then-any_beyond_limit-2 c =
    rw (
      any_of_append,
      any_of_append,
      ← c.any_beyond_limit.ensures,
      c.if-any_beyond_limit.false,
      ← c.any_beyond_limit-2.ensures,
      c.if-any_beyond_limit-2.true,
    )

pub returns : goal.returns
returns c =
    rw (
      any_of_append,
      any_of_append,
      ← c.any_beyond_limit.ensures,
      c.if-any_beyond_limit.false,
      ← c.any_beyond_limit-2.ensures,
      c.if-any_beyond_limit-2.false,
      ← c.any_beyond_limit-3.ensures,
    )
