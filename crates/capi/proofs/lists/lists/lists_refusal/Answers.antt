-- `capi::lists::lists::lists_refusal` meets its contract.
use borrow.Author.Tests.{le-leb, lt-leb}
use Rattle.section.specs.profile.Refusals.{refusal}
use Rattle.capi.proofs.lists.BodiesRead.{uneven, other_count, sevens}
use Rattle.capi.proofs.lists.lists.lists_refusal.Goals as goal

pub returns-then-numbers-ne0 : goal.returns-then-numbers-ne0
unfolding refusal
returns-then-numbers-ne0 c = rw (uneven _ _ c.if-numbers-ne0.true)

pub returns-then-numbers-kinds : goal.returns-then-numbers-kinds
unfolding refusal
returns-then-numbers-kinds c = rw (other_count _ _ c.if-numbers-kinds.true)

pub returns-then-kinds-gt64 : goal.returns-then-kinds-gt64
unfolding refusal
returns-then-kinds-gt64 c = rw (sevens _ _ c.if-numbers-ne0.false c.if-numbers-kinds.false, lt-leb _ 64 c.if-kinds-gt64.true)

pub returns-then-any_other_kind : goal.returns-then-any_other_kind
unfolding refusal
returns-then-any_other_kind c =
    rw (
      sevens _ _ c.if-numbers-ne0.false c.if-numbers-kinds.false,
      le-leb _ 64 c.if-kinds-gt64.false,
      ← c.any_other_kind.ensures,
      c.if-any_other_kind.true,
    )

pub returns : goal.returns
unfolding refusal
returns c =
    rw (
      sevens _ _ c.if-numbers-ne0.false c.if-numbers-kinds.false,
      le-leb _ 64 c.if-kinds-gt64.false,
      ← c.any_other_kind.ensures,
      c.if-any_other_kind.false,
    )
