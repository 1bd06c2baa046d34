-- `capi::lists::lists::any_other_kind` meets its contract: what is not yet tried decides for the whole list.
use mathlib.Core.Path.{◌≡◌}
use lib.ListN.{length, drop, take}
use Rattle.section.specs.profile.Refusals.{any_of}
use Rattle.capi.specs.lists.Lists.{other_kind}
use Rattle.capi.proofs.lists.lists.any_other_kind.Given as goal

abbrev pub invariant-loop-kind : goal.invariant-loop-kind
invariant-loop-kind l =
    (any_of other_kind (drop l.kind-index (take (length l.kinds) l.kinds)) ≡ any_of other_kind (take (length l.kinds) l.kinds))
