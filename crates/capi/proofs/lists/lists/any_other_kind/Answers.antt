-- `capi::lists::lists::any_other_kind` meets its contract: what is not yet tried decides for the whole list.
use native.Mathlib.Nat.{le_refl}
use mathlib.Core.Path.{ap, sym, ◌∙◌}
use lib.ListN.{length}
use lib.Seq.{take-length}
use Rattle.section.specs.profile.Refusals.{any_of}
use Rattle.bodies.proofs.assemblies.Front.{found_later, found_here, found_never}
use Rattle.capi.specs.lists.Lists.{other_kind}
use Rattle.capi.proofs.lists.lists.any_other_kind.Goals as goal

pub returns-then-other_kind : goal.returns-then-other_kind
returns-then-other_kind c =
    let l = c.args.kinds.now in
    found_here l (length l) (le_refl _) other_kind c.loop-kind.kind-index c.loop-kind.invariant 0 c.loop-kind-test.true
    (sym c.other_kind.ensures ∙ c.if-other_kind.true)
    ∙ ap (any_of other_kind) (take-length l)

pub loop-kind-preserved : goal.loop-kind-preserved
loop-kind-preserved c =
    let l = c.args.kinds.now in
    found_later l (length l) (le_refl _) other_kind c.loop-kind.kind-index c.loop-kind.invariant 0
    c.loop-kind-test.true (sym c.other_kind.ensures ∙ c.if-other_kind.false)

pub returns : goal.returns
returns c =
    let l = c.args.kinds.now in
    found_never l (length l) (le_refl _) other_kind c.loop-kind.kind-index c.loop-kind.invariant c.loop-kind-test.false
    ∙ ap (any_of other_kind) (take-length l)
