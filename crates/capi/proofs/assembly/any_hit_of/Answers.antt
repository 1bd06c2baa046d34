-- `capi::assembly::any_hit_of` meets its contract: the lists' own number, or the verdict on the bodies read.
use mathlib.Core.Path.{refl, sym, ◌∙◌}
use Rattle.section.proofs.profile.Numbered.{handed_on}
use Rattle.capi.proofs.lists.Taken.{front_few, seven_each}
use Rattle.capi.proofs.AssemblyRead.{by_lists, by_bodies}
use Rattle.capi.proofs.assembly.any_hit_of.Goals as goal

pub returns-in_err-lists_refusal : goal.returns-in_err-lists_refusal
returns-in_err-lists_refusal c =
    rw (handed_on c.from_residual.result c.from_residual.ensures) (by_lists _ _ _ _ _ c.in_err-lists_refusal.ensures)

pub bodies_of-bodies-requires : goal.bodies_of-bodies-requires
bodies_of-bodies-requires c =
    let few = front_few _ c.front_of.ensures in
    (few.0, few.1, seven_each _ _ (sym c.in_ok-lists_refusal.ensures))

pub returns : goal.returns
returns c =
    c.any_hit.ensures
    ∙ by_bodies _ _ _ _ c.in_ok-lists_refusal.ensures refl _ c.front_of.ensures c.bodies_of-bodies.ensures
