-- `capi::handing::cylinder::give_counted` meets its contract.
use mathlib.Core.Path.{refl}
use Rattle.walk.specs.declared.shapes.CountedHit.{CountedHit}
use Rattle.capi.specs.handing.Interface.{hit_places}
use Rattle.capi.proofs.handing.Same.{walked}
use Rattle.capi.proofs.handing.cylinder.give_counted.Goals as goal

pub give_counts-requires : goal.give_counts-requires
give_counts-requires c = (c.requires.boxes, c.requires.waiting)

pub give-requires : goal.give-requires
give-requires c = c.requires.edge

pub returns : goal.returns
returns c =
    walked (λ (h : CountedHit). h.hit) hit_places (λ (h : CountedHit). h) refl c.give.ensures
    c.give_counts.ensures
