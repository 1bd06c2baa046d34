-- The places of a pair's answer, and what it puts there: the winner, 0 for the chuck, 1 for the work; its hit, counts and mark in
-- the places of a cylinder.
use Rattle.std.specs.Prelude.{ℕ}
use Rattle.bodies.specs.pairs.Pairs.{Won}
use Rattle.capi.specs.handing.Interface.{Places, CylinderPlaces, cylinder_places, mark, FitsPlaces}

pub record PairPlaces : Type 0 where
  pub winner : ℕ
  pub counted : CylinderPlaces Places

abbrev pub pair_places : ℕ → CylinderPlaces Places → PairPlaces
pair_places winner counted = record { winner = winner; counted = counted }

abbrev pub won_places : Won → PairPlaces
won_places w = pair_places (mark w.work) (cylinder_places w.counted)

abbrev pub WonFits : Won → Type 0
WonFits w = FitsPlaces w.counted
