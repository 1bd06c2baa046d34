-- The places of a verdict with what its walk counted, and what it puts there.
use Rattle.std.specs.Prelude.{ℕ}
use Rattle.bodies.specs.declared.walk_verdicts.shapes.JudgedWalk.{JudgedWalk}
use Rattle.capi.specs.handing.Interface.{Counts, counts, mark}

pub record JudgedPlaces : Type 0 where
  pub collision : ℕ
  pub counts : Counts

abbrev pub judged_places : ℕ → Counts → JudgedPlaces
judged_places k c = record { collision = k; counts = c }

abbrev pub walk_places : JudgedWalk → JudgedPlaces
walk_places w = judged_places (mark w.collision) (counts w.boxes w.waiting (mark w.cut))
