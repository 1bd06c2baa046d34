-- The places of a hit whose witness is in the machine's axes, and what it puts there.
use Rattle.std.specs.Prelude.{ℕ, Float}
use Rattle.section.specs.Demand.{FewEdges}
use Rattle.section.specs.declared.profile.shapes.CollisionHit.{CollisionHit}
use Rattle.walk.specs.declared.shapes.CountedHit.{CountedHit}
use Rattle.bodies.specs.declared.lifted.shapes.Lifted.{Lifted}
use Rattle.capi.specs.handing.Interface.{CylinderPlaces, both, hit_counts, FitsPlaces}

pub record LiftedPlaces : Type 0 where
  pub distance : Float
  pub witness_x : Float
  pub witness_y : Float
  pub witness_z : Float
  pub edge : ℕ

abbrev pub lifted : Float → Float → Float → Float → ℕ → LiftedPlaces
lifted d x y z e = record { distance = d; witness_x = x; witness_y = y; witness_z = z; edge = e }

abbrev pub lifted_places : Lifted CollisionHit → LiftedPlaces
lifted_places h = lifted h.hit.distance h.witness.x h.witness.y h.witness.z h.hit.witness.edge

-- of a cylinder: without its counts, and with them
abbrev pub uncounted : Lifted CountedHit → Lifted CollisionHit
uncounted h = record { hit = h.hit.hit; witness = h.witness }

abbrev pub lifted_cylinder_places : Lifted CountedHit → CylinderPlaces LiftedPlaces
lifted_cylinder_places h = both (lifted_places (uncounted h)) (hit_counts h.hit)

-- the edge is one of at most 256
abbrev pub FewLifted : Lifted CollisionHit → Type 0
FewLifted h = FewEdges h.hit

abbrev pub LiftedFits : Lifted CountedHit → Type 0
LiftedFits h = FitsPlaces h.hit
