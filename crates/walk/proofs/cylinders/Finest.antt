-- At the finest settings the promise across the spindle is demand 3, with document 01's numbers; and they turn nothing down, so that the
-- answer is that of a call without settings. By computation.
use mathlib.Core.List.{List, []}
use mathlib.Core.Path.{◌≡◌, refl}
use lib.Ieee.{Float, le, of_bits}
use Rattle.arith.specs.F64.{e_9}
use Rattle.section.specs.profile.Refusals.{refusal}
use Rattle.section.specs.profile.Replies.{reply}
use Rattle.walk.specs.settings.Settings.{finest}
use Rattle.walk.specs.declared.bands.shapes.Cylinder.{Cylinder}
use Rattle.walk.specs.declared.bands.shapes.RadialBand.{RadialBand}
use Rattle.walk.specs.Cover.{Covers}
use Rattle.walk.specs.Walk.{walk_all, walked}
use Rattle.walk.specs.declared.shapes.CountedHit.{CountedHit}
use Rattle.walk.specs.cylinders.Cylinders.{cylinder_answer, cylinder_distance, cylinder_tests}
use Rattle.walk.specs.cylinders.Promised.{Across}

pub record DemandThree (s : List Float) (b : RadialBand) (h : CountedHit) : Type 0 where
  pub walk : h ≡ walked (walk_all s b e_9 8192 16)
  pub covers : Covers s b e_9 8192 16 (walk_all s b e_9 8192 16)

pub demand_three : {s : List Float} {b : RadialBand} {h : CountedHit} → Across s b finest h → DemandThree s b h
demand_three a = record { walk = a.walk; covers = a.covers }

pub finest_answer : (s : List Float) (c : Cylinder)
    → cylinder_answer s c finest ≡ reply (refusal (cylinder_tests s c [] [])) (cylinder_distance s c finest)
unfolding cylinder_answer refusal le of_bits
finest_answer s c = refl
