-- 01: the lowest number that applies is returned. A cylinder's numbers ascend where the call takes no settings, so that the first is
-- the lowest.
use mathlib.Core.List.{List, []}
use lib.Ieee.{Float}
use Rattle.section.specs.profile.Refusals.{refusal}
use Rattle.section.proofs.profile.Refusals.Ordered.{Lowest, first_is_lowest}
use Rattle.walk.specs.declared.bands.shapes.Cylinder.{Cylinder}
use Rattle.walk.specs.cylinders.Cylinders.{cylinder_tests}

pub cylinder_lowest : (s : List Float) (c : Cylinder) (extra : List Float)
    → Lowest (cylinder_tests s c extra []) (refusal (cylinder_tests s c extra []))
cylinder_lowest s c extra = first_is_lowest _ tt
