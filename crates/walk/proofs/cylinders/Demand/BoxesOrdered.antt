-- Every box that a cylinder is measured by has z0 ≤ z1 and 0 ≤ r0 ≤ r1: number 10 would turn none of them down. For it is within the
-- limit, and its radius is not negative.
use mathlib.Core.List.{List, []}
use mathlib.Core.Path.{◌≡◌}
use lib.Ieee.{Float}
use Rattle.section.proofs.profile.Each.{All}
use Rattle.walk.specs.bands.Axis.{axis}
use Rattle.walk.specs.bands.Band.{axial_box, band_of, measured_as}
use Rattle.walk.specs.declared.bands.shapes.Cylinder.{Cylinder}
use Rattle.walk.proofs.bands.AxialBox.{Ordered, axial_box_ordered}
use Rattle.walk.proofs.bands.Limit.{band_of_in_limit, measured_as_in_limit}
use Rattle.walk.specs.pieces.Pieces.{piece_box}
use Rattle.walk.specs.declared.pieces.shapes.Piece.{Piece}
use Rattle.walk.specs.Walk.{thin_box, walk_with}
use Rattle.walk.proofs.Demand.Ordered.{walk_all_ordered}
use Rattle.walk.proofs.Demand.Pieces.{thin_box_ordered}
use Rattle.section.specs.profile.Refusals.{refusal}
use Rattle.walk.specs.settings.Settings.{settings_tests}
use Rattle.walk.specs.declared.settings.shapes.Settings.{Settings}
use Rattle.walk.specs.cylinders.Cylinders.{cylinder_tests}
use Rattle.walk.proofs.cylinders.Cover.Accepted.{accepted}

-- the boxes of a cylinder that is not turned down
pub record BoxesOrdered (s : List Float) (c : Cylinder) (t : Settings) : Type 0 where
  pub along : Ordered (axial_box c)
  pub thin : Ordered (thin_box (band_of (measured_as (axis c) c)))
  pub across : let b = band_of (measured_as (axis c) c) in
      All (λ (p : Piece). Ordered (piece_box b p)) (walk_with s b t).seen

pub boxes_ordered : (s : List Float) (c : Cylinder) (t : Settings) → refusal (cylinder_tests s c [] (settings_tests t)) ≡ 0
    → BoxesOrdered s c t
boxes_ordered s c t e =
    let C = (accepted s c [] (settings_tests t) tt e).cylinder in
    let B = band_of_in_limit (measured_as_in_limit (axis c) C) in
    record {
      along = axial_box_ordered C;
      thin = thin_box_ordered B;
      across = walk_all_ordered s B t.tolerance t.most t.intervals;
    }
