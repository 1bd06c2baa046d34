-- THE STRAIGHTENED CYLINDER across the spindle, in whole numbers, and what it is for a reported distance to be true of it. An
-- exact point has x, y and z at X / n, Y / n and Z / n units of 2 ^ -1074 mm, moved up as places are.
use Rattle.std.specs.Prelude.{ℕ, ◌+◌, ◌-◌, ◌*◌, ◌^◌, ◌≤◌, ◌<◌, Bool, false, true, List, ◌⊎◌, ◌≡◌, T, Float}
use Rattle.arith.specs.F64.{e_9}
use Rattle.section.specs.declared.profile.shapes.Aabb.{Aabb}
use Rattle.walk.specs.declared.settings.shapes.Settings.{Settings}
use Rattle.walk.specs.bands.Axis.{axis}
use Rattle.walk.specs.bands.Band.{band_of, exchanged}
use Rattle.walk.specs.declared.bands.shapes.Axis.{Axis}
use Rattle.walk.specs.declared.bands.shapes.Axis.TheVariants.{Axial, AlongX, AlongY, Neither}
use Rattle.walk.specs.declared.bands.shapes.Cylinder.{Cylinder}
use Rattle.walk.specs.declared.bands.shapes.RadialBand.{RadialBand}
use Rattle.walk.specs.pieces.Pieces.{piece_box, variation}
use Rattle.walk.specs.declared.pieces.shapes.Piece.{Piece}
use Rattle.walk.specs.Cover.{Covered}
use Rattle.walk.specs.Walk.{Walk}
use Rattle.walk.specs.declared.shapes.CountedHit.{CountedHit}
use Rattle.walk.specs.cylinders.Promised.{across_spindle}
use Rattle.truth.specs.Exact.{NotOver, origin, place, size, sqd, Turned, units}
use Rattle.truth.specs.Points.{between, bits, Reach}
use Rattle.truth.specs.Boxes.{Within}

-- ---- the scale: u is 2 ^ e units, and what is given is at most 2 ^ 53 u in magnitude
pub record BandWithin (e : ℕ) (b : RadialBand) : Type 0 where
  pub x0 : Within (2 ^ (53 + e)) b.x0
  pub x1 : Within (2 ^ (53 + e)) b.x1
  pub yc : Within (2 ^ (53 + e)) b.yc
  pub zc : Within (2 ^ (53 + e)) b.zc
  pub radius : Within (2 ^ (53 + e)) b.radius
  pub solid : origin ≤ place b.radius

-- ---- the cylinder: x between the ends' x, and y and z in the disc about the means
pub record Straight (b : RadialBand) (n X Y Z : ℕ) : Type 0 where
  pub some : 0 < n
  pub from : n * place b.x0 ≤ X
  pub to : X ≤ n * place b.x1
  pub disc : sqd Y (n * place b.yc) + sqd Z (n * place b.zc) ≤ n * size b.radius * (n * size b.radius)

-- the square of the exact distance in space, times n n q q
unfoldable pub space² : ℕ → ℕ → ℕ → ℕ → ℕ → ℕ → ℕ → ℕ → ℕ
space² n X Y Z q z X' Y' = sqd (q * Z) (n * z) + (sqd (q * X) (n * X') + sqd (q * Y) (n * Y'))

-- w units exceed the exact distance between a point of the cylinder and a point of the turned section, of those that count, by no
-- more than ε
pub record Clear (ε w : ℕ) (Points : ℕ → ℕ → ℕ → ℕ → Type 0) (Counts : ℕ → ℕ → ℕ → Type 0) : Type 0 where
  pub proof : (n X Y Z q z r X' Y' : ℕ) → Points n X Y Z → Counts q z r → Turned q r X' Y'
      → NotOver ε w (n * q) (space² n X Y Z q z X' Y')

-- ---- a point of the cylinder, at z and the root of x² + y², in a box widened by ε all round
pub record Widened (ε : ℕ) (x : Aabb) (n X Y Z : ℕ) : Type 0 where
  pub z_low : n * place x.z0 ≤ Z + n * ε
  pub z_high : Z ≤ n * place x.z1 + n * ε
  pub r_low : n * (units x.r0 - ε) * (n * (units x.r0 - ε)) ≤ sqd X (n * origin) + sqd Y (n * origin)
  pub r_high : sqd X (n * origin) + sqd Y (n * origin) ≤ n * (units x.r1 + ε) * (n * (units x.r1 + ε))

-- the box is one that the cover (demand 3) names for some f64 of the width: measured and settled
pub record InSettledBox (ε : ℕ) (s : List Float) (b : RadialBand) (tol : Float) (w : Walk) (n X Y Z : ℕ) : Type 0 where
  pub z : Float
  pub covered : Covered s b tol w z
  pub inside : Widened ε (piece_box b covered.piece) n X Y Z

-- ---- what an answer says
-- v is no less than min(R, max(τ, √(2 R τ))): the margin of an uncut walk with tolerance τ about a cylinder of radius R
abbrev pub Margin : Float → Float → ℕ → Type 0
Margin radius tol v = (size radius ≤ v) ⊎ ((size tol ≤ v) × (2 * (size radius * size tol) ≤ v * v))

-- w units, told by a walk that was cut or was not, are kept: uncut but for the margin and ε, cut but for ε
pub record Kept (ε w : ℕ) (radius tol : Float) (was_cut : Bool) (Points : ℕ → ℕ → ℕ → ℕ → Type 0)
    (Counts : ℕ → ℕ → ℕ → Type 0) : Type 0 where
  pub uncut : was_cut ≡ false → (v : ℕ) → Margin radius tol v → Clear (v + ε) w Points Counts
  pub cut : was_cut ≡ true → Clear ε w Points Counts

-- uncut, the distance exceeds the exact one by no more than the margin and ε; cut, by no more than ε
abbrev pub AnswerTrue : ℕ → Float → Float → CountedHit → (ℕ → ℕ → ℕ → ℕ → Type 0) → (ℕ → ℕ → ℕ → Type 0) → Type 0
AnswerTrue ε radius tol a Points Counts = Kept ε (units a.hit.distance) radius tol a.cut Points Counts

-- the variation of a piece exceeds √(2 R τ) by no more than ε
abbrev pub RootMargin : ℕ → RadialBand → Float → Piece → Type 0
RootMargin ε b tol p = (units (variation b p) - ε) * (units (variation b p) - ε) ≤ 2 * (size b.radius * size tol)

-- ---- a cylinder as it is given
pub record CylinderWithin (e : ℕ) (c : Cylinder) : Type 0 where
  pub ax : Within (2 ^ (53 + e)) c.a.x
  pub ay : Within (2 ^ (53 + e)) c.a.y
  pub az : Within (2 ^ (53 + e)) c.a.z
  pub bx : Within (2 ^ (53 + e)) c.b.x
  pub by : Within (2 ^ (53 + e)) c.b.y
  pub bz : Within (2 ^ (53 + e)) c.b.z
  pub radius : Within (2 ^ (53 + e)) c.radius
  pub solid : origin ≤ place c.radius

-- the points of one across the spindle, straightened: along X, or along Y with x and y exchanged
abbrev pub PointOf : Axis → Cylinder → ℕ → ℕ → ℕ → ℕ → Type 0
PointOf Axial c n X Y Z = ⊥
PointOf AlongX c n X Y Z = Straight (band_of c) n X Y Z
PointOf AlongY c n X Y Z = Straight (band_of (exchanged c)) n Y X Z
PointOf Neither c n X Y Z = ⊥

-- the cylinder as it leans, along X: about every point of its axis, at i / n from one end to the other, the disc that lies across
-- X, not across the axis
pub record Leaning (c : Cylinder) (n X Y Z : ℕ) : Type 0 where
  pub some : 0 < n
  pub i : ℕ
  pub j : ℕ
  pub parts : n ≡ i + j
  pub at_x : X ≡ between i j c.a.x c.b.x
  pub disc : sqd Y (between i j c.a.y c.b.y) + sqd Z (between i j c.a.z c.b.z)
      ≤ n * size c.radius * (n * size c.radius)

abbrev pub LeaningOf : Axis → Cylinder → ℕ → ℕ → ℕ → ℕ → Type 0
LeaningOf Axial c n X Y Z = ⊥
LeaningOf AlongX c n X Y Z = Leaning c n X Y Z
LeaningOf AlongY c n X Y Z = Leaning (exchanged c) n Y X Z
LeaningOf Neither c n X Y Z = ⊥

-- ---- what is owed of a cylinder across the spindle
-- what a walk may lose beside the margin and what box distance may exceed: 2 ^ -23 of the reach, 2 ^ -3 mm and 2 ^ -13 mm
abbrev pub lost_of : Reach → ℕ
lost_of reach = 2 ^ (1051 + bits reach)

-- what box distance may exceed of a walk's boxes, which reach four times as far: 1.125 mm and 0.0011 mm
abbrev pub walk_box_loss : Reach → ℕ
walk_box_loss reach = 9 * 2 ^ (1051 + bits reach)

-- both: 1.25 mm and 0.00123 mm
abbrev pub across_loss : Reach → ℕ
across_loss reach = walk_box_loss reach + lost_of reach

-- of an answer: its distance exceeds the exact one between a point of the straightened cylinder and a point of the turned section
-- that counts by no more than ε, and the margin where the walk was not cut
abbrev pub TrueAcross : ℕ → Cylinder → Settings → (ℕ → ℕ → ℕ → Type 0) → CountedHit → Type 0
TrueAcross ε c t Counts a = T (across_spindle (axis c)) → AnswerTrue ε c.radius t.tolerance a (PointOf (axis c) c) Counts

-- of a verdict of clear: the exact distance from every point of the straightened cylinder, and from every point of the leaning
-- one, is at least the clearance, less ε, and less the margin at 1e-9 where the walk was not cut
pub record ClearOf (ε : ℕ) (c : Cylinder) (clearance : Float) (Counts : ℕ → ℕ → ℕ → Type 0) (was_cut : Bool) : Type 0 where
  pub straightened : Kept ε (units clearance) c.radius e_9 was_cut (PointOf (axis c) c) Counts
  pub leaning : Kept ε (units clearance) c.radius e_9 was_cut (LeaningOf (axis c) c) Counts

abbrev pub KeptAcross : ℕ → Cylinder → Float → (ℕ → ℕ → ℕ → Type 0) → Bool → Type 0
KeptAcross ε c clearance Counts was_cut = T (across_spindle (axis c)) → ClearOf ε c clearance Counts was_cut
