-- Document 01's readings of the section S, and its examples of what is turned down (numbers 1 to 11): the definitions give every row of
-- the table, by computation.
use Prim.Native.Nat.{ℕ, zero, suc}
use mathlib.Core.Bool.{false}
use mathlib.Core.Path.{◌≡◌, refl}
use mathlib.Core.List.{List, [], ◌∷◌}
use lib.IntN.{pos, negsuc}
use lib.Ieee.{Float, nan, fin, binary64, of_int, neg, add, sub, mul, div, lt, le, of_bits}
use Rattle.arith.specs.F64.{∞, e_8, e_9}
use Rattle.arith.specs.Num.{is_finite}
use Rattle.arith.specs.roots.Roots.{sqrt, hypot}
use Rattle.arith.specs.Vector.{vec}
use Rattle.arith.specs.declared.vector.Vec3.{Vec3}
use Rattle.section.specs.profile.Vertices.{ball, witness, on, hit, upto, any, vertex_at}
use Rattle.section.specs.segments.Segments.{closest_point, closest, closest_places, segments}
use Rattle.section.specs.points.Points.{surface_step, surface_near, crosses, point_inside, inside_axis_edge, in_section}
use Rattle.section.specs.points.Points.{point_distance, sphere_distance}
use Rattle.section.specs.segments.Clip.{clip_side, clip}
use Rattle.section.specs.boxes.Boxes.{edge_box, strictly_inside_aabb, segment_through_interior, box_gap, box_penetration, box_witness}
use Rattle.section.specs.boxes.Boxes.{box_holds, box_distance, aabb}
use Rattle.section.specs.points.Overlap.{result_of}
use Rattle.section.specs.builders.Builder.{same_point, keep, kept_points, section_of, polygon_of}
use Rattle.section.specs.profile.Refusals.{refusal, any_of, any_below_axis}
use Rattle.section.specs.profile.Replies.{Reply, value, turned_down}
use Rattle.section.specs.Answers.{point_answer, sphere_answer, box_answer}
use Rattle.section.specs.builders.Kept.{section_answer, polygon_answer}
use Rattle.walk.specs.bands.Axis.{axis_dir, axis}
use Rattle.walk.specs.bands.Band.{bar, axial_box, band_of, half_width, span_at}
use Rattle.walk.specs.pieces.Pieces.{widest, narrowest, piece_box, variation}
use Rattle.walk.specs.Walk.{sample_vertex, sampled, walk, walk_all, band_distance}
use Rattle.walk.specs.settings.Settings.{finest, settings}
use Rattle.walk.specs.declared.settings.shapes.Settings.{Settings}
use Rattle.walk.specs.cylinders.Cylinders.{cylinder_distance, cylinder_answer}
use Rattle.walk.specs.declared.bands.shapes.Cylinder.{Cylinder}
use Rattle.walk.specs.declared.shapes.CountedHit.{CountedHit}
use Rattle.section.specs.declared.profile.shapes.Vertex.{Vertex}
use Rattle.section.specs.declared.profile.shapes.Aabb.{Aabb}
use Rattle.section.specs.declared.profile.shapes.Sphere.{Sphere}
use Rattle.section.specs.declared.profile.shapes.CollisionHit.{CollisionHit}

abbrev pub mm : ℕ → Float
mm n = of_int binary64 (pos n)

-- 01's section S, built from (0,10), (20,10)
abbrev pub S : List Float
S = section_of (mm 0 ∷ mm 10 ∷ mm 20 ∷ mm 10 ∷ [])

-- A row: what a builder keeps; what a query of S answers, or of another section; a distance that every point has; what a builder answers.
pub data Row : Type 0 where
  keeps : List Float → List Float → Row
  point : Vec3 → Reply CollisionHit → Row
  sphere : Sphere → Reply CollisionHit → Row
  sphere_beside : List Float → Sphere → Reply CollisionHit → Row
  box : Aabb → Reply CollisionHit → Row
  cylinder : Cylinder → Reply CountedHit → Row
  cylinder_at : Cylinder → Settings → Reply CountedHit → Row
  everywhere : List Float → Float → Row
  section : List Float → List Float → Reply ℕ → Row
  polygon : List Float → List Float → Reply ℕ → Row

abbrev pub Holds : Row → Type 0
Holds (keeps given kept) = section_of given ≡ kept
Holds (point p a) = point_answer S p ≡ a
Holds (sphere b a) = sphere_answer S b ≡ a
Holds (sphere_beside s b a) = sphere_answer s b ≡ a
Holds (box x a) = box_answer S x ≡ a
Holds (cylinder c a) = cylinder_answer S c finest ≡ a
Holds (cylinder_at c t a) = cylinder_answer S c t ≡ a
Holds (everywhere given d) = (p : Vertex) → point_distance (section_of given) p ≡ hit d (on 0 (vertex_at (section_of given) 0))
Holds (section given space a) = section_answer given space ≡ a
Holds (polygon given space a) = polygon_answer given space ≡ a

-- every row holds
infixr 30 ◌and◌
pub data All : List Row → Type 0 where
  end : All []
  ◌and◌ : {row : Row} {rows : List Row} → Holds row → All rows → All (row ∷ rows)

abbrev pub at : ℕ → ℕ → ℕ → Vec3
at x y z = vec (mm x) (mm y) (mm z)

-- distance, witness and its edge
abbrev pub hits : Float → ℕ → ℕ → ℕ → Reply CollisionHit
hits d z r e = value (hit d (witness (mm z) (mm r) e))

-- the same; boxes measured and the most pieces that waited, uncut
abbrev pub walks : Float → Float → Float → ℕ → ℕ → ℕ → Reply CountedHit
walks d z r e boxes waiting =
    value (record { hit = hit d (witness z r e); boxes = boxes; waiting = waiting; cut = false })

-- 2 ^ -30, and 10 less 2 ^ -30
abbrev pub thin : Float
thin = fin false 1 (negsuc 29)

abbrev pub nearly10 : Float
nearly10 = fin false 10737418239 (negsuc 29)

-- n zeros
abbrev pub room : ℕ → List Float
room zero = []
room (suc n) = mm 0 ∷ room n

abbrev pub readings : List Row
readings =
    keeps (mm 0 ∷ mm 10 ∷ mm 20 ∷ mm 10 ∷ []) (mm 0 ∷ mm 10 ∷ mm 20 ∷ mm 10 ∷ mm 20 ∷ mm 0 ∷ mm 0 ∷ mm 0 ∷ [])
    ∷ point (at 0 0 10) (hits (neg (mm 10)) 10 10 0)
    ∷ point (at 3 4 30) (hits (mm 10) 20 5 1)
    ∷ point (at 5 0 20) (hits (mm 0) 20 5 1)
    ∷ sphere (ball (at 0 0 30) (mm 4)) (hits (mm 6) 20 0 1)
    ∷ box (aabb (mm 25) (mm 30) (mm 0) (mm 5)) (hits (mm 5) 20 0 1)
    ∷ box (aabb (mm 18) (mm 30) (mm 0) (mm 5)) (hits (neg (mm 2)) 20 0 1)
    ∷ box (aabb (mm 20) (mm 25) (mm 0) (mm 5)) (hits (mm 0) 20 5 1)
    ∷ box (aabb (neg (mm 5)) (mm 25) (mm 5) (mm 15)) (hits (neg e_8) 20 10 1)
    ∷ cylinder (bar (at 15 0 0) (at 15 0 30) (mm 2)) (walks (mm 3) (mm 0) (mm 10) 0 1 0)
    ∷ cylinder (bar (at 12 0 10) (at 30 0 10) (mm 0)) (walks (mm 2) (mm 10) (mm 10) 0 1 0)
    ∷ cylinder (bar (at 12 0 10) (at 30 0 10) thin) (walks (mm 2) nearly10 (mm 10) 0 1 1)
    ∷ keeps (mm 0 ∷ mm 0 ∷ mm 20 ∷ mm 0 ∷ []) (mm 0 ∷ mm 0 ∷ mm 20 ∷ mm 0 ∷ mm 0 ∷ mm 0 ∷ [])
    ∷ everywhere (mm 0 ∷ mm 0 ∷ mm 20 ∷ mm 0 ∷ []) ∞
    -- along Y, as the exchanged ones along X
    ∷ cylinder (bar (at 0 12 10) (at 0 30 10) (mm 0)) (walks (mm 2) (mm 10) (mm 10) 0 1 0)
    ∷ cylinder (bar (at 0 12 10) (at 0 30 10) thin) (walks (mm 2) nearly10 (mm 10) 0 1 1)
    -- numbers 1 to 11
    ∷ section (mm 0 ∷ mm 10 ∷ mm 20 ∷ []) (room 8) (turned_down 1)
    ∷ section (mm 0 ∷ mm 10 ∷ []) (room 8) (turned_down 2)
    ∷ polygon (room 514) (room 514) (turned_down 3)
    ∷ section (nan ∷ mm 10 ∷ mm 20 ∷ mm 10 ∷ []) (room 8) (turned_down 4)
    ∷ section (mm 1048577 ∷ mm 10 ∷ mm 20 ∷ mm 10 ∷ []) (room 8) (turned_down 5)
    ∷ section (mm 0 ∷ neg (mm 1) ∷ mm 20 ∷ mm 10 ∷ []) (room 8) (turned_down 6)
    ∷ section (mm 0 ∷ mm 10 ∷ mm 20 ∷ mm 10 ∷ []) (room 6) (turned_down 7)
    ∷ section (mm 0 ∷ mm 10 ∷ mm 0 ∷ mm 0 ∷ []) (room 8) (turned_down 8)
    ∷ sphere (ball (at 0 0 0) (neg (mm 1))) (turned_down 9)
    ∷ box (aabb (mm 5) (mm 4) (mm 0) (mm 5)) (turned_down 10)
    ∷ cylinder (bar (at 0 0 0) (at 1 0 1) (mm 1)) (turned_down 11)
    ∷ cylinder (bar (at 0 0 0) (at 1 1 0) (mm 1)) (turned_down 11)
    -- a tolerance of 2 mm, along the spindle too
    ∷ cylinder_at (bar (at 15 0 0) (at 15 0 30) (mm 2)) (settings (mm 2) 8192 16) (turned_down 18)
    -- a radius below -1e-9 in a polygon, and in a query's section, before the body's own number
    ∷ polygon (mm 0 ∷ mm 10 ∷ mm 20 ∷ mm 10 ∷ mm 20 ∷ neg (mm 1) ∷ []) (room 6) (turned_down 6)
    ∷ sphere_beside (mm 0 ∷ mm 10 ∷ mm 20 ∷ mm 10 ∷ mm 20 ∷ neg (mm 1) ∷ []) (ball (at 0 0 30) (neg (mm 1))) (turned_down 6)
    -- raised before it is dropped as a repeat
    ∷ polygon (mm 0 ∷ neg e_9 ∷ mm 0 ∷ mm 0 ∷ mm 20 ∷ mm 10 ∷ mm 20 ∷ mm 0 ∷ []) (room 8) (value 6)
    -- the limit is taken, and a radius of -1e-9 is taken as 0
    ∷ section (mm 1048576 ∷ mm 10 ∷ mm 20 ∷ mm 10 ∷ []) (room 8) (value 8)
    ∷ keeps (mm 0 ∷ neg e_9 ∷ mm 20 ∷ mm 10 ∷ []) (mm 0 ∷ mm 0 ∷ mm 20 ∷ mm 10 ∷ mm 20 ∷ mm 0 ∷ mm 0 ∷ mm 0 ∷ [])
    ∷ []

-- the definitions give every row
pub all_readings : All readings
unfolding add sub mul div neg lt le of_int of_bits sqrt hypot is_finite
    upto any closest_point closest closest_places segments surface_step surface_near crosses point_inside inside_axis_edge in_section
    point_distance sphere_distance clip_side clip edge_box strictly_inside_aabb segment_through_interior box_gap box_penetration box_witness
    box_holds result_of box_distance same_point keep kept_points section_of polygon_of
    refusal any_of any_below_axis point_answer sphere_answer box_answer section_answer polygon_answer
    axis_dir axis axial_box band_of half_width span_at widest narrowest piece_box variation sample_vertex sampled walk walk_all band_distance
    cylinder_distance cylinder_answer
all_readings =
    let all-points : Holds (everywhere (mm 0 ∷ mm 0 ∷ mm 20 ∷ mm 0 ∷ []) ∞) = λ p. refl in
    refl and refl and refl and refl and refl and refl and refl and refl and refl and refl and refl and refl
    and refl and all-points and refl and refl and refl and refl and refl and refl and refl and refl and refl
    and refl and refl and refl and refl and refl and refl and refl and refl and refl and refl and refl and end
