-- An edge that is passed over is not nearer than the best so far: it has no clip, and legs as long as its range lies from the
-- box's sides are hopeless. By the laws of ranges; where the box's sides lie, and the side that is meant, is put in for each
-- of the four.
use Prim.Native.Nat.{ℕ}
use mathlib.Core.Bool.{false}
use mathlib.Core.Path.{◌≡◌, subst, sym}
use lib.Ieee.{Float}
use Rattle.std.specs.Prelude.{None}
use Rattle.arith.specs.F64.{◌≺◌}
use Rattle.arith.proofs.Laws.OrderHeld.{inf_not_less}
use Rattle.section.specs.profile.Vertices.{nearer, nearest_of, upto, vertex, vertex_at, end_at}
use Rattle.section.specs.declared.profile.shapes.Aabb.{Aabb}
use Rattle.section.specs.declared.profile.shapes.CollisionHit.{CollisionHit}
use Rattle.section.specs.declared.profile.shapes.Edge.{Edge}
use Rattle.section.specs.declared.profile.shapes.Vertex.{Vertex}
use Rattle.section.proofs.profile.Steps.{pick}
use Rattle.section.specs.segments.Clip.{clip}
use Rattle.section.specs.segments.Hopeless.{Hopeless}
use Rattle.section.specs.segments.Segments.{segments}
use Rattle.section.specs.ranges.Ranges.{gap_between, Has, range, ranges_of, sides_of}
use Rattle.section.specs.declared.ranges.shapes.Range.{Range}
use Rattle.section.specs.declared.ranges.shapes.Sides.{Sides}
use Rattle.section.proofs.ranges.Apart.{has_back, has_end, has_itself, has_start, has_there, hopeless_segment, range_has}
use Rattle.section.specs.boxes.Boxes.{corners, edge_box}
use Rattle.section.specs.boxes.Steps.{HeldBeside, Ranged}

module _ (x : Aabb) (e : Edge) (F : HeldBeside x e) {sides g : Sides} (i : sides ≡ sides_of x)
    (j : g ≡ ranges_of e.a e.b) where
  edge_z : Has g.z e.a.z e.b.z
  edge_z = subst (λ (h : Sides). Has h.z e.a.z e.b.z) (sym j) (range_has _ _ F.a_z)

  edge_r : Has g.r e.a.r e.b.r
  edge_r = subst (λ (h : Sides). Has h.r e.a.r e.b.r) (sym j) (range_has _ _ F.a_r)

  along_z : (a b : Float) → Has (sides_of x).z a b → Has sides.z a b
  along_z a b h = subst (λ (d : Sides). Has d.z a b) (sym i) h

  along_r : (a b : Float) → Has (sides_of x).r a b → Has sides.r a b
  along_r a b h = subst (λ (d : Sides). Has d.r a b) (sym i) h

  -- a side, by a range along it and one across it
  side : {c d : Vertex} {hz hr : Range} → Has hz c.z d.z → Has hr c.r d.r → Ranged e g c d hz hr
  side z r = record { edge_z = edge_z; edge_r = edge_r; side_z = z; side_r = r }

  pub low_side : Ranged e g (vertex x.z0 x.r0) (vertex x.z1 x.r0) sides.z (range x.r0 x.r0)
  low_side = side (along_z _ _ (has_there _ _ F.z0 F.z1)) (has_itself _ F.r0)

  pub last_side : Ranged e g (vertex x.z1 x.r0) (vertex x.z1 x.r1) (range x.z1 x.z1) sides.r
  last_side = side (has_itself _ F.z1) (along_r _ _ (has_there _ _ F.r0 F.r1))

  pub high_side : Ranged e g (vertex x.z1 x.r1) (vertex x.z0 x.r1) sides.z (range x.r1 x.r1)
  high_side = side (along_z _ _ (has_back _ _ F.z0 F.z1)) (has_itself _ F.r1)

  pub first_side : Ranged e g (vertex x.z0 x.r1) (vertex x.z0 x.r0) (range x.z0 x.z0) sides.r
  first_side = side (has_itself _ F.z0) (along_r _ _ (has_back _ _ F.r0 F.r1))

  -- ---- the whole box
  module _ (least : Float) where
    abbrev NotUnder : CollisionHit → Type 0
    NotUnder h = (h.distance ≺ least) ≡ false

    keep : (best new : CollisionHit) → NotUnder best → NotUnder new → NotUnder (nearer best new)
    keep best new b n = pick NotUnder (new.distance ≺ best.distance) (λ t. n) (λ t. b)

    four : (s : ℕ → CollisionHit) (best : CollisionHit) → NotUnder best → NotUnder (s 0) → NotUnder (s 1) → NotUnder (s 2)
        → NotUnder (s 3) → NotUnder (nearest_of s best 4)
    unfolding upto
    four s best b e₀ e₁ e₂ e₃ = keep _ (s 3) (keep _ (s 2) (keep _ (s 1) (keep best (s 0) b e₀) e₁) e₂) e₃

    none_nearer : clip x e.a e.b ≡ None
        → ((c d : Vertex) → Has sides.z c.z d.z → Has sides.r c.r d.r → NotUnder (segments e c d))
        → NotUnder (edge_box x e)
    unfolding edge_box
    none_nearer m k =
        rw m
        (four (λ n. segments e (vertex_at (corners x) n) (end_at (corners x) n)) _ (inf_not_less least)
        (k _ _ (along_z _ _ (has_there _ _ F.z0 F.z1)) (along_r _ _ (has_start _ _ F.r0 F.r1)))
        (k _ _ (along_z _ _ (has_end _ _ F.z0 F.z1)) (along_r _ _ (has_there _ _ F.r0 F.r1)))
        (k _ _ (along_z _ _ (has_back _ _ F.z0 F.z1)) (along_r _ _ (has_end _ _ F.r0 F.r1)))
        (k _ _ (along_z _ _ (has_start _ _ F.z0 F.z1)) (along_r _ _ (has_back _ _ F.r0 F.r1))))

    pub passed : Hopeless (gap_between g.z sides.z) (gap_between g.r sides.r) least → clip x e.a e.b ≡ None
        → NotUnder (edge_box x e)
    passed w m =
        none_nearer m (λ c d z r. hopeless_segment least e c d g.z g.r sides.z sides.r edge_z edge_r z r w)

-- a side that is passed over
pub side_passed : (least : Float) (e : Edge) (g : Sides) (c d : Vertex) (hz hr : Range) → Ranged e g c d hz hr
    → Hopeless (gap_between g.z hz) (gap_between g.r hr) least → ((segments e c d).distance ≺ least) ≡ false
side_passed least e g c d hz hr R w =
    hopeless_segment least e c d g.z g.r hz hr R.edge_z R.edge_r R.side_z R.side_r w
