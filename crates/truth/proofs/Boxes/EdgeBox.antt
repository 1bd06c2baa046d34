-- 01'S EDGE AND BOX, of a box that is wide both ways: the distance reported exceeds the exact distance from no point of the edge
-- to a point of the box by more than ε and 365 u. A clipped edge has 0; any other the least of the four sides.
use Prim.Native.Nat.{◌*◌, ◌+◌, ◌-◌, ◌<◌, ◌^◌, suc, zero-le, ℕ, ◌≤◌}
use mathlib.Core.Bool.{false}
use mathlib.Core.Logic.{inl, inr}
use mathlib.Core.Path.{◌≡◌, refl, subst, sym, ◌∙◌}
use native.Mathlib.Nat.{le_of_eq, le_of_lt, le_refl, le_trans, mul-le-mul, mul-le-mul_left}
use native.Mathlib.Omega.{arith}
use lib.Dec.{leb→le, T}
use Rattle.std.specs.Prelude.{None}
use Rattle.std.proofs.lemmas.Option.{none-some}
use lib.Ieee.{binary64, Float, prec}
use Rattle.arith.proofs.roots.Rounding.Key.{number}
use Rattle.arith.proofs.roots.Rounding.KeyOrder.{lt→key, nlt→key}
use Rattle.arith.specs.F64.{◌≺◌, 𝟘, ∞}
use Rattle.arith.proofs.Laws.Bounded.{bounded_up}
use Rattle.arith.proofs.Laws.BoundedValue.{bounded→value}
use Rattle.arith.proofs.Laws.Hypot.{inf_number}
use Rattle.arith.proofs.Laws.Sizes.{Finite, finite_number_lem, K, M, zero_key}
use Rattle.section.proofs.profile.Steps.{pick, pick_some, upto_steps}
use Rattle.section.specs.profile.Vertices.{end_at, hit, nearer, nearest_of, on, vertex_at}
use Rattle.section.specs.declared.profile.shapes.Aabb.{Aabb}
use Rattle.section.specs.declared.profile.shapes.CollisionHit.{CollisionHit}
use Rattle.section.specs.declared.profile.shapes.Edge.{Edge}
use Rattle.section.specs.declared.profile.shapes.Vertex.{Vertex}
use Rattle.section.specs.segments.Clip.{clip}
use Rattle.section.specs.segments.Segments.{segments}
use Rattle.section.specs.boxes.Boxes.{corners, edge_box}
use Rattle.section.specs.Demand.{AtMost}
use Rattle.section.proofs.Demand.AtMost.{value_at_most}
use Rattle.section.proofs.Demand.Clip.{edge_box_at_most}
use Rattle.section.proofs.Demand.Hits.{BoxAtMost, corners_at_most, EdgeAtMost, end_at_at_most, vertex_at_at_most, VertexAtMost}
use Rattle.section.proofs.Demand.Segments.{segments_at_most}
use Rattle.arith.specs.Whole.{apart}
use Rattle.truth.proofs.Points.Closest.{Within}
use Rattle.truth.proofs.Points.Distance.{or_last}
use Rattle.truth.proofs.Boxes.Lengths.{Coarse, Coordinate}
use Rattle.truth.proofs.Boxes.Clipped.{clip_whole, Sized}
use Rattle.truth.proofs.Boxes.Corner.{apart_comm}
use Rattle.truth.proofs.Boxes.Floats.{H}
use Rattle.truth.proofs.Boxes.Outline.{every_point, Far, OnEdge}
use Rattle.truth.proofs.Boxes.Segments.{segments_r, segments_z}
use Rattle.truth.proofs.Boxes.Sides.{Clear}
use Rattle.truth.proofs.Boxes.Turns.{Between}

-- ---- the first smallest is no larger than any
pub record Least (f : ℕ → CollisionHit) (n : ℕ) (b : CollisionHit) : Type 0 where
  pub sure : T (number binary64 b.distance)
  pub least : (m : ℕ) → m < n → K b.distance ≤ K (f m).distance

pub nearest_least : (f : ℕ → CollisionHit) (a : CollisionHit) (n : ℕ) → T (number binary64 a.distance)
    → ((k : ℕ) → k < n → T (number binary64 (f k).distance)) → Least f n (nearest_of f a n)
nearest_least f a n A F = upto_steps (Least f) (λ k best. nearer best (f k)) a n (record {
  sure = A;
  least = λ m l. absurd (none l);
}) step
  where
    none : {m : ℕ} → m < 0 → ⊥
    none l = omega arith

    step : (k : ℕ) → k < n → (b : CollisionHit) → Least f k b → Least f (suc k) (nearer b (f k))
    step k l b B = pick (Least f (suc k)) ((f k).distance ≺ b.distance)
        (λ h. record {
          sure = F k l;
          least = or_last k (λ m. K (f k).distance ≤ K (f m).distance)
              (λ m w. le_trans (le_of_lt (lt→key binary64 (f k).distance b.distance (F k l) B.sure h)) (B.least m w))
              (le_refl (K (f k).distance));
        })
        (λ h. record {
          sure = B.sure;
          least = or_last k (λ m. K b.distance ≤ K (f m).distance) B.least
              (nlt→key binary64 (f k).distance b.distance (F k l) B.sure h);
        })

-- ---- a side's distance, as the outline wants it
pub from_clear : (η w A B Q a b q q' : ℕ) → Clear η w A B Q a b q q' → (n E F m x : ℕ) → OnEdge A B a b n E F → Between m q q' x
    → Far (w - η) n E F m (m * Q) x
from_clear η w A B Q a b q q' c n E F m x p o = rw (p.parts, p.first, p.second) (c.proof p.i p.j m x o)

pub far_turned : (v n E F m z r : ℕ) → Far v n E F m z r → Far v n F E m r z
far_turned v n E F m z r h = le_trans h (le_of_eq (swap _ _))
  where
    swap : (x y : ℕ) → x + y ≡ y + x
    swap x y = omega arith

pub far_less : (v w n E F m z r : ℕ) → v ≤ w → Far w n E F m z r → Far v n E F m z r
far_less v w n E F m z r l h = let k = mul-le-mul_left (n * m) l in le_trans (mul-le-mul k k) h

pub far_none : (v n E F m z r : ℕ) → v ≡ 0 → Far v n E F m z r
far_none v n E F m z r e = le_trans (le_of_eq (gone (n * m) v e)) zero-le
  where
    gone : (k v : ℕ) → v ≡ 0 → k * v * (k * v) ≡ 0
    gone k v e = rw e (omega arith)

pub on_turned : {A B a b n E F : ℕ} → OnEdge A B a b n E F → OnEdge a b A B n F E
on_turned x = record { i = x.i; j = x.j; parts = x.parts; first = x.second; second = x.first }

-- ---- a box within the scale; and one that is wide both ways
pub record Boxed (e : ℕ) (x : Aabb) : Type 0 where
  pub z0 : Coordinate e x.z0
  pub z1 : Coordinate e x.z1
  pub r0 : Coordinate e x.r0
  pub r1 : Coordinate e x.r1

pub record Wide (e : ℕ) (x : Aabb) : Type 0 where
  pub z : Coarse e (apart (K x.z1) (K x.z0))
  pub r : Coarse e (apart (K x.r1) (K x.r0))

module _ (e : ℕ) (most : prec binary64 + e ≤ 1097) where
  pub coordinate_at_most : {c : Float} → Coordinate e c → AtMost 23 c
  coordinate_at_most {c} C = value_at_most 23
      (bounded→value binary64 1097 c (bounded_up binary64 (prec binary64 + e) 1097 c most C))

  pub coordinate_finite : {c : Float} → Coordinate e c → Finite 23 c
  coordinate_finite {c} C = record { bounded = bounded_up binary64 (prec binary64 + e) 1097 c most C }

  pub vertex_at_most : {v : Vertex} → Within e v → VertexAtMost 23 v
  vertex_at_most A = record { z = coordinate_at_most A.z; r = coordinate_at_most A.r }

-- v units are no more than the distance from a point of the edge to a point of the box
pub record BoxFar (v : ℕ) (edge : Edge) (x : Aabb) : Type 0 where
  pub proof : (n E F : ℕ) → OnEdge (K edge.a.z) (K edge.b.z) (K edge.a.r) (K edge.b.r) n E F
      → (m z r : ℕ) → m * K x.z0 ≤ z → z ≤ m * K x.z1 → m * K x.r0 ≤ r → r ≤ m * K x.r1 → Far v n E F m z r

pub corner_at : {e : ℕ} {z r : Float} → Coordinate e z → Coordinate e r → Within e (record { z = z; r = r })
corner_at Z R = record { z = Z; r = R }

module _ (e : ℕ) (most : prec binary64 + e ≤ 1097) (edge : Edge) (x : Aabb) (P : Within e edge.a) (P' : Within e edge.b)
    (X : Boxed e x) where
  abbrev pub side : ℕ → CollisionHit
  side k = segments edge (vertex_at (corners x) k) (end_at (corners x) k)

  abbrev start : CollisionHit
  start = hit ∞ (on edge.number edge.a)

  edge_at_most : EdgeAtMost 23 (suc edge.number) edge
  edge_at_most = record { a = vertex_at_most e most P; b = vertex_at_most e most P'; number = le_refl (suc edge.number) }

  box_at_most : BoxAtMost 23 x
  box_at_most = record {
    z0 = coordinate_at_most e most X.z0;
    z1 = coordinate_at_most e most X.z1;
    r0 = coordinate_at_most e most X.r0;
    r1 = coordinate_at_most e most X.r1;
  }

  pub edge_box_number : T (number binary64 (edge_box x edge).distance)
  edge_box_number = finite_number_lem (edge_box_at_most box_at_most edge_at_most).distance

  least : Least side 4 (nearest_of side start 4)
  least = nearest_least side start 4 (inf_number binary64 false) (λ k l. finite_number_lem (segments_at_most edge_at_most
      (vertex_at_at_most (corners_at_most box_at_most) k l) (end_at_at_most (corners_at_most box_at_most) k l)).distance)

  sized : Sized x edge.a edge.b
  sized = record {
    z0 = f X.z0;
    z1 = f X.z1;
    r0 = f X.r0;
    r1 = f X.r1;
    az = f P.z;
    ar = f P.r;
    bz = f P'.z;
    br = f P'.r;
  }
    where
      f : {c : Float} → Coordinate e c → Finite 23 c
      f = coordinate_finite e most

  -- an end inside the box
  abbrev pub In : Vertex → Type 0
  In v = (K x.z0 ≤ K v.z) × (K v.z ≤ K x.z1) × (K x.r0 ≤ K v.r) × (K v.r ≤ K x.r1)

  clipped : clip x edge.a edge.b ≡ None → In edge.a → In edge.b → ⊥
  clipped h a b = none-some _ (sym h ∙ clip_whole x edge.a edge.b sized
      (record { z_from = a.0; z_to = a.1; r_from = a.2; r_to = a.3 }) (record {
        z_from = b.0;
        z_to = b.1;
        r_from = b.2;
        r_to = b.3;
      }))

  -- A CLIPPED EDGE HAS 0; of any other, what is no more than each of the four sides' distances, and the ends are not both inside
  pub by_sides : (η : ℕ) → ((w : ℕ) → ((k : ℕ) → k < 4 → w ≤ K (side k).distance - M) → (In edge.a → In edge.b → ⊥)
      → BoxFar (w - η) edge x)
      → BoxFar (K (edge_box x edge).distance - M - η) edge x
  unfolding edge_box
  by_sides η f = pick_some Here (clip x edge.a edge.b) (λ c h. record {
    proof = λ n E F p m z r z0 z1 r0 r1. far_none _ n E F m z r (zero (K 𝟘) M η zero_key);
  }) (λ h. f (K (nearest_of side start 4).distance - M) (λ k l. less (least.least k l)) (clipped h))
    where
      Here : CollisionHit → Type 0
      Here h = BoxFar (K h.distance - M - η) edge x

      zero : (k m c : ℕ) → k ≡ m → k - m - c ≡ 0
      zero k m c e = omega arith

      less : {a b : ℕ} → a ≤ b → a - M ≤ b - M
      less {a} {b} h = go a b M h
        where
          go : (a b c : ℕ) → a ≤ b → a - c ≤ b - c
          go a b c h = omega arith

  module _ (ε : ℕ) (ε⁺ : 1024 * (H * 2 ^ e * 2 ^ e) ≤ ε * ε) (w : ℕ) (l : (k : ℕ) → k < 4 → w ≤ K (side k).distance - M) where
    abbrev η : ℕ
    η = ε + 365 * 2 ^ e

    abbrev corner : ℕ → Vertex
    corner = vertex_at (corners x)

    turned_wide : (a b : Float) → Coarse e (apart (K a) (K b)) → Coarse e (apart (K b) (K a))
    turned_wide a b c = subst (λ (h : ℕ). Coarse e h) (apart_comm (K a) (K b)) c

    down : (k : ℕ) → k < 4 → w - η ≤ K (side k).distance - M - η
    down k h = go w (K (side k).distance - M) η (l k h)
      where
        go : (a b c : ℕ) → a ≤ b → a - c ≤ b - c
        go a b c h = omega arith

    abbrev Edge-point : ℕ → ℕ → ℕ → Type 0
    Edge-point = OnEdge (K edge.a.z) (K edge.b.z) (K edge.a.r) (K edge.b.r)

    -- ---- the sides along z, where they are wide, and those along r
    module _ (wide : Coarse e (apart (K x.z1) (K x.z0))) where
      pub low_r : (n E F m z : ℕ) → Edge-point n E F → m * K x.z0 ≤ z → z ≤ m * K x.z1
          → Far (w - η) n E F m z (m * K x.r0)
      low_r n E F m z p a b = far_turned _ n F E m _ z (far_less _ _ n F E m _ z (down 0 (leb→le _ _ tt))
          (from_clear _ _ _ _ _ _ _ _ _ (segments_z e edge (corner 0) (corner 1) P P' (corner_at X.z0 X.r0)
          (corner_at X.z1 X.r0)
          ε ε⁺ refl wide) n F E m z (on_turned p) (inl (a, b))))

      pub high_r : (n E F m z : ℕ) → Edge-point n E F → m * K x.z0 ≤ z → z ≤ m * K x.z1
          → Far (w - η) n E F m z (m * K x.r1)
      high_r n E F m z p a b = far_turned _ n F E m _ z (far_less _ _ n F E m _ z (down 2 (leb→le _ _ tt))
          (from_clear _ _ _ _ _ _ _ _ _ (segments_z e edge (corner 2) (corner 3) P P' (corner_at X.z1 X.r1)
          (corner_at X.z0 X.r1)
          ε ε⁺ refl (turned_wide x.z1 x.z0 wide)) n F E m z (on_turned p) (inr (a, b))))

    module _ (wide : Coarse e (apart (K x.r1) (K x.r0))) where
      pub low_z : (n E F m r : ℕ) → Edge-point n E F → m * K x.r0 ≤ r → r ≤ m * K x.r1
          → Far (w - η) n E F m (m * K x.z0) r
      low_z n E F m r p a b = far_less _ _ n E F m _ r (down 3 (leb→le _ _ tt))
          (from_clear _ _ _ _ _ _ _ _ _ (segments_r e edge (corner 3) (corner 0) P P' (corner_at X.z0 X.r1)
          (corner_at X.z0 X.r0)
          ε ε⁺ refl (turned_wide x.r1 x.r0 wide)) n E F m r p (inr (a, b)))

      pub high_z : (n E F m r : ℕ) → Edge-point n E F → m * K x.r0 ≤ r → r ≤ m * K x.r1
          → Far (w - η) n E F m (m * K x.z1) r
      high_z n E F m r p a b = far_less _ _ n E F m _ r (down 1 (leb→le _ _ tt))
          (from_clear _ _ _ _ _ _ _ _ _ (segments_r e edge (corner 1) (corner 2) P P' (corner_at X.z1 X.r0)
          (corner_at X.z1 X.r1)
          ε ε⁺ refl wide) n E F m r p (inl (a, b)))

    -- A BOX THAT IS WIDE BOTH WAYS
    pub wide_clear : (In edge.a → In edge.b → ⊥) → Wide e x → BoxFar (w - η) edge x
    wide_clear c W = record {
      proof = every_point _ _ _ _ _ _ _ _ _ (record {
        low_r = low_r W.z;
        high_r = high_r W.z;
        low_z = low_z W.r;
        high_z = high_z W.r;
      })
          (λ a b. absurd (c a b));
    }

  pub edge_box_clear : (ε : ℕ) → 1024 * (H * 2 ^ e * 2 ^ e) ≤ ε * ε → Wide e x
      → BoxFar (K (edge_box x edge).distance - M - (ε + 365 * 2 ^ e)) edge x
  edge_box_clear ε ε⁺ W = by_sides (ε + 365 * 2 ^ e) (λ w l c. wide_clear ε ε⁺ w l c W)
