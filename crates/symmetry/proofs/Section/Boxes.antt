-- The distance of a box does not see the sign of a zero in its bounds, nor how they are written: distance and witness are the
-- same but for the sign of a zero, and the edge is the same.
use Prim.Native.Nat.{◌*◌, ◌+◌, suc, zero, ℕ}
use mathlib.Core.Bool.{◌&&◌, ◌||◌, Bool}
use mathlib.Core.List.{List}
use mathlib.Core.Path.{refl, ◌≡◌}
use lib.Ieee.{binary64, Float, neg}
use Rattle.std.specs.Prelude.{Option, None, Some}
use Rattle.std.specs.Option.{option_and_then, option_map_or}
use Rattle.arith.specs.F64.{◌⊘◌, ◌≺◌, ◌≼◌, 𝟘, 𝟙, ½, e_9, e_12, e_15, e_18}
use Rattle.arith.specs.Num.{abs}
use Rattle.section.specs.profile.Vertices.{count, edge_at, end_at, next, vertex_at}
use Rattle.section.specs.declared.profile.shapes.Aabb.{Aabb}
use Rattle.section.specs.declared.profile.shapes.Vertex.{Vertex}
use Rattle.section.specs.declared.profile.shapes.Edge.{Edge}
use Rattle.section.specs.declared.profile.shapes.Witness.{Witness}
use Rattle.section.specs.segments.Clip.{clip, clip_side, part}
use Rattle.section.specs.segments.Segments.{minus}
use Rattle.section.specs.declared.segments.shapes.Part.{Part}
use Rattle.section.specs.points.Overlap.{result_of}
use Rattle.section.specs.boxes.Boxes.{box_distance, box_gap, box_holds, box_penetration, box_witness, corners, edge_box, middle, probe}
use Rattle.section.specs.boxes.Boxes.{segment_through_interior, strictly_inside_aabb}
use Rattle.symmetry.specs.Alike.{Like, LikeHit, LikeWitness, same}
use Rattle.symmetry.proofs.Floats.Like.{like_div, like_le, like_lt, like_mul}
use Rattle.symmetry.proofs.Section.Points.{point_like}
use Rattle.symmetry.proofs.Floats.Written.{Equal, equal_add, equal_lt, equal_sub, one}
use Rattle.symmetry.proofs.Section.Segments.{along_like, segments_like}
use Rattle.symmetry.proofs.Section.Shapes.{any_same, branch, cons, EqualList, EqualVertex, list_at, nearest_like, nil}
use Rattle.symmetry.proofs.Section.Shapes.{on_like, either, point_of_lem, same_hit, same_point_lem, same_witness, upto_like}

pub record EqualBox (x y : Aabb) : Type 0 where
  pub z0 : Equal x.z0 y.z0
  pub z1 : Equal x.z1 y.z1
  pub r0 : Equal x.r0 y.r0
  pub r1 : Equal x.r1 y.r1

-- ---- the clip
record LikePart (c d : Part) : Type 0 where
  pub t0 : Like c.t0 d.t0
  pub t1 : Like c.t1 d.t1

abbrev LikeClip : Option Part → Option Part → Type 0
LikeClip None None = Unit
LikeClip None (Some d) = ⊥
LikeClip (Some c) None = ⊥
LikeClip (Some c) (Some d) = LikePart c d

side_like : (p : Float) {q q' : Float} (c c' : Part) → Like q q' → LikePart c c' → LikeClip (clip_side p q c) (clip_side p q' c')
unfolding clip_side
side_like p {q} {q'} c c' Q C =
    branch LikeClip (abs p ≼ e_18)
    (λ h. either LikeClip (like_lt Q (same {x = neg e_15})) (λ k. tt) (λ k. C))
    (λ h. branch LikeClip (p ≺ 𝟘)
    (λ k. either LikeClip (like_lt C.t1 t) (λ l. tt)
    (λ l. either LikeClip (like_lt C.t0 t) (λ m. record { t0 = t; t1 = C.t1 }) (λ m. C)))
    (λ k. either LikeClip (like_lt t C.t0) (λ l. tt)
    (λ l. either LikeClip (like_lt t C.t1) (λ m. record { t0 = C.t0; t1 = t }) (λ m. C))))
  where
    t : Like (q ⊘ p) (q' ⊘ p)
    t = like_div binary64 p Q

then_like : (f g : Part → Option Part) (o o' : Option Part) → ((c d : Part) → LikePart c d → LikeClip (f c) (g d))
    → LikeClip o o' → LikeClip (option_and_then f o) (option_and_then g o')
then_like f g None None h C = tt
then_like f g None (Some d) h C = absurd C
then_like f g (Some c) None h C = absurd C
then_like f g (Some c) (Some d) h C = h c d C

-- what is made of a part, or of none
map_like : {A : Type 0} (P : A → A → Type 0) (f g : Part → A) (o o' : Option Part) {x y : A}
    → ((c d : Part) → LikePart c d → P (f c) (g d)) → P x y → LikeClip o o' → P (option_map_or f o x) (option_map_or g o' y)
map_like P f g None None h k C = k
map_like P f g None (Some d) h k C = absurd C
map_like P f g (Some c) None h k C = absurd C
map_like P f g (Some c) (Some d) h k C = h c d C

module _ {x x' : Aabb} (X : EqualBox x x') where
  clip_like : (a b : Vertex) → LikeClip (clip x a b) (clip x' a b)
  unfolding clip
  clip_like a b =
      let d = minus b a in
      let c₁ = side_like (neg d.z) (part 𝟘 𝟙) (part 𝟘 𝟙) (equal_sub binary64 (one (same {x = a.z})) X.z0)
      (record { t0 = same; t1 = same }) in
      let c₂ = then_like _ _ _ _ (λ c c'. side_like d.z c c' (equal_sub binary64 X.z1 (one (same {x = a.z})))) c₁ in
      let c₃ = then_like _ _ _ _ (λ c c'. side_like (neg d.r) c c' (equal_sub binary64 (one (same {x = a.r})) X.r0)) c₂ in
      let c₄ = then_like _ _ _ _ (λ c c'. side_like d.r c c' (equal_sub binary64 X.r1 (one (same {x = a.r})))) c₃ in
      then_like _ _ _ _ (λ c c' C. either LikeClip (like_lt C.t1 C.t0) (λ h. tt) (λ h. C)) c₄

  -- ---- corners and sides
  corners_like : EqualList (corners x) (corners x')
  corners_like =
      cons X.z0 (cons X.r0 (cons X.z1 (cons X.r0 (cons X.z1 (cons X.r1 (cons X.z0 (cons X.r1 nil)))))))

  corner_like : (k : ℕ) → EqualVertex (vertex_at (corners x) k) (vertex_at (corners x') k)
  corner_like k = record { z = list_at corners_like (k * 2); r = list_at corners_like (k * 2 + 1) }

  edge_like : (e : Edge) → LikeHit (edge_box x e) (edge_box x' e)
  unfolding edge_box
  edge_like e =
      map_like LikeHit _ _ (clip x e.a e.b) (clip x' e.a e.b)
      (λ c c' C. record {
        distance = same;
        witness = on_like e.number (along_like (same_point_lem {v = e.a}) (same_point_lem {v = e.b}) C.t0);
      })
      (nearest_like same_hit (λ k. segments_like e (corner_like k) (corner_like (next 4 k))) 4)
      (clip_like e.a e.b)

  -- ---- more than 1e-9 inside
  inside_like : {v v' : Vertex} → EqualVertex v v' → strictly_inside_aabb x v ≡ strictly_inside_aabb x' v'
  unfolding strictly_inside_aabb
  inside_like W =
      by (equal_lt (one (equal_add binary64 X.z0 slack)) W.z) (equal_lt W.z (one (equal_sub binary64 X.z1 slack)))
      (equal_lt (one (equal_add binary64 X.r0 slack)) W.r) (equal_lt W.r (one (equal_sub binary64 X.r1 slack)))
    where
      slack : Equal e_9 e_9
      slack = one same

      by : {t t' u u' v v' w w' : Bool} → t ≡ t' → u ≡ u' → v ≡ v' → w ≡ w'
          → (t && (u && (v && w))) ≡ (t' && (u' && (v' && w')))
      by e f g h = rw (e, f, g, h)

  middle_like : {a a' b b' : Vertex} → EqualVertex a a' → EqualVertex b b' → EqualVertex (middle a b) (middle a' b')
  middle_like A B =
      record {
        z = one (like_mul binary64 (equal_add binary64 A.z B.z) (same {x = ½}));
        r = one (like_mul binary64 (equal_add binary64 A.r B.r) (same {x = ½}));
      }

  through_like : (a b : Vertex) → segment_through_interior x a b ≡ segment_through_interior x' a b
  unfolding segment_through_interior
  through_like a b =
      let A = same_point_lem {v = a} in
      let B = same_point_lem {v = b} in
      map_like (λ t t'. t ≡ t') _ _ (clip x a b) (clip x' a b)
      (λ c c' C. inside_like (middle_like (point_of_lem (along_like A B C.t0)) (point_of_lem (along_like A B C.t1))))
      refl (clip_like a b)

  probe_like : (k : ℕ) → EqualVertex (probe x k) (probe x' k)
  probe_like zero = middle_like (corner_like 0) (corner_like 2)
  probe_like (suc k) = corner_like k

  module _ (s : List Float) where
    gap_like : LikeHit (box_gap s x) (box_gap s x')
    unfolding box_gap
    gap_like = nearest_like same_hit (λ k. edge_like (edge_at s k)) (count s)

    penetration_like : {w w' : Witness} → LikeWitness w w' → LikeHit (box_penetration s x w) (box_penetration s x' w')
    unfolding box_penetration
    penetration_like W = nearest_like (record { distance = same; witness = W }) (λ k. point_like s (probe_like k)) 5

    witness_like : {w w' : Witness} → LikeWitness w w' → LikeWitness (box_witness s x w) (box_witness s x' w')
    unfolding box_witness
    witness_like W =
        upto_like LikeWitness W
        (λ k v v' U. either LikeWitness (inside_like (same_point_lem {v = vertex_at s k})) (λ h. same_witness) (λ h. U)) (count s)

    holds_like : box_holds s x ≡ box_holds s x'
    unfolding box_holds
    holds_like =
        by (any_same (λ k. inside_like (same_point_lem {v = vertex_at s k})) (count s))
        (any_same (λ k. through_like (vertex_at s k) (end_at s k)) (count s))
      where
        by : {t t' u u' : Bool} → t ≡ t' → u ≡ u' → (t || u) ≡ (t' || u')
        by e f = rw (e, f)

    pub box_distance_like : LikeHit (box_distance s x) (box_distance s x')
    unfolding box_distance result_of
    box_distance_like =
        let gap = gap_like in
        let deep = penetration_like gap.witness in
        record {
          distance = either Like (like_lt deep.distance (same {x = neg e_9})) (λ h. deep.distance)
              (λ h. either Like holds_like (λ k. same)
              (λ k. either Like (like_le gap.distance (same {x = e_12})) (λ l. same) (λ l. gap.distance)));
          witness = witness_like deep.witness;
        }
