-- 01'S TWO SEGMENTS, the second a side of a box that is not thin: the distance reported exceeds the exact distance from no point
-- of the edge to a point of the side by more than ε and 365 u. At 1,024 mm ε and 365 u are less than 2 ^ -11 mm, at 01's limit
-- less than 2 ^ -1 mm.
use Prim.Native.Nat.{◌*◌, ◌+◌, ◌-◌, ◌^◌, ◌≤◌, ℕ}
use mathlib.Core.Bool.{Bool, false, not, true}
use mathlib.Core.Logic.{inl, inr}
use mathlib.Core.Path.{◌≡◌, refl, subst}
use native.Mathlib.Omega.{arith}
use lib.Dec.{T, T_not}
use lib.Ieee.{binary64, Float, neg, prec}
use Rattle.arith.specs.F64.{◌⊖◌, ◌⊗◌, ◌⊘◌, ◌≼◌, 𝟘, 𝟙, e_18, e_24}
use Rattle.arith.proofs.Laws.Bounded.{Bounded, bounded_up}
use Rattle.arith.proofs.Laws.Sizes.{add_finite, Finite, finite_raise, K, M, mul_finite, sub_finite}
use Rattle.section.proofs.profile.Steps.{pick}
use Rattle.section.specs.declared.profile.shapes.Edge.{Edge}
use Rattle.section.specs.declared.profile.shapes.Vertex.{Vertex}
use Rattle.section.specs.segments.Segments.{closest_places, dot, minus, places, segments, unit_clamp}
use Rattle.section.specs.declared.segments.shapes.Places.{Places}
use Rattle.arith.specs.Whole.{apart}
use Rattle.truth.proofs.Points.Closest.{Within}
use Rattle.truth.proofs.Boxes.Axis.{side_wide}
use Rattle.truth.proofs.Boxes.Lengths.{Coarse, Coordinate, Dots, Dotted, Side, Slim}
use Rattle.truth.proofs.Boxes.Beside.{FromCorner}
use Rattle.truth.proofs.Boxes.Corners.{distance_at, first_corner, last_corner, turned_corner}
use Rattle.truth.proofs.Boxes.Floats.{H, sum_of, U}
use Rattle.truth.proofs.Boxes.Short.{short_first, short_good, short_last, short_r, short_z}
use Rattle.truth.proofs.Boxes.Sides.{Clear, clear, clear_short, clear_wider, Legs, of_first, of_side, Seen, seen}
use Rattle.truth.proofs.Boxes.Scales.{slim_longer}
use Rattle.truth.proofs.Boxes.Thin.{not_thin}
use Rattle.truth.proofs.Boxes.Turns.{sum_swap}

at_level : (δ w A B Q Q' a b q : ℕ) → Q' ≡ Q → FromCorner δ w A B Q' a b q → FromCorner δ w A B Q a b q
at_level δ w A B Q Q' a b q l f = subst (λ (v : ℕ). FromCorner δ w A B v a b q) l f

by_length : {X : Type 0} (b : Bool) → (T b → X) → (T (not b) → X) → X
by_length true f g = f tt
by_length false f g = g tt

module _ (e : ℕ) (most : prec binary64 + e ≤ 1097) (v w x y : Vertex) (A : Within e v) (B : Within e w) (X : Within e x)
    (Y : Within e y) where
  known : (c : Float) → Bounded binary64 (prec binary64 + e) c → Finite 23 c
  known c C = record { bounded = bounded_up binary64 (prec binary64 + e) 1097 c most C }

  z_finite : Finite 48 ((v.z ⊖ w.z) ⊗ (x.z ⊖ y.z))
  z_finite = mul_finite (sub_finite (known _ A.z) (known _ B.z) tt) (sub_finite (known _ X.z) (known _ Y.z) tt) tt

  r_finite : Finite 48 ((v.r ⊖ w.r) ⊗ (x.r ⊖ y.r))
  r_finite = mul_finite (sub_finite (known _ A.r) (known _ B.r) tt) (sub_finite (known _ X.r) (known _ Y.r) tt) tt

  -- a dot product, z first or r first
  dotted_z : Dotted (dot (minus v w) (minus x y)) (v.z ⊖ w.z) (x.z ⊖ y.z) (v.r ⊖ w.r) (x.r ⊖ y.r)
  dotted_z = record {
    finite = finite_raise (add_finite z_finite r_finite tt) {m = 50} tt;
    sum = sum_of _ _ (finite_raise z_finite {m = 200} tt) (finite_raise r_finite {m = 200} tt);
  }

  dotted_r : Dotted (dot (minus v w) (minus x y)) (v.r ⊖ w.r) (x.r ⊖ y.r) (v.z ⊖ w.z) (x.z ⊖ y.z)
  dotted_r = record { finite = dotted_z.finite; sum = sum_swap M U H _ _ _ dotted_z.sum }

-- ---- x is the coordinate along the side, y the one across: z and r, or r and z
pub record Axes (x y : Vertex → Float) : Type 0 where
  pub along : (e : ℕ) (v : Vertex) → Within e v → Coordinate e (x v)
  pub across : (e : ℕ) (v : Vertex) → Within e v → Coordinate e (y v)
  pub dotted : (e : ℕ) → prec binary64 + e ≤ 1097 → (v w v' w' : Vertex) → Within e v → Within e w → Within e v' → Within e w'
      → Dotted (dot (minus v w) (minus v' w')) (x v ⊖ x w) (x v' ⊖ x w') (y v ⊖ y w) (y v' ⊖ y w')
  pub legs : (p p'' q q' : Vertex) → Legs (x p) (x p'') (y p) (y p'') (x q) (x q') (y q) (y q') (distance_at p p'' q q')
  pub corner : (δ w : ℕ) (p p'' q : Vertex)
      → FromCorner δ w (K p.z) (K p''.z) (K q.z) (K p.r) (K p''.r) (K q.r)
      → FromCorner δ w (K (y p)) (K (y p'')) (K (y q)) (K (x p)) (K (x p'')) (K (x q))
  pub extent : (p p'' : Vertex) (m : ℕ) → apart (K p''.z) (K p.z) ≤ m → apart (K p''.r) (K p.r) ≤ m
      → apart (K (y p'')) (K (y p)) ≤ m

abbrev z_of : Vertex → Float
z_of v = v.z

abbrev r_of : Vertex → Float
r_of v = v.r

along_z : Axes z_of r_of
along_z = record {
  along = λ e v A. A.z;
  across = λ e v A. A.r;
  dotted = dotted_z;
  legs = λ p p'' q q'. record { either = λ s t. inl refl };
  corner = λ δ w p p'' q c. turned_corner _ _ _ _ _ _ _ _ c;
  extent = λ p p'' m a b. b;
}

along_r : Axes r_of z_of
along_r = record {
  along = λ e v A. A.r;
  across = λ e v A. A.z;
  dotted = dotted_r;
  legs = λ p p'' q q'. record { either = λ s t. inr refl };
  corner = λ δ w p p'' q c. c;
  extent = λ p p'' m a b. a;
}

module _ (e : ℕ) (edge : Edge) (q q' : Vertex) (P : Within e edge.a) (P' : Within e edge.b) (Q : Within e q)
    (Q' : Within e q')
    (ε : ℕ) (ε⁺ : 1024 * (H * 2 ^ e * 2 ^ e) ≤ ε * ε) where
  abbrev p : Vertex
  p = edge.a

  abbrev p'' : Vertex
  p'' = edge.b

  abbrev a : Float
  a = dot (minus p'' p) (minus p'' p)

  abbrev b : Float
  b = dot (minus p'' p) (minus q' q)

  abbrev c : Float
  c = dot (minus p'' p) (minus p q)

  abbrev e' : Float
  e' = dot (minus q' q) (minus q' q)

  abbrev f : Float
  f = dot (minus q' q) (minus p q)

  -- what a corner may lose
  abbrev δ : ℕ
  δ = 64 * (4 * 2 ^ e)

  room : ε + (δ + 109 * 2 ^ e) ≤ ε + 365 * 2 ^ e
  room = go ε (2 ^ e)
    where
      go : (ε u : ℕ) → ε + (64 * (4 * u) + 109 * u) ≤ ε + 365 * u
      go ε u = omega arith

  module _ (x y : Vertex → Float) (axes : Axes x y) (level : K (y q') ≡ K (y q)) where
    dots : prec binary64 + e ≤ 1097 → Dots (x p) (x p'') (y p) (y p'') (x q) (x q') (y q) (y q') a b c e' f
    dots most = record {
      a_dots = axes.dotted e most p'' p p'' p P' P P' P;
      b_dots = axes.dotted e most p'' p q' q P' P Q' Q;
      c_dots = axes.dotted e most p'' p p q P' P P Q;
      e_dots = axes.dotted e most q' q q' q Q' Q Q' Q;
      f_dots = axes.dotted e most q' q p q Q' Q P Q;
    }

    abbrev Clear-of : ℕ → Float → Type 0
    Clear-of η d = Clear η (K d - M) (K (y p)) (K (y p'')) (K (y q)) (K (x p)) (K (x p'')) (K (x q)) (K (x q'))

    abbrev Seen-of : ℕ → Float → Type 0
    Seen-of η d = Seen η δ (2 ^ e) (K d - M) (K (y p)) (K (y p'')) (K (y q)) (K (x p)) (K (x p'')) (K (x q)) (K (x q'))

    abbrev AtFirst : Places → Type 0
    AtFirst at = FromCorner δ (K (distance_at p p'' q q' at) - M) (K (y p)) (K (y p'')) (K (y q)) (K (x p)) (K (x p'')) (K (x q))

    abbrev AtLast : Places → Type 0
    AtLast at = FromCorner δ (K (distance_at p p'' q q' at) - M) (K (y p)) (K (y p'')) (K (y q)) (K (x p)) (K (x p'')) (K (x q'))

    abbrev measured : Float
    measured = distance_at p p'' q q' (closest_places a b c e' f)

    -- ---- the corners, whatever the side's length
    module _ (h : ℕ) (slim : Slim e h) where
      first_short : T (a ≼ e_24) → AtFirst (places 𝟘 𝟘)
      first_short s = axes.corner _ _ p p'' q (short_first e _ slim p p'' q q' P P' Q Q' s)

      last_short : T (a ≼ e_24) → AtLast (places 𝟘 𝟙)
      last_short s = at_level _ _ _ _ _ _ _ _ _ level (axes.corner _ _ p p'' q' (short_last e _ slim p p'' q q' P P' Q Q' s))

      first_long : T (not (a ≼ e_24)) → AtFirst (places (unit_clamp (neg c ⊘ a)) 𝟘)
      first_long l = axes.corner _ _ p p'' q (first_corner e _ slim p p'' q q' P P' Q Q' l)

      last_long : T (not (a ≼ e_24)) → AtLast (places (unit_clamp ((b ⊖ c) ⊘ a)) 𝟙)
      last_long l = at_level _ _ _ _ _ _ _ _ _ level (axes.corner _ _ p p'' q' (last_corner e _ slim p p'' q q' P P' Q Q' l))

    -- ---- a side that is not taken for a point
    module _ (slim : Slim e (apart (K (x q')) (K (x q)))) where
      side : Side e (x p) (x p'') (y p) (y p'') (x q) (x q') (y q) (y q')
      side = record {
        a_along = axes.along e p P;
        b_along = axes.along e p'' P';
        a_across = axes.across e p P;
        b_across = axes.across e p'' P';
        q_along = axes.along e q Q;
        q'_along = axes.along e q' Q';
        q_across = axes.across e q Q;
        q'_across = axes.across e q' Q';
        level = level;
        slim = slim;
      }

      module _ (wide : T (not (e' ≼ e_24))) where
        by_end : T (a ≼ e_24) → Clear-of (ε + (δ + 109 * 2 ^ e)) measured
        by_end s = clear_short e (x p) (x p'') (y p) (y p'') (x q) (x q') (y q) (y q') side a b c e' f (dots slim.most)
            (distance_at p p'' q q') (axes.legs p p'' q q') ε ε⁺ δ wide s
            (short_good e _ slim p p'' q q' P P' Q Q' s ε ε⁺ (K (y p)) (K (y p'')) (K (y q))
            (axes.extent p p'' (32 * 2 ^ e) (short_z e _ slim p p'' q q' P P' Q Q' s) (short_r e _ slim p p'' q q' P P' Q Q' s)))
            (first_short _ slim s) (last_short _ slim s)

        by_place : T (not (a ≼ e_24))
            → (K e_18 - M) * (U * (U * U)) ≤ 500 * (H * 2 ^ e * 2 ^ e * (apart (K (x q')) (K (x q)) * apart (K (x q')) (K (x q))))
            → Clear-of (ε + (δ + 109 * 2 ^ e)) measured
        by_place l = clear e (x p) (x p'') (y p) (y p'') (x q) (x q') (y q) (y q') side a b c e' f (dots slim.most)
            (distance_at p p'' q q') (axes.legs p p'' q q') ε ε⁺ δ wide l
            (first_long _ slim l) (last_long _ slim l)

        by_any : T (not (a ≼ e_24)) → Seen-of (ε + (δ + 109 * 2 ^ e)) measured
        by_any l = seen e (x p) (x p'') (y p) (y p'') (x q) (x q') (y q) (y q') side a b c e' f (dots slim.most)
            (distance_at p p'' q q') (axes.legs p p'' q q') ε ε⁺ δ wide l
            (first_long _ slim l) (last_long _ slim l)

    -- OF A SIDE THAT IS NOT THIN
    segments_clear : Coarse e (apart (K (x q')) (K (x q))) → Clear-of (ε + 365 * 2 ^ e) (segments edge q q').distance
    unfolding segments
    segments_clear coarse = clear_wider _ (ε + 365 * 2 ^ e) _ _ _ _ _ _ _ _ room
        (by_length (a ≼ e_24) (by_end coarse.slim wide) (λ l. by_place coarse.slim wide l coarse.tiny))
      where
        wide : T (not (e' ≼ e_24))
        wide = side_wide e (x p) (x p'') (y p) (y p'') (x q) (x q') (y q) (y q') (side coarse.slim) a b c e' f
            (dots coarse.slim.most) coarse.long

    -- OF ANY
    module _ (slim : Slim e (2 ^ 600)) where
      by_point : T (e' ≼ e_24) → Seen-of (ε + (δ + 109 * 2 ^ e)) measured
      unfolding closest_places
      by_point h = pick R (a ≼ e_24)
          (λ s. pick R (e' ≼ e_24) (λ k. of_first (first_short _ slim s)) (λ k. absurd (T_not (e' ≼ e_24) k h)))
          (λ l. pick R (e' ≼ e_24) (λ k. of_first (first_long _ slim l)) (λ k. absurd (T_not (e' ≼ e_24) k h)))
        where
          R : Places → Type 0
          R at = Seen-of (ε + (δ + 109 * 2 ^ e)) (distance_at p p'' q q' at)

      side_slim : T (not (e' ≼ e_24)) → Slim e (apart (K (x q')) (K (x q)))
      side_slim n = slim_longer e (2 ^ 600) _ (not_thin (x q) (x q') (y q) (y q') e' (in_23 (axes.along e q Q))
          (in_23 (axes.along e q' Q'))
          (in_23 (axes.across e q Q)) (in_23 (axes.across e q' Q')) level (dots slim.most).e_dots slim.small.digits n)
          slim
        where
          in_23 : {v : Float} → Coordinate e v → Finite 23 v
          in_23 {v} B = record { bounded = bounded_up binary64 (prec binary64 + e) 1097 v slim.most B }

      segments_seen : Seen-of (ε + (δ + 109 * 2 ^ e)) (segments edge q q').distance
      unfolding segments
      segments_seen = by_length (e' ≼ e_24) by_point
          (λ n. by_length (a ≼ e_24) (λ s. of_side (by_end (side_slim n) n s)) (by_any (side_slim n) n))

  -- ---- a side along z
  module _ (level : K q'.r ≡ K q.r) where
    pub segments_z : Coarse e (apart (K q'.z) (K q.z)) → Clear (ε + 365 * 2 ^ e) (K (segments edge q q').distance - M)
        (K p.r) (K p''.r) (K q.r) (K p.z) (K p''.z) (K q.z) (K q'.z)
    segments_z = segments_clear z_of r_of along_z level

    pub segments_seen_z : Slim e (2 ^ 600) → Seen (ε + (δ + 109 * 2 ^ e)) δ (2 ^ e) (K (segments edge q q').distance - M)
        (K p.r) (K p''.r) (K q.r) (K p.z) (K p''.z) (K q.z) (K q'.z)
    segments_seen_z = segments_seen z_of r_of along_z level

  -- ---- a side along r
  module _ (level : K q'.z ≡ K q.z) where
    pub segments_r : Coarse e (apart (K q'.r) (K q.r)) → Clear (ε + 365 * 2 ^ e) (K (segments edge q q').distance - M)
        (K p.z) (K p''.z) (K q.z) (K p.r) (K p''.r) (K q.r) (K q'.r)
    segments_r = segments_clear r_of z_of along_r level

    pub segments_seen_r : Slim e (2 ^ 600) → Seen (ε + (δ + 109 * 2 ^ e)) δ (2 ^ e) (K (segments edge q q').distance - M)
        (K p.z) (K p''.z) (K q.z) (K p.r) (K p''.r) (K q.r) (K q'.r)
    segments_seen_r = segments_seen r_of z_of along_r level
