-- 01's EVEN-ODD RULE IS TRUE of every point that is farther from the surface than the errors reach, beside a plain section.
use Prim.Native.Nat.{◌*◌, ◌<◌, ◌^◌, suc, ℕ, ◌≤◌}
use mathlib.Core.Bool.{◌&&◌, ◌||◌, Bool, cond, false, not, true}
use mathlib.Core.List.{List}
use mathlib.Core.Logic.{inl, inr, ◌⊎◌}
use mathlib.Core.Path.{◌≡◌, sym, subst, ◌∙◌}
use native.Mathlib.Nat.{le_of_eq, le_trans, lt_irrefl, lt_of_lt_of_le}
use lib.Dec.{eqb→eq, T}
use lib.Ieee.{binary64, eq, Float}
use Rattle.arith.proofs.roots.Rounding.Key.{finite_number, number_of, unit}
use Rattle.arith.proofs.roots.Rounding.KeyOrder.{eq_key}
use Rattle.arith.specs.F64.{◌⊖◌, ◌≼◌, 𝟘, e_18}
use Rattle.arith.specs.Num.{abs}
use Rattle.arith.proofs.Laws.Sizes.{K, M, zero_finite, zero_key}
use Rattle.section.specs.profile.Vertices.{count, end_at, next, vertex_at}
use Rattle.section.specs.declared.profile.shapes.Vertex.{Vertex}
use Rattle.section.proofs.profile.Steps.{any_not}
use Rattle.section.specs.points.Points.{crosses, edge_is_surface, point_distance, point_inside}
use Rattle.section.proofs.Demand.Hits.{next_below}
use Rattle.truth.specs.Exact.{origin, place, size}
use Rattle.truth.specs.Points.{Surface}
use Rattle.truth.specs.Solid.{exact_crosses, exact_inside, plain, plain_edge, SameSide, vertex_inside}
use Rattle.truth.proofs.Sides.Solid.{Beside}
use Rattle.truth.proofs.Points.Closest.{Fine, Within}
use Rattle.truth.proofs.Places.{origin_is, place_is}
use Rattle.truth.proofs.Points.Distance.{point_true}
use Rattle.truth.proofs.Sides.Crosses.{crosses_true, level}
use Rattle.truth.proofs.Sides.Solid.{same_side, upto_same}

-- what the test says of one edge
data Plain (a b : Vertex) : Type 0 where
  same_radius : T (edge_is_surface a b) → T (eq a.r b.r) → Plain a b
  steep : T (edge_is_surface a b) → T (not (abs (b.r ⊖ a.r) ≼ e_18)) → Plain a b
  on_axis : T (eq a.r 𝟘) → T (eq b.r 𝟘) → Plain a b

plain_edge_lem : (a b : Vertex) → T (plain_edge a b) → Plain a b
plain_edge_lem a b h =
    go (edge_is_surface a b) (eq a.r b.r) (not (abs (b.r ⊖ a.r) ≼ e_18)) (eq a.r 𝟘)
    (eq b.r 𝟘) same_radius steep on_axis h
  where
    go : (c x y z w : Bool) → (T c → T x → Plain a b) → (T c → T y → Plain a b) → (T z → T w → Plain a b)
        → T (cond c (x || y) (z && w)) → Plain a b
    go true true y z w f g i h = f tt tt
    go true false y z w f g i h = g tt h
    go false x y true true f g i h = i tt tt
    go false x y true false f g i h = absurd h
    go false x y false w f g i h = absurd h

plain_at : (s : List Float) → T (plain s) → (k : ℕ) → k < count s → Plain (vertex_at s k) (end_at s k)
unfolding plain
plain_at s h k l = plain_edge_lem (vertex_at s k) (end_at s k)
    (go (plain_edge (vertex_at s k) (end_at s k)) (any_not (λ k. not (plain_edge (vertex_at s k) (end_at s k))) (count s) h k l))
  where
    go : (b : Bool) → (T (not b) → ⊥) → T b
    go true f = tt
    go false f = absurd (f tt)

same_key : (x y : Float) → T (finite_number binary64 x) → T (finite_number binary64 y) → T (eq x y) → K x ≡ K y
same_key x y X Y h = eqb→eq (K x) (K y) (subst T (eq_key binary64 x y (number_of binary64 x X) (number_of binary64 y Y)) h)

zero_key_of : (x : Float) → T (finite_number binary64 x) → T (eq x 𝟘) → K x ≡ M
zero_key_of x X h = same_key x 𝟘 X (zero_finite 0).bounded.sure h ∙ zero_key

-- ---- an edge with an end beside the axis is a surface
module _ (e : ℕ) (s : List Float) (S : (m : ℕ) → m < count s → Within e (vertex_at s m)) (straight : T (plain s)) where
  ends : (m : ℕ) → m < count s → Within e (end_at s m)
  ends m l = S (next (count s) m) (next_below (count s) m l)

  pub beside : Beside s
  beside m l h = go (plain_at s straight m l) h
    where
      off : (x : Float) → T (finite_number binary64 x) → T (eq x 𝟘) → origin < place x → ⊥
      off x X h l =
          lt_irrefl M (lt_of_lt_of_le (subst (λ z. z < place x) origin_is l) (le_of_eq (place_is x ∙ zero_key_of x X h)))

      go : Plain (vertex_at s m) (end_at s m) → (origin < place (vertex_at s m).r) ⊎ (origin < place (end_at s m).r) → Surface s m
      go (same_radius t q) h = t
      go (steep t q) h = t
      go (on_axis x y) (inl h) = absurd (off (vertex_at s m).r (S m l).r.sure x h)
      go (on_axis x y) (inr h) = absurd (off (end_at s m).r (ends m l).r.sure y h)

  -- the ends of one that is none are both on the axis
  pub one_radius : (m : ℕ) → m < count s → (Surface s m → ⊥) → place (vertex_at s m).r ≡ place (end_at s m).r
  one_radius m l h = go (plain_at s straight m l)
    where
      go : Plain (vertex_at s m) (end_at s m) → place (vertex_at s m).r ≡ place (end_at s m).r
      go (same_radius t q) = absurd (h t)
      go (steep t q) = absurd (h t)
      go (on_axis x y) =
          place_is (vertex_at s m).r ∙ zero_key_of (vertex_at s m).r (S m l).r.sure x
          ∙ sym (zero_key_of (end_at s m).r (ends m l).r.sure y)
          ∙ sym (place_is (end_at s m).r)

module _ (e k : ℕ) (fine : Fine e k) (coarse : unit binary64 ≤ 2 ^ e * 2 ^ 1014) (s : List Float) (p : Vertex)
    (P : Within (suc e) p)
    (S : (m : ℕ) → m < count s → Within e (vertex_at s m)) (straight : T (plain s)) where
  module _ (far : 77 * 2 ^ e < size (point_distance s p).distance) where
    crosses_at_lem : (m : ℕ) → m < count s
        → crosses p (vertex_at s m) (end_at s m) ≡ exact_crosses 1 (place p.z) (place p.r) (vertex_at s m) (end_at s m)
    crosses_at_lem m l = go (plain_at s straight m l)
      where
        go : Plain (vertex_at s m) (end_at s m)
            → crosses p (vertex_at s m) (end_at s m) ≡ exact_crosses 1 (place p.z) (place p.r) (vertex_at s m) (end_at s m)
        go (same_radius t q) =
            level p (vertex_at s m) (end_at s m) P (S m l) (ends e s S straight m l)
            (same_key _ _ (S m l).r.sure (ends e s S straight m l).r.sure q)
        go (steep t q) =
            crosses_true p (vertex_at s m) (end_at s m) e k fine coarse P (S m l) (ends e s S straight m l) _ far
            ((point_true e k fine s p P S).never_over m l t) q
        go (on_axis x y) =
            level p (vertex_at s m) (end_at s m) P (S m l) (ends e s S straight m l)
            (zero_key_of _ (S m l).r.sure x ∙ sym (zero_key_of _ (ends e s S straight m l).r.sure y))

    -- 01's rule is the exact one
    pub inside_true : point_inside s p ≡ vertex_inside s p
    unfolding point_inside exact_inside
    inside_true = upto_same _ _ (count s) crosses_at_lem

  -- and whatever is nearer than the surface is inside where p is
  pub side_true : M ≤ K p.r → SameSide (64 * 2 ^ e) (size (point_distance s p).distance) s p
  side_true h =
      same_side (64 * 2 ^ e) (size (point_distance s p).distance) s p
      (le_trans (le_of_eq origin_is) (le_trans h (le_of_eq (sym (place_is p.r))))) (beside e s S straight)
      (point_true e k fine s p P S).never_over
