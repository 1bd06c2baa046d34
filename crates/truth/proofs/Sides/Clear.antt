-- CLEAR OF THE SOLID: a point whose reported distance is positive, and more than the errors, is outside the section, and every
-- point of the section is as far from it as reported.
use Prim.Native.Nat.{◌*◌, ◌+◌, ◌-◌, ◌<◌, ◌^◌, suc, ℕ, ◌≤◌}
use mathlib.Core.Bool.{◌||◌, Bool, false, not, true}
use mathlib.Core.List.{List}
use mathlib.Core.Logic.{inl, inr}
use mathlib.Core.Path.{◌≡◌, ap₂, refl, sym, subst, ◌∙◌}
use native.Mathlib.Nat.{le_of_eq, lt_irrefl, lt_of_le_of_lt, lt_of_lt_of_le}
use native.Mathlib.Omega.{arith}
use lib.Dec.{leb→le, ltb, nleb→lt, T}
use lib.Ieee.{binary64, fin, Float, inf, nan, neg, of_bits, unlike}
use lib.Ieee.Scale.{finite}
use Rattle.arith.proofs.roots.Numbers.{decide}
use Rattle.arith.proofs.roots.Rounding.Key.{finite_of, key, magnitude, mid, unit}
use Rattle.arith.proofs.roots.Rounding.KeyOrder.{le_key}
use Rattle.arith.proofs.roots.Rounding.Sum.{neg_key}
use Rattle.arith.specs.F64.{◌≺◌, ◌≼◌, ∞, e_9, e_12}
use Rattle.arith.specs.Num.{abs, is_finite}
use Rattle.arith.proofs.Laws.Hypot.{inf_key}
use Rattle.arith.proofs.Laws.Sizes.{e_12_finite, finite_number_lem, K, M, Number, zero_key}
use Rattle.section.specs.profile.Vertices.{count, edge_at, end_at, next, vertex_at}
use Rattle.section.specs.declared.profile.shapes.Vertex.{Vertex}
use Rattle.section.proofs.profile.Nearest.{first_number}
use Rattle.section.proofs.profile.Numbers.{infinite}
use Rattle.section.proofs.profile.Steps.{any_not, pick, upto_keeps}
use Rattle.section.proofs.segments.Held.{closest_held}
use Rattle.section.specs.points.Points.{in_section, point_distance, point_inside, surface_near, surface_step}
use Rattle.section.specs.points.Steps.{no_edge}
use Rattle.section.proofs.points.Edges.{closest_on, counts}
use Rattle.section.specs.Demand.{off_axis}
use Rattle.section.proofs.Demand.Hits.{next_below}
use Rattle.truth.specs.Exact.{away², NotOver, place, size, units}
use Rattle.truth.specs.Points.{Surface}
use Rattle.truth.specs.Solid.{ClearOfSolid, crossing, exact_crosses, exact_inside, plain, vertex_inside}
use Rattle.truth.proofs.Points.Closest.{Fine, Within}
use Rattle.truth.proofs.Places.{not_over_less, size_is, units_is}
use Rattle.truth.proofs.Points.Distance.{point_bounded, point_true}
use Rattle.truth.proofs.Sides.Inside.{inside_true, one_radius, side_true}

e_12_positive : M ≤ K e_12
unfolding mid key magnitude unit of_bits
e_12_positive = leb→le _ _ tt

pub ends : (x : Float) → T (finite x) → T (is_finite x)
unfolding is_finite
ends nan h = h
ends (inf s) h = h
ends (fin s m e) h = tt

not_infinite : T (is_finite ∞) → ⊥
unfolding is_finite
not_infinite h = h

not_first : (a b : Bool) → T (not (a || b)) → T (not a)
not_first true b h = h
not_first false b h = tt

is_false : (b : Bool) → T (not b) → b ≡ false
is_false true h = absurd h
is_false false h = refl

-- ---- the sign: a positive distance that is not infinite says that the point is not inside by 01's rule
module _ (s : List Float) (p : Vertex) where
  abbrev near : Float
  near = (surface_near s p).distance

  near_number : Number near
  unfolding surface_near surface_step
  near_number = first_number (counts s) (closest_on s p) (no_edge s) infinite (λ k. closest_held p (edge_at s k)) (count s)

  pub not_inside : T (is_finite (point_distance s p).distance) → M < K (point_distance s p).distance → T (not (point_inside s p))
  unfolding point_distance
  not_inside =
      pick Says (is_finite near)
      (λ h. pick Says (near ≼ e_12) (λ g i l. absurd (lt_irrefl M (lt_of_lt_of_le l (le_of_eq zero_key))))
      (λ g. pick Says (in_section s p) (λ f i l. absurd (turned g l)) (λ f i l. outside f)))
      (λ h i l. absurd (not_infinite i))
    where
      Says : Float → Type 0
      Says c = T (is_finite c) → M < K c → T (not (point_inside s p))

      turned : T (not (near ≼ e_12)) → M < K (neg near) → ⊥
      turned g l =
          go (K near) (K (neg near)) M (K e_12)
          (nleb→lt _ _ (subst (λ b. T (not b)) (le_key binary64 near e_12 near_number (finite_number_lem e_12_finite)) g))
          e_12_positive (neg_key binary64 near near_number) l
        where
          go : (n k m c : ℕ) → c < n → m ≤ c → k + n ≡ m + m → m < k → ⊥
          go n k m c g h e l = omega arith

      outside : T (not (in_section s p)) → T (not (point_inside s p))
      outside f = unfold in_section in not_first (point_inside s p) _ f

  -- a negative one says that it is inside by 01's rule, or that 01's axis rule has it so
  pub inside_or_axis : K (point_distance s p).distance < M → T (in_section s p)
  unfolding point_distance
  inside_or_axis =
      pick Says (is_finite near)
      (λ h. pick Says (near ≼ e_12) (λ g l. absurd (lt_irrefl M (lt_of_le_of_lt (le_of_eq (sym zero_key)) l)))
      (λ g. pick Says (in_section s p) (λ f l. f) (λ f l. absurd (short g l))))
      (λ h l. absurd (infinite_not M (lt_of_le_of_lt (le_of_eq (sym (inf_key binary64))) l)))
    where
      Says : Float → Type 0
      Says c = K c < M → T (in_section s p)

      short : T (not (near ≼ e_12)) → K near < M → ⊥
      short g l =
          go (K near) M (K e_12)
          (nleb→lt _ _ (subst (λ b. T (not b)) (le_key binary64 near e_12 near_number (finite_number_lem e_12_finite)) g))
          e_12_positive l
        where
          go : (n m c : ℕ) → c < n → m ≤ c → n < m → ⊥
          go n m c g h l = omega arith

      infinite_not : (m : ℕ) → m + m < m → ⊥
      infinite_not m l = omega arith

-- ---- no vertex off the axis: nothing is inside
module _ (e : ℕ) (s : List Float) (S : (m : ℕ) → m < count s → Within e (vertex_at s m)) (straight : T (plain s)) where
  pub no_surface : T (not (off_axis s)) → (m : ℕ) → m < count s → Surface s m → ⊥
  unfolding off_axis
  no_surface h m l t =
      go (e_9 ≺ abs (vertex_at s m).r) (e_9 ≺ abs (end_at s m).r) (not_off m l)
      (not_off (next (count s) m) (next_below (count s) m l)) t
    where
      not_off : (m : ℕ) → m < count s → T (e_9 ≺ abs (vertex_at s m).r) → ⊥
      not_off = any_not (λ k. e_9 ≺ abs (vertex_at s k).r) (count s) h

      go : (a b : Bool) → (T a → ⊥) → (T b → ⊥) → T (a || b) → ⊥
      go true b f g h = f tt
      go false b f g h = g h

  -- an edge on the axis is crossed by no line of sight
  on_axis_crosses : (n z r : ℕ) → T (not (off_axis s)) → (m : ℕ) → m < count s
      → exact_crosses n z r (vertex_at s m) (end_at s m) ≡ false
  unfolding exact_crosses
  on_axis_crosses n z r o m l =
      level (place (vertex_at s m).r) (place (end_at s m).r) (one_radius e s S straight m l (no_surface o m l)) _ _
    where
      neither : (a up down : Bool) → crossing a a up down ≡ false
      neither true up down = refl
      neither false up down = refl

      level : (a b : ℕ) → a ≡ b → (up down : Bool) → crossing (ltb r (n * a)) (ltb r (n * b)) up down ≡ false
      level a b q up down = rw q (neither (ltb r (n * b)) up down)

  pub nothing_inside : (n z r : ℕ) → T (not (off_axis s)) → exact_inside s n z r ≡ false
  unfolding exact_inside
  nothing_inside n z r o = upto_keeps (λ b. b ≡ false) _ false (count s) refl
      (λ m l b q. ap₂ unlike q (on_axis_crosses n z r o m l))

-- ---- a smaller distance, or a larger error; and one no larger than its error
pub solid_less : (ε δ w v : ℕ) (s : List Float) (p : Vertex) → v - δ ≤ w - ε → ClearOfSolid ε w s p → ClearOfSolid δ v s p
solid_less ε δ w v s p h C = record {
  surface = λ k l t. record { proof = λ i j. not_over_less ε δ w v (i + j) h ((C.surface k l t).proof i j) };
  inside = λ n z r o t. not_over_less ε δ w v n h (C.inside n z r o t);
}

solid_none : (δ v : ℕ) (s : List Float) (p : Vertex) → v ≤ δ → ClearOfSolid δ v s p
solid_none δ v s p h =
    record { surface = λ k l t. record { proof = λ i j. nothing (i + j) _ }; inside = λ n z r o t. nothing n _ }
  where
    nothing : (n d : ℕ) → NotOver δ v n d
    nothing n d = let z : v - δ ≡ 0 = omega arith in rw z (omega arith)

-- ---- clear of the solid
module _ (e k : ℕ) (fine : Fine e k) (coarse : unit binary64 ≤ 2 ^ e * 2 ^ 1014) (s : List Float) (p : Vertex)
    (P : Within (suc e) p) (p⁺ : M ≤ K p.r)
    (S : (m : ℕ) → m < count s → Within e (vertex_at s m)) (straight : T (plain s)) where
  abbrev d : Float
  d = (point_distance s p).distance

  module _ (far : M + 77 * 2 ^ e < K d) where
    size_d : size d ≡ K d - M
    size_d = size_is d (let h = far in less M (77 * 2 ^ e) (K d) h)
      where
        less : (m x k : ℕ) → m + x < k → m ≤ k
        less m x k h = omega arith

    far_d : 77 * 2 ^ e < size d
    far_d = rw size_d (go M (77 * 2 ^ e) (K d) far)
      where
        go : (m x k : ℕ) → m + x < k → x < k - m
        go m x k h = omega arith

    positive : M < K d
    positive = go M (77 * 2 ^ e) (K d) far
      where
        go : (m x k : ℕ) → m + x < k → m < k
        go m x k h = omega arith

    -- the point is outside
    pub outside_true : vertex_inside s p ≡ false
    outside_true = go (off_axis s) refl
      where
        go : (b : Bool) → off_axis s ≡ b → vertex_inside s p ≡ false
        go true q =
            let o : T (off_axis s) = subst T (sym q) tt in
            let D = point_true e k fine s p P S in
            let f = point_bounded e k fine s p P S _ (D.edge o) (D.surface o) in
            sym (inside_true e k fine coarse s p P S straight far_d)
            ∙ is_false (point_inside s p) (not_inside s p (ends d (finite_of binary64 d f.sure)) positive)
        go false q = nothing_inside e s S straight 1 (place p.z) (place p.r) (subst (λ b. T (not b)) (sym q) tt)

    pub clear_of_solid : ClearOfSolid (64 * 2 ^ e) (size d) s p
    clear_of_solid = record {
      surface = (point_true e k fine s p P S).never_over;
      inside = λ n z r h t. elim (decide (n * (size d - 64 * 2 ^ e) * (n * (size d - 64 * 2 ^ e))) (away² p n z r)) [
        | inl l ↦ l
        | inr l ↦ absurd (subst T ((side_true e k fine coarse s p P S straight p⁺).proof n z r h l ∙ outside_true) t)
      ];
    }

  -- WHAT IS REPORTED exceeds the distance to no point of the solid by more than 77 u: of a point reported inside there is nothing
  -- to say
  pub point_solid : ClearOfSolid (77 * 2 ^ e) (units d) s p
  point_solid = elim (decide (K d) (M + 77 * 2 ^ e)) [
    | inl l ↦ solid_none (77 * 2 ^ e) (units d) s p (rw (units_is d) (none M (K d) (77 * 2 ^ e) l))
    | inr l ↦ solid_less (64 * 2 ^ e) (77 * 2 ^ e) (size d) (units d) s p (rw (units_is d, size_d l) (few (K d - M) (2 ^ e)))
        (clear_of_solid l)
  ]
    where
      none : (m k x : ℕ) → k ≤ m + x → k - m ≤ x
      none m k x l = omega arith

      few : (d u : ℕ) → d - 77 * u ≤ d - 64 * u
      few d u = omega arith
