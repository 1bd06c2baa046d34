-- A BOX THAT IS REPORTED FARTHER THAN THE ERRORS HAS ITS MIDDLE OUTSIDE. The middle, as computed, lies in the box, so no edge is
-- nearer to it than to the box; were it inside, the first probe would have reported a penetration. So what is reported is true of
-- the solid.
use Prim.Native.Nat.{◌*◌, ◌+◌, ◌-◌, ◌<◌, ◌^◌, suc, ℕ, ◌≤◌}
use mathlib.Core.Bool.{Bool, false, not, true}
use mathlib.Core.List.{List}
use mathlib.Core.Logic.{inl, inr, ◌⊎◌}
use mathlib.Core.Path.{◌≡◌, refl, subst, sym, ◌∙◌}
use native.Mathlib.Nat.{le_of_eq, le_of_mul-le-mul_left, le_trans, lt_of_le_of_lt, one-mul, two-pow-succ}
use native.Mathlib.Omega.{arith}
use lib.Dec.{leb→le, lt→ltb, T, T_not}
use lib.Ieee.{binary64, Float, neg, of_bits, prec}
use Rattle.arith.proofs.roots.Numbers.{decide}
use Rattle.arith.proofs.roots.Rounding.Key.{finite_of, key, magnitude, mid, number_of, unit}
use Rattle.arith.proofs.roots.Rounding.KeyOrder.{lt_key}
use Rattle.arith.proofs.roots.Rounding.Sum.{neg_key}
use Rattle.arith.specs.F64.{◌⊕◌, ◌⊗◌, ◌≺◌, 𝟘, ½, e_9}
use Rattle.arith.specs.Whole.{apart}
use Rattle.arith.proofs.Laws.Bounded.{between_bounded, bounded_within, mid_lt, overflow}
use Rattle.arith.proofs.Laws.Extended.{neg_number}
use Rattle.arith.proofs.Laws.Middle.{Between, half, half_is, IsHalf, middle}
use Rattle.arith.proofs.Laws.Sizes.{e_9_finite, finite_number_lem, K, M, Number, zero_number}
use Rattle.section.proofs.profile.Steps.{pick}
use Rattle.section.specs.profile.Vertices.{count, hit, vertex_at}
use Rattle.section.specs.declared.profile.shapes.Aabb.{Aabb}
use Rattle.section.specs.declared.profile.shapes.Vertex.{Vertex}
use Rattle.section.specs.points.Overlap.{result_of}
use Rattle.section.specs.points.Points.{point_distance, point_inside}
use Rattle.section.proofs.points.Numbers.{point_number}
use Rattle.section.specs.boxes.Boxes.{box_distance, box_gap, box_penetration, probe}
use Rattle.section.specs.Demand.{off_axis}
use Rattle.truth.specs.Exact.{away², NotOver, place, size, sqd, units}
use Rattle.truth.specs.Solid.{plain, vertex_inside}
use Rattle.truth.specs.Boxes.{ClearOfBox, InBox, InSolid, OnEdges}
use Rattle.truth.proofs.Places.{not_over_less, origin_is, place_is, units_is}
use Rattle.truth.proofs.Points.Closest.{Fine, Within}
use Rattle.truth.proofs.Points.Distance.{point_bounded, point_true}
use Rattle.truth.proofs.Boxes.Lengths.{Coordinate}
use Rattle.truth.proofs.Boxes.Beside.{root_le}
use Rattle.truth.proofs.Boxes.EdgeBox.{Least, nearest_least}
use Rattle.truth.proofs.Boxes.Sections.{Placed}
use Rattle.truth.proofs.Boxes.Solid.{solid_of}
use Rattle.truth.proofs.Sides.Clear.{ends, not_inside, nothing_inside}
use Rattle.truth.proofs.Sides.Inside.{inside_true}

half_half : IsHalf binary64 ½
unfolding of_bits half
half_half = half_is binary64

e_9_positive : M ≤ K e_9
unfolding mid key magnitude unit of_bits
e_9_positive = leb→le _ _ tt

-- ---- the middle lies in the box
module _ (e : ℕ) (range : suc (prec binary64 + e) < overflow binary64) (x : Aabb) (X : Placed e x) where
  mean_between : (a b : Float) → Coordinate e a → Coordinate e b → K a ≤ K b → Between binary64 a b ((a ⊕ b) ⊗ ½)
  mean_between a b A B h =
      middle binary64 a b A.sure B.sure (2 ^ (prec binary64 + e)) (bounded_within binary64 (prec binary64 + e) a A)
      (bounded_within binary64 (prec binary64 + e) b B)
      (lt_of_le_of_lt (le_of_eq (sym (two-pow-succ (prec binary64 + e)))) (mid_lt binary64 (suc (prec binary64 + e)) range))
      h ½ half_half

  mean_bounded : (a b : Float) → Coordinate e a → Coordinate e b → K a ≤ K b → Coordinate e ((a ⊕ b) ⊗ ½)
  mean_bounded a b A B h =
      let m = mean_between a b A B h in
      between_bounded binary64 (prec binary64 + e) a ((a ⊕ b) ⊗ ½) b (number_of binary64 ((a ⊕ b) ⊗ ½) m.sure)
      (less range) A B m.low_end m.high_end
    where
      less : {k l : ℕ} → suc k < l → k < l
      less h = omega arith

  abbrev pub centre : Vertex
  centre = probe x 0

  pub centre_within : Within e centre
  centre_within = record {
    z = mean_bounded x.z0 x.z1 X.boxed.z0 X.boxed.z1 X.z_order;
    r = mean_bounded x.r0 x.r1 X.boxed.r0 X.boxed.r1 X.r_order;
  }

  pub centre_inside : InBox x 1 (place centre.z) (place centre.r)
  centre_inside =
      let z = mean_between x.z0 x.z1 X.boxed.z0 X.boxed.z1 X.z_order in
      let r = mean_between x.r0 x.r1 X.boxed.r0 X.boxed.r1 X.r_order in
      record {
        z_from = low x.z0 centre.z z.low_end;
        z_to = high centre.z x.z1 z.high_end;
        r_from = low x.r0 centre.r r.low_end;
        r_to = high centre.r x.r1 r.high_end;
      }
    where
      low : (a b : Float) → K a ≤ K b → 1 * place a ≤ place b
      low a b h = rw (one-mul (place a), place_is a, place_is b) h

      high : (a b : Float) → K a ≤ K b → place a ≤ 1 * place b
      high a b h = rw (one-mul (place b), place_is a, place_is b) h

-- ---- a probe that is deep enough makes the result negative
module _ (s : List Float) (x : Aabb) where
  abbrev reported : ℕ
  reported = units (box_distance s x).distance

  abbrev deepest : Float
  deepest = (box_penetration s x (box_gap s x).witness).distance

  deep_nothing : K (point_distance s (probe x 0)).distance < K (neg e_9) → reported ≡ 0
  unfolding box_distance result_of
  deep_nothing h = pick (λ d. units d ≡ 0) (deepest ≺ neg e_9) (λ l. negative) (λ l. absurd (T_not (deepest ≺ neg e_9) l deep))
    where
      least : Least (λ k. point_distance s (probe x k)) 5 (box_penetration s x (box_gap s x).witness)
      least = unfold box_penetration in
          nearest_least (λ k. point_distance s (probe x k)) (hit 𝟘 (box_gap s x).witness) 5 zero_number
          (λ k l. point_number s (probe x k))

      nine : Number (neg e_9)
      nine = neg_number binary64 e_9 (finite_number_lem e_9_finite)

      low : K deepest < K (neg e_9)
      low = lt_of_le_of_lt (least.least 0 (leb→le _ _ tt)) h

      deep : T (deepest ≺ neg e_9)
      deep = subst T (sym (lt_key binary64 deepest (neg e_9) least.sure nine)) (lt→ltb (K deepest) (K (neg e_9)) low)

      negative : units deepest ≡ 0
      negative = units_is deepest
          ∙ go (K deepest) (K (neg e_9)) (K e_9) M low (neg_key binary64 e_9 (finite_number_lem e_9_finite)) e_9_positive
        where
          go : (d n c m : ℕ) → d < n → n + c ≡ m + m → m ≤ c → d - m ≡ 0
          go d n c m h e l = omega arith

-- ---- the middle is outside
module _ (e k : ℕ) (fine : Fine e k) (coarse : unit binary64 ≤ 2 ^ e * 2 ^ 1014) (s : List Float)
    (S : (m : ℕ) → m < count s → Within e (vertex_at s m)) (straight : T (plain s)) (x : Aabb) (X : Placed (suc e) x) where
  range : suc (prec binary64 + suc e) < overflow binary64
  range = let r = fine.scale.range in omega arith

  abbrev c : Vertex
  c = probe x 0

  C : Within (suc e) c
  C = centre_within (suc e) range x X

  abbrev d : Float
  d = (point_distance s c).distance

  module _ (ε : ℕ) (edges : ClearOfBox ε (reported s x) x (OnEdges s)) where
    -- some point of an edge is no farther from the middle than its distance says, so the box is not either
    reach : T (off_axis s) → reported s x - ε ≤ size d + 64 * 2 ^ e
    reach o =
        let D = point_true e k fine s c C S in
        let R = D.reached o in
        go (R.i + R.j) (reported s x - ε) (size d + 64 * 2 ^ e) (place c.z) (place c.r) _ _ R.some
        (edges.proof 1 (place c.z) (place c.r) (R.i + R.j) _ _ (centre_inside (suc e) range x X) (record {
          k = _;
          edge = D.edge o;
          i = R.i;
          j = R.j;
          parts = refl;
          at_z = refl;
          at_r = refl;
        }))
        (unfold away² in R.proof)
      where
        go : (n v d z r a b : ℕ) → 0 < n → 1 * n * v * (1 * n * v) ≤ sqd (n * z) (1 * a) + sqd (n * r) (1 * b)
            → sqd (n * z) a + sqd (n * r) b ≤ n * d * (n * d) → v ≤ d
        go n v d z r a b l h g = le_of_mul-le-mul_left (root_le (n * v) (n * d)
            (le_trans (le_of_eq (ones n v)) (le_trans h (le_trans (le_of_eq (same (n * z) (n * r))) g)))) l
          where
            ones : (n v : ℕ) → n * v * (n * v) ≡ 1 * n * v * (1 * n * v)
            ones n v = omega arith

            same : (x y : ℕ) → sqd x (1 * a) + sqd y (1 * b) ≡ sqd x a + sqd y b
            same x y = rw (one-mul a, one-mul b) refl

    module _ (small : ℕ) (room : 141 * 2 ^ e ≤ small) (nine : 64 * 2 ^ e + (K e_9 - M) ≤ small)
        (far : ε + small < reported s x) where
      inside_not : T (off_axis s) → vertex_inside s c ≡ true → ⊥
      inside_not o q = none (deep_nothing s x (deep (decide (K d) M))) far
        where
          none : {w : ℕ} → w ≡ 0 → ε + small < w → ⊥
          none e l = omega arith

          more : small < size d + 64 * 2 ^ e
          more = step (reported s x) (size d + 64 * 2 ^ e) (reach o) far
            where
              step : (w y : ℕ) → w - ε ≤ y → ε + small < w → small < y
              step w y h l = omega arith

          over : 77 * 2 ^ e < size d
          over = step (2 ^ e) (size d) room more
            where
              step : (u d : ℕ) → 141 * u ≤ small → small < d + 64 * u → 77 * u < d
              step u d h l = omega arith

          in_section_lem : point_inside s c ≡ true
          in_section_lem = inside_true e k fine coarse s c C S straight over ∙ q

          low : M < K d → ⊥
          low l =
              let D = point_true e k fine s c C S in
              let f = point_bounded e k fine s c C S _ (D.edge o) (D.surface o) in
              T_not (point_inside s c) (not_inside s c (ends d (finite_of binary64 d f.sure)) l) (subst T (sym in_section_lem) tt)

          deep : (K d ≤ M) ⊎ (M < K d) → K d < K (neg e_9)
          deep (inr l) = absurd (low l)
          deep (inl l) = step (K d) (K (neg e_9)) (K e_9) M (size d) (64 * 2 ^ e) (sized l)
              (neg_key binary64 e_9 (finite_number_lem e_9_finite)) nine more
            where
              sized : K d ≤ M → K d + size d ≡ M
              sized l = unfold size in rw (place_is d, origin_is) (go (K d) M l)
                where
                  go : (k m : ℕ) → k ≤ m → k + apart k m ≡ m
                  go k m l = unfold apart in omega arith

              step : (k n c m y v : ℕ) → k + y ≡ m → n + c ≡ m + m → v + (c - m) ≤ small → small < y + v → k < n
              step k n c m y v a b h l = omega arith

      pub centre_outside : vertex_inside s c ≡ false
      centre_outside = go (off_axis s) (vertex_inside s c) refl refl
        where
          go : (a b : Bool) → off_axis s ≡ a → vertex_inside s c ≡ b → b ≡ false
          go a false p q = refl
          go true true p q = absurd (inside_not (subst T (sym p) tt) q)
          go false true p q =
              sym q ∙ nothing_inside e s S straight 1 (place c.z) (place c.r) (subst (λ b. T (not b)) (sym p) tt)

    -- WHAT IS TRUE OF THE EDGES is true of the solid, but for 141 u, and 64 u and 1e-9
    pub solid_too : (small : ℕ) → 141 * 2 ^ e ≤ small → 64 * 2 ^ e + (K e_9 - M) ≤ small
        → ClearOfBox (ε + small) (reported s x) x (InSolid s)
    solid_too small room nine = elim (decide (reported s x) (ε + small)) [
      | inl l ↦ record { proof = λ n Z R q z r I c. nothing l (n * q) _ }
      | inr l ↦ record {
        proof = λ n Z R q z r I t. not_over_less ε (ε + small) _ _ (n * q) (less (reported s x))
            ((solid_of ε (reported s x) s x edges (some l) c (centre_inside (suc e) range x X) (centre_outside small room nine l)
            ).proof n Z R q z r I t);
      }
    ]
      where
        nothing : {w : ℕ} → w ≤ ε + small → (n d : ℕ) → NotOver (ε + small) w n d
        nothing {w} h n d = let z : w - (ε + small) ≡ 0 = omega arith in rw z (omega arith)

        some : {w : ℕ} → ε + small < w → 0 < w - ε
        some h = omega arith

        less : (w : ℕ) → w - (ε + small) ≤ w - ε
        less w = omega arith
