-- 01'S CLOSEST POINT IS TRUE: for every point and every edge of f64 within the bounds, the reported distance exceeds the exact
-- distance to no point of the edge by more than 64 u, and there is a point of the edge no farther than the reported distance and
-- 24 u. u is 2 ^ e smallest values, and the bounds are 2 ^ 53 u for the edge and twice that for the point.
use Prim.Native.Nat.{◌*◌, ◌+◌, ◌-◌, ◌<◌, ◌^◌, suc, zero-le, ℕ, ◌≤◌}
use mathlib.Core.Bool.{not}
use mathlib.Core.Path.{◌≡◌, ap, refl, sym}
use native.Mathlib.Nat.{le_of_eq, le_trans}
use native.Mathlib.Omega.{arith}
use lib.Dec.{leb→le, lit<, T}
use lib.Ieee.{binary64, Float, of_bits, prec}
use Rattle.arith.specs.roots.Roots.{hypot}
use Rattle.arith.proofs.roots.Rounding.Key.{key, magnitude, mid, number, number_of, unit, unit_pos}
use Rattle.arith.proofs.roots.Rounding.KeyOrder.{lt→key, nlt→key, le→key}
use Rattle.arith.proofs.roots.Rounding.Quotient.{div_number}
use Rattle.arith.specs.F64.{◌⊖◌, ◌⊗◌, ◌⊘◌, ◌≺◌, ◌≼◌, 𝟘, 𝟙, e_12, e_24}
use Rattle.arith.proofs.Laws.Bounded.{between_bounded, Bounded}
use Rattle.arith.proofs.Laws.BoundedValue.{bounded→value, hypot_value}
use Rattle.arith.proofs.Laws.HypotKey.{hypot_is, root_not_negative}
use Rattle.arith.proofs.Laws.Monotone.{key_size}
use Rattle.arith.proofs.Laws.Order.{nle→key}
use Rattle.arith.proofs.Laws.Quotients.{InUnit, one_in_unit, zero_in_unit}
use Rattle.arith.proofs.Laws.Sizes.{e_24_finite, finite_number_lem, K, M, one_finite, zero_finite, zero_key, zero_number}
use Rattle.section.proofs.profile.Steps.{pick}
use Rattle.section.specs.declared.profile.shapes.Vertex.{Vertex}
use Rattle.section.specs.segments.Segments.{along, closest_point, dot, minus, unit_clamp}
use Rattle.truth.specs.Exact.{away², size}
use Rattle.truth.specs.Points.{exact², NeverOver, Reached}
use Rattle.truth.proofs.Points.Coordinate.{at_start, coordinate, Scale, w_raised, X}
use Rattle.arith.proofs.Laws.OperationErrors.{half}
use Rattle.truth.proofs.Places.{place_is, size_is}
use Rattle.truth.proofs.Points.Side.{Laid}
use Rattle.truth.proofs.Points.Segment.{at_least, at_most, at_most_short, dots_bounded, keys², Placed, squares_bounded}
use Rattle.truth.proofs.Points.Segment.{placed_before, placed_between, placed_beyond}

one_key : K 𝟙 ≡ M + unit binary64
unfolding mid key magnitude unit of_bits
one_key = refl

-- both coordinates at most 2 ^ (53 + e) smallest values
pub record Within (e : ℕ) (v : Vertex) : Type 0 where
  pub z : Bounded binary64 (prec binary64 + e) v.z
  pub r : Bounded binary64 (prec binary64 + e) v.r

-- what the theorem needs of e: nothing overflows, 1e-24 is neither too large nor too small beside it, and 1e-12 not too large
pub record Fine (e k : ℕ) : Type 0 where
  pub scale : Scale binary64 e k
  pub big : M + (12 * half binary64 + 30) ≤ K e_24
  pub little : 2 * ((K e_24 - M) * unit binary64) + 4 * unit binary64 ≤ 403 * (2 ^ e * 2 ^ e)
  pub twelve : K e_12 ≤ M + 40 * 2 ^ e

-- the distance d from p to the segment from a to b is true; it is finite and not negative
pub record True (e : ℕ) (p a b : Vertex) (d : Float) : Type 0 where
  pub never_over : NeverOver (64 * 2 ^ e) (size d) p a b
  pub reached : Reached (24 * 2 ^ e) (size d) p a b
  pub bounded : Bounded binary64 (prec binary64 + suc (suc (suc (suc e)))) d
  pub not_negative : M ≤ K d

module _ (e k : ℕ) (fine : Fine e k) (p a b : Vertex) (P : Within (suc e) p) (A : Within e a) (B : Within e b) where
  abbrev distance : Vertex → Float
  distance q = hypot binary64 (p.z ⊖ q.z) (p.r ⊖ q.r)

  abbrev d : Vertex
  d = minus b a

  -- the exact squares, as keys
  exact_key : (i j : ℕ) → keys² binary64 a.z a.r b.z b.r p.z p.r i j ≡ exact² p a b i j
  unfolding away²
  exact_key i j = rw (place_is p.z, place_is a.z, place_is b.z, place_is p.r, place_is a.r, place_is b.r)

  abbrev squares : Float
  squares = dot d d

  abbrev dots : Float
  dots = dot (minus p a) d

  -- ---- a foot: T' of unit, and the vertex that was computed for it
  module _ (q : Vertex) (T' : ℕ) (foot : T' ≤ unit binary64)
      (Z : Bounded binary64 (prec binary64 + suc (suc (suc e))) (p.z ⊖ q.z))
      (R : Bounded binary64 (prec binary64 + suc (suc (suc e))) (p.r ⊖ q.r))
      (laid-z : Laid M (unit binary64) (2 ^ e) (half binary64) T' (K a.z) (K b.z) (K p.z) (K (d.z ⊗ d.z))
      (K ((p.z ⊖ a.z) ⊗ d.z)) (K (p.z ⊖ q.z)))
      (laid-r : Laid M (unit binary64) (2 ^ e) (half binary64) T' (K a.r) (K b.r) (K p.r) (K (d.r ⊗ d.r))
      (K ((p.r ⊖ a.r) ⊗ d.r)) (K (p.r ⊖ q.r))) where
    not_negative : M ≤ K (distance q)
    not_negative =
        unfold key_size in rw (hypot_is binary64 (p.z ⊖ q.z) (p.r ⊖ q.r) Z.sure R.sure) (root_not_negative binary64 _)

    distance_bounded : Bounded binary64 (prec binary64 + suc (suc (suc (suc e)))) (distance q)
    distance_bounded =
        hypot_value binary64 (prec binary64 + suc (suc (suc e))) (prec binary64 + suc (suc (suc e)))
        (prec binary64 + suc (suc (suc (suc e))))
        (let l = fine.scale.range in omega arith) (omega arith) (omega arith) (bounded→value binary64 _ _ Z)
        (bounded→value binary64 _ _ R)

    size_key : size (distance q) ≡ K (distance q) - M
    size_key = size_is (distance q) not_negative

    never_over : ((i j : ℕ)
        → (i + j) * (K (distance q) - M - 64 * 2 ^ e) * ((i + j) * (K (distance q) - M - 64 * 2 ^ e))
        ≤ keys² binary64 a.z a.r b.z b.r p.z p.r i j)
        → NeverOver (64 * 2 ^ e) (size (distance q)) p a b
    never_over h = record { proof = λ i j. rw size_key (le_trans (h i j) (le_of_eq (exact_key i j))) }

    reached : Reached (24 * 2 ^ e) (size (distance q)) p a b
    reached = record {
      i = T';
      j = unit binary64 - T';
      some = rw whole (unit_pos binary64);
      proof = rw size_key (le_trans (le_of_eq (sym (exact_key T' (unit binary64 - T'))))
          (le_trans
          (at_least binary64 e k fine.scale a.z a.r b.z b.r p.z p.r A.z A.r B.z B.r P.z
          P.r
          T' foot (p.z ⊖ q.z) (p.r ⊖ q.r) Z R laid-z laid-r)
          (le_of_eq
          (ap (λ (n : ℕ). n * (K (distance q) - M + 24 * 2 ^ e) * (n * (K (distance q) - M + 24 * 2 ^ e))) (sym whole)))));
    }
      where
        whole : T' + (unit binary64 - T') ≡ unit binary64
        whole = omega (arith, foot)

  dots_sized : Bounded binary64 (suc k) dots
  dots_sized =
      dots_bounded binary64 e k fine.scale a.z a.r b.z b.r p.z p.r A.z A.r B.z B.r P.z P.r

  squares_sized : Bounded binary64 (suc k) squares
  squares_sized = squares_bounded binary64 e k fine.scale a.z a.r b.z b.r p.z p.r A.z A.r B.z B.r
      P.z P.r

  -- ---- the first end
  abbrev TrueAt : Vertex → Type 0
  TrueAt q = True e p a b (distance q)

  at_first : T (squares ≼ e_24) → TrueAt a
  at_first h =
      let z = at_start binary64 e k fine.scale a.z b.z p.z 𝟘 A.z B.z P.z zero_in_unit.most.bounded
      zero_in_unit.least in
      let r = at_start binary64 e k fine.scale a.r b.r p.r 𝟘 A.r B.r P.r zero_in_unit.most.bounded
      zero_in_unit.least in
      let l : K squares ≤ M + (K e_24 - M) =
      le_trans (le→key binary64 squares e_24 (number_of binary64 squares squares_sized.sure) (finite_number_lem e_24_finite) h)
      (omega arith) in
      record {
        never_over =
            never_over a 0 zero-le wz wr z r (at_most_short binary64 e k fine.scale a.z a.r b.z b.r p.z p.r
            A.z A.r B.z B.r P.z P.r 0 zero-le (p.z ⊖ a.z) (p.r ⊖ a.r) wz wr z r (K e_24 - M)
            fine.little l refl);
        reached = reached a 0 zero-le wz wr z r;
        bounded = distance_bounded a 0 zero-le wz wr z r;
        not_negative = not_negative a 0 zero-le wz wr z r;
      }
    where
      wz : Bounded binary64 (prec binary64 + suc (suc (suc e))) (p.z ⊖ a.z)
      wz = w_raised binary64 e k fine.scale a.z b.z p.z 𝟘 A.z B.z P.z zero_in_unit.most.bounded
          zero_in_unit.least

      wr : Bounded binary64 (prec binary64 + suc (suc (suc e))) (p.r ⊖ a.r)
      wr = w_raised binary64 e k fine.scale a.r b.r p.r 𝟘 A.r B.r P.r zero_in_unit.most.bounded
          zero_in_unit.least

  -- ---- a place from 0 to 1
  module _ (longer : T (not (squares ≼ e_24))) where
    more : K e_24 < K squares
    more = nle→key binary64 squares e_24 (number_of binary64 squares squares_sized.sure) (finite_number_lem e_24_finite) longer

    over : M + (K e_24 - M) < K squares
    over = go M (K e_24) (K squares) fine.big more
      where
        go : (m c s : ℕ) → m + (12 * half binary64 + 30) ≤ c → c < s → m + (c - m) < s
        go m c s h l = omega arith

    enough : 12 * half binary64 + 30 ≤ K e_24 - M
    enough = go M (K e_24) (12 * half binary64 + 30) fine.big
      where
        go : (m c x : ℕ) → m + x ≤ c → x ≤ c - m
        go m c x h = omega arith

    along_true : (t : Float) → InUnit t → Placed binary64 dots squares (K t - M) → TrueAt (along a b t)
    along_true t u at =
        let c = u.most.bounded in
        let l = u.least in
        let z = coordinate binary64 e k fine.scale a.z b.z p.z t A.z B.z P.z c l in
        let r = coordinate binary64 e k fine.scale a.r b.r p.r t A.r B.r P.r c l in
        let xz = X binary64 e k fine.scale a.z b.z p.z t A.z B.z P.z c l in
        let xr = X binary64 e k fine.scale a.r b.r p.r t A.r B.r P.r c l in
        let q = along a b t in
        record {
          never_over =
              never_over q (K t - M) foot xz xr z r (at_most binary64 e k fine.scale a.z a.r b.z b.r p.z p.r
              A.z A.r B.z B.r P.z P.r (K t - M) foot (p.z ⊖ q.z) (p.r ⊖ q.r) xz xr z r
              (K e_24 - M) enough over at);
          reached = reached q (K t - M) foot xz xr z r;
          bounded = distance_bounded q (K t - M) foot xz xr z r;
          not_negative = not_negative q (K t - M) foot xz xr z r;
        }
      where
        foot : K t - M ≤ unit binary64
        foot = unfold unit in go (K t) M (2 ^ 1074) u.most.bounded.upper
          where
            go : (k m w : ℕ) → k ≤ m + w → k - m ≤ w
            go k m w h = omega arith

    abbrev t : Float
    t = dots ⊘ squares

    t_number : T (number binary64 t)
    t_number =
        div_number binary64 dots squares dots_sized.sure squares_sized.sure (go M (K e_24) (K squares) fine.big more)
      where
        go : (m c s : ℕ) → m + (12 * half binary64 + 30) ≤ c → c < s → m < s
        go m c s h l = omega arith

    clamped : TrueAt (along a b (unit_clamp t))
    clamped =
        pick (λ z. TrueAt (along a b z)) (t ≺ 𝟘)
        (λ h. along_true 𝟘 zero_in_unit (placed_before (rw zero_key (sub_self M)) (before h)))
        (λ h. pick (λ z. TrueAt (along a b z)) (𝟙 ≺ t)
        (λ l. along_true 𝟙 one_in_unit (placed_beyond (rw one_key (sub_more M (unit binary64))) (beyond l)))
        (λ l. along_true t (inner h l) (placed_between (whole (K t) M (inner h l).least))))
      where
        sub_self : (m : ℕ) → m - m ≡ 0
        sub_self m = omega arith

        sub_more : (m u : ℕ) → m + u - m ≡ u
        sub_more m u = omega arith

        whole : (k m : ℕ) → m ≤ k → k ≡ m + (k - m)
        whole k m h = omega arith

        before : T (t ≺ 𝟘) → K t < M
        before h = rw zero_key at (lt→key binary64 t 𝟘 t_number zero_number h)

        beyond : T (𝟙 ≺ t) → M + unit binary64 < K t
        beyond h = rw one_key at (lt→key binary64 𝟙 t (finite_number_lem one_finite) t_number h)

        inner : T (not (t ≺ 𝟘)) → T (not (𝟙 ≺ t)) → InUnit t
        inner h l =
            let lo : K 𝟘 ≤ K t = nlt→key binary64 t 𝟘 t_number zero_number h in
            let hi : K t ≤ K 𝟙 = nlt→key binary64 𝟙 t (finite_number_lem one_finite) t_number l in
            record {
              most = record {
                bounded =
                    between_bounded binary64 1074 𝟘 t 𝟙 t_number (lit< tt) (zero_finite 0).bounded one_finite.bounded lo hi;
              };
              least = le_trans (le_of_eq (sym zero_key)) lo;
            }

  pub closest_true : TrueAt (closest_point p a b)
  unfolding closest_point
  closest_true = pick TrueAt (squares ≼ e_24) at_first clamped

-- ---- the scales, from e = 1031 (edges within 1,024 mm) to e = 1041 (1,048,576 mm, 01's limit)
pub fine_limit : Fine 1041 1117
unfolding half unit mid key magnitude of_bits
fine_limit = record {
  scale = record {
    digits = leb→le _ _ tt;
    one = leb→le _ _ tt;
    one_lt = leb→le _ _ tt;
    range = leb→le _ _ tt;
    products = leb→le _ _ tt;
    sums = leb→le _ _ tt;
    wide = leb→le _ _ tt;
  };
  big = leb→le _ _ tt;
  little = leb→le _ _ tt;
  twelve = leb→le _ _ tt;
}

pub fine_metre : Fine 1031 1097
unfolding half unit mid key magnitude of_bits
fine_metre = record {
  scale = record {
    digits = leb→le _ _ tt;
    one = leb→le _ _ tt;
    one_lt = leb→le _ _ tt;
    range = leb→le _ _ tt;
    products = leb→le _ _ tt;
    sums = leb→le _ _ tt;
    wide = leb→le _ _ tt;
  };
  big = leb→le _ _ tt;
  little = leb→le _ _ tt;
  twelve = leb→le _ _ tt;
}
