-- The span of a band at a half width is at most 2 ^ 22 and in order, and the span at a greater half width holds it: a hypotenuse grows
-- with the magnitude of each leg.
use Prim.Native.Nat.{ℕ, ◌+◌, ◌-◌, ◌≤◌, ◌<◌, max as maxℕ, zero-le}
use mathlib.Core.Path.{◌≡◌}
use mathlib.Core.Logic.{inl, inr, ◌⊎◌}
use mathlib.Core.Bool.{Bool, true, false, not, cond}
use native.Mathlib.Nat.{le_refl, le_trans, max-le}
use native.Mathlib.Omega.{arith}
use lib.Dec.{T}
use lib.Ieee.{Float, binary64, of_bits}
use Rattle.arith.specs.F64.{◌⊕◌, ◌⊖◌, ◌≺◌, 𝟘}
use Rattle.arith.specs.Num.{max}
use Rattle.arith.specs.roots.Roots.{hypot}
use Rattle.arith.proofs.roots.Numbers.{decide}
use Rattle.arith.proofs.roots.Rounding.Key.{magnitude}
use Rattle.arith.proofs.Laws.Exact.{add_ge, sub_le}
use Rattle.arith.proofs.Laws.HypotKey.{key_size_magnitude}
use Rattle.arith.proofs.Laws.Monotone.{key_size, add_key_mono, sub_key_mono}
use Rattle.arith.proofs.Laws.SizedOrder.{below_key, hypot_not_more, hypot_not_negative, max_finite_key, not_below_key}
use Rattle.arith.proofs.Laws.Sizes.{Finite, Given, K, M, add_finite, cond_keeps, finite_given, hypot_given, max_keeps}
use Rattle.arith.proofs.Laws.Sizes.{sub_finite, zero_finite, zero_key}
use Rattle.walk.specs.bands.Band.{span_at, closest_to_zero}
use Rattle.walk.specs.declared.bands.shapes.RadialBand.{RadialBand}
use Rattle.walk.specs.declared.bands.shapes.Span.{Span}
use Rattle.walk.proofs.bands.Limit.{InLimit}

-- ---- the number of lo..hi closest to 0
toward0_keeps : (P : Float → Type 0) {x y : Float} → P 𝟘 → P x → P y → P (closest_to_zero x y)
toward0_keeps P {x} {y} Z X Y = cond_keeps P (𝟘 ≺ x) X (cond_keeps P (y ≺ 𝟘) Y Z)

-- it is no farther from 0 than one of the two ends
abbrev NoFarther : Float → Float → Float → Type 0
NoFarther x y z = (magnitude binary64 z ≤ magnitude binary64 x) ⊎ (magnitude binary64 z ≤ magnitude binary64 y)

toward0_magnitude : (x y : Float) → NoFarther x y (closest_to_zero x y)
toward0_magnitude x y = toward0_keeps (NoFarther x y) (inl least) (inl (le_refl _)) (inr (le_refl _))
  where
    least : magnitude binary64 𝟘 ≤ magnitude binary64 x
    least = unfold of_bits magnitude in zero-le

-- and exactly as far as the range
abbrev gap : Float → Float → ℕ
gap lo hi = maxℕ (K lo - M) (M - K hi)

toward0_size : {i j : ℕ} {lo hi : Float} → Finite i lo → Finite j hi → K lo ≤ K hi
    → key_size binary64 (closest_to_zero lo hi) ≡ gap lo hi
unfolding key_size
toward0_size {lo = lo} {hi = hi} L H h =
    let o = zero_finite 0 in
    go (𝟘 ≺ lo) (hi ≺ 𝟘) (below_key o L) (not_below_key o L) (below_key H o) (not_below_key H o) zero_key
  where
    go : (s t : Bool) → (T s → K 𝟘 < K lo) → (T (not s) → K lo ≤ K 𝟘) → (T t → K hi < K 𝟘) → (T (not t) → K 𝟘 ≤ K hi)
        → K 𝟘 ≡ M → key_size binary64 (cond s lo (cond t hi 𝟘)) ≡ gap lo hi
    go true t x y u v e = omega (arith, x tt)
    go false true x y u v e = omega (arith, y tt, u tt)
    go false false x y u v e = omega (arith, y tt, v tt)

by_size : {i j : ℕ} {x y : Float} → Finite i x → Finite j y → key_size binary64 x ≤ key_size binary64 y
    → magnitude binary64 x ≤ magnitude binary64 y
by_size {x = x} {y = y} X Y h =
    rw (key_size_magnitude binary64 x X.bounded.sure, key_size_magnitude binary64 y Y.bounded.sure) at h

-- ---- the corners
abbrev far : Float → Float → ℕ
far x y = K (hypot binary64 x y)

-- y in y0..y1 is no farther from 0 than one of the ends
corner : {i j k : ℕ} {x y y0 y1 : Float} → Given i x → Finite j y → Finite k y0 → Finite k y1 → K y0 ≤ K y → K y ≤ K y1
    → far x y ≤ maxℕ (far x y0) (far x y1)
unfolding key_size
corner {x = x} {y = y} {y0 = y0} {y1 = y1} X Y A C h k = elim (end (K y) (K y0) (K y1) M h k) [
  | inl l ↦ omega (arith, hypot_not_more X (finite_given Y) X (finite_given A) (le_refl _) (by_size Y A l))
  | inr l ↦ omega (arith, hypot_not_more X (finite_given Y) X (finite_given C) (le_refl _) (by_size Y C l))
]
  where
    end : (y a b m : ℕ) → a ≤ y → y ≤ b → (y - m + (m - y) ≤ a - m + (m - a)) ⊎ (y - m + (m - y) ≤ b - m + (m - b))
    end y a b m h k = elim (decide y m) [ inl l ↦ inl (omega arith) | inr l ↦ inr (omega arith) ]

larger : {n : ℕ} {x y : Float} → Finite n x → Finite n y → Finite n (max x y)
larger {n} = max_keeps (Finite n)

largest_key : {n : ℕ} {x y z w : Float} → Finite n x → Finite n y → Finite n z → Finite n w
    → K (max (max (max x y) z) w) ≡ maxℕ (maxℕ (maxℕ (K x) (K y)) (K z)) (K w)
largest_key X Y Z W =
    rw (max_finite_key (larger (larger X Y) Z) W, max_finite_key (larger X Y) Z, max_finite_key X Y)

corners_mono : (A B C D a b c d : ℕ) → a ≤ maxℕ A B → b ≤ maxℕ A B → c ≤ maxℕ C D → d ≤ maxℕ C D
    → maxℕ (maxℕ (maxℕ a b) c) d ≤ maxℕ (maxℕ (maxℕ A B) C) D
corners_mono A B C D a b c d p q r s =
    let l = left (maxℕ A B) C D in
    max-le (max-le (max-le (le_trans p l.0) (le_trans q l.0)) (le_trans r l.1)) (le_trans s l.1)
  where
    left : (X C D : ℕ) → (X ≤ maxℕ (maxℕ X C) D) × (maxℕ C D ≤ maxℕ (maxℕ X C) D)
    left X C D = (omega arith, omega arith)

-- ---- the spans
pub record SpanFinite (p : Span) : Type 0 where
  pub lo : Finite 22 p.lo
  pub hi : Finite 22 p.hi

module _ {b : RadialBand} (B : InLimit b) where
  abbrev low : Float → Float
  low ρ = b.yc ⊖ ρ

  abbrev high : Float → Float
  high ρ = b.yc ⊕ ρ

  module _ {ρ : Float} (P : Finite 20 ρ) where
    y0 : Finite 21 (low ρ)
    y0 = sub_finite B.yc P tt

    y1 : Finite 21 (high ρ)
    y1 = add_finite B.yc P tt

    X : Given 20 (closest_to_zero b.x0 b.x1)
    X = toward0_keeps (Given 20) (finite_given (zero_finite 20)) B.x0 B.x1

    Y : Finite 21 (closest_to_zero (low ρ) (high ρ))
    Y = toward0_keeps (Finite 21) (zero_finite 21) y0 y1

    at : {x y : Float} → Given 20 x → Finite 21 y → Finite 22 (hypot binary64 x y)
    at X Y = hypot_given X (finite_given Y) tt

    pub span_at_finite : SpanFinite (span_at b ρ)
    unfolding span_at
    span_at_finite =
        record {
          lo = at X Y;
          hi = larger (larger (larger (at B.x0 y0) (at B.x0 y1)) (at B.x1 y0)) (at B.x1 y1);
        }

    hi_key : K (span_at b ρ).hi ≡ maxℕ (maxℕ (maxℕ (far b.x0 (low ρ)) (far b.x0 (high ρ))) (far b.x1 (low ρ)))
        (far b.x1 (high ρ))
    unfolding span_at
    hi_key = largest_key (at B.x0 y0) (at B.x0 y1) (at B.x1 y0) (at B.x1 y1)

    pub span_least : M ≤ K (span_at b ρ).lo
    unfolding span_at
    span_least = hypot_not_negative X (finite_given Y)

    pub span_order : K (span_at b ρ).lo ≤ K (span_at b ρ).hi
    unfolding span_at
    span_order = go (toward0_magnitude b.x0 b.x1) (toward0_magnitude (low ρ) (high ρ))
      where
        to : {x y : Float} → Given 20 x → Finite 21 y → magnitude binary64 (closest_to_zero b.x0 b.x1) ≤ magnitude binary64 x
            → magnitude binary64 (closest_to_zero (low ρ) (high ρ)) ≤ magnitude binary64 y → K (span_at b ρ).lo ≤ far x y
        to X' Y' = hypot_not_more X (finite_given Y) X' (finite_given Y')

        go : NoFarther b.x0 b.x1 (closest_to_zero b.x0 b.x1) → NoFarther (low ρ) (high ρ) (closest_to_zero (low ρ) (high ρ))
            → K (span_at b ρ).lo ≤ K (span_at b ρ).hi
        go (inl p) (inl q) = omega (arith, hi_key, to B.x0 y0 p q)
        go (inl p) (inr q) = omega (arith, hi_key, to B.x0 y1 p q)
        go (inr p) (inl q) = omega (arith, hi_key, to B.x1 y0 p q)
        go (inr p) (inr q) = omega (arith, hi_key, to B.x1 y1 p q)

    ordered : M ≤ K ρ → K (low ρ) ≤ K (high ρ)
    ordered h =
        let c = B.yc.bounded.sure in
        let r = P.bounded.sure in
        le_trans (sub_le binary64 b.yc ρ c r h) (add_ge binary64 b.yc ρ c r h)

  -- the span at a greater half width holds it
  pub span_nested : {ρ ρ' : Float} → Finite 20 ρ → Finite 20 ρ' → M ≤ K ρ → K ρ ≤ K ρ'
      → (K (span_at b ρ').lo ≤ K (span_at b ρ).lo) × (K (span_at b ρ).hi ≤ K (span_at b ρ').hi)
  span_nested {ρ} {ρ'} P P' h l = (
    inner,
    rw (hi_key P, hi_key P')
        (corners_mono _ _ _ _ _ _ _ _ (side B.x0 (y0 P) (le_refl _) order) (side B.x0 (y1 P) order (le_refl _))
        (side B.x1 (y0 P) (le_refl _) order) (side B.x1 (y1 P) order (le_refl _))),
  )
    where
      order : K (low ρ) ≤ K (high ρ)
      order = ordered P h

      down : K (low ρ') ≤ K (low ρ)
      down =
          let c = B.yc.bounded.sure in
          sub_key_mono binary64 b.yc b.yc ρ' ρ c c P'.bounded.sure P.bounded.sure (le_refl _) l

      up : K (high ρ) ≤ K (high ρ')
      up =
          let c = B.yc.bounded.sure in
          add_key_mono binary64 b.yc b.yc ρ ρ' c c P.bounded.sure P'.bounded.sure (le_refl _) l

      inner : K (span_at b ρ').lo ≤ K (span_at b ρ).lo
      inner =
          unfold span_at in
          hypot_not_more (X P') (finite_given (Y P')) (X P) (finite_given (Y P)) (le_refl _)
          (by_size (Y P') (Y P)
          (rw (toward0_size (y0 P) (y1 P) order, toward0_size (y0 P') (y1 P') (ordered P' (le_trans h l)))
          (omega (arith, down, up))))

      side : {x y : Float} → Given 20 x → Finite 21 y → K (low ρ) ≤ K y → K y ≤ K (high ρ)
          → far x y ≤ maxℕ (far x (low ρ')) (far x (high ρ'))
      side X Y u v = corner X Y (y0 P') (y1 P') (le_trans down u) (le_trans v up)
