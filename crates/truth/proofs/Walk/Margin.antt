-- THE MARGIN of a piece that is as narrow as the tolerance: its variation exceeds the root of 2 R τ by no more than 2 ^ 29 u. For
-- along a piece of width w the square of the half width changes by no more than 2 R w.
use Prim.Native.Nat.{◌*◌, ◌+◌, ◌-◌, ◌<◌, ◌^◌, suc, zero-le, min as minℕ, max as maxℕ, ℕ, ◌≤◌}
use mathlib.Core.Logic.{inl, inr}
use mathlib.Core.Path.{◌≡◌, ap, ◌∙◌}
use native.Mathlib.Nat.{le_of_eq, le_of_lt, le_refl, le_trans, mul-le-mul, mul-le-mul_left, mul-le-mul_right, two-pow-succ}
use native.Mathlib.Omega.{arith}
use lib.Dec.{T}
use lib.Ieee.{binary64, Float, prec}
use Rattle.arith.proofs.roots.Numbers.{decide}
use Rattle.arith.proofs.roots.Rounding.Key.{finite_number, number, number_of, unit}
use Rattle.arith.proofs.roots.Rounding.KeyOrder.{le→key}
use Rattle.arith.proofs.roots.Rounding.Sum.{sub_number}
use Rattle.arith.specs.F64.{◌⊖◌, ◌≺◌, ◌≼◌, 𝟘}
use Rattle.arith.specs.Num.{clamp, max, min}
use Rattle.arith.proofs.Laws.Bounded.{Bounded, bounded_up, mid_lt, overflow}
use Rattle.arith.proofs.Laws.Order.{clamp_key, max_key, min_key}
use Rattle.arith.proofs.Laws.Sizes.{cond_keeps, Finite, K, M, max_keeps, min_keeps, zero_key, zero_number}
use Rattle.walk.specs.bands.Band.{half_width, span_at}
use Rattle.walk.specs.declared.bands.shapes.RadialBand.{RadialBand}
use Rattle.walk.proofs.bands.HalfWidth.{LiesBetween, nearer_is_wider}
use Rattle.walk.proofs.bands.Limit.{InLimit}
use Rattle.walk.proofs.bands.Spans.{span_nested}
use Rattle.walk.specs.pieces.Pieces.{narrowest, variation, widest}
use Rattle.walk.specs.declared.pieces.shapes.Piece.{Piece}
use Rattle.arith.specs.Whole.{apart}
use Rattle.arith.proofs.Laws.RoundingError.{Close}
use Rattle.arith.proofs.Laws.OperationErrors.{apart_most, apart_over, apart_under, half, sub_close}
use Rattle.truth.proofs.Points.Coordinate.{power}
use Rattle.truth.proofs.Walk.Squares.{grow, lost, root_le}
use Rattle.truth.proofs.Walk.HalfWidths.{BandSized, HalfAt, half_at, half_bounded, half_least, offset_close, Scaled}
use Rattle.truth.proofs.Walk.HalfWidths.{size_most, size_of}
use Rattle.truth.proofs.Walk.SpanErrors.{Half, hi_bounded, hi_least, hi_moves, lo_bounded, lo_least, lo_moves}

-- the ends of a piece
pub record PieceWithin (e : ℕ) (p : Piece) : Type 0 where
  pub z0 : Bounded binary64 (prec binary64 + suc e) p.z0
  pub z1 : Bounded binary64 (prec binary64 + suc e) p.z1
  pub order : K p.z0 ≤ K p.z1

-- ---- two places, whose offsets as rounded differ by no more than W
pub half_moves : (E u R d d' ρ ρ' W : ℕ) → HalfAt E u R d ρ → HalfAt E u R d' ρ' → d' ≤ d + W
    → (ρ - ρ' - 2 * u) * (ρ - ρ' - 2 * u) ≤ 2 * (R * W) + 6 * E
half_moves E u R d d' ρ ρ' W H H' l = elim (decide ρ 0) [
  | inl k ↦ let z : ρ - ρ' - 2 * u ≡ 0 = omega arith in rw z zero-le
  | inr k ↦
      let g = grow d H'.leg R W (H.inner k) H'.leg_R (le_trans H'.leg_d l) in
      let s = lost (ρ - u) (ρ' + u) (2 * (R * W) + 6 * E) (sum (H.most k) H'.least g) in
      let q : ρ - ρ' - 2 * u ≡ ρ - u - (ρ' + u) = omega arith in
      rw q s
]
  where
    sum : (ρ - u) * (ρ - u) + d * d ≤ R * R + 3 * E → R * R ≤ (ρ' + u) * (ρ' + u) + H'.leg * H'.leg + 3 * E
        → H'.leg * H'.leg ≤ d * d + 2 * (R * W)
        → (ρ - u) * (ρ - u) ≤ (ρ' + u) * (ρ' + u) + (2 * (R * W) + 6 * E)
    sum a b c = go ((ρ - u) * (ρ - u)) ((ρ' + u) * (ρ' + u)) (H'.leg * H'.leg) (d * d) (R * R) (R * W) a b c
      where
        go : (x y l d r w : ℕ) → x + d ≤ r + 3 * E → r ≤ y + l + 3 * E → l ≤ d + 2 * w → x ≤ y + (2 * w + 6 * E)
        go x y l d r w a b c = omega arith

module _ (e m : ℕ) (S : Scaled e m) {b : RadialBand} (B : BandSized e b) {p : Piece} (P : PieceWithin e p) where
  abbrev u : ℕ
  u = 2 ^ e

  abbrev R : ℕ
  R = size_of b.radius

  abbrev E : ℕ
  E = 2 ^ m * unit binary64

  abbrev pub middle : Float
  middle = clamp b.zc p.z0 p.z1

  abbrev pub wide : Float
  wide = half_width b middle

  abbrev pub narrow : Float
  narrow = min (half_width b p.z0) (half_width b p.z1)

  middle_key : K middle ≡ maxℕ (K p.z0) (minℕ (K b.zc) (K p.z1))
  middle_key =
      clamp_key binary64 b.zc p.z0 p.z1 (number_of binary64 _ B.zc.sure) (number_of binary64 _ P.z0.sure)
      (number_of binary64 _ P.z1.sure) P.order

  middle_bounded : Bounded binary64 (prec binary64 + suc e) middle
  middle_bounded =
      cond_keeps Z (b.zc ≺ p.z0) P.z0
      (cond_keeps Z (p.z1 ≺ b.zc) P.z1
      (bounded_up binary64 _ _ _ (let l : prec binary64 + e ≤ prec binary64 + suc e = omega arith in l) B.zc))
    where
      Z : Float → Type 0
      Z = Bounded binary64 (prec binary64 + suc e)

  -- the exact width
  abbrev W : ℕ
  W = K p.z1 - K p.z0

  -- an end lies no farther from zc than the middle, and the width
  farther : (z : Float) → K p.z0 ≤ K z → K z ≤ K p.z1 → apart (K z) (K b.zc) ≤ apart (K middle) (K b.zc) + W
  farther z l h =
      go (K p.z0) (K z) (K p.z1) (K b.zc) (K middle) (apart (K middle) (K b.zc)) l h middle_key
      (apart_over (K middle) (K b.zc)) (apart_under (K middle) (K b.zc))
    where
      go : (a z c o k h : ℕ) → a ≤ z → z ≤ c → k ≡ maxℕ a (minℕ o c) → k ≤ o + h → o ≤ k + h → apart z o ≤ h + (c - a)
      go a z c o k h l i q r s = elim (decide o a) [
        | inl j ↦ let x : k ≡ a = omega arith in apart_most z o (h + (c - a)) (omega arith) (omega arith)
        | inr j ↦ elim (decide c o) [
          | inl j ↦ let x : k ≡ c = omega arith in apart_most z o (h + (c - a)) (omega arith) (omega arith)
          | inr j ↦ apart_most z o (h + (c - a)) (omega arith) (omega arith)
        ]
      ]

  moves_at : (z : Float) → Bounded binary64 (prec binary64 + suc e) z → K p.z0 ≤ K z → K z ≤ K p.z1
      → (K wide - K (half_width b z) - 2 * u) * (K wide - K (half_width b z) - 2 * u) ≤ 2 * (R * (W + 4 * u)) + 6 * E
  moves_at z Z l h =
      let s = half_moves E u R (size_of (middle ⊖ b.zc)) (size_of (z ⊖ b.zc)) (K wide - M) (K (half_width b z) - M) (W + 4 * u)
      (half_at e m S B middle_bounded) (half_at e m S B Z)
      (near (size_of (z ⊖ b.zc)) (size_of (middle ⊖ b.zc)) _ _ W u (offset_close e m S B Z) (offset_close e m S B middle_bounded)
      (farther z l h)) in
      let q : K wide - M - (K (half_width b z) - M) ≡ K wide - K (half_width b z) =
      shift (K wide) (K (half_width b z)) M (half_least e m S B Z) in
      rw q at s
    where
      near : (d' d a' a w u : ℕ) → Close d' a' (2 * u) → Close d a (2 * u) → a' ≤ a + w → d' ≤ d + (w + 4 * u)
      near d' d a' a w u c c' h = omega (arith, c.over, c'.under)

      shift : (x y m : ℕ) → m ≤ y → x - m - (y - m) ≡ x - y
      shift x y m h = omega arith

  pub wide_half : Half e m S B wide
  wide_half = record { bounded = half_bounded e m S B middle_bounded; least = half_least e m S B middle_bounded }

  pub narrow_half : Half e m S B narrow
  narrow_half = min_keeps (Half e m S B) (record { bounded = half_bounded e m S B P.z0; least = half_least e m S B P.z0 })
      (record { bounded = half_bounded e m S B P.z1; least = half_least e m S B P.z1 })

  abbrev δ : ℕ
  δ = K wide - K narrow

  half_changes : (δ - 2 * u) * (δ - 2 * u) ≤ 2 * (R * (W + 4 * u)) + 6 * E
  half_changes = min_keeps (λ (r : Float). (K wide - K r - 2 * u) * (K wide - K r - 2 * u) ≤ 2 * (R * (W + 4 * u)) + 6 * E)
      (moves_at p.z0 P.z0 (le_refl _) P.order) (moves_at p.z1 P.z1 P.order (le_refl _))

  -- ---- the spans, and the variation
  module _ (L : InLimit b) where
    place : {z : Float} → Bounded binary64 (prec binary64 + suc e) z → Finite 23 z
    place Z =
        record {
          bounded =
              bounded_up binary64 _ _ _ (let l = S.limit in let k : prec binary64 + suc e ≤ 1097 = omega arith in k) Z;
        }

    within : {r : Float} → Half e m S B r → Finite 20 r
    within H =
        record {
          bounded =
              bounded_up binary64 _ _ _ (let l = S.limit in let k : prec binary64 + e ≤ 1094 = omega arith in k) H.bounded;
        }

    wider : (z : Float) → Bounded binary64 (prec binary64 + suc e) z → K p.z0 ≤ K z → K z ≤ K p.z1
        → K (half_width b z) ≤ K wide
    wider z Z l h =
        nearer_is_wider L (place middle_bounded) (place Z)
        (between (K b.zc) (K p.z0) (K z) (K p.z1) (K middle) l h middle_key)
      where
        between : (c a z b k : ℕ) → a ≤ z → z ≤ b → k ≡ maxℕ a (minℕ c b) → LiesBetween c k z
        between c a z b k h l e = elim (decide c z) [ inl g ↦ inl (omega arith) | inr g ↦ inr (omega arith) ]

    narrower : K narrow ≤ K wide
    narrower =
        min_keeps (λ (r : Float). K r ≤ K wide) (wider p.z0 P.z0 (le_refl _) P.order)
        (wider p.z1 P.z1 P.order (le_refl _))

    nested : (K (span_at b wide).lo ≤ K (span_at b narrow).lo) × (K (span_at b narrow).hi ≤ K (span_at b wide).hi)
    nested = span_nested L (within narrow_half) (within wide_half) narrow_half.least narrower

    abbrev Corner : Float → Type 0
    Corner = Bounded binary64 (prec binary64 + suc (suc e))

    in_range : (j : ℕ) → j ≤ suc (suc (suc (suc (prec binary64 + e)))) → 2 ^ j ≤ M
    in_range j h = le_of_lt (mid_lt binary64 j (let l = S.range in let k : j < overflow binary64 = omega arith in k))

    two : 2 ^ suc e ≡ 2 * u
    two = two-pow-succ e ∙ go (2 ^ e)
      where
        go : (z : ℕ) → z + z ≡ 2 * z
        go z = omega arith

    -- how far two numbers that are not negative lie apart, as rounded
    difference : {x y : Float} → Corner x → Corner y → M ≤ K x → M ≤ K y → (D : ℕ) → K x ≤ K y + D → K (x ⊖ y) ≤ M + (D + 2 * u)
    difference {x} {y} X Y x⁺ y⁺ D h =
        let s = sub_close binary64 x y X.sure Y.sure (suc e) (in_range _ (omega arith))
        (near (K x) (K y) M _ x⁺ y⁺ X.upper Y.upper) in
        go (K (x ⊖ y)) (K x) (K y) M (2 ^ suc e) u two h s.over
      where
        near : (x y m w : ℕ) → m ≤ x → m ≤ y → x ≤ m + w → y ≤ m + w → Close x y w
        near x y m w h k l o = record { over = omega arith; under = omega arith }

        go : (d x y m w u : ℕ) → w ≡ 2 * u → x ≤ y + D → d + y ≤ m + x + w → d ≤ m + (D + 2 * u)
        go d x y m w u q h s = omega arith

    -- the larger less the smaller, in either order
    spread : {x y : Float} → Corner x → Corner y → M ≤ K x → M ≤ K y → (D : ℕ) → K x ≤ K y + D → K y ≤ K x + D
        → (K (max x y ⊖ min x y) ≤ M + (D + 2 * u)) × (K (max x y ⊖ min y x) ≤ M + (D + 2 * u))
    spread {x} {y} X Y x⁺ y⁺ D h k = (
      difference (max_keeps Corner X Y) (min_keeps Corner X Y) (max_keeps NotLess x⁺ y⁺) (min_keeps NotLess x⁺ y⁺) D
          (go (K x) (K y) (K (max x y)) (K (min x y)) h k (max_key binary64 x y nx ny) (min_key binary64 x y nx ny)),
      difference (max_keeps Corner X Y) (min_keeps Corner Y X) (max_keeps NotLess x⁺ y⁺) (min_keeps NotLess y⁺ x⁺) D
          (go' (K x) (K y) (K (max x y)) (K (min y x)) h k (max_key binary64 x y nx ny) (min_key binary64 y x ny nx)),
    )
      where
        NotLess : Float → Type 0
        NotLess z = M ≤ K z

        nx : T (number binary64 x)
        nx = number_of binary64 x X.sure

        ny : T (number binary64 y)
        ny = number_of binary64 y Y.sure

        go : (x' y' a c : ℕ) → x' ≤ y' + D → y' ≤ x' + D → a ≡ maxℕ x' y' → c ≡ minℕ x' y' → a ≤ c + D
        go x' y' a c h k p q = omega arith

        go' : (x' y' a c : ℕ) → x' ≤ y' + D → y' ≤ x' + D → a ≡ maxℕ x' y' → c ≡ minℕ y' x' → a ≤ c + D
        go' x' y' a c h k p q = omega arith

    abbrev D : ℕ
    D = δ + 2 * u + 4 * u

    below : K wide ≤ K narrow + δ
    below = go (K wide) (K narrow)
      where
        go : (x y : ℕ) → x ≤ y + (x - y)
        go x y = omega arith

    lower_ends : K (max (span_at b wide).lo (span_at b narrow).lo ⊖ min (span_at b wide).lo (span_at b narrow).lo)
        ≤ M + (D + 2 * u)
    lower_ends =
        (spread (lo_bounded e m S B wide_half) (lo_bounded e m S B narrow_half) (lo_least e m S B wide_half)
        (lo_least e m S B narrow_half) D
        (le_trans nested.0 (more (K (span_at b narrow).lo) D)) (lo_moves e m S B wide_half narrow_half δ narrower below)).0
      where
        more : (x d : ℕ) → x ≤ x + d
        more x d = omega arith

    upper_ends : K (max (span_at b wide).hi (span_at b narrow).hi ⊖ min (span_at b narrow).hi (span_at b wide).hi)
        ≤ M + (D + 2 * u)
    upper_ends =
        (spread (hi_bounded e m S B wide_half) (hi_bounded e m S B narrow_half) (hi_least e m S B wide_half)
        (hi_least e m S B narrow_half) D
        (hi_moves e m S B wide_half narrow_half δ narrower below) (le_trans nested.1 (more (K (span_at b wide).hi) D))).1
      where
        more : (x d : ℕ) → x ≤ x + d
        more x d = omega arith

    pub variation_most : K (variation b p) ≤ M + (D + 2 * u)
    unfolding variation widest narrowest
    variation_most =
        max_keeps (λ (x : Float). K x ≤ M + (D + 2 * u)) (max_keeps (λ (x : Float). K x ≤ M + (D + 2 * u)) lower_ends upper_ends)
        (le_trans (le_of_eq zero_key) (more M (D + 2 * u)))
      where
        more : (x d : ℕ) → x ≤ x + d
        more x d = omega arith

    pub variation_least : M ≤ K (variation b p)
    unfolding variation widest narrowest
    variation_least = le_trans (go (max_key binary64 inner 𝟘 inner_number zero_number)) (le_refl _)
      where
        inner : Float
        inner = max (max (span_at b wide).lo (span_at b narrow).lo ⊖ min (span_at b wide).lo (span_at b narrow).lo)
            (max (span_at b wide).hi (span_at b narrow).hi ⊖ min (span_at b narrow).hi (span_at b wide).hi)

        sure : Float → Type 0
        sure x = T (finite_number binary64 x)

        wl : sure (span_at b wide).lo
        wl = (lo_bounded e m S B wide_half).sure

        nl : sure (span_at b narrow).lo
        nl = (lo_bounded e m S B narrow_half).sure

        wh : sure (span_at b wide).hi
        wh = (hi_bounded e m S B wide_half).sure

        nh : sure (span_at b narrow).hi
        nh = (hi_bounded e m S B narrow_half).sure

        inner_number : T (number binary64 inner)
        inner_number = max_keeps (λ (x : Float). T (number binary64 x))
            (sub_number binary64 _ _ (max_keeps sure wl nl) (min_keeps sure wl nl))
            (sub_number binary64 _ _ (max_keeps sure wh nh) (min_keeps sure nh wh))

        go : K (max inner 𝟘) ≡ maxℕ (K inner) (K 𝟘) → M ≤ K (max inner 𝟘)
        go q = step (K (max inner 𝟘)) (K inner) (K 𝟘) M q zero_key
          where
            step : (k i z m : ℕ) → k ≡ maxℕ i z → z ≡ m → m ≤ k
            step k i z m q r = omega arith

    R_most : R ≤ 2 * half binary64 * u
    R_most = le_trans (size_most e m S (prec binary64 + e) b.radius B.radius) (le_of_eq (power binary64 e))

    -- no piece's variation exceeds the radius by more than (g + 9) u
    pub variation_radius : (g : ℕ) → 30 * half binary64 ≤ g * g → K (variation b p) - M ≤ R + (g + 9) * u
    variation_radius g G =
        last (K (variation b p)) (K wide) (K narrow) M R u variation_most narrow_half.least
        (wide_most (K wide - M) (half_at e m S B middle_bounded))
      where
        square : (h : ℕ) → 30 * h ≤ g * g → (3 * (h * (u * u))) ≤ g * u * (g * u)
        square h k = let l = mul-le-mul_right (u * u) k in omega arith

        wide_most : (r : ℕ) → HalfAt E u R (size_of (middle ⊖ b.zc)) r → r ≤ R + (g + 1) * u
        wide_most r H = elim (decide r 0) [
          | inl l ↦ omega arith
          | inr l ↦ go
              (root_le (r - u - R) (g * u)
              (le_trans (lost (r - u) R (3 * E) (part (size_of (middle ⊖ b.zc) * size_of (middle ⊖ b.zc)) (H.most l)))
              (le_trans (le_of_eq (ap (λ z. 3 * z) S.error)) (square (half binary64) G))))
        ]
          where
            part : (d : ℕ) → (r - u) * (r - u) + d ≤ R * R + 3 * E → (r - u) * (r - u) ≤ R * R + 3 * E
            part d h = step ((r - u) * (r - u)) (R * R + 3 * E) d h
              where
                step : (x y d : ℕ) → x + d ≤ y → x ≤ y
                step x y d h = omega arith

            go : r - u - R ≤ g * u → r ≤ R + (g + 1) * u
            go h = let q : (g + 1) * u ≡ g * u + u = omega arith in rw q (step (g * u) h)
              where
                step : (w : ℕ) → r - u - R ≤ w → r ≤ R + (w + u)
                step w h = omega arith

        last : (v a c m r u : ℕ) → v ≤ m + (a - c + 2 * u + 4 * u + 2 * u) → m ≤ c → a - m ≤ r + (g + 1) * u
            → v - m ≤ r + (g + 9) * u
        last v a c m r u h k l = let q : (g + 9) * u ≡ (g + 1) * u + 8 * u = omega arith in rw q (step ((g + 1) * u) l)
          where
            step : (w : ℕ) → a - m ≤ r + w → v - m ≤ r + (w + 8 * u)
            step w l = omega arith

    -- ---- a piece whose width, as rounded, is at most the tolerance
    module _ (tol : Float) (finite : T (finite_number binary64 tol)) (tol⁺ : M ≤ K tol) (thin : T (p.z1 ⊖ p.z0 ≼ tol)) where
      abbrev τ : ℕ
      τ = K tol - M

      width : W ≤ τ + 2 * u
      width =
          let s = sub_close binary64 p.z1 p.z0 P.z1.sure P.z0.sure (suc e) (in_range _ (omega arith))
          (near (K p.z1) (K p.z0) M _ _ P.z1.lower P.z1.upper P.z0.lower P.z0.upper
          (doubles (prec binary64 + suc e) (prec binary64 + suc (suc e)) (omega arith))) in
          let l : K (p.z1 ⊖ p.z0) ≤ K tol =
          le→key binary64 _ tol (sub_number binary64 _ _ P.z1.sure P.z0.sure) (number_of binary64 tol finite) thin in
          go (K (p.z1 ⊖ p.z0)) (K p.z1) (K p.z0) (K tol) M (2 ^ suc e) u two l tol⁺ s.under
        where
          doubles : (j k : ℕ) → k ≡ suc j → 2 ^ k ≡ 2 ^ j + 2 ^ j
          doubles j k q = rw q (two-pow-succ j)

          near : (y r m w x : ℕ) → m ≤ y + w → y ≤ m + w → m ≤ r + w → r ≤ m + w → x ≡ w + w → Close y r x
          near y r m w x h k l o q = record { over = omega arith; under = omega arith }

          go : (d z1 z0 t m w u : ℕ) → w ≡ 2 * u → d ≤ t → m ≤ t → m + z1 ≤ d + z0 + w → z1 - z0 ≤ t - m + 2 * u
          go d z1 z0 t m w u q h k s = omega arith

      -- w is the variation, in units
      pub margin : (g : ℕ) → 30 * half binary64 ≤ g * g
          → (K (variation b p) - M - (g + 10) * u) * (K (variation b p) - M - (g + 10) * u) ≤ 2 * (R * τ)
      margin g G =
          let v : K (variation b p) - M ≤ δ + 8 * u = part (K (variation b p)) M variation_most in
          let x : K (variation b p) - M - 10 * u ≤ δ - 2 * u = omega arith in
          let y : (K (variation b p) - M - 10 * u) * (K (variation b p) - M - 10 * u) ≤ 2 * (R * (W + 4 * u)) + 6 * E =
          le_trans (mul-le-mul x x) half_changes in
          let z : 2 * (R * (W + 4 * u)) + 6 * E ≤ g * u * (g * u) + 2 * (R * τ) =
          total R W τ u (half binary64) E width R_most S.error G in
          let w = lost (K (variation b p) - M - 10 * u) (g * u) (2 * (R * τ)) (le_trans y z) in
          rw (← turn (K (variation b p) - M)) w
        where
          part : (k m : ℕ) → k ≤ m + (δ + 2 * u + 4 * u + 2 * u) → k - m ≤ δ + 8 * u
          part k m h = omega arith

          turn : (x : ℕ) → x - 10 * u - g * u ≡ x - (g + 10) * u
          turn x = let q : (g + 10) * u ≡ g * u + 10 * u = omega arith in rw q (go x (g * u) (10 * u))
            where
              go : (x a c : ℕ) → x - c - a ≡ x - (a + c)
              go x a c = omega arith

          total : (R W τ u h E : ℕ) → W ≤ τ + 2 * u → R ≤ 2 * h * u → E ≡ h * (u * u) → 30 * h ≤ g * g
              → 2 * (R * (W + 4 * u)) + 6 * E ≤ g * u * (g * u) + 2 * (R * τ)
          total R W τ u h E a c d f =
              let x = mul-le-mul_left R a in
              let y = mul-le-mul_right u c in
              let z = mul-le-mul_right (u * u) f in
              omega arith
