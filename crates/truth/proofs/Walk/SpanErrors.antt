-- THE SPAN at one half width against the span at another: no end moves by more than the half widths differ, and 6 u.
use Prim.Native.Nat.{◌*◌, ◌+◌, ◌-◌, ◌<◌, ◌^◌, suc, max as maxℕ, ℕ, ◌≤◌}
use mathlib.Core.Bool.{Bool, cond, false, not, true}
use mathlib.Core.Path.{◌≡◌, ◌∙◌}
use native.Mathlib.Nat.{le_of_lt, le_refl, le_trans, max-le, mul-le-mul, mul-le-mul_right, two-pow-succ}
use native.Mathlib.Omega.{arith}
use lib.Dec.{T}
use lib.Ieee.{binary64, Float, prec}
use lib.Pow.{pow_mono}
use Rattle.arith.specs.roots.Roots.{hypot}
use Rattle.arith.proofs.roots.Rounding.Key.{finite_number, number_of}
use Rattle.arith.proofs.roots.Rounding.KeyOrder.{lt→key, nlt→key}
use Rattle.arith.specs.F64.{◌⊕◌, ◌⊖◌, ◌≺◌, 𝟘}
use Rattle.arith.specs.Num.{max}
use Rattle.arith.proofs.Laws.Bounded.{Bounded, bounded_up, mid_lt, overflow}
use Rattle.arith.proofs.Laws.BoundedValue.{add_value, bounded→value, hypot_value, sub_value}
use Rattle.arith.proofs.Laws.Exact.{add_ge, sub_le}
use Rattle.arith.proofs.Laws.HypotKey.{hypot_is, root_not_negative}
use Rattle.arith.proofs.Laws.Monotone.{key_size}
use Rattle.arith.proofs.Laws.Order.{max_key}
use Rattle.arith.proofs.Laws.Sizes.{cond_keeps, K, M, max_keeps, zero_finite, zero_key, zero_number}
use Rattle.walk.specs.bands.Band.{closest_to_zero, span_at}
use Rattle.walk.specs.declared.bands.shapes.RadialBand.{RadialBand}
use Rattle.arith.specs.Whole.{apart}
use Rattle.arith.proofs.Laws.RoundingError.{Close}
use Rattle.arith.proofs.Laws.OperationErrors.{add_close, apart_most, hypot_close, RootClose, sub_close}
use Rattle.truth.proofs.Walk.Squares.{root_le}
use Rattle.truth.proofs.Walk.HalfWidths.{BandSized, Scaled, size_of}

-- ---- a hypotenuse grows by no more than its leg
pub longer_leg : (x y y' h h' w d : ℕ) → RootClose (x * x + y * y) h w → RootClose (x * x + y' * y') h' w → y ≤ y' + d
    → h ≤ h' + (d + 2 * w)
longer_leg x y y' h h' w d r r' l =
    let a : y' ≤ h' + w = root_le y' (h' + w) (let k = r'.most in le_trans (part (x * x) (y' * y')) k) in
    let c = root_le (h - w) (h' + w + d)
    (le_trans r.least (square (h' + w) (mul-le-mul l l) r'.most (mul-le-mul_right d a))) in
    omega arith
  where
    part : (a b : ℕ) → b ≤ a + b
    part a b = omega arith

    square : (H : ℕ) → y * y ≤ (y' + d) * (y' + d) → x * x + y' * y' ≤ H * H → y' * d ≤ H * d → x * x + y * y ≤ (H + d) * (H + d)
    square H a b c = omega arith

-- ---- the one of lo..hi closest to 0, by its size
pub closest_size : (lo hi : Float) → T (finite_number binary64 lo) → T (finite_number binary64 hi) → K lo ≤ K hi
    → size_of (closest_to_zero lo hi) ≡ maxℕ (K lo - M) (M - K hi)
unfolding key_size
closest_size lo hi L H h =
    let l = number_of binary64 lo L in
    let k = number_of binary64 hi H in
    go (𝟘 ≺ lo) (hi ≺ 𝟘) (lt→key binary64 𝟘 lo zero_number l) (nlt→key binary64 𝟘 lo zero_number l)
    (lt→key binary64 hi 𝟘 k zero_number) (nlt→key binary64 hi 𝟘 k zero_number) zero_key
  where
    go : (s t : Bool) → (T s → K 𝟘 < K lo) → (T (not s) → K lo ≤ K 𝟘) → (T t → K hi < K 𝟘) → (T (not t) → K 𝟘 ≤ K hi)
        → K 𝟘 ≡ M → size_of (cond s lo (cond t hi 𝟘)) ≡ maxℕ (K lo - M) (M - K hi)
    go true t x y u v e = omega (arith, x tt)
    go false true x y u v e = omega (arith, y tt, u tt)
    go false false x y u v e = omega (arith, y tt, v tt)

module _ (e m : ℕ) (S : Scaled e m) {b : RadialBand} (B : BandSized e b) where
  over : (j : ℕ) → j ≤ suc (suc (suc (suc (prec binary64 + e)))) → j < overflow binary64
  over j h = let l = S.range in let k : j < overflow binary64 = omega arith in k

  in_range : (j : ℕ) → j ≤ suc (suc (suc (suc (prec binary64 + e)))) → 2 ^ j ≤ M
  in_range j h = le_of_lt (mid_lt binary64 j (over j h))

  doubles : (j k : ℕ) → k ≡ suc j → 2 ^ k ≡ 2 ^ j + 2 ^ j
  doubles j k q = rw q (two-pow-succ j)

  -- ---- the sides of the rectangle
  pub record Half (ρ : Float) : Type 0 where
    pub bounded : Bounded binary64 (prec binary64 + e) ρ
    pub least : M ≤ K ρ

  module _ {ρ : Float} (P : Half ρ) where
    pub low : Bounded binary64 (prec binary64 + suc e) (b.yc ⊖ ρ)
    low = sub_value binary64 (prec binary64 + e) (prec binary64 + e) (prec binary64 + suc e) (over _ (omega arith)) (omega arith)
        (omega arith)
        (bounded→value binary64 _ _ B.yc) (bounded→value binary64 _ _ P.bounded)

    pub high : Bounded binary64 (prec binary64 + suc e) (b.yc ⊕ ρ)
    high = add_value binary64 (prec binary64 + e) (prec binary64 + e) (prec binary64 + suc e) (over _ (omega arith)) (omega arith)
        (omega arith)
        (bounded→value binary64 _ _ B.yc) (bounded→value binary64 _ _ P.bounded)

    pub low_close : Close (K (b.yc ⊖ ρ) + K ρ) (M + K b.yc) (2 ^ e)
    low_close = sub_close binary64 b.yc ρ B.yc.sure P.bounded.sure e (in_range _ (omega arith))
        (near (K b.yc) (K ρ) M _ _ B.yc.lower B.yc.upper P.bounded.lower P.bounded.upper
        (doubles (prec binary64 + e) (prec binary64 + suc e) (omega arith)))
      where
        near : (y r m w x : ℕ) → m ≤ y + w → y ≤ m + w → m ≤ r + w → r ≤ m + w → x ≡ w + w → Close y r x
        near y r m w x h k l o q = record { over = omega arith; under = omega arith }

    pub high_close : Close (K (b.yc ⊕ ρ) + M) (K b.yc + K ρ) (2 ^ e)
    high_close = add_close binary64 b.yc ρ B.yc.sure P.bounded.sure e (in_range _ (omega arith))
        (near (K b.yc) (K ρ) M _ _ B.yc.lower B.yc.upper P.bounded.lower P.bounded.upper
        (doubles (prec binary64 + e) (prec binary64 + suc e) (omega arith)))
      where
        near : (y r m w x : ℕ) → m ≤ y + w → y ≤ m + w → m ≤ r + w → r ≤ m + w → x ≡ w + w → Close (y + r) (m + m) x
        near y r m w x h k l o q = record { over = omega arith; under = omega arith }

    pub sides : K (b.yc ⊖ ρ) ≤ K (b.yc ⊕ ρ)
    sides =
        let y = B.yc.sure in
        let r = P.bounded.sure in
        le_trans (sub_le binary64 b.yc ρ y r P.least) (add_ge binary64 b.yc ρ y r P.least)

  -- ---- corners
  pub corner_close : {x y : Float} → Bounded binary64 (prec binary64 + e) x → Bounded binary64 (prec binary64 + suc e) y
      → RootClose (size_of x * size_of x + size_of y * size_of y) (K (hypot binary64 x y) - M) (2 * 2 ^ e)
  unfolding key_size apart
  corner_close {x} {y} X Y = rw (← two) (hypot_close binary64 x y (suc e) X.sure Y.sure (in_range _ (omega arith)) fit)
    where
      two : 2 ^ suc e ≡ 2 * 2 ^ e
      two = two-pow-succ e ∙ go (2 ^ e)
        where
          go : (z : ℕ) → z + z ≡ 2 * z
          go z = omega arith

      fit : apart (K x) M * apart (K x) M + apart (K y) M * apart (K y) M
          ≤ 2 ^ (prec binary64 + suc (suc e)) * 2 ^ (prec binary64 + suc (suc e))
      fit = go (apart (K x) M) (apart (K y) M) (2 ^ (prec binary64 + e)) (2 ^ (prec binary64 + suc e))
          (2 ^ (prec binary64 + suc (suc e)))
          (apart_most _ _ _ X.upper X.lower) (apart_most _ _ _ Y.upper Y.lower)
          (pow_mono (let k : prec binary64 + e ≤ prec binary64 + suc e = omega arith in k))
          (doubles (prec binary64 + suc e) (prec binary64 + suc (suc e)) (omega arith))
        where
          go : (x y v w t : ℕ) → x ≤ v → y ≤ w → v ≤ w → t ≡ w + w → x * x + y * y ≤ t * t
          go x y v w t h k l q = let f = mul-le-mul (le_trans h l) (le_trans h l) in let g = mul-le-mul k k in rw q (omega arith)

  pub corner_least : {x y : Float} → Bounded binary64 (prec binary64 + e) x → Bounded binary64 (prec binary64 + suc e) y
      → M ≤ K (hypot binary64 x y)
  corner_least {x} {y} X Y = unfold key_size in rw (hypot_is binary64 x y X.sure Y.sure) (root_not_negative binary64 _)

  pub corner_bounded : {x y : Float} → Bounded binary64 (prec binary64 + e) x → Bounded binary64 (prec binary64 + suc e) y
      → Bounded binary64 (prec binary64 + suc (suc e)) (hypot binary64 x y)
  corner_bounded X Y =
      hypot_value binary64 (prec binary64 + e) (prec binary64 + suc e) (prec binary64 + suc (suc e)) (over _ (omega arith))
      (omega arith) (omega arith)
      (bounded→value binary64 _ _ X) (bounded→value binary64 _ _ Y)

  -- one leg longer by d
  corner_moves : {x y y' : Float} → Bounded binary64 (prec binary64 + e) x → Bounded binary64 (prec binary64 + suc e) y
      → Bounded binary64 (prec binary64 + suc e) y'
      → (d : ℕ) → size_of y ≤ size_of y' + d → K (hypot binary64 x y) ≤ K (hypot binary64 x y') + (d + 4 * 2 ^ e)
  corner_moves {x} {y} {y'} X Y Y' d h =
      go (K (hypot binary64 x y)) (K (hypot binary64 x y')) M (2 ^ e) (corner_least X Y')
      (longer_leg (size_of x) (size_of y) (size_of y') (K (hypot binary64 x y) - M) (K (hypot binary64 x y') - M) (2 * 2 ^ e) d
      (corner_close X Y) (corner_close X Y') h)
    where
      go : (h h' m u : ℕ) → m ≤ h' → h - m ≤ h' - m + (d + 2 * (2 * u)) → h ≤ h' + (d + 4 * u)
      go h h' m u l k = omega arith

  closest_bounded : {n : ℕ} {x y : Float} → Bounded binary64 (prec binary64 + n) x → Bounded binary64 (prec binary64 + n) y
      → e ≤ n
      → Bounded binary64 (prec binary64 + n) (closest_to_zero x y)
  closest_bounded {n} {x} {y} X Y l =
      cond_keeps (Bounded binary64 (prec binary64 + n)) (𝟘 ≺ x) X (cond_keeps (Bounded binary64 (prec binary64 + n)) (y ≺ 𝟘) Y
      (bounded_up binary64 1074 (prec binary64 + n) 𝟘 (let k = S.unit_least in omega arith) (zero_finite 0).bounded))

  pub near_x : Bounded binary64 (prec binary64 + e) (closest_to_zero b.x0 b.x1)
  near_x = closest_bounded B.x0 B.x1 (le_refl e)

  pub near_y : {ρ : Float} → Half ρ → Bounded binary64 (prec binary64 + suc e) (closest_to_zero (b.yc ⊖ ρ) (b.yc ⊕ ρ))
  near_y P = closest_bounded (low P) (high P) (omega arith)

  -- ---- the greatest of the four corners
  abbrev Corner : Float → Type 0
  Corner = Bounded binary64 (prec binary64 + suc (suc e))

  max_over : {x y : Float} → Corner x → Corner y → (K x ≤ K (max x y)) × (K y ≤ K (max x y))
  max_over {x} {y} X Y =
      let q = max_key binary64 x y (number_of binary64 x X.sure) (number_of binary64 y Y.sure) in (omega arith, omega arith)

  largest : {x y : Float} → Corner x → Corner y → Corner (max x y)
  largest = max_keeps Corner

  pub record Corners (x y z w h : Float) : Type 0 where
    pub one : K x ≤ K h
    pub two : K y ≤ K h
    pub three : K z ≤ K h
    pub four : K w ≤ K h

  corners : {x y z w : Float} → Corner x → Corner y → Corner z → Corner w → Corners x y z w (max (max (max x y) z) w)
  corners X Y Z W =
      let a = max_over X Y in
      let c = max_over (largest X Y) Z in
      let d = max_over (largest (largest X Y) Z) W in
      record {
        one = le_trans a.0 (le_trans c.0 d.0);
        two = le_trans a.1 (le_trans c.0 d.0);
        three = le_trans c.1 d.0;
        four = d.1;
      }

  module _ {ρ : Float} (P : Half ρ) where
    pub lo_bounded : Corner (span_at b ρ).lo
    unfolding span_at
    lo_bounded = corner_bounded near_x (near_y P)

    pub lo_least : M ≤ K (span_at b ρ).lo
    unfolding span_at
    lo_least = corner_least near_x (near_y P)

    pub hi_bounded : Corner (span_at b ρ).hi
    unfolding span_at
    hi_bounded =
        largest (largest (largest (corner_bounded B.x0 (low P)) (corner_bounded B.x0 (high P)))
        (corner_bounded B.x1 (low P))) (corner_bounded B.x1 (high P))

    pub hi_corners : Corners (hypot binary64 b.x0 (b.yc ⊖ ρ)) (hypot binary64 b.x0 (b.yc ⊕ ρ))
        (hypot binary64 b.x1 (b.yc ⊖ ρ)) (hypot binary64 b.x1 (b.yc ⊕ ρ)) (span_at b ρ).hi
    unfolding span_at
    hi_corners = corners (corner_bounded B.x0 (low P)) (corner_bounded B.x0 (high P)) (corner_bounded B.x1 (low P))
        (corner_bounded B.x1 (high P))

    pub hi_least : M ≤ K (span_at b ρ).hi
    hi_least = le_trans (corner_least B.x0 (low P)) hi_corners.one

  -- ---- two half widths, the first no less than the second and by no more than δ
  module _ {ρ ρ' : Float} (P : Half ρ) (P' : Half ρ') (δ : ℕ) (l : K ρ' ≤ K ρ) (h : K ρ ≤ K ρ' + δ) where
    abbrev D : ℕ
    D = δ + 2 * 2 ^ e

    low_moves : Close (K (b.yc ⊖ ρ)) (K (b.yc ⊖ ρ')) D
    low_moves = go (K (b.yc ⊖ ρ)) (K (b.yc ⊖ ρ')) (K ρ) (K ρ') (K b.yc) M (2 ^ e) l h (low_close P) (low_close P')
      where
        go : (a a' r r' y m u : ℕ) → r' ≤ r → r ≤ r' + δ → Close (a + r) (m + y) u → Close (a' + r') (m + y) u
            → Close a a' (δ + 2 * u)
        go a a' r r' y m u l h c c' =
            record { over = omega (arith, c.over, c'.under); under = omega (arith, c.under, c'.over) }

    high_moves : Close (K (b.yc ⊕ ρ)) (K (b.yc ⊕ ρ')) D
    high_moves = go (K (b.yc ⊕ ρ)) (K (b.yc ⊕ ρ')) (K ρ) (K ρ') (K b.yc) M (2 ^ e) l h (high_close P) (high_close P')
      where
        go : (a a' r r' y m u : ℕ) → r' ≤ r → r ≤ r' + δ → Close (a + m) (y + r) u → Close (a' + m) (y + r') u
            → Close a a' (δ + 2 * u)
        go a a' r r' y m u l h c c' =
            record { over = omega (arith, c.over, c'.under); under = omega (arith, c.under, c'.over) }

    size_moves : (x y : Float) → Close (K x) (K y) D → size_of x ≤ size_of y + D
    unfolding key_size
    size_moves x y c = go (K x) (K y) M D c.over c.under
      where
        go : (x y m d : ℕ) → x ≤ y + d → y ≤ x + d → x - m + (m - x) ≤ y - m + (m - y) + d
        go x y m d h k = omega arith

    gap_moves : size_of (closest_to_zero (b.yc ⊖ ρ') (b.yc ⊕ ρ')) ≤ size_of (closest_to_zero (b.yc ⊖ ρ) (b.yc ⊕ ρ)) + D
    gap_moves = rw (
      closest_size (b.yc ⊖ ρ') (b.yc ⊕ ρ') (low P').sure (high P').sure (sides P'),
      closest_size (b.yc ⊖ ρ) (b.yc ⊕ ρ) (low P).sure (high P).sure (sides P),
    ) (go (K (b.yc ⊖ ρ)) (K (b.yc ⊖ ρ')) (K (b.yc ⊕ ρ)) (K (b.yc ⊕ ρ')) M D low_moves.under high_moves.over)
      where
        go : (a a' c c' m d : ℕ) → a' ≤ a + d → c ≤ c' + d → maxℕ (a' - m) (m - c') ≤ maxℕ (a - m) (m - c) + d
        go a a' c c' m d h k = max-le (left h) (right k)
          where
            left : a' ≤ a + d → a' - m ≤ maxℕ (a - m) (m - c) + d
            left h = omega arith

            right : c ≤ c' + d → m - c' ≤ maxℕ (a - m) (m - c) + d
            right h = omega arith

    pub lo_moves : K (span_at b ρ').lo ≤ K (span_at b ρ).lo + (D + 4 * 2 ^ e)
    unfolding span_at
    lo_moves = corner_moves near_x (near_y P') (near_y P) D gap_moves

    abbrev Below : Float → Type 0
    Below x = K x ≤ K (span_at b ρ').hi + (D + 4 * 2 ^ e)

    pub hi_moves : K (span_at b ρ).hi ≤ K (span_at b ρ').hi + (D + 4 * 2 ^ e)
    hi_moves = unfold span_at in max_keeps Below (max_keeps Below (max_keeps Below
        (below (corner_moves B.x0 (low P) (low P') D (size_moves (b.yc ⊖ ρ) (b.yc ⊖ ρ') low_moves)) (hi_corners P').one)
        (below (corner_moves B.x0 (high P) (high P') D (size_moves (b.yc ⊕ ρ) (b.yc ⊕ ρ') high_moves)) (hi_corners P').two))
        (below (corner_moves B.x1 (low P) (low P') D (size_moves (b.yc ⊖ ρ) (b.yc ⊖ ρ') low_moves)) (hi_corners P').three))
        (below (corner_moves B.x1 (high P) (high P') D (size_moves (b.yc ⊕ ρ) (b.yc ⊕ ρ') high_moves)) (hi_corners P').four)
      where
        below : {x y z : ℕ} → x ≤ y + (D + 4 * 2 ^ e) → y ≤ z → x ≤ z + (D + 4 * 2 ^ e)
        below {x} {y} {z} h k = go x y z (D + 4 * 2 ^ e) h k
          where
            go : (x y z w : ℕ) → x ≤ y + w → y ≤ z → x ≤ z + w
            go x y z w h k = omega arith
