-- EVERY EXACT POINT OF THE CYLINDER lies over the span that 01 computes at the f64 nearest its z, widened by (g + 4) u, where g g
-- is at least 30 2 ^ 52. A point has x, y and z at X / n, Y / n and Z / n units.
use Prim.Native.Nat.{◌*◌, ◌+◌, ◌-◌, ◌<◌, ◌^◌, suc, max as maxℕ, ℕ, ◌≤◌}
use mathlib.Core.Logic.{inl, inr, ◌⊎◌}
use mathlib.Core.Path.{◌≡◌, ap, sym, ◌∙◌}
use native.Mathlib.Nat.{le_of_eq, le_of_lt, le_of_mul-le-mul_left, le_trans, mul-le-mul, mul-le-mul_left, mul-le-mul_right}
use native.Mathlib.Nat.{mul-sub}
use native.Mathlib.Omega.{arith}
use lib.Ieee.{binary64, Float, prec}
use Rattle.arith.specs.roots.Roots.{hypot}
use Rattle.arith.proofs.roots.Numbers.{decide}
use Rattle.arith.proofs.roots.Rounding.Key.{unit}
use Rattle.arith.specs.F64.{◌⊕◌, ◌⊖◌}
use Rattle.arith.proofs.Laws.Bounded.{Bounded}
use Rattle.arith.proofs.Laws.Monotone.{key_size}
use Rattle.arith.proofs.Laws.Sizes.{K, M}
use Rattle.walk.specs.bands.Band.{closest_to_zero, half_width, span_at}
use Rattle.walk.specs.declared.bands.shapes.RadialBand.{RadialBand}
use Rattle.arith.specs.Whole.{apart}
use Rattle.truth.specs.Exact.{sqd}
use Rattle.truth.proofs.Points.Coordinate.{power}
use Rattle.truth.proofs.Points.Lagrange.{apart_split}
use Rattle.arith.proofs.Laws.OperationErrors.{apart_most, apart_over, apart_under, half, RootClose}
use Rattle.truth.proofs.Points.Circle.{leg_lost}
use Rattle.truth.proofs.Walk.Squares.{grow, lost, root_le}
use Rattle.truth.proofs.Walk.HalfWidths.{BandSized, HalfAt, half_at, half_bounded, half_least, offset_close, Scaled}
use Rattle.truth.proofs.Walk.HalfWidths.{size_most, size_of}
use Rattle.truth.proofs.Walk.SpanErrors.{closest_size, corner_close, Half, hi_corners, high, high_close, low, low_close}
use Rattle.truth.proofs.Walk.SpanErrors.{near_x, near_y, sides}
use Rattle.truth.proofs.Walk.Place.{place, place_bounded, place_close}

-- a point of the straightened cylinder, by keys
pub record InCylinder (b : RadialBand) (n X Y Z : ℕ) : Type 0 where
  pub some : 0 < n
  pub from : n * K b.x0 ≤ X
  pub to : X ≤ n * K b.x1
  pub disc : sqd Y (n * K b.yc) + sqd Z (n * K b.zc) ≤ n * size_of b.radius * (n * size_of b.radius)

-- ---- in whole numbers
-- the half width: y and z are how far the point lies from the axis, leg is at most z but for 3 u
half_holds : (E u R leg ρ n y z h g : ℕ) → R * R ≤ (ρ + u) * (ρ + u) + leg * leg + 3 * E → leg ≤ R → n * leg ≤ z + n * (3 * u)
    → z ≤ n * R
    → y * y + z * z ≤ n * R * (n * R) → R ≤ 2 * h * u → E ≡ h * (u * u) → 30 * h ≤ g * g → y ≤ n * (ρ + (g + 1) * u)
half_holds E u R leg ρ n y z h g least l near inner disc R⁺ E-is G =
    let a = grow z (n * leg) (n * R) (n * (3 * u)) inner (mul-le-mul_left n l) near in
    let c = sum (mul-le-mul_left (n * n) least) a disc (mul-le-mul_left (n * n) (mul-le-mul_right u R⁺))
    (ap (λ z. n * n * z) E-is) (mul-le-mul_left (n * n) (mul-le-mul_right (u * u) G)) in
    let d = root_le (y - n * (ρ + u)) (n * g * u) (lost y (n * (ρ + u)) (n * g * u * (n * g * u)) c) in
    last d
  where
    sum : n * n * (R * R) ≤ n * n * ((ρ + u) * (ρ + u) + leg * leg + 3 * E)
        → n * leg * (n * leg) ≤ z * z + 2 * (n * R * (n * (3 * u))) → y * y + z * z ≤ n * R * (n * R)
        → n * n * (R * u) ≤ n * n * (2 * h * u * u) → n * n * E ≡ n * n * (h * (u * u))
        → n * n * (30 * h * (u * u)) ≤ n * n * (g * g * (u * u))
        → y * y ≤ n * (ρ + u) * (n * (ρ + u)) + n * g * u * (n * g * u)
    sum a c d f i j =
        go (n * n * (R * R)) (n * (ρ + u) * (n * (ρ + u))) (n * leg * (n * leg)) (n * n * E) (z * z) (n * n * (R * u))
        (n * n * (h * (u * u))) (n * g * u * (n * g * u)) (y * y)
        (let q : n * n * ((ρ + u) * (ρ + u) + leg * leg + 3 * E)
        ≡ n * (ρ + u) * (n * (ρ + u)) + n * leg * (n * leg) + 3 * (n * n * E) = omega arith in le_trans a (le_of_eq q))
        (let q : 2 * (n * R * (n * (3 * u))) ≡ 6 * (n * n * (R * u)) = omega arith in
        le_trans c (le_of_eq (ap (λ w. z * z + w) q)))
        (let q : n * R * (n * R) ≡ n * n * (R * R) = omega arith in le_trans d (le_of_eq q))
        (let q : n * n * (2 * h * u * u) ≡ 2 * (n * n * (h * (u * u))) = omega arith in le_trans f (le_of_eq q)) i
        (let q : n * n * (30 * h * (u * u)) ≡ 30 * (n * n * (h * (u * u))) = omega arith in let r : n * n * (g * g * (u * u))
        ≡ n * g * u * (n * g * u) = omega arith in le_trans (le_of_eq (sym q)) (le_trans j (le_of_eq r)))
      where
        go : (RR P L E' zz Ru H G' yy : ℕ) → RR ≤ P + L + 3 * E' → L ≤ zz + 6 * Ru → yy + zz ≤ RR → Ru ≤ 2 * H → E' ≡ H
            → 30 * H ≤ G' → yy ≤ P + G'
        go RR P L E' zz Ru H G' yy a c d f i j = omega arith

    last : y - n * (ρ + u) ≤ n * g * u → y ≤ n * (ρ + (g + 1) * u)
    last d =
        let q : n * (ρ + (g + 1) * u) ≡ n * (ρ + u) + n * g * u = omega arith in
        rw q (go (n * (ρ + u)) (n * g * u) d)
      where
        go : (a c : ℕ) → y - a ≤ c → y ≤ a + c
        go a c d = omega arith

-- a coordinate of a range from c0 to c1, widened by t / n, from the origin
outermost : (m n c0 c1 X t : ℕ) → n * c0 ≤ X + t → X ≤ n * c1 + t
    → (apart X (n * m) ≤ n * (c0 - m + (m - c0)) + t) ⊎ (apart X (n * m) ≤ n * (c1 - m + (m - c1)) + t)
outermost m n c0 c1 X t h k = elim (decide (n * m) X) [
  | inl l ↦ inr
      (apart_most X (n * m) _ (up (c1 - m + (m - c1)) (let q : c1 ≤ m + (c1 - m + (m - c1)) = omega arith in q))
      (more (n * (c1 - m + (m - c1)) + t) l))
  | inr l ↦ inl
      (apart_most X (n * m) _ (more' (n * (c0 - m + (m - c0)) + t) (le_of_lt l))
      (down (c0 - m + (m - c0)) (let q : m ≤ c0 + (c0 - m + (m - c0)) = omega arith in q)))
]
  where
    up : (w : ℕ) → c1 ≤ m + w → X ≤ n * m + (n * w + t)
    up w q = let r = mul-le-mul_left n q in omega arith

    more : (w : ℕ) → n * m ≤ X → n * m ≤ X + w
    more w l = omega arith

    more' : (w : ℕ) → X ≤ n * m → X ≤ n * m + w
    more' w l = omega arith

    down : (w : ℕ) → m ≤ c0 + w → n * m ≤ X + (n * w + t)
    down w q = let r = mul-le-mul_left n q in omega arith

innermost : (m n c0 c1 X t : ℕ) → n * c0 ≤ X + t → X ≤ n * c1 + t → n * maxℕ (c0 - m) (m - c1) ≤ apart X (n * m) + t
innermost m n c0 c1 X t h k = elim (decide (c0 - m) (m - c1)) [
  | inl l ↦ let q : maxℕ (c0 - m) (m - c1) ≡ m - c1 = omega arith in rw q right
  | inr l ↦ let q : maxℕ (c0 - m) (m - c1) ≡ c0 - m = omega arith in rw q left
]
  where
    left : n * (c0 - m) ≤ apart X (n * m) + t
    left = elim (decide m c0) [
      | inl l ↦ go (c0 - m) (let q : c0 ≡ m + (c0 - m) = omega arith in q) (apart_over X (n * m))
      | inr l ↦ let q : c0 - m ≡ 0 = omega arith in rw q (none (apart X (n * m) + t))
    ]
      where
        none : (w : ℕ) → n * 0 ≤ w
        none w = omega arith

        go : (w : ℕ) → c0 ≡ m + w → X ≤ n * m + apart X (n * m) → n * w ≤ apart X (n * m) + t
        go w q r = let s = ap (λ z. n * z) q in omega arith

    right : n * (m - c1) ≤ apart X (n * m) + t
    right = elim (decide c1 m) [
      | inl l ↦ go (m - c1) (let q : m ≡ c1 + (m - c1) = omega arith in q) (apart_under X (n * m))
      | inr l ↦ let q : m - c1 ≡ 0 = omega arith in rw q (none (apart X (n * m) + t))
    ]
      where
        none : (w : ℕ) → n * 0 ≤ w
        none w = omega arith

        go : (w : ℕ) → m ≡ c1 + w → n * m ≤ X + apart X (n * m) → n * w ≤ apart X (n * m) + t
        go w q r = let s = ap (λ z. n * z) q in omega arith

-- within a corner's hypotenuse
within_corner : (n x y sx sy h w t : ℕ) → x ≤ n * sx → y ≤ n * sy + n * t → RootClose (sx * sx + sy * sy) h w
    → x * x + y * y ≤ n * (h + (t + w)) * (n * (h + (t + w)))
within_corner n x y sx sy h w t a c r =
    let l : sy ≤ h + w = root_le sy (h + w) (le_trans (part (sx * sx) (sy * sy)) r.most) in
    let q : h + (t + w) ≡ h + w + t = omega arith in
    rw q (go (h + w) (mul-le-mul a a) (mul-le-mul c c) (mul-le-mul_left (n * n) r.most)
    (mul-le-mul_left (n * n) (mul-le-mul_right t l)))
  where
    part : (a b : ℕ) → b ≤ a + b
    part a b = omega arith

    go : (H : ℕ) → x * x ≤ n * sx * (n * sx) → y * y ≤ (n * sy + n * t) * (n * sy + n * t)
        → n * n * (sx * sx + sy * sy) ≤ n * n * (H * H) → n * n * (sy * t) ≤ n * n * (H * t)
        → x * x + y * y ≤ n * (H + t) * (n * (H + t))
    go H a c d f = omega arith

-- beyond the nearest point of the rectangle
beyond_corner : (n x y gx gy h w t : ℕ) → n * gx ≤ x → n * gy ≤ y + n * t → RootClose (gx * gx + gy * gy) h w
    → n * (h - (t + w)) * (n * (h - (t + w))) ≤ x * x + y * y
beyond_corner n x y gx gy h w t a c r =
    let s = leg_lost (n * (h - w)) (n * t) x (n * gy) (y * y) (sum (h - w) (mul-le-mul_left (n * n) r.least) (mul-le-mul a a))
    (let l : n * gy - n * t ≤ y = omega arith in mul-le-mul l l) in
    rw (turn) s
  where
    sum : (k : ℕ) → n * n * (k * k) ≤ n * n * (gx * gx + gy * gy) → n * gx * (n * gx) ≤ x * x
        → n * k * (n * k) ≤ x * x + n * gy * (n * gy)
    sum k d f = omega arith

    turn : n * (h - (t + w)) ≡ n * (h - w) - n * t
    turn = ap (λ z. n * z) (let q : h - (t + w) ≡ h - w - t = omega arith in q) ∙ mul-sub n (h - w) t

-- ---- of a band
module _ (e m : ℕ) (S : Scaled e m) {b : RadialBand} (B : BandSized e b) (g : ℕ) (G : 30 * half binary64 ≤ g * g) {n X Y Z : ℕ}
    (C : InCylinder b n X Y Z) where
  abbrev u : ℕ
  u = 2 ^ e

  abbrev pub R : ℕ
  R = size_of b.radius

  abbrev η : ℕ
  η = (g + 2) * u

  abbrev ε : ℕ
  ε = η + 2 * u

  legs : (a c : ℕ) → a * a + c * c ≤ n * R * (n * R) → (a ≤ n * R) × (c ≤ n * R)
  legs a c h = (
    root_le a (n * R) (let q : a * a ≤ n * R * (n * R) = go (a * a) (c * c) (n * R * (n * R)) h in q),
    root_le c (n * R) (let q : c * c ≤ n * R * (n * R) = go' (a * a) (c * c) (n * R * (n * R)) h in q),
  )
    where
      go : (x y z : ℕ) → x + y ≤ z → x ≤ z
      go x y z h = omega arith

      go' : (x y z : ℕ) → x + y ≤ z → y ≤ z
      go' x y z h = omega arith

  abbrev pub y : ℕ
  y = apart Y (n * K b.yc)

  abbrev pub z : ℕ
  z = apart Z (n * K b.zc)

  disc : y * y + z * z ≤ n * R * (n * R)
  disc = unfold sqd in C.disc

  pub near : z ≤ n * R
  near = (legs y z disc).1

  pub aside : y ≤ n * R
  aside = (legs y z disc).0

  -- the f64 nearest z
  abbrev pub at : Float
  at = place e m S B n Z C.some near

  at_bounded : Bounded binary64 (prec binary64 + suc e) at
  at_bounded = place_bounded e m S B n Z C.some near

  abbrev pub ρ : ℕ
  ρ = K (half_width b at) - M

  H : HalfAt (2 ^ m * unit binary64) u R (size_of (at ⊖ b.zc)) ρ
  H = half_at e m S B at_bounded

  R_most : R ≤ 2 * half binary64 * u
  R_most = le_trans (size_most e m S (prec binary64 + e) b.radius B.radius) (le_of_eq (power binary64 e))

  leg_near : n * H.leg ≤ z + n * (3 * u)
  leg_near = go H.leg (size_of (at ⊖ b.zc)) (K at) (K b.zc) (apart (K at) (K b.zc)) u (apart_split (K at) (K b.zc))
      H.leg_d (offset_close e m S B at_bounded).over
      (place_close e m S B n Z C.some near).over (place_close e m S B n Z C.some near).under
      (apart_over Z (n * K b.zc)) (apart_under Z (n * K b.zc))
    where
      go : (l d k c a u : ℕ) → (c ≡ k + a) ⊎ (k ≡ c + a) → l ≤ d → d ≤ a + 2 * u → n * k ≤ Z + n * u → Z ≤ n * k + n * u
          → Z ≤ n * c + apart Z (n * c) → n * c ≤ Z + apart Z (n * c)
          → n * l ≤ apart Z (n * c) + n * (3 * u)
      go l d k c a u s h i o p q r = step s (apart Z (n * c)) q r
        where
          step : (c ≡ k + a) ⊎ (k ≡ c + a) → (z : ℕ) → Z ≤ n * c + z → n * c ≤ Z + z → n * l ≤ z + n * (3 * u)
          step (inl s) z q r = let x = mul-le-mul_left n (le_trans h i) in let y = ap (λ w. n * w) s in omega arith
          step (inr s) z q r = let x = mul-le-mul_left n (le_trans h i) in let y = ap (λ w. n * w) s in omega arith

  pub y_most : y ≤ n * (ρ + (g + 1) * u)
  y_most = half_holds (2 ^ m * unit binary64) u R H.leg ρ n y z (half binary64) g H.least
      H.leg_R leg_near near disc R_most S.error G

  -- ---- over the span at any half width ρ' that y does not exceed by more than (g + 1) u
  module _ (ρ' : Float) (P : Half e m S B ρ') (wide : y ≤ n * (K ρ' - M + (g + 1) * u)) where
    ρ_key : K ρ' ≡ M + (K ρ' - M)
    ρ_key = go (K ρ') M P.least
      where
        go : (k m : ℕ) → m ≤ k → k ≡ m + (k - m)
        go k m h = omega arith

    abbrev y0 : Float
    y0 = b.yc ⊖ ρ'

    abbrev y1 : Float
    y1 = b.yc ⊕ ρ'

    y_from : n * K y0 ≤ Y + n * η
    y_from = go (K y0) (K ρ') (K b.yc) M (K ρ' - M) u ρ_key (low_close e m S B P).over wide (apart_under Y (n * K b.yc))
      where
        go : (a k c m r u : ℕ) → k ≡ m + r → a + k ≤ m + c + u → apart Y (n * c) ≤ n * (r + (g + 1) * u)
            → n * c ≤ Y + apart Y (n * c) → n * a ≤ Y + n * ((g + 2) * u)
        go a k c m r u q h i j = let x : a + r ≤ c + u = omega arith in step (apart Y (n * c)) i j (mul-le-mul_left n x)
          where
            step : (y : ℕ) → y ≤ n * (r + (g + 1) * u) → n * c ≤ Y + y → n * (a + r) ≤ n * (c + u) → n * a ≤ Y + n * ((g + 2) * u)
            step y i j x = omega arith

    y_to : Y ≤ n * K y1 + n * η
    y_to = go (K y1) (K ρ') (K b.yc) M (K ρ' - M) u ρ_key (high_close e m S B P).under wide (apart_over Y (n * K b.yc))
      where
        go : (a k c m r u : ℕ) → k ≡ m + r → c + k ≤ a + m + u → apart Y (n * c) ≤ n * (r + (g + 1) * u)
            → Y ≤ n * c + apart Y (n * c) → Y ≤ n * a + n * ((g + 2) * u)
        go a k c m r u q h i j = let x : c + r ≤ a + u = omega arith in step (apart Y (n * c)) i j (mul-le-mul_left n x)
          where
            step : (y : ℕ) → y ≤ n * (r + (g + 1) * u) → Y ≤ n * c + y → n * (c + r) ≤ n * (a + u) → Y ≤ n * a + n * ((g + 2) * u)
            step y i j x = omega arith

    -- x and y from the spindle
    abbrev Xs : ℕ
    Xs = apart X (n * M)

    abbrev Ys : ℕ
    Ys = apart Y (n * M)

    zero_more : (a b : ℕ) → a ≤ b → a ≤ b + 0
    zero_more a b h = omega arith

    x_out : (Xs ≤ n * size_of b.x0 + 0) ⊎ (Xs ≤ n * size_of b.x1 + 0)
    x_out = unfold key_size in outermost M n (K b.x0) (K b.x1) X 0 (zero_more _ _ C.from) (zero_more _ _ C.to)

    y_out : (Ys ≤ n * size_of y0 + n * η) ⊎ (Ys ≤ n * size_of y1 + n * η)
    y_out = unfold key_size in outermost M n (K y0) (K y1) Y (n * η) y_from y_to

    abbrev hi : ℕ
    hi = K (span_at b ρ').hi - M

    abbrev lo : ℕ
    lo = K (span_at b ρ').lo - M

    corner : {x y : Float} → Bounded binary64 (prec binary64 + e) x → Bounded binary64 (prec binary64 + suc e) y
        → K (hypot binary64 x y) ≤ K (span_at b ρ').hi
        → Xs ≤ n * size_of x + 0 → Ys ≤ n * size_of y + n * η → Xs * Xs + Ys * Ys ≤ n * (hi + ε) * (n * (hi + ε))
    corner {x} {y} X' Y' l a c =
        let h : n * (K (hypot binary64 x y) - M + ε) ≤ n * (hi + ε) =
        mul-le-mul_left n (go (K (hypot binary64 x y)) (K (span_at b ρ').hi) M ε l) in
        le_trans (within_corner n Xs Ys (size_of x) (size_of y) (K (hypot binary64 x y) - M) (2 * u) η (none a) c
        (corner_close e m S B X' Y')) (mul-le-mul h h)
      where
        go : (a b m w : ℕ) → a ≤ b → a - m + w ≤ b - m + w
        go a b m w l = omega arith

        none : {a b : ℕ} → a ≤ b + 0 → a ≤ b
        none h = omega arith

    pub farthest : Xs * Xs + Ys * Ys ≤ n * (hi + ε) * (n * (hi + ε))
    farthest = go x_out y_out
      where
        go : (Xs ≤ n * size_of b.x0 + 0) ⊎ (Xs ≤ n * size_of b.x1 + 0)
            → (Ys ≤ n * size_of y0 + n * η) ⊎ (Ys ≤ n * size_of y1 + n * η) → Xs * Xs + Ys * Ys ≤ n * (hi + ε) * (n * (hi + ε))
        go (inl a) (inl c) = corner B.x0 (low e m S B P) (hi_corners e m S B P).one a c
        go (inl a) (inr c) = corner B.x0 (high e m S B P) (hi_corners e m S B P).two a c
        go (inr a) (inl c) = corner B.x1 (low e m S B P) (hi_corners e m S B P).three a c
        go (inr a) (inr c) = corner B.x1 (high e m S B P) (hi_corners e m S B P).four a c

    ends : K b.x0 ≤ K b.x1
    ends = le_of_mul-le-mul_left (le_trans C.from C.to) C.some

    pub closest : n * (lo - ε) * (n * (lo - ε)) ≤ Xs * Xs + Ys * Ys
    closest = go (corner_close e m S B (near_x e m S B) (near_y e m S B P))
      where
        cx : Float
        cx = closest_to_zero b.x0 b.x1

        cy : Float
        cy = closest_to_zero y0 y1

        x_in : n * size_of cx ≤ Xs
        x_in = rw (closest_size b.x0 b.x1 B.x0.sure B.x1.sure ends)
            (none (innermost M n (K b.x0) (K b.x1) X 0 (zero_more _ _ C.from) (zero_more _ _ C.to)))
          where
            none : {a b : ℕ} → a ≤ b + 0 → a ≤ b
            none h = omega arith

        y_in : n * size_of cy ≤ Ys + n * η
        y_in = rw (closest_size y0 y1 (low e m S B P).sure (high e m S B P).sure (sides e m S B P))
            (innermost M n (K y0) (K y1) Y (n * η) y_from y_to)

        go : RootClose (size_of cx * size_of cx + size_of cy * size_of cy) (K (hypot binary64 cx cy) - M) (2 * u)
            → n * (lo - ε) * (n * (lo - ε)) ≤ Xs * Xs + Ys * Ys
        go r = unfold span_at in beyond_corner n Xs Ys (size_of cx) (size_of cy) (K (hypot binary64 cx cy) - M) (2 * u) η x_in y_in r

  P : Half e m S B (half_width b at)
  P = record { bounded = half_bounded e m S B at_bounded; least = half_least e m S B at_bounded }

  pub at_farthest : apart X (n * M) * apart X (n * M) + apart Y (n * M) * apart Y (n * M)
      ≤ n * (K (span_at b (half_width b at)).hi - M + ((g + 2) * u + 2 * u)) *
      (n * (K (span_at b (half_width b at)).hi - M + ((g + 2) * u + 2 * u)))
  at_farthest = farthest (half_width b at) P y_most

  pub at_closest : n * (K (span_at b (half_width b at)).lo - M - ((g + 2) * u + 2 * u)) *
      (n * (K (span_at b (half_width b at)).lo - M - ((g + 2) * u + 2 * u)))
      ≤ apart X (n * M) * apart X (n * M) + apart Y (n * M) * apart Y (n * M)
  at_closest = closest (half_width b at) P y_most
