-- A SIDE PARALLEL TO AN AXIS, in f64: x is the coordinate along it, y the one across. Its sums of two products have one that is
-- zero.
use Prim.Native.Nat.{◌*◌, ◌+◌, ◌-◌, ◌<◌, ◌^◌, ℕ, ◌≤◌}
use mathlib.Core.Bool.{cond, not}
use mathlib.Core.Logic.{inl, inr}
use mathlib.Core.Path.{◌≡◌, refl, ◌∙◌}
use native.Mathlib.Nat.{le_of_lt}
use native.Mathlib.Nat.{mul-le-mul_left, mul-le-mul_right, mul-pos}
use native.Mathlib.Omega.{arith}
use lib.Dec.{not_T, T}
use lib.Ieee.{binary64, Float, prec}
use lib.Pow.{pow_pos}
use Rattle.arith.proofs.roots.Numbers.{decide}
use Rattle.arith.proofs.roots.Rounding.Key.{unit, unit_pos}
use Rattle.arith.proofs.roots.Rounding.KeyOrder.{le→key}
use Rattle.arith.specs.F64.{◌⊕◌, ◌⊖◌, ◌⊗◌, ◌⊘◌, ◌≺◌, ◌≼◌, 𝟘, e_18, e_24}
use Rattle.arith.specs.Num.{abs}
use Rattle.arith.proofs.Laws.Bounded.{bounded_up}
use Rattle.arith.proofs.Laws.Quotients.{InUnit}
use Rattle.arith.proofs.Laws.Sizes.{add_finite, e_24_finite, Finite, finite_number_lem, finite_raise, K, M, mul_finite, sub_finite}
use Rattle.section.specs.segments.Segments.{unit_clamp}
use Rattle.arith.specs.Whole.{apart}
use Rattle.truth.proofs.Points.Coordinate.{power, sized}
use Rattle.arith.proofs.Laws.RoundingError.{Close}
use Rattle.arith.proofs.Laws.OperationErrors.{apart_most}
use Rattle.truth.proofs.Boxes.Across.{Best}
use Rattle.truth.proofs.Boxes.Beside.{beside², FromCorner}
use Rattle.truth.proofs.Boxes.Along.{meets, not_above, not_below}
use Rattle.truth.proofs.Boxes.Chain.{Dot, dot, Length, Small, square, Square, Times, times, Way}
use Rattle.truth.proofs.Boxes.Floats.{H, length_of, no_length, no_product, product_of, quotient_before}
use Rattle.truth.proofs.Boxes.Floats.{quotient_beyond, quotient_inside, sum_of, U, way_of, zero_product}
use Rattle.truth.proofs.Boxes.Signed.{Product, Sum}
use Rattle.truth.proofs.Boxes.Taken.{clamped, Good, place_good}
use Rattle.truth.proofs.Boxes.Turns.{Between, from_first, from_last, product_swap, side_by_side}
use Rattle.truth.proofs.Boxes.Lengths.{Coordinate, Dots, Side, Slim}

pub parts : (k m : ℕ) → m ≤ k → k ≡ m + (k - m)
parts k m h = omega arith

pub below : (k m c : ℕ) → k ≤ m + c → k - m ≤ c
below k m c h = omega arith

pub small_pos : (e : ℕ) → 0 < 2 ^ e
small_pos e = pow_pos e

square_positive : (m v u c h : ℕ) (small : Small v u c h) → 0 < h → (k : ℕ) → Square m v u c h small k → m < k
square_positive m v u c h small h⁺ k e = elim (decide k m) [
  | inl l ↦ absurd (clash m v c (h * h) k small.digits (mul-pos h⁺ h⁺) l e.near.under)
  | inr l ↦ l
]
  where
    clash : (m v c q k : ℕ) → 1024 ≤ c → 0 < q → k ≤ m → m * (c * v) + c * q ≤ k * (c * v) + 0 + 4 * q → ⊥
    clash m v c q k a p l n = omega (arith, mul-le-mul_right (c * v) l, mul-le-mul_right q a)

module _ (e : ℕ) (ax bx ay by qx q'x qy q'y : Float) (side : Side e ax bx ay by qx q'x qy q'y) where
  abbrev Ax : Coordinate e ax
  Ax = side.a_along

  abbrev Bx : Coordinate e bx
  Bx = side.b_along

  abbrev Ay : Coordinate e ay
  Ay = side.a_across

  abbrev By : Coordinate e by
  By = side.b_across

  abbrev Qx : Coordinate e qx
  Qx = side.q_along

  abbrev Q'x : Coordinate e q'x
  Q'x = side.q'_along

  abbrev Qy : Coordinate e qy
  Qy = side.q_across

  abbrev Q'y : Coordinate e q'y
  Q'y = side.q'_across

  abbrev level : K q'y ≡ K qy
  level = side.level

  abbrev slim : Slim e (apart (K q'x) (K qx))
  slim = side.slim

  abbrev h : ℕ
  h = apart (K q'x) (K qx)

  abbrev small : Small U (2 ^ e) H h
  small = slim.small

  abbrev dx : Float
  dx = bx ⊖ ax

  abbrev dy : Float
  dy = by ⊖ ay

  abbrev hx : Float
  hx = q'x ⊖ qx

  abbrev hy : Float
  hy = q'y ⊖ qy

  abbrev rx : Float
  rx = ax ⊖ qx

  abbrev ry : Float
  ry = ay ⊖ qy

  pub finite : {x : Float} → Coordinate e x → Finite 23 x
  finite {x} X = record { bounded = bounded_up binary64 (prec binary64 + e) 1097 x slim.most X }

  pub up : {x : Float} → Finite 23 x → Finite 200 x
  up X = finite_raise X {m = 200} tt

  pub less : {x y : Float} → Coordinate e x → Coordinate e y → Finite 200 (x ⊖ y)
  less X Y = finite_raise (sub_finite (finite X) (finite Y) tt) {m = 200} tt

  pub far : (x y : Float) → Coordinate e x → Coordinate e y → Close (K x) (K y) (4 * H * 2 ^ e)
  far x y X Y = go (K x) (K y) M H (2 ^ e) (sized binary64 _ 2 (2 ^ e) x (power binary64 e) X)
      (sized binary64 _ 2 (2 ^ e) y (power binary64 e) Y)
    where
      go : (a b m K u : ℕ) → Close a m (2 * K * u) → Close b m (2 * K * u) → Close a b (4 * K * u)
      go a b m K u s t = record { over = omega (arith, s.over, t.under); under = omega (arith, s.under, t.over) }

  pub way : (x y : Float) → Coordinate e x → Coordinate e y → Way M U (2 ^ e) H h small (K (x ⊖ y)) (K x) (K y)
  way x y X Y = way_of x y (up (finite X)) (up (finite Y)) e h small slim.range (far x y X Y)

  abbrev R : ℕ
  R = K q'x - K qx

  abbrev S : ℕ
  S = K qx - K q'x

  length : Length M U (2 ^ e) H h small (K hx) R S
  length = length_of q'x qx (up (finite Q'x)) (up (finite Qx)) (2 ^ e) small

  level_zero : K hy ≡ M
  level_zero = no_length q'y qy (up (finite Q'y)) (up (finite Qy)) level

  module _ (a b c e' f : Float) (dots : Dots ax bx ay by qx q'x qy q'y a b c e' f) where
    abbrev a' : Finite 50 a
    a' = dots.a_dots.finite

    abbrev b' : Finite 50 b
    b' = dots.b_dots.finite

    abbrev c' : Finite 50 c
    c' = dots.c_dots.finite

    abbrev e'' : Finite 50 e'
    e'' = dots.e_dots.finite

    abbrev f' : Finite 50 f
    f' = dots.f_dots.finite

    pub b_near : Times M U (2 ^ e) H h small (K b) (K bx * R + K ax * S) (K bx * S + K ax * R)
    b_near = times M U (2 ^ e) H h small (K dx) (K bx) (K ax) (K hx) R S (way bx ax Bx Ax) length (K b) (K (dx ⊗ hx))
        (product_of dx hx (less Bx Ax) (less Q'x Qx))
        (rw (no_product dy hy (less By Ay) (less Q'y Qy) level_zero) at dots.b_dots.sum)

    pub f_near : Times M U (2 ^ e) H h small (K f) (K ax * R + K qx * S) (K ax * S + K qx * R)
    f_near = times M U (2 ^ e) H h small (K rx) (K ax) (K qx) (K hx) R S (way ax qx Ax Qx) length (K f) (K (hx ⊗ rx))
        (product_swap M U H _ _ _ (product_of hx rx (less Q'x Qx) (less Ax Qx))) (rw (zero_first) at dots.f_dots.sum)
      where
        zero_first : K (hy ⊗ ry) ≡ M
        zero_first = zero_product (K (hy ⊗ ry)) (K ry) (K hy)
            (product_swap M U H _ _ _ (product_of hy ry (less Q'y Qy) (less Ay Qy))) level_zero

    pub e_near : Square M U (2 ^ e) H h small (K e')
    e_near = square M U (2 ^ e) H h small (K hx) R S length (K e') (K (hx ⊗ hx)) (product_of hx hx (less Q'x Qx) (less Q'x Qx))
        (rw (no_product hy hy (less Q'y Qy) (less Q'y Qy) level_zero) at dots.e_dots.sum)

    -- the side is not so short that 1e-24 counts
    pub side_wide : 2 * ((K e_24 - M) * U) ≤ h * h → T (not (e' ≼ e_24))
    side_wide long = not_T (e' ≼ e_24) (λ l. clash M U H (h * h) (K e') (K e_24) small.digits
        (mul-pos slim.some slim.some)
        (le→key binary64 e' e_24 (finite_number_lem e'') (finite_number_lem e_24_finite) l) long e_near.near.under)
      where
        clash : (m v c q k l : ℕ) → 1024 ≤ c → 0 < q → k ≤ l → 2 * ((l - m) * v) ≤ q
            → m * (c * v) + c * q ≤ k * (c * v) + 0 + 4 * q → ⊥
        clash m v c q k l a p g d n = go (l - m) (let z : k ≤ m + (l - m) = omega arith in z) d
          where
            go : (w : ℕ) → k ≤ m + w → 2 * (w * v) ≤ q → ⊥
            go w h d = omega (arith, n, mul-le-mul_right (c * v) h, mul-le-mul_left c d, mul-le-mul_right q a, p)

    c_near : Dot M U (2 ^ e) H h small (K c) (K bx * K ax + K ax * K qx + (K by * K ay + K ay * K qy))
        (K bx * K qx + K ax * K ax + (K by * K qy + K ay * K ay))
    c_near = dot M U (2 ^ e) H h small (K dx) (K bx) (K ax) (K rx) (K ax) (K qx) (K dy) (K by) (K ay) (K ry) (K ay) (K qy)
        (way bx ax Bx Ax) (way ax qx Ax Qx) (way by ay By Ay) (way ay qy Ay Qy)
        (K c) (K (dx ⊗ rx)) (K (dy ⊗ ry)) (product_of dx rx (less Bx Ax) (less Ax Qx))
        (product_of dy ry (less By Ay) (less Ay Qy)) dots.c_dots.sum

    a_near : Dot M U (2 ^ e) H h small (K a) (K bx * K bx + K ax * K ax + (K by * K by + K ay * K ay))
        (K bx * K ax + K ax * K bx + (K by * K ay + K ay * K by))
    a_near = dot M U (2 ^ e) H h small (K dx) (K bx) (K ax) (K dx) (K bx) (K ax) (K dy) (K by) (K ay) (K dy) (K by) (K ay)
        (way bx ax Bx Ax) (way bx ax Bx Ax) (way by ay By Ay) (way by ay By Ay)
        (K a) (K (dx ⊗ dx)) (K (dy ⊗ dy)) (product_of dx dx (less Bx Ax) (less Bx Ax))
        (product_of dy dy (less By Ay) (less By Ay)) dots.a_dots.sum

    -- THE PLACE ON THE EDGE loses at most ε to any other, across the side: where the side is not so short that 1e-18 counts, or
    -- the denominator is over it
    pub axis_good : (K e_18 - M) * (U * (U * U)) ≤ 500 * (H * 2 ^ e * 2 ^ e * (h * h)) → (ε : ℕ)
        → 1024 * (H * 2 ^ e * 2 ^ e) ≤ ε * ε
        → Good ε (K ay) (K by) (K qy) (cond (e_18 ≺ abs (a ⊗ e' ⊖ b ⊗ b)) (unit_clamp ((b ⊗ f ⊖ c ⊗ e') ⊘ (a ⊗ e' ⊖ b ⊗ b))) 𝟘)
    axis_good tiny ε ε⁺ = place_good e h small slim.some ε ε⁺ a b c e' f a' b' c' e'' f' (K bx) (K ax) (K ax) (K qx)
        R S length.turn b_near f_near (far bx ax Bx Ax) (far ax qx Ax Qx) (K ay) (K by) (K qy) (far by ay By Ay) _ _ _ _
        c_near a_near e_near refl refl refl refl tiny

    pub axis_over : (ε : ℕ) → 1024 * (H * 2 ^ e * 2 ^ e) ≤ ε * ε → T (e_18 ≺ abs (a ⊗ e' ⊖ b ⊗ b))
        → Good ε (K ay) (K by) (K qy) (unit_clamp ((b ⊗ f ⊖ c ⊗ e') ⊘ (a ⊗ e' ⊖ b ⊗ b)))
    axis_over ε ε⁺ = clamped e h small slim.some ε ε⁺ a b c e' f a' b' c' e'' f' (K bx) (K ax) (K ax) (K qx)
        R S length.turn b_near f_near (far bx ax Bx Ax) (far ax qx Ax Qx) (K ay) (K by) (K qy) (far by ay By Ay) _ _ _ _
        c_near a_near e_near refl refl refl refl

    -- ---- the place t on the side, from a place s on the edge
    module _ (s : Float) (i : InUnit s) where
      abbrev T' : ℕ
      T' = K s - M

      s_key : K s ≡ M + T'
      s_key = parts (K s) M i.least

      s_most : T' ≤ U
      s_most = below (K s) M U (unfold unit in i.most.bounded.upper)

      s_finite : Finite 200 s
      s_finite = finite_raise i.most {m = 200} tt

      raised : {x : Float} → Finite 50 x → Finite 200 x
      raised X = finite_raise X {m = 200} tt

      abbrev top' : Float
      top' = b ⊗ s ⊕ f

      top_finite : Finite 200 top'
      top_finite = finite_raise (add_finite (mul_finite b' i.most tt) f' tt) {m = 200} tt

      scaled : Product M U H (K (b ⊗ s)) (K b) (M + T')
      scaled = rw s_key at (product_of b s (raised b') s_finite)

      summed : Sum M U H (K top') (K (b ⊗ s)) (K f)
      summed = sum_of (b ⊗ s) f (finite_raise (mul_finite b' i.most tt) {m = 200} tt) (raised f')

      short : h ≤ 4 * H * 2 ^ e
      short = let c = far q'x qx Q'x Qx in apart_most (K q'x) (K qx) _ c.over c.under

      pub e_positive : M < K e'
      e_positive = square_positive M U (2 ^ e) H h small slim.some (K e') e_near

      abbrev b_p : ℕ
      b_p = K bx * R + K ax * S

      abbrev b_n : ℕ
      b_n = K bx * S + K ax * R

      abbrev f_p : ℕ
      f_p = K ax * R + K qx * S

      abbrev f_n : ℕ
      f_n = K ax * S + K qx * R

      before_first : K (top' ⊘ e') < M → b_p * T' + U * f_p ≤ b_n * T' + U * f_n + 31 * (2 ^ e * h * U)
      before_first l = not_above M U (2 ^ e) H h small short slim.some (unit_pos binary64) (K b) b_p b_n (K f) f_p f_n T' s_most
          b_near f_near (K top') (K (b ⊗ s)) scaled summed
          (quotient_before top' e' top_finite (raised e'') e_positive l)

      beyond_last : M + U < K (top' ⊘ e') → U * (h * h) + (b_n * T' + U * f_n) ≤ b_p * T' + U * f_p + 51 * (2 ^ e * h * U)
      beyond_last l = not_below M U (2 ^ e) H h small short slim.some (unit_pos binary64) (K b) b_p b_n (K f) f_p f_n T' s_most
          b_near f_near (K top') (K (b ⊗ s)) scaled summed
          (K e') (K e' - M) e_near (parts (K e') M (le_of_lt e_positive))
          (quotient_beyond top' e' top_finite (raised e'') e_positive l)

      -- ---- t lies before the side's first corner, or after its last: the corner's own distance to the edge is reported
      sum_whole : U - T' + T' ≡ U
      sum_whole = go U T' s_most
        where
          go : (v t : ℕ) → t ≤ v → v - t + t ≡ v
          go v t l = omega arith

      pub clear_first : (ε δ w : ℕ) → Best ε (U - T') T' (K ay) (K by) (K qy)
          → FromCorner δ w (K ay) (K by) (K qy) (K ax) (K bx) (K qx) → K (top' ⊘ e') < M
          → (i j m x : ℕ) → Between m (K qx) (K q'x) x
          → (i + j) * m * (w - (ε + (δ + 31 * 2 ^ e))) * ((i + j) * m * (w - (ε + (δ + 31 * 2 ^ e))))
          ≤ beside² (K ay) (K by) (K qy) (K ax) (K bx) i j m x
      clear_first ε δ w best corner l = from_first (K ax) (K bx) (K qx) (K q'x) h T' U (2 ^ e) (U - T') slim.some sum_whole
          length.turn (before_first l) (K ay) (K by) (K qy) ε δ w best (rw sum_whole (unit_pos binary64)) corner

      pub clear_last : (ε δ w : ℕ) → Best ε (U - T') T' (K ay) (K by) (K qy)
          → FromCorner δ w (K ay) (K by) (K qy) (K ax) (K bx) (K q'x) → M + U < K (top' ⊘ e')
          → (i j m x : ℕ) → Between m (K qx) (K q'x) x
          → (i + j) * m * (w - (ε + (δ + 51 * 2 ^ e))) * ((i + j) * m * (w - (ε + (δ + 51 * 2 ^ e))))
          ≤ beside² (K ay) (K by) (K qy) (K ax) (K bx) i j m x
      clear_last ε δ w best corner l = from_last (K ax) (K bx) (K qx) (K q'x) h T' U (2 ^ e) (U - T') slim.some sum_whole
          length.turn (beyond_last l) (K ay) (K by) (K qy) ε δ w best (rw sum_whole (unit_pos binary64)) corner

      -- ---- t lies on the side
      module _ (t : Float) (j : InUnit t) (is : K (top' ⊘ e') ≡ K t) where
        abbrev W : ℕ
        W = K t - M

        t_key : K t ≡ M + W
        t_key = parts (K t) M j.least

        t_most : W ≤ U
        t_most = below (K t) M U (unfold unit in j.most.bounded.upper)

        t_finite : Finite 200 t
        t_finite = finite_raise j.most {m = 200} tt

        met : Close (W * (h * h) + (b_n * T' + U * f_n)) (b_p * T' + U * f_p) (51 * (2 ^ e * h * U))
        met = meets M U (2 ^ e) H h small short slim.some (unit_pos binary64) (K b) b_p b_n (K f) f_p f_n T' s_most b_near f_near
            (K top') (K (b ⊗ s)) scaled summed
            (K e') (K e' - M) e_near (parts (K e') M (le_of_lt e_positive)) W t_most
            (quotient_inside top' e' top_finite (raised e'') e_positive W (is ∙ t_key) t_most)

        -- along the side
        pub together : Close (U * K ax + K bx * T' + K qx * W) (K ax * T' + U * K qx + K q'x * W) (51 * (2 ^ e * U))
        together = side_by_side (K ax) (K bx) (K qx) (K q'x) h T' W U (2 ^ e) slim.some length.turn met
