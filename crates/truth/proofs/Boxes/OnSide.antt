-- THE PLACES s ON THE EDGE AND t ON THE SIDE, which lie 51 u apart along it: what is reported exceeds the distance across by at
-- most 109 u.
use Prim.Native.Nat.{◌*◌, ◌+◌, ◌-◌, ◌^◌, suc, ℕ, ◌≤◌}
use mathlib.Core.Path.{◌≡◌}
use native.Mathlib.Nat.{le_of_eq, le_refl, le_trans, mul-le-mul}
use native.Mathlib.Omega.{arith}
use lib.Ieee.{binary64, Float, prec}
use Rattle.arith.proofs.roots.Rounding.Key.{unit, unit_pos}
use Rattle.arith.specs.roots.Roots.{hypot}
use Rattle.arith.specs.F64.{◌⊕◌, ◌⊖◌, ◌⊗◌}
use Rattle.arith.proofs.Laws.Quotients.{InUnit}
use Rattle.arith.proofs.Laws.Sizes.{add_finite, Finite, finite_raise, K, M, mul_finite, sub_finite}
use Rattle.arith.specs.Whole.{apart}
use Rattle.truth.proofs.Points.Coordinate.{power, power_4, sized}
use Rattle.arith.proofs.Laws.RoundingError.{Close}
use Rattle.arith.proofs.Laws.OperationErrors.{hypot_close}
use Rattle.truth.proofs.Boxes.Across.{Best}
use Rattle.truth.proofs.Boxes.Beside.{facing, Facing}
use Rattle.truth.proofs.Boxes.Chain.{Small}
use Rattle.truth.proofs.Boxes.Floats.{difference_of, H, product_of}
use Rattle.truth.proofs.Boxes.Floats.{sum_of, U}
use Rattle.truth.proofs.Boxes.Points.{gap, gap_size, leg, Point, point, reported}
use Rattle.truth.proofs.Boxes.Signed.{Difference}
use Rattle.truth.proofs.Boxes.Turns.{across_legs}
use Rattle.truth.proofs.Boxes.Lengths.{Coordinate, Side}
use Rattle.truth.proofs.Boxes.Axis.{below, finite, less, parts, small_pos, way}

module _ (e : ℕ) (ax bx ay by qx q'x qy q'y : Float) (side : Side e ax bx ay by qx q'x qy q'y) (s t : Float) (i : InUnit s)
    (j : InUnit t)
    (together : Close (U * K ax + K bx * (K s - M) + K qx * (K t - M)) (K ax * (K s - M) + U * K qx + K q'x * (K t - M))
    (51 * (2 ^ e * U))) where
  abbrev h : ℕ
  h = apart (K q'x) (K qx)

  abbrev small : Small U (2 ^ e) H h
  small = side.slim.small

  abbrev T' : ℕ
  T' = K s - M

  abbrev W : ℕ
  W = K t - M

  s_most : T' ≤ U
  s_most = below (K s) M U (unfold unit in i.most.bounded.upper)

  known : {x : Float} → Coordinate e x → Finite 23 x
  known = finite e ax bx ay by qx q'x qy q'y side

  taken : {x y : Float} → Coordinate e x → Coordinate e y → Finite 200 (x ⊖ y)
  taken = less e ax bx ay by qx q'x qy q'y side

  at : (x y p : Float) → Coordinate e x → Coordinate e y → (p⁺ : InUnit p)
      → Point M U (2 ^ e) H h small (small_pos e) (K (x ⊕ (y ⊖ x) ⊗ p)) (K x) (K y) (K p - M)
  at x y p X Y p⁺ = point M U (2 ^ e) H h small (small_pos e) (K (y ⊖ x)) (K x) (K y) (K p - M)
      (below (K p) M U (unfold unit in p⁺.most.bounded.upper)) (way e ax bx ay by qx q'x qy q'y side y x Y X)
      (sized binary64 _ 2 (2 ^ e) x (power binary64 e) X) (K ((y ⊖ x) ⊗ p)) (K (x ⊕ (y ⊖ x) ⊗ p))
      (rw (parts (K p) M p⁺.least) at (product_of (y ⊖ x) p (taken Y X) (finite_raise p⁺.most {m = 200} tt)))
      (sum_of x ((y ⊖ x) ⊗ p) (finite_raise (known X) {m = 200} tt)
      (finite_raise (mul_finite (sub_finite (known Y) (known X) tt) p⁺.most tt)
      {m = 200} tt))

  at_finite : (x y p : Float) → Coordinate e x → Coordinate e y → InUnit p → Finite 26 (x ⊕ (y ⊖ x) ⊗ p)
  at_finite x y p X Y p⁺ = finite_raise (add_finite (known X)
      (mul_finite (sub_finite (known Y) (known X) tt) p⁺.most tt) tt) {m = 26} tt

  abbrev legx : Float
  legx = (ax ⊕ (bx ⊖ ax) ⊗ s) ⊖ (qx ⊕ (q'x ⊖ qx) ⊗ t)

  abbrev legy : Float
  legy = (ay ⊕ (by ⊖ ay) ⊗ s) ⊖ (qy ⊕ (q'y ⊖ qy) ⊗ t)

  apart_of : (x y x' y' : Float) → Coordinate e x → Coordinate e y → Coordinate e x' → Coordinate e y'
      → Difference M U H (K ((x ⊕ (y ⊖ x) ⊗ s) ⊖ (x' ⊕ (y' ⊖ x') ⊗ t))) (K (x ⊕ (y ⊖ x) ⊗ s)) (K (x' ⊕ (y' ⊖ x') ⊗ t))
  apart_of x y x' y' X Y X' Y' = difference_of (x ⊕ (y ⊖ x) ⊗ s) (x' ⊕ (y' ⊖ x') ⊗ t)
      (finite_raise (at_finite x y s X Y i) {m = 200} tt) (finite_raise (at_finite x' y' t X' Y' j) {m = 200} tt)

  x_leg : apart (K legx) M * U ≤ 51 * (2 ^ e * U) + 25 * (2 ^ e * U)
  x_leg = leg (K legx) M U _ _ _ (gap M U (2 ^ e) H h small (small_pos e) _ (K ax) (K bx) T' _ (K qx) (K q'x) W (K legx)
      (at ax bx s side.a_along side.b_along i) (at qx q'x t side.q_along side.q'_along j)
      (apart_of ax bx qx q'x side.a_along side.b_along side.q_along side.q'_along))
      (51 * (2 ^ e * U)) together

  y_leg : apart (K legy) M * U ≤ apart ((U - T') * K ay + T' * K by) ((U - T' + T') * K qy) + 25 * (2 ^ e * U)
  y_leg = leg (K legy) M U _ _ _ (gap M U (2 ^ e) H h small (small_pos e) _ (K ay) (K by) T' _ (K qy) (K q'y) W (K legy)
      (at ay by s side.a_across side.b_across i) (at qy q'y t side.q_across side.q'_across j)
      (apart_of ay by qy q'y side.a_across side.b_across side.q_across side.q'_across))
      _ (across_legs (K ay) (K by) (K qy) (K q'y) T' W U (U - T') side.level
      (let z : U ≡ U - T' + T' = split U T' s_most in z))
    where
      split : (v t : ℕ) → t ≤ v → v ≡ v - t + t
      split v t h = omega arith

  legs_sized : apart (K legx) M * apart (K legx) M + apart (K legy) M * apart (K legy) M
      ≤ 2 ^ (prec binary64 + suc (suc (suc (suc e)))) * 2 ^ (prec binary64 + suc (suc (suc (suc e))))
  legs_sized = sizes H (2 ^ e) _ (power_4 binary64 e) _ _
      (gap_size M U (2 ^ e) H h small (small_pos e) _ (K ax) (K bx) T' _ (K qx) (K q'x) W (K legx) (unit_pos binary64)
      (at ax bx s side.a_along side.b_along i) (at qx q'x t side.q_along side.q'_along j)
      (apart_of ax bx qx q'x side.a_along side.b_along side.q_along side.q'_along))
      (gap_size M U (2 ^ e) H h small (small_pos e) _ (K ay) (K by) T' _ (K qy) (K q'y) W (K legy) (unit_pos binary64)
      (at ay by s side.a_across side.b_across i) (at qy q'y t side.q_across side.q'_across j)
      (apart_of ay by qy q'y side.a_across side.b_across side.q_across side.q'_across))
    where
      sizes : (c u B : ℕ) → B ≡ 32 * c * u → (x y : ℕ) → x ≤ 13 * c * u → y ≤ 13 * c * u → x * x + y * y ≤ B * B
      sizes c u B e x y h l = rw e (let a = mul-le-mul h h in let b = mul-le-mul l l in omega arith)

  leg_finite : (x y x' y' : Float) → Coordinate e x → Coordinate e y → Coordinate e x' → Coordinate e y'
      → Finite 200 ((x ⊕ (y ⊖ x) ⊗ s) ⊖ (x' ⊕ (y' ⊖ x') ⊗ t))
  leg_finite x y x' y' X Y X' Y' = finite_raise (sub_finite (at_finite x y s X Y i) (at_finite x' y' t X' Y' j) tt)
      {m = 200} tt

  eight : 2 ^ suc (suc (suc e)) ≡ 8 * 2 ^ e
  eight = omega arith

  -- the reported distance, its legs in either order
  root_xy : (K (hypot binary64 legx legy) - M - 8 * 2 ^ e) * (K (hypot binary64 legx legy) - M - 8 * 2 ^ e)
      ≤ apart (K legx) M * apart (K legx) M + apart (K legy) M * apart (K legy) M
  root_xy = rw eight at (hypot_close binary64 legx legy (suc (suc (suc e)))
      (leg_finite ax bx qx q'x side.a_along side.b_along side.q_along side.q'_along).bounded.sure
      (leg_finite ay by qy q'y side.a_across side.b_across side.q_across side.q'_across).bounded.sure
      side.slim.hypots legs_sized).least

  root_yx : (K (hypot binary64 legy legx) - M - 8 * 2 ^ e) * (K (hypot binary64 legy legx) - M - 8 * 2 ^ e)
      ≤ apart (K legx) M * apart (K legx) M + apart (K legy) M * apart (K legy) M
  root_yx = le_trans (rw eight at (hypot_close binary64 legy legx (suc (suc (suc e)))
      (leg_finite ay by qy q'y side.a_across side.b_across side.q_across side.q'_across).bounded.sure
      (leg_finite ax bx qx q'x side.a_along side.b_along side.q_along side.q'_along).bounded.sure
      side.slim.hypots
      (le_trans (le_of_eq (swap _ _)) legs_sized)).least) (le_of_eq (swap _ _))
    where
      swap : (a b : ℕ) → a + b ≡ b + a
      swap a b = omega arith

  whole : U - T' + T' ≡ U
  whole = go U T' s_most
    where
      go : (v t : ℕ) → t ≤ v → v - t + t ≡ v
      go v t h = omega arith

  abbrev across : ℕ
  across = apart ((U - T') * K ay + T' * K by) ((U - T' + T') * K qy)

  measured : (w : ℕ) → (w - 8 * 2 ^ e) * (w - 8 * 2 ^ e)
      ≤ apart (K legx) M * apart (K legx) M + apart (K legy) M * apart (K legy) M
      → U * w ≤ across + U * (109 * 2 ^ e)
  measured w r = reported U (2 ^ e) w _ _ across (51 * (2 ^ e * U)) r x_leg (le_refl _) y_leg

  -- t ON THE SIDE: what is reported exceeds the distance across by at most 109 u
  pub measured_xy : U * (K (hypot binary64 legx legy) - M) ≤ across + U * (109 * 2 ^ e)
  measured_xy = measured _ root_xy

  pub measured_yx : U * (K (hypot binary64 legy legx) - M) ≤ across + U * (109 * 2 ^ e)
  measured_yx = measured _ root_yx

  -- and so the exact one by at most ε and 109 u
  pub facing_of : (ε w : ℕ) → Best ε (U - T') T' (K ay) (K by) (K qy) → U * w ≤ across + U * (109 * 2 ^ e)
      → Facing (ε + 109 * 2 ^ e) w (K ay) (K by) (K qy)
  facing_of ε w best r = facing ε (109 * 2 ^ e) w (U - T') T' (K ay) (K by) (K qy) best (rw whole (unit_pos binary64))
      (go (U - T' + T') across (109 * 2 ^ e) whole r)
    where
      go : (v x d : ℕ) → v ≡ U → U * w ≤ x + U * d → v * w ≤ x + v * d
      go v x d q l = rw q l
