-- WHERE A LINE OF SIGHT CROSSES AN EDGE, in floats of a format: document 01's operations, each with its error. The ends are at
-- most 2 ^ (prec + e) smallest values, the point's radius twice that.
use Prim.Native.Nat.{◌*◌, ◌+◌, ◌-◌, ◌<◌, ◌^◌, suc, ℕ, ◌≤◌}
use mathlib.Core.Logic.{inl, inr}
use mathlib.Core.Path.{◌≡◌, ap, refl, subst, sym, ◌∙◌}
use native.Mathlib.Nat.{le_of_eq, le_of_lt, le_of_mul-le-mul_left, le_refl, le_trans, lt_of_le_of_lt, mul-le-mul_left}
use native.Mathlib.Nat.{mul-le-mul_right}
use native.Mathlib.Omega.{arith}
use lib.Dec.{T}
use lib.Ieee.{add, div, Float, Format, mul, prec, sub}
use lib.Pow.{pow_pos}
use Rattle.arith.proofs.roots.Numbers.{decide}
use Rattle.arith.proofs.roots.Rounding.Key.{finite_inside, finite_number, key, mid, number, unit, unit_pos}
use Rattle.arith.proofs.roots.Rounding.Product.{negative_part, positive_part}
use Rattle.arith.proofs.roots.Rounding.Quotient.{div_key, div_key_neg, div_number, div_number_neg}
use Rattle.arith.proofs.roots.Rounding.RoundKey.{round_key}
use Rattle.arith.proofs.roots.Rounding.Sum.{add_number}
use Rattle.arith.proofs.Laws.Bounded.{Bounded, mid_lt, overflow}
use Rattle.arith.proofs.Laws.BoundedValue.{bounded→value, mul_value, sub_value}
use Rattle.arith.specs.Whole.{apart}
use Rattle.truth.proofs.Points.Coordinate.{power, power_1, power_2, Scale, sized}
use Rattle.arith.proofs.Laws.RoundingError.{Close, round_key_error}
use Rattle.arith.proofs.Laws.OperationErrors.{add_close, apart_most, half, moved, mul_share, sub_close, sub_share}
use Rattle.truth.proofs.Sides.Slope.{n_size, place_true, q_size}

-- ---- a difference X upwards, and downwards
apart_more : (a x : ℕ) → apart (a + x) a ≡ x
unfolding apart
apart_more a x = omega arith

apart_less : (a x : ℕ) → apart a (a + x) ≡ x
unfolding apart
apart_less a x = omega arith

-- k is the key of a difference that is X, o how far k is from zero
module _ (K M A k X : ℕ) (K⁺ : 8 ≤ K) where
  pub up_least : Close (2 * K * (k + A)) (2 * K * (M + (A + X))) X → M ≤ k
  up_least c = le_of_mul-le-mul_left (let h : 2 * K * M ≤ 2 * K * k = omega (arith, c.under, mul-le-mul_right X K⁺) in h)
      (let l : 0 < 2 * K = omega arith in l)

  pub up_share : (o : ℕ) → k ≡ M + o → Close (2 * K * (k + A)) (2 * K * (M + (A + X))) X → Close (2 * K * o) (2 * K * X) X
  up_share o e c = record {
    over = omega (arith, c.over, ap (λ z. K * z) e);
    under = omega (arith, c.under, ap (λ z. K * z) e);
  }

  pub down_most : Close (2 * K * (k + (A + X))) (2 * K * (M + A)) X → k ≤ M
  down_most c = le_of_mul-le-mul_left (let h : 2 * K * k ≤ 2 * K * M = omega (arith, c.over, mul-le-mul_right X K⁺) in h)
      (let l : 0 < 2 * K = omega arith in l)

  pub down_share : (o : ℕ) → k + o ≡ M → Close (2 * K * (k + (A + X))) (2 * K * (M + A)) X → Close (2 * K * o) (2 * K * X) X
  down_share o e c = record {
    over = omega (arith, c.under, ap (λ z. K * z) e);
    under = omega (arith, c.over, ap (λ z. K * z) e);
  }

  pub ahead : (P : ℕ) → P ≡ A + X → Close (2 * K * (k + A)) (2 * K * (M + P)) (apart P A)
      → Close (2 * K * (k + A)) (2 * K * (M + (A + X))) X
  ahead P e c = let d = subst (λ x. Close (2 * K * (k + A)) (2 * K * (M + x)) (apart x A)) e c in rw (apart_more A X) at d

  pub back : (P : ℕ) → P ≡ A + X → Close (2 * K * (k + P)) (2 * K * (M + A)) (apart A P)
      → Close (2 * K * (k + (A + X))) (2 * K * (M + A)) X
  back P e c = let d = subst (λ x. Close (2 * K * (k + x)) (2 * K * (M + A)) (apart A x)) e c in rw (apart_less A X) at d

product_up : (K M U kd kn kw o H : ℕ) → kw ≡ M + o
    → Close (2 * K * (kn * U + (M * kd + M * kw))) (2 * K * (M * U + (kd * kw + M * M))) H
    → Close (2 * K * (kn * U + M * o)) (2 * K * (M * U + kd * o)) H
product_up K M U kd kn kw o H e c = record {
  over = omega (arith, c.over, ap (λ z. K * (M * z)) e, ap (λ z. K * (kd * z)) e);
  under = omega (arith, c.under, ap (λ z. K * (M * z)) e, ap (λ z. K * (kd * z)) e);
}

-- l is the product with its sign turned
product_down : (K M U kd kn l kw o H : ℕ) → kw + o ≡ M → l + kn ≡ M + M
    → Close (2 * K * (kn * U + (M * kd + M * kw))) (2 * K * (M * U + (kd * kw + M * M))) H
    → Close (2 * K * (l * U + M * o)) (2 * K * (M * U + kd * o)) H
product_down K M U kd kn l kw o H e g c = record {
  over = omega (arith, c.under, ap (λ z. K * (M * z)) e, ap (λ z. K * (kd * z)) e, ap (λ z. K * (z * U)) g);
  under = omega (arith, c.over, ap (λ z. K * (M * z)) e, ap (λ z. K * (kd * z)) e, ap (λ z. K * (z * U)) g);
}

-- the parts of a product or a quotient that is h or less
part_over : (k M U h : ℕ) → k * U ≤ M * U + h → (k - M) * U ≤ (M - k) * U + h
part_over k M U h l = elim (decide k M) [
  | inl m ↦ let z : k - M ≡ 0 = omega arith in omega (arith, ap (λ x. x * U) z)
  | inr m ↦ let z : k ≡ M + (k - M) = omega arith in omega (arith, ap (λ x. x * U) z)
]

part_under : (k M U h : ℕ) → M * U ≤ k * U + h → (M - k) * U ≤ (k - M) * U + h
part_under k M U h l = part_over M k U h l

module _ (f : Format) (e k : ℕ) (S : Scale f e k) (az bz ar br pr : Float) (Az : Bounded f (prec f + e) az)
    (Bz : Bounded f (prec f + e) bz)
    (Ar : Bounded f (prec f + e) ar) (Br : Bounded f (prec f + e) br) (Pr : Bounded f (prec f + suc e) pr) where
  abbrev dz : Float
  dz = sub f bz az

  abbrev w : Float
  w = sub f pr ar

  abbrev den : Float
  den = sub f br ar

  abbrev n : Float
  n = mul f dz w

  abbrev q : Float
  q = div f n den

  abbrev pub sight : Float
  sight = add f az q

  over : (j : ℕ) → j ≤ suc (suc (suc (suc (prec f + e)))) → j < overflow f
  over j h = let l = S.range in let m : j < overflow f = omega arith in m

  inside : (j : ℕ) → j ≤ suc (suc (suc (suc (prec f + e)))) → 2 ^ j ≤ mid f
  inside j h = le_of_lt (mid_lt f j (over j h))

  DZ : Bounded f (prec f + suc e) dz
  DZ = sub_value f (prec f + e) (prec f + e) (prec f + suc e) (over _ (omega arith)) (omega arith) (omega arith)
      (bounded→value f _ bz Bz) (bounded→value f _ az Az)

  W' : Bounded f (prec f + suc (suc e)) w
  W' = sub_value f (prec f + suc e) (prec f + e) (prec f + suc (suc e)) (over _ (omega arith)) (omega arith) (omega arith)
      (bounded→value f _ pr Pr) (bounded→value f _ ar Ar)

  pub DEN : Bounded f (prec f + suc e) den
  DEN = sub_value f (prec f + e) (prec f + e) (prec f + suc e) (over _ (omega arith)) (omega arith) (omega arith)
      (bounded→value f _ br Br) (bounded→value f _ ar Ar)

  N : Bounded f k n
  N = mul_value f (prec f + suc e) (prec f + suc (suc e)) k (let l = S.sums in omega arith) (let l = S.products in omega arith)
      (bounded→value f _ dz DZ) (bounded→value f _ w W')

  wider : (x y g h : ℕ) → g ≤ h → Close x y g → Close x y h
  wider x y g h l c = record { over = omega (arith, c.over); under = omega (arith, c.under) }

  difference : (x y M g h : ℕ) → Close x M g → Close y M h → Close x y (g + h)
  difference x y M g h c d = record { over = omega (arith, c.over, d.under); under = omega (arith, c.under, d.over) }

  az_size : Close (key f az) (mid f) (2 * half f * 2 ^ e)
  az_size = sized f _ 2 (2 ^ e) az (power f e) Az

  bz_size : Close (key f bz) (mid f) (2 * half f * 2 ^ e)
  bz_size = sized f _ 2 (2 ^ e) bz (power f e) Bz

  ar_size : Close (key f ar) (mid f) (2 * half f * 2 ^ e)
  ar_size = sized f _ 2 (2 ^ e) ar (power f e) Ar

  br_size : Close (key f br) (mid f) (2 * half f * 2 ^ e)
  br_size = sized f _ 2 (2 ^ e) br (power f e) Br

  pr_size : Close (key f pr) (mid f) (4 * half f * 2 ^ e)
  pr_size = sized f _ 4 (2 ^ e) pr (power_1 f e) Pr

  d_size : Close (key f dz) (mid f) (4 * half f * 2 ^ e)
  d_size = sized f _ 4 (2 ^ e) dz (power_1 f e) DZ

  w_size : Close (key f w) (mid f) (8 * half f * 2 ^ e)
  w_size = sized f _ 8 (2 ^ e) w (power_2 f e) W'

  eight : 8 * half f * 2 ^ e ≤ mid f
  eight = le_trans (le_of_eq (sym (power_2 f e))) (inside _ (omega arith))

  d_close : Close (key f dz + key f az) (mid f + key f bz) (2 ^ e)
  d_close = sub_close f bz az Bz.sure Az.sure e (inside _ (omega arith))
      (wider _ _ _ _ (le_of_eq (go (half f) (2 ^ e) ∙ sym (power_1 f e))) (difference _ _ _ _ _ bz_size az_size))
    where
      go : (K u : ℕ) → 2 * K * u + 2 * K * u ≡ 4 * K * u
      go K u = omega arith

  w_share : Close (2 * half f * (key f w + key f ar)) (2 * half f * (mid f + key f pr)) (apart (key f pr) (key f ar))
  w_share =
      sub_share f pr ar Pr.sure Ar.sure
      (le_trans (near _ _ _ (difference _ _ _ _ _ pr_size ar_size)) (le_trans (go (half f) (2 ^ e)) eight))
    where
      near : (x y g : ℕ) → Close x y g → apart x y ≤ g
      near x y g c = apart_most x y g c.over c.under

      go : (K u : ℕ) → 4 * K * u + 2 * K * u ≤ 8 * K * u
      go K u = omega arith

  den_share : Close (2 * half f * (key f den + key f ar)) (2 * half f * (mid f + key f br)) (apart (key f br) (key f ar))
  den_share =
      sub_share f br ar Br.sure Ar.sure
      (le_trans (near _ _ _ (difference _ _ _ _ _ br_size ar_size)) (le_trans (go (half f) (2 ^ e)) eight))
    where
      near : (x y g : ℕ) → Close x y g → apart x y ≤ g
      near x y g c = apart_most x y g c.over c.under

      go : (K u : ℕ) → 2 * K * u + 2 * K * u ≤ 8 * K * u
      go K u = omega arith

  -- the product, whose second factor is o in size
  product : (o : ℕ) → apart (key f w) (mid f) ≡ o → o ≤ 8 * half f * 2 ^ e
      → Close (2 * half f * (key f n * unit f + (mid f * key f dz + mid f * key f w)))
      (2 * half f * (mid f * unit f + (key f dz * key f w + mid f * mid f)))
      (o * (4 * half f * 2 ^ e) + half f * unit f)
  product o h l = mul_share f dz w DZ.sure W'.sure (o * (4 * half f * 2 ^ e) + half f * unit f)
      (first (apart (key f dz) (mid f)) (apart (key f w) (mid f)) (4 * half f * 2 ^ e) h
      (apart_most _ _ _ d_size.over d_size.under))
      (second (o * (4 * half f * 2 ^ e)) (half f * unit f))
      (le_trans (third (half f) (2 ^ e) o (mul-le-mul_right (4 * half f * 2 ^ e) l)) S.wide)
    where
      first : (x y c : ℕ) → y ≡ o → x ≤ c → x * y ≤ o * c + half f * unit f
      first x y c h l = omega (arith, mul-le-mul_right o l, ap (λ z. x * z) h)

      second : (x y : ℕ) → y ≤ x + y
      second x y = omega arith

      third : (K u o : ℕ) → o * (4 * K * u) ≤ 8 * K * u * (4 * K * u)
          → o * (4 * K * u) + half f * unit f ≤ 32 * (K * u * (K * u)) + half f * unit f
      third K u o h = omega arith

  digits : half f ≤ 2 ^ (prec f - 1)
  digits = unfold half in le_refl (2 ^ (prec f - 1))

  -- the rounded quotient of two that are no farther apart than five times the bound
  quotient : (a b t : ℕ) → 0 < t → a ≤ b + 5 * half f * 2 ^ e * t → b ≤ a + 5 * half f * 2 ^ e * t
      → Close (2 * half f * (round_key f a b t * t + b)) (2 * half f * (mid f * t + a)) (5 * half f * 2 ^ e * t)
  quotient a b t t⁺ h l =
      round_key_error f (half f) digits a b t (5 * half f * 2 ^ e * t) t⁺ (inr (fits (half f) (2 ^ e) (pow_pos e))) h l
      (mul-le-mul_right t (le_trans (five (half f) (2 ^ e)) eight))
    where
      fits : (K u : ℕ) → 0 < u → K * t ≤ 5 * K * u * t
      fits K u h = go (mul-le-mul_left (K * t) h)
        where
          go : K * t * 1 ≤ K * t * u → K * t ≤ 5 * K * u * t
          go h = omega arith

      five : (K u : ℕ) → 5 * K * u ≤ 8 * K * u
      five K u = omega arith

  -- the last sum
  z_close : T (finite_number f q) → Close (key f q) (mid f) (6 * half f * 2 ^ e)
      → Close (key f sight + mid f) (key f az + key f q) (2 * 2 ^ e)
  z_close Q s = rw (← double) (add_close f az q Az.sure Q (suc e) (inside _ (omega arith))
      (wider _ _ _ _ (le_trans (go (half f) (2 ^ e)) (le_of_eq (sym (power_2 f e)))) (sum _ _ _ _ _ az_size s)))
    where
      double : 2 ^ suc e ≡ 2 * 2 ^ e
      double = omega arith

      go : (K u : ℕ) → 2 * K * u + 6 * K * u ≤ 8 * K * u
      go K u = omega arith

      sum : (x y M g h : ℕ) → Close x M g → Close y M h → Close (x + y) (M + M) (g + h)
      sum x y M g h c d = record { over = omega (arith, c.over, d.over); under = omega (arith, c.under, d.under) }

  finite_q : T (number f q) → Close (key f q) (mid f) (6 * half f * 2 ^ e) → T (finite_number f q)
  finite_q h s =
      finite_inside f q h (low (key f q) (mid f) (half f) (2 ^ e) six s.under)
      (high (key f q) (mid f) (half f) (2 ^ e) six s.over)
    where
      six : 7 * half f * 2 ^ e < mid f
      six = lt_of_le_of_lt (le_trans (go (half f) (2 ^ e)) (le_of_eq (sym (power_2 f e)))) (mid_lt f _ (over _ (omega arith)))
        where
          go : (K u : ℕ) → 7 * K * u ≤ 8 * K * u
          go K u = omega arith

      low : (x M K u : ℕ) → 7 * K * u < M → M ≤ x + 6 * K * u → 0 < x
      low x M K u h l = omega arith

      high : (x M K u : ℕ) → 7 * K * u < M → x ≤ M + 6 * K * u → x < M + M
      high x M K u h l = omega arith

  -- where the line of sight crosses the edge: W and j are how far it is from the first end and from the second
  pub record Sighted (W j : ℕ) : Type 0 where
    pub sure : T (number f sight)
    pub close : Close (key f sight * (j + W)) (j * key f az + W * key f bz) (13 * (2 ^ e * (j + W)))

  u⁺ : (t : ℕ) → unit f ≤ 2 ^ e * t → 0 < t
  u⁺ t h = go (unit f) (2 ^ e) t (unit_pos f) h
    where
      go : (U u t : ℕ) → 0 < U → U ≤ u * t → 0 < t
      go U u t h l = elim (decide t 0) [
        | inl z ↦ let c : ⊥ = omega (arith, mul-le-mul_left u z) in absurd c
        | inr m ↦ m
      ]

  pub den_up : (X : ℕ) → key f br ≡ key f ar + X → mid f ≤ key f den
  den_up X e =
      up_least (half f) (mid f) (key f ar) (key f den) X S.digits
      (ahead (half f) (mid f) (key f ar) (key f den) X S.digits (key f br) e den_share)

  pub den_down : (X : ℕ) → key f ar ≡ key f br + X → key f den ≤ mid f
  den_down X e =
      down_most (half f) (mid f) (key f br) (key f den) X S.digits
      (back (half f) (mid f) (key f br) (key f den) X S.digits (key f ar) e den_share)

  -- ---- an edge that runs upwards
  module _ (W j : ℕ) (p-is : key f pr ≡ key f ar + W) (b-is : key f br ≡ key f ar + (j + W))
      (tiny : unit f ≤ 2 ^ e * (key f den - mid f)) where
    abbrev t : ℕ
    t = key f den - mid f

    w_ahead : Close (2 * half f * (key f w + key f ar)) (2 * half f * (mid f + (key f ar + W))) W
    w_ahead = ahead (half f) (mid f) (key f ar) (key f w) W S.digits (key f pr) p-is w_share

    t_ahead : Close (2 * half f * (key f den + key f ar)) (2 * half f * (mid f + (key f ar + (j + W)))) (j + W)
    t_ahead = ahead (half f) (mid f) (key f ar) (key f den) (j + W) S.digits (key f br) b-is den_share

    w_is : key f w ≡ mid f + (key f w - mid f)
    w_is = let h = up_least (half f) (mid f) (key f ar) (key f w) W S.digits w_ahead in omega arith

    t_is : key f den ≡ mid f + t
    t_is = let h = den_up (j + W) b-is in omega arith

    t⁺ : 0 < t
    t⁺ = u⁺ t tiny

    o_share : Close (2 * half f * (key f w - mid f)) (2 * half f * W) W
    o_share = up_share (half f) (mid f) (key f ar) (key f w) W S.digits (key f w - mid f) w_is w_ahead

    t_share : Close (2 * half f * t) (2 * half f * (j + W)) (j + W)
    t_share = up_share (half f) (mid f) (key f ar) (key f den) (j + W) S.digits t t_is t_ahead

    n_share : Close (2 * half f * (key f n * unit f + mid f * (key f w - mid f)))
        (2 * half f * (mid f * unit f + key f dz * (key f w - mid f)))
        ((key f w - mid f) * (4 * half f * 2 ^ e) + half f * unit f)
    n_share = product_up (half f) (mid f) (unit f) (key f dz) (key f n) (key f w) (key f w - mid f) _ w_is
        (product (key f w - mid f) (ap (λ x. apart x (mid f)) w_is ∙ apart_more (mid f) (key f w - mid f))
        (let h = w_size.over in omega arith))

    within : W ≤ j + W
    within = omega arith

    size_n : Close (key f n * unit f) (mid f * unit f) (5 * half f * 2 ^ e * t)
    size_n = n_size (mid f) (unit f) (2 ^ e) (half f) (j + W) W (key f w - mid f) t (key f dz) (key f n)
        S.digits within tiny o_share t_share d_size n_share

    den⁺ : mid f < key f den
    den⁺ = let h = t⁺ in omega arith

    q_share : Close (2 * half f * (key f q * t + mid f * unit f)) (2 * half f * (mid f * t + key f n * unit f))
        (5 * half f * 2 ^ e * t)
    q_share = rw (div_key f n den N.sure DEN.sure den⁺)
        (moved (2 * half f) (round_key f (positive_part f n * unit f) (negative_part f n * unit f) t * t) (mid f * t)
        (positive_part f n * unit f)
        (negative_part f n * unit f) (key f n * unit f) (mid f * unit f) _ (go (key f n) (mid f) (unit f))
        (quotient (positive_part f n * unit f) (negative_part f n * unit f) t t⁺
        (part_over (key f n) (mid f) (unit f) _ size_n.over)
        (part_under (key f n) (mid f) (unit f) _ size_n.under)))
      where
        go : (k M U : ℕ) → (k - M) * U + M * U ≡ (M - k) * U + k * U
        go k M U = let e : (k - M) + M ≡ (M - k) + k = omega arith in omega (arith, ap (λ z. z * U) e)

    size_q : Close (key f q) (mid f) (6 * half f * 2 ^ e)
    size_q = q_size (mid f) (unit f) (2 ^ e) (half f) (j + W) W (key f w - mid f) t (key f dz) (key f n)
        S.digits within tiny o_share t_share d_size n_share
        (key f q) t⁺ q_share

    pub sighted_up : Sighted W j
    sighted_up =
        let Q = finite_q (div_number f n den N.sure DEN.sure den⁺) size_q in
        record {
          sure = add_number f az q Az.sure Q;
          close = place_true (mid f) (unit f) (2 ^ e) (half f) (j + W) W (key f w - mid f) t (key f dz) (key f n)
              S.digits within tiny o_share t_share d_size n_share
              (key f q) t⁺ q_share j (key f az) (key f bz) (key f sight) refl d_close (z_close Q size_q);
        }

  -- ---- an edge that runs downwards
  module _ (W j : ℕ) (p-is : key f ar ≡ key f pr + W) (b-is : key f ar ≡ key f br + (j + W))
      (tiny : unit f ≤ 2 ^ e * (mid f - key f den)) where
    abbrev t' : ℕ
    t' = mid f - key f den

    abbrev o' : ℕ
    o' = mid f - key f w

    -- the product with its sign turned
    abbrev l : ℕ
    l = mid f + mid f - key f n

    l_is : l + key f n ≡ mid f + mid f
    l_is = go (key f n) (mid f) (2 ^ k) N.upper
        (le_of_lt (mid_lt f k (let h = S.sums in let m : k < overflow f = omega arith in m)))
      where
        go : (x M h : ℕ) → x ≤ M + h → h ≤ M → M + M - x + x ≡ M + M
        go x M h a b = omega arith

    w_back : Close (2 * half f * (key f w + (key f pr + W))) (2 * half f * (mid f + key f pr)) W
    w_back = back (half f) (mid f) (key f pr) (key f w) W S.digits (key f ar) p-is w_share

    t_back : Close (2 * half f * (key f den + (key f br + (j + W)))) (2 * half f * (mid f + key f br)) (j + W)
    t_back = back (half f) (mid f) (key f br) (key f den) (j + W) S.digits (key f ar) b-is den_share

    w_is' : key f w + o' ≡ mid f
    w_is' = let h = down_most (half f) (mid f) (key f pr) (key f w) W S.digits w_back in omega arith

    t_is' : key f den + t' ≡ mid f
    t_is' = let h = den_down (j + W) b-is in omega arith

    t⁺' : 0 < t'
    t⁺' = u⁺ t' tiny

    o_share' : Close (2 * half f * o') (2 * half f * W) W
    o_share' = down_share (half f) (mid f) (key f pr) (key f w) W S.digits o' w_is' w_back

    t_share' : Close (2 * half f * t') (2 * half f * (j + W)) (j + W)
    t_share' = down_share (half f) (mid f) (key f br) (key f den) (j + W) S.digits t' t_is' t_back

    n_share' : Close (2 * half f * (l * unit f + mid f * o')) (2 * half f * (mid f * unit f + key f dz * o'))
        (o' * (4 * half f * 2 ^ e) + half f * unit f)
    n_share' = product_down (half f) (mid f) (unit f) (key f dz) (key f n) l (key f w) o' _ w_is' l_is
        (product o' (ap (apart (key f w)) (sym w_is') ∙ apart_less (key f w) o') (let h = w_size.under in omega arith))

    within' : W ≤ j + W
    within' = omega arith

    size_n' : Close (l * unit f) (mid f * unit f) (5 * half f * 2 ^ e * t')
    size_n' =
        n_size (mid f) (unit f) (2 ^ e) (half f) (j + W) W o' t' (key f dz) l S.digits within' tiny o_share' t_share' d_size
        n_share'

    size_turned : Close (key f n * unit f) (mid f * unit f) (5 * half f * 2 ^ e * t')
    size_turned = go (key f n) l (mid f) (unit f) _ l_is size_n'
      where
        go : (x y M U h : ℕ) → y + x ≡ M + M → Close (y * U) (M * U) h → Close (x * U) (M * U) h
        go x y M U h e c =
            record { over = omega (arith, c.under, ap (λ z. z * U) e); under = omega (arith, c.over, ap (λ z. z * U) e) }

    den⁻ : key f den < mid f
    den⁻ = let h = t⁺' in omega arith

    q_share' : Close (2 * half f * (key f q * t' + mid f * unit f)) (2 * half f * (mid f * t' + l * unit f))
        (5 * half f * 2 ^ e * t')
    q_share' = rw (div_key_neg f n den N.sure DEN.sure den⁻)
        (moved (2 * half f) (round_key f (negative_part f n * unit f) (positive_part f n * unit f) t' * t') (mid f * t')
        (negative_part f n * unit f)
        (positive_part f n * unit f) (l * unit f) (mid f * unit f) _ (go (key f n) l (mid f) (unit f) l_is)
        (quotient (negative_part f n * unit f) (positive_part f n * unit f) t' t⁺'
        (part_under (key f n) (mid f) (unit f) _ size_turned.under)
        (part_over (key f n) (mid f) (unit f) _ size_turned.over)))
      where
        go : (k l M U : ℕ) → l + k ≡ M + M → (M - k) * U + M * U ≡ (k - M) * U + l * U
        go k l M U h = let e : (M - k) + M ≡ (k - M) + l = omega arith in omega (arith, ap (λ z. z * U) e)

    size_q' : Close (key f q) (mid f) (6 * half f * 2 ^ e)
    size_q' =
        q_size (mid f) (unit f) (2 ^ e) (half f) (j + W) W o' t' (key f dz) l S.digits within' tiny o_share' t_share' d_size
        n_share' (key f q) t⁺' q_share'

    pub sighted_down : Sighted W j
    sighted_down =
        let Q = finite_q (div_number_neg f n den N.sure DEN.sure den⁻) size_q' in
        record {
          sure = add_number f az q Az.sure Q;
          close = place_true (mid f) (unit f) (2 ^ e) (half f) (j + W) W o' t' (key f dz) l
              S.digits within' tiny o_share' t_share' d_size n_share'
              (key f q) t⁺' q_share' j (key f az) (key f bz) (key f sight) refl d_close (z_close Q size_q');
        }
