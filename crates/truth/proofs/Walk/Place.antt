-- THE f64 NEAREST AN EXACT PLACE of the cylinder's width: it lies in the width as 01 rounds it, and no farther than u from the
-- exact place.
use Prim.Native.Nat.{◌*◌, ◌+◌, ◌-◌, ◌<◌, ◌^◌, suc, min as minℕ, max as maxℕ, ℕ, ◌≤◌}
use mathlib.Core.Bool.{false, true}
use mathlib.Core.Logic.{inl, inr}
use mathlib.Core.Path.{◌≡◌, ap, ◌∙◌}
use native.Mathlib.Nat.{le_of_lt, le_trans, mul-le-mul_left, mul-pos, two-pow-succ}
use native.Mathlib.Omega.{arith}
use lib.Dec.{T}
use lib.Ieee.{binary64, fits, Float, prec, round}
use lib.Ieee.Fits.{and_l}
use Rattle.arith.proofs.roots.Numbers.{decide}
use Rattle.arith.proofs.roots.Rounding.Key.{number, number_of, unit, unit_pos}
use Rattle.arith.proofs.roots.Rounding.RoundKey.{round_number, round_round_key, round_key}
use Rattle.arith.specs.F64.{◌≺◌}
use Rattle.arith.specs.Num.{clamp}
use Rattle.arith.proofs.Laws.Bounded.{between_bounded, Bounded, mid_lt, overflow}
use Rattle.arith.proofs.Laws.BoundedValue.{add_value, bounded→value, sub_value}
use Rattle.arith.proofs.Laws.Exact.{add_ge, sub_le}
use Rattle.arith.proofs.Laws.Order.{clamp_key}
use Rattle.arith.proofs.Laws.Sizes.{cond_keeps, K, M}
use Rattle.walk.specs.declared.bands.shapes.RadialBand.{RadialBand}
use Rattle.walk.specs.pieces.Pieces.{whole_width}
use Rattle.arith.specs.Whole.{apart}
use Rattle.arith.proofs.Laws.RoundingError.{Close, round_key_close}
use Rattle.arith.proofs.Laws.OperationErrors.{add_close, apart_over, apart_under, sub_close}
use Rattle.truth.proofs.Walk.HalfWidths.{BandSized, Scaled, size_of, size_is_key}
use Rattle.truth.proofs.Walk.Margin.{PieceWithin}

-- a number of the format at Z / n units, rounded
pub record Nearest (n Z : ℕ) : Type 0 where
  pub value : Float
  pub held : T (number binary64 value)
  pub at : K value ≡ round_key binary64 Z (n * M) n

pub nearest : (n Z : ℕ) → 0 < n → Nearest n Z
nearest n Z P = elim (decide (n * M) Z) [
  | inl l ↦ make (Z - n * M) (let e : Z ≡ n * M + (Z - n * M) = go (n * M) Z l in e)
  | inr l ↦ make' (n * M - Z) (let e : n * M ≡ Z + (n * M - Z) = go Z (n * M) (le_of_lt l) in e)
]
  where
    go : (a b : ℕ) → a ≤ b → b ≡ a + (b - a)
    go a b l = omega arith

    turn : (d : ℕ) → d * unit binary64 * n ≡ d * (n * unit binary64)
    turn d = step d (unit binary64)
      where
        step : (d U : ℕ) → d * U * n ≡ d * (n * U)
        step d U = omega arith

    make : (d : ℕ) → Z ≡ n * M + d → Nearest n Z
    make d e = record {
      value = round binary64 false d (n * unit binary64);
      held = round_number binary64 false d (n * unit binary64);
      at = round_round_key binary64 false d (n * unit binary64) d n Z (n * M) (mul-pos P (unit_pos binary64)) P (turn d) e;
    }

    make' : (d : ℕ) → n * M ≡ Z + d → Nearest n Z
    make' d e = record {
      value = round binary64 true d (n * unit binary64);
      held = round_number binary64 true d (n * unit binary64);
      at = round_round_key binary64 true d (n * unit binary64) d n Z (n * M) (mul-pos P (unit_pos binary64)) P (turn d) e;
    }

-- ---- of a band
module _ (e m : ℕ) (S : Scaled e m) {b : RadialBand} (B : BandSized e b) where
  over : (j : ℕ) → j ≤ suc (suc (suc (suc (prec binary64 + e)))) → j < overflow binary64
  over j h = let l = S.range in let k : j < overflow binary64 = omega arith in k

  in_range : (j : ℕ) → j ≤ suc (suc (suc (suc (prec binary64 + e)))) → 2 ^ j ≤ M
  in_range j h = le_of_lt (mid_lt binary64 j (over j h))

  double : 2 ^ (prec binary64 + suc e) ≡ 2 ^ (prec binary64 + e) + 2 ^ (prec binary64 + e)
  double = ap (λ z. 2 ^ z) (let q : prec binary64 + suc e ≡ suc (prec binary64 + e) = omega arith in q)
      ∙ two-pow-succ (prec binary64 + e)

  abbrev R : ℕ
  R = size_of b.radius

  pub whole_within : PieceWithin e (whole_width b)
  whole_within = record {
    z0 = sub_value binary64 (prec binary64 + e) (prec binary64 + e) (prec binary64 + suc e) (over _ (omega arith)) (omega arith)
        (omega arith)
        (bounded→value binary64 _ _ B.zc) (bounded→value binary64 _ _ B.radius);
    z1 = add_value binary64 (prec binary64 + e) (prec binary64 + e) (prec binary64 + suc e) (over _ (omega arith)) (omega arith)
        (omega arith)
        (bounded→value binary64 _ _ B.zc) (bounded→value binary64 _ _ B.radius);
    order = le_trans (sub_le binary64 b.zc b.radius B.zc.sure B.radius.sure B.solid)
        (add_ge binary64 b.zc b.radius B.zc.sure B.radius.sure B.solid);
  }

  radius_key : K b.radius ≡ M + R
  radius_key = size_is_key b.radius B.solid

  left_close : Close (K (whole_width b).z0 + R) (K b.zc) (2 ^ e)
  left_close =
      let s = sub_close binary64 b.zc b.radius B.zc.sure B.radius.sure e (in_range _ (omega arith))
      (near (K b.zc) (K b.radius) M _ _ B.zc.lower B.zc.upper B.radius.lower B.radius.upper double) in
      go (K (whole_width b).z0) (K b.zc) (K b.radius) M R (2 ^ e) radius_key s
    where
      near : (y r m w x : ℕ) → m ≤ y + w → y ≤ m + w → m ≤ r + w → r ≤ m + w → x ≡ w + w → Close y r x
      near y r m w x h k l o q = record { over = omega arith; under = omega arith }

      go : (z c k m r u : ℕ) → k ≡ m + r → Close (z + k) (m + c) u → Close (z + r) c u
      go z c k m r u q s = record { over = omega (arith, s.over); under = omega (arith, s.under) }

  right_close : Close (K (whole_width b).z1) (K b.zc + R) (2 ^ e)
  right_close =
      let s = add_close binary64 b.zc b.radius B.zc.sure B.radius.sure e (in_range _ (omega arith))
      (near (K b.zc) (K b.radius) M _ _ B.zc.lower B.zc.upper B.radius.lower B.radius.upper double) in
      go (K (whole_width b).z1) (K b.zc) (K b.radius) M R (2 ^ e) radius_key s
    where
      near : (y r m w x : ℕ) → m ≤ y + w → y ≤ m + w → m ≤ r + w → r ≤ m + w → x ≡ w + w → Close (y + r) (m + m) x
      near y r m w x h k l o q = record { over = omega arith; under = omega arith }

      go : (z c k m r u : ℕ) → k ≡ m + r → Close (z + m) (c + k) u → Close z (c + r) u
      go z c k m r u q s = record { over = omega (arith, s.over); under = omega (arith, s.under) }

  -- a place of the exact width
  module _ (n Z : ℕ) (n⁺ : 0 < n) (near : apart Z (n * K b.zc) ≤ n * R) where
    abbrev pub rounded : Nearest n Z
    rounded = nearest n Z n⁺

    abbrev pub place : Float
    place = clamp rounded.value (whole_width b).z0 (whole_width b).z1

    rounded_close : Close (K rounded.value * n) Z (2 ^ e * n)
    rounded_close =
        let r = round_key_close binary64 Z (n * M) n e n⁺ (in_range _ (omega arith))
        (up n Z (K b.zc) M R _ _ (apart_over Z (n * K b.zc)) near B.zc.upper R_most double)
        (down n Z (K b.zc) M R _ _ (apart_under Z (n * K b.zc)) near B.zc.lower R_most double) in
        go (K rounded.value) n Z M (2 ^ e) (rw (← rounded.at) at r)
      where
        R_most : R ≤ 2 ^ (prec binary64 + e)
        R_most = go (K b.radius) M R (2 ^ (prec binary64 + e)) radius_key B.radius.upper
          where
            go : (k m r w : ℕ) → k ≡ m + r → k ≤ m + w → r ≤ w
            go k m r w q h = omega arith

        up : (n Z c M R w x : ℕ) {a : ℕ} → Z ≤ n * c + a → a ≤ n * R → c ≤ M + w → R ≤ w → x ≡ w + w → Z ≤ n * M + x * n
        up n Z c M R w x h k l o q = let i = mul-le-mul_left n l in let j = mul-le-mul_left n o in rw q (omega arith)

        down : (n Z c M R w x : ℕ) {a : ℕ} → n * c ≤ Z + a → a ≤ n * R → M ≤ c + w → R ≤ w → x ≡ w + w → n * M ≤ Z + x * n
        down n Z c M R w x h k l o q = let i = mul-le-mul_left n l in let j = mul-le-mul_left n o in rw q (omega arith)

        go : (k n Z M u : ℕ) → Close (k * n + n * M) (M * n + Z) (u * n) → Close (k * n) Z (u * n)
        go k n Z M u c = record { over = omega (arith, c.over); under = omega (arith, c.under) }

    place_key : K place ≡ maxℕ (K (whole_width b).z0) (minℕ (K rounded.value) (K (whole_width b).z1))
    place_key = clamp_key binary64 rounded.value (whole_width b).z0 (whole_width b).z1 rounded.held
        (number_of binary64 _ whole_within.z0.sure) (number_of binary64 _ whole_within.z1.sure) whole_within.order

    pub from : K (whole_width b).z0 ≤ K place
    from = go (K place) (K (whole_width b).z0) (minℕ (K rounded.value) (K (whole_width b).z1)) place_key
      where
        go : (p a x : ℕ) → p ≡ maxℕ a x → a ≤ p
        go p a x q = omega arith

    pub to : K place ≤ K (whole_width b).z1
    to = go (K place) (K (whole_width b).z0) (K rounded.value) (K (whole_width b).z1) place_key whole_within.order
      where
        go : (p a r c : ℕ) → p ≡ maxℕ a (minℕ r c) → a ≤ c → p ≤ c
        go p a r c q h = omega arith

    pub place_held : T (fits binary64 place)
    place_held = cond_keeps Held (rounded.value ≺ (whole_width b).z0) (held _ (number_of binary64 _ whole_within.z0.sure))
        (cond_keeps Held ((whole_width b).z1 ≺ rounded.value) (held _ (number_of binary64 _ whole_within.z1.sure))
        (held _ rounded.held))
      where
        Held : Float → Type 0
        Held x = T (fits binary64 x)

        held : (x : Float) → T (number binary64 x) → T (fits binary64 x)
        held x h = and_l (fits binary64 x) _ h

    pub place_bounded : Bounded binary64 (prec binary64 + suc e) place
    place_bounded = between_bounded binary64 (prec binary64 + suc e) (whole_width b).z0 place (whole_width b).z1 number_place
        (over _ (omega arith)) whole_within.z0 whole_within.z1 from to
      where
        number_place : T (number binary64 place)
        number_place =
            cond_keeps (λ (x : Float). T (number binary64 x)) (rounded.value ≺ (whole_width b).z0)
            (number_of binary64 _ whole_within.z0.sure)
            (cond_keeps (λ (x : Float). T (number binary64 x)) ((whole_width b).z1 ≺ rounded.value)
            (number_of binary64 _ whole_within.z1.sure) rounded.held)

    -- no farther than u
    pub place_close : Close (n * K place) Z (n * 2 ^ e)
    place_close = elim (decide (K rounded.value) (K (whole_width b).z0)) [
      | inl l ↦ left l
      | inr l ↦ elim (decide (K (whole_width b).z1) (K rounded.value)) [
        | inl h ↦ right h
        | inr h ↦ middle (le_of_lt l) (le_of_lt h)
      ]
    ]
      where
        left : K rounded.value ≤ K (whole_width b).z0 → Close (n * K place) Z (n * 2 ^ e)
        left l =
            let q : K place ≡ K (whole_width b).z0 =
            at (K place) (K (whole_width b).z0) (K rounded.value) (K (whole_width b).z1) place_key
            whole_within.order l in
            rw q (go (K (whole_width b).z0) (K rounded.value) (K b.zc) R n Z (2 ^ e) l rounded_close.under
            left_close.over (apart_under Z (n * K b.zc)) near)
          where
            at : (p a r c : ℕ) → p ≡ maxℕ a (minℕ r c) → a ≤ c → r ≤ a → p ≡ a
            at p a r c q h k = omega arith

            go : (a r c R n Z u : ℕ) {w : ℕ} → r ≤ a → Z ≤ r * n + u * n → a + R ≤ c + u → n * c ≤ Z + w → w ≤ n * R
                → Close (n * a) Z (n * u)
            go a r c R n Z u l h k i j = let x = mul-le-mul_left n l in let y = mul-le-mul_left n k in
                record { over = omega arith; under = omega arith }

        right : K (whole_width b).z1 ≤ K rounded.value → Close (n * K place) Z (n * 2 ^ e)
        right l =
            let q : K place ≡ K (whole_width b).z1 =
            at (K place) (K (whole_width b).z0) (K rounded.value) (K (whole_width b).z1) place_key
            whole_within.order l in
            rw q (go (K (whole_width b).z1) (K rounded.value) (K b.zc) R n Z (2 ^ e) l rounded_close.over
            right_close.under (apart_over Z (n * K b.zc)) near)
          where
            at : (p a r c : ℕ) → p ≡ maxℕ a (minℕ r c) → a ≤ c → c ≤ r → p ≡ c
            at p a r c q h k = omega arith

            go : (a r c R n Z u : ℕ) {w : ℕ} → a ≤ r → r * n ≤ Z + u * n → c + R ≤ a + u → Z ≤ n * c + w → w ≤ n * R
                → Close (n * a) Z (n * u)
            go a r c R n Z u l h k i j = let x = mul-le-mul_left n l in let y = mul-le-mul_left n k in
                record { over = omega arith; under = omega arith }

        middle : K (whole_width b).z0 ≤ K rounded.value → K rounded.value ≤ K (whole_width b).z1
            → Close (n * K place) Z (n * 2 ^ e)
        middle l h =
            let q : K place ≡ K rounded.value =
            at (K place) (K (whole_width b).z0) (K rounded.value) (K (whole_width b).z1) place_key l h in
            rw q (go (K rounded.value) n Z (2 ^ e) rounded_close)
          where
            at : (p a r c : ℕ) → p ≡ maxℕ a (minℕ r c) → a ≤ r → r ≤ c → p ≡ r
            at p a r c q h k = omega arith

            go : (k n Z u : ℕ) → Close (k * n) Z (u * n) → Close (n * k) Z (n * u)
            go k n Z u c = record { over = omega (arith, c.over); under = omega (arith, c.under) }
