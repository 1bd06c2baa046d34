-- THE HALF WIDTH that 01 computes at z, against the exact circle: ρ² + d² is R² but for 3 E and one u of the root, where d is the
-- offset as rounded and E the rounding of a square. Where d exceeds R, ρ is 0, and R stands in its place.
use Prim.Native.Nat.{◌*◌, ◌+◌, ◌-◌, ◌<◌, ◌^◌, suc, zero-le, ℕ, ◌≤◌}
use mathlib.Core.Logic.{inl, inr}
use mathlib.Core.Path.{◌≡◌, ap, sym, ◌∙◌}
use native.Mathlib.Nat.{le_of_eq, le_of_lt, le_refl, le_trans, lt_of_le_of_lt, mul-le-mul, mul-le-mul_right, not-le_of_lt}
use native.Mathlib.Nat.{two-pow-succ, zero-add}
use native.Mathlib.Omega.{arith}
use lib.Dec.{T}
use lib.Ieee.{binary64, Float, low, prec}
use lib.Pow.{pow_mono, pow-add}
use Rattle.arith.specs.roots.Roots.{sqrt}
use Rattle.arith.proofs.roots.Numbers.{decide}
use Rattle.arith.proofs.roots.Rounding.Key.{finite_number, number_of, unit, unit_pos}
use Rattle.arith.proofs.roots.Rounding.KeyOrder.{le→key}
use Rattle.arith.specs.F64.{◌⊖◌, ◌⊗◌, ◌≼◌, 𝟘, e_15}
use Rattle.arith.proofs.Laws.Bounded.{Bounded, bounded_up, mid_lt, overflow}
use Rattle.arith.proofs.Laws.BoundedValue.{bounded→value, mul_value, sub_value}
use Rattle.arith.proofs.Laws.Exact.{sub_le}
use Rattle.arith.proofs.Laws.Extended.{sub_self}
use Rattle.arith.proofs.Laws.HypotKey.{root_not_negative, sqrt_is}
use Rattle.arith.proofs.Laws.Monotone.{key_size, square_key, square_key_mono, square_not_negative, sub_key_mono}
use Rattle.arith.proofs.Laws.Order.{nle→key}
use Rattle.arith.proofs.Laws.RootBounded.{sqrt_bounded}
use Rattle.arith.proofs.Laws.Sizes.{K, M, zero_finite, zero_key, zero_number}
use Rattle.section.proofs.profile.Steps.{pick}
use Rattle.walk.specs.bands.Band.{half_width}
use Rattle.walk.specs.declared.bands.shapes.RadialBand.{RadialBand}
use Rattle.arith.specs.Whole.{apart}
use Rattle.arith.proofs.Laws.RoundingError.{Close, round_key_close}
use Rattle.arith.proofs.Laws.OperationErrors.{half, root_close, sub_close}

-- the scale: everything is within 2 ^ 53 u, u is 2 ^ e units, and the square of that is 2 ^ 54 E, E is 2 ^ m units of 2 ^ -1074
-- of squares
pub record Scaled (e m : ℕ) : Type 0 where
  pub range : suc (suc (suc (suc (prec binary64 + e)))) < overflow binary64
  pub square : prec binary64 + e + (prec binary64 + e) ≡ prec binary64 + suc m + low binary64
  pub squares_range : prec binary64 + suc m < overflow binary64
  pub offsets_range : suc (suc (suc (suc (prec binary64 + suc m)))) < overflow binary64
  pub differences_range : suc (suc (suc (suc (suc (prec binary64 + suc m))))) < overflow binary64
  pub limit : e ≤ 1041
  pub unit_least : 1074 ≤ prec binary64 + e
  pub thin : K e_15 ≤ M + 2 ^ e
  pub error : 2 ^ m * unit binary64 ≡ half binary64 * (2 ^ e * 2 ^ e)

pub record BandSized (e : ℕ) (b : RadialBand) : Type 0 where
  pub x0 : Bounded binary64 (prec binary64 + e) b.x0
  pub x1 : Bounded binary64 (prec binary64 + e) b.x1
  pub yc : Bounded binary64 (prec binary64 + e) b.yc
  pub zc : Bounded binary64 (prec binary64 + e) b.zc
  pub radius : Bounded binary64 (prec binary64 + e) b.radius
  pub solid : M ≤ K b.radius

-- R the radius, d the size of the offset as rounded, ρ the half width
pub record HalfAt (E u R d ρ : ℕ) : Type 0 where
  pub inner : 0 < ρ → d ≤ R
  pub most : 0 < ρ → (ρ - u) * (ρ - u) + d * d ≤ R * R + 3 * E
  pub leg : ℕ
  pub leg_d : leg ≤ d
  pub leg_R : leg ≤ R
  pub least : R * R ≤ (ρ + u) * (ρ + u) + leg * leg + 3 * E

abbrev pub size_of : Float → ℕ
size_of = key_size binary64

pub size_is_key : (x : Float) → M ≤ K x → K x ≡ M + size_of x
unfolding key_size
size_is_key x h = go (K x) M h
  where
    go : (k m : ℕ) → m ≤ k → k ≡ m + (k - m + (m - k))
    go k m h = omega arith

module _ (e m : ℕ) (S : Scaled e m) where
  abbrev E : ℕ
  E = 2 ^ m * unit binary64

  in_range : (j : ℕ) → j ≤ suc (suc (suc (suc (prec binary64 + e)))) → 2 ^ j ≤ M
  in_range j h = le_of_lt (mid_lt binary64 j (let l = S.range in let k : j < overflow binary64 = omega arith in k))

  -- the square of the greatest
  whole_square : 2 ^ (prec binary64 + e) * 2 ^ (prec binary64 + e) ≡ 2 ^ (prec binary64 + suc m) * unit binary64
  whole_square =
      unfold unit in sym (pow-add 2 (prec binary64 + e) (prec binary64 + e)) ∙ ap (λ z.
      2 ^ z) S.square ∙ pow-add 2 (prec binary64 + suc m) (low binary64)

  pub size_most : (j : ℕ) (x : Float) → Bounded binary64 j x → size_of x ≤ 2 ^ j
  size_most j x X = unfold key_size in go (K x) M (2 ^ j) X.lower X.upper
    where
      go : (k m w : ℕ) → m ≤ k + w → k ≤ m + w → k - m + (m - k) ≤ w
      go k m w h l = omega arith

  -- a square of no more than the greatest
  square_close : (x : Float) → Bounded binary64 (suc (suc (prec binary64 + e))) x → size_of x ≤ 2 ^ (prec binary64 + e)
      → (p : ℕ) × (K (x ⊗ x) ≡ M + p) × Close (p * unit binary64) (size_of x * size_of x) E
  square_close x X h =
      let r = round_key_close binary64 (size_of x * size_of x) 0 (unit binary64) m (unit_pos binary64)
      (le_of_lt (mid_lt binary64 (prec binary64 + suc m) S.squares_range))
      (le_trans (mul-le-mul h h) (le_of_eq (whole_square ∙ sym (zero-add _)))) zero-le in
      let k = square_key binary64 x X.sure in
      let n = square_not_negative binary64 x X.sure in
      (K (x ⊗ x) - M, split (K (x ⊗ x)) M n, back (K (x ⊗ x)) M (unit binary64) (size_of x * size_of x) E n (rw (← k) at r))
    where
      split : (k m : ℕ) → m ≤ k → k ≡ m + (k - m)
      split k m h = omega arith

      back : (k m U s w : ℕ) → m ≤ k → Close (k * U + 0) (m * U + s) w → Close ((k - m) * U) s w
      back k m U s w h c = go (k - m) (split k m h)
        where
          go : (p : ℕ) → k ≡ m + p → Close (p * U) s w
          go p q = let f = ap (λ z. z * U) q in record { over = omega (arith, c.over); under = omega (arith, c.under) }

  module _ {b : RadialBand} (B : BandSized e b) {z : Float} (Z : Bounded binary64 (prec binary64 + suc e) z) where
    abbrev R : ℕ
    R = size_of b.radius

    abbrev d : ℕ
    d = size_of (z ⊖ b.zc)

    abbrev P : Float
    P = b.radius ⊗ b.radius

    abbrev Q : Float
    Q = (z ⊖ b.zc) ⊗ (z ⊖ b.zc)

    over : (j : ℕ) → j ≤ suc (suc (suc (suc (prec binary64 + e)))) → j < overflow binary64
    over j h = let l = S.range in let k : j < overflow binary64 = omega arith in k

    pub offset : Bounded binary64 (suc (suc (prec binary64 + e))) (z ⊖ b.zc)
    offset = sub_value binary64 (prec binary64 + suc e) (prec binary64 + e) (suc (suc (prec binary64 + e))) (over _ (omega arith))
        (omega arith) (omega arith)
        (bounded→value binary64 _ _ Z) (bounded→value binary64 _ _ B.zc)

    abbrev v : Float
    v = P ⊖ Q

    p : (p : ℕ) × (K P ≡ M + p) × Close (p * unit binary64) (R * R) E
    p = square_close b.radius (bounded_up binary64 _ _ _ (omega arith) B.radius) (size_most _ _ B.radius)

    P_bounded : Bounded binary64 (prec binary64 + suc m) P
    P_bounded =
        mul_value binary64 (prec binary64 + e) (prec binary64 + e) (prec binary64 + suc m) S.squares_range
        (le_of_eq S.square)
        (bounded→value binary64 _ _ B.radius) (bounded→value binary64 _ _ B.radius)

    Q_least : M ≤ K Q
    Q_least = square_not_negative binary64 (z ⊖ b.zc) offset.sure

    -- all but the offset's square, which may be larger
    record Small : Type 0 where
      q : ℕ
      q_key : K Q ≡ M + q
      q_close : Close (q * unit binary64) (d * d) E
      v_close : Close (K v + K Q) (M + K P) (2 ^ m)

    Q_bounded : Bounded binary64 (suc (suc (suc (suc (prec binary64 + suc m))))) Q
    Q_bounded =
        mul_value binary64 (suc (suc (prec binary64 + e))) (suc (suc (prec binary64 + e)))
        (suc (suc (suc (suc (prec binary64 + suc m)))))
        S.offsets_range (let k = S.square in omega arith) (bounded→value binary64 _ _ offset)
        (bounded→value binary64 _ _ offset)

    Q_sure : T (finite_number binary64 Q)
    Q_sure = Q_bounded.sure

    small : d ≤ R → Small
    small h =
        let s = square_close (z ⊖ b.zc) offset (le_trans h (size_most _ _ B.radius)) in
        let l : K Q ≤ K P = square_key_mono binary64 (z ⊖ b.zc) b.radius offset.sure B.radius.sure h in
        record {
          q = s.0;
          q_key = s.1;
          q_close = s.2;
          v_close =
              sub_close binary64 P Q P_bounded.sure Q_sure m
              (le_of_lt (mid_lt binary64 (prec binary64 + suc m) S.squares_range))
              (near (K P) (K Q) M (2 ^ (prec binary64 + suc m)) l Q_least P_bounded.upper);
        }
      where
        near : (p q m w : ℕ) → q ≤ p → m ≤ q → p ≤ m + w → Close p q w
        near p q m w h k l = record { over = omega arith; under = omega arith }

    v_sure : T (finite_number binary64 v)
    v_sure = (sub_value binary64 (prec binary64 + suc m) (suc (suc (suc (suc (prec binary64 + suc m)))))
        (suc (suc (suc (suc (suc (prec binary64 + suc m))))))
        S.differences_range (omega arith) (omega arith) (bounded→value binary64 _ _ P_bounded)
        (bounded→value binary64 _ _ Q_bounded)).sure

    -- the rounded difference is not positive
    flat : K v ≤ M → HalfAt E (2 ^ e) R d 0
    flat h = elim (decide R d) [
      | inl l ↦ record {
        inner = λ k. let c : ⊥ = omega arith in absurd c;
        most = λ k. let c : ⊥ = omega arith in absurd c;
        leg = R;
        leg_d = l;
        leg_R = le_refl R;
        least = more R E (2 ^ e);
      }
      | inr l ↦
          let s = small (le_of_lt l) in
          record {
            inner = λ k. let c : ⊥ = omega arith in absurd c;
            most = λ k. let c : ⊥ = omega arith in absurd c;
            leg = d;
            leg_d = le_refl d;
            leg_R = le_of_lt l;
            least = few p.0 s.q (unit binary64) (2 ^ m) (R * R) (d * d) ((0 + 2 ^ e) * (0 + 2 ^ e)) p.2 s.q_close
                (low_of (K v) (K P) (K Q) M p.0 s.q (2 ^ m) h p.1 s.q_key s.v_close);
          }
    ]
      where
        more : (R E u : ℕ) → R * R ≤ (0 + u) * (0 + u) + R * R + 3 * E
        more R E u = omega arith

        low_of : (v P Q M p q w : ℕ) → v ≤ M → P ≡ M + p → Q ≡ M + q → Close (v + Q) (M + P) w → p ≤ q + w
        low_of v P Q M p q w h a b c = omega (arith, c.under)

        few : (p q U w r s x : ℕ) → Close (p * U) r (w * U) → Close (q * U) s (w * U) → p ≤ q + w → r ≤ x + s + 3 * (w * U)
        few p q U w r s x a b h = omega (arith, a.under, b.over, mul-le-mul_right U h)

    -- it is positive
    round : M < K v → HalfAt E (2 ^ e) R d (K (sqrt binary64 v) - M)
    round h =
        let s = small (le_of_lt inside) in
        let a : K v ≡ M + (K v - M) = split (K v) M h in
        let r = rw (← sqrt_is binary64 v v_sure h) at
        (root_close binary64 ((K v - M) * unit binary64) e (in_range _ (omega arith)) fit) in
        let c = sum_of (K v) (K P) (K Q) M p.0 s.q (K v - M) (2 ^ m) a p.1 s.q_key s.v_close in
        record {
          inner = λ k. le_of_lt inside;
          most = λ k. most_of p.0 s.q (K v - M) (unit binary64) (2 ^ m) (R * R) (d * d) _ p.2 s.q_close c r.least;
          leg = d;
          leg_d = le_refl d;
          leg_R = le_of_lt inside;
          least = least_of_lem p.0 s.q (K v - M) (unit binary64) (2 ^ m) (R * R) (d * d) _ p.2 s.q_close c r.most;
        }
      where
        split : (k m : ℕ) → m < k → k ≡ m + (k - m)
        split k m h = omega arith

        inside : d < R
        inside = elim (decide R d) [
          | inl l ↦ absurd (not-le_of_lt h (le_trans (sub_key_mono binary64 P Q Q Q P_bounded.sure Q_sure Q_sure Q_sure
              (square_key_mono binary64 b.radius (z ⊖ b.zc) B.radius.sure offset.sure l) (le_refl _))
              (le_of_eq (sub_self binary64 Q Q_sure))))
          | inr l ↦ l
        ]

        below : K v ≤ K P
        below = sub_le binary64 P Q P_bounded.sure Q_sure Q_least

        fit : (K v - M) * unit binary64 ≤ 2 ^ (prec binary64 + suc e) * 2 ^ (prec binary64 + suc e)
        fit =
            let l : K v - M ≤ 2 ^ (prec binary64 + suc m) = part (K v) (K P) M _ below P_bounded.upper in
            let g : 2 ^ (prec binary64 + e) ≤ 2 ^ (prec binary64 + suc e) =
            pow_mono (let k : prec binary64 + e ≤ prec binary64 + suc e = omega arith in k) in
            le_trans (mul-le-mul_right (unit binary64) l) (le_trans (le_of_eq (sym whole_square)) (mul-le-mul g g))
          where
            part : (v p m w : ℕ) → v ≤ p → p ≤ m + w → v - m ≤ w
            part v p m w h k = omega arith

        sum_of : (v P Q M p q a w : ℕ) → v ≡ M + a → P ≡ M + p → Q ≡ M + q → Close (v + Q) (M + P) w → Close (a + q) p w
        sum_of v P Q M p q a w f g h c = record { over = omega (arith, c.over); under = omega (arith, c.under) }

        most_of : (p q a U w r s x : ℕ) → Close (p * U) r (w * U) → Close (q * U) s (w * U) → Close (a + q) p w → x ≤ a * U
            → x + s ≤ r + 3 * (w * U)
        most_of p q a U w r s x f g h l = omega (arith, f.over, g.under, mul-le-mul_right U h.over)

        least_of_lem : (p q a U w r s x : ℕ) → Close (p * U) r (w * U) → Close (q * U) s (w * U) → Close (a + q) p w → a * U ≤ x
            → r ≤ x + s + 3 * (w * U)
        least_of_lem p q a U w r s x f g h l = omega (arith, f.under, g.over, mul-le-mul_right U h.under)

    pub half_at : HalfAt E (2 ^ e) R d (K (half_width b z) - M)
    unfolding half_width
    half_at = pick (λ (r : Float). HalfAt E (2 ^ e) R d (K r - M)) (v ≼ 𝟘)
        (λ h. rw (zero_key, none M)
        (flat (le_trans (le→key binary64 v 𝟘 (number_of binary64 v v_sure) zero_number h) (le_of_eq zero_key))))
        (λ h. round (lt_of_le_of_lt (le_of_eq (sym zero_key)) (nle→key binary64 v 𝟘 (number_of binary64 v v_sure) zero_number h)))
      where
        none : (m : ℕ) → m - m ≡ 0
        none m = omega arith

    -- how far z lies from zc, but for 2 u
    pub offset_close : Close d (apart (K z) (K b.zc)) (2 * 2 ^ e)
    unfolding key_size
    offset_close =
        let s = sub_close binary64 z b.zc Z.sure B.zc.sure (suc e) (in_range _ (omega arith))
        (near (K z) (K b.zc) M (2 ^ (prec binary64 + suc e)) (2 ^ (prec binary64 + e)) (2 ^ (prec binary64 + suc (suc e)))
        Z.lower Z.upper B.zc.lower B.zc.upper
        (doubles (prec binary64 + suc e) (prec binary64 + suc (suc e)) (omega arith))
        (pow_mono (let k : prec binary64 + e ≤ prec binary64 + suc e = omega arith in k))) in
        last (K (z ⊖ b.zc)) (K z) (K b.zc) M (2 ^ e) (2 ^ suc e) (two-pow-succ e) s
      where
        doubles : (j k : ℕ) → k ≡ suc j → 2 ^ k ≡ 2 ^ j + 2 ^ j
        doubles j k q = rw q (two-pow-succ j)

        near : (z c m w x y : ℕ) → m ≤ z + w → z ≤ m + w → m ≤ c + x → c ≤ m + x → y ≡ w + w → x ≤ w → Close z c y
        near z c m w x y h k l o q r = record { over = omega arith; under = omega arith }

        last : (k z c m u w : ℕ) → w ≡ u + u → Close (k + c) (m + z) w → Close (k - m + (m - k)) (apart z c) (2 * u)
        last k z c m u w q s =
            record {
              over =
                  unfold apart in omega (arith, s.over, s.under);
              under = unfold apart in omega (arith, s.over, s.under);
            }

    pub half_bounded : Bounded binary64 (prec binary64 + e) (half_width b z)
    unfolding half_width
    half_bounded = pick (Bounded binary64 (prec binary64 + e)) (v ≼ 𝟘) (λ h. nothing)
        (λ h. let l =
        lt_of_le_of_lt (le_of_eq (sym zero_key)) (nle→key binary64 v 𝟘 (number_of binary64 v v_sure) zero_number h) in
        sqrt_bounded binary64 (prec binary64 + suc m) (prec binary64 + e) v (over _ (omega arith))
        (let k = S.square in omega arith) (tight l) l)
      where
        nothing : Bounded binary64 (prec binary64 + e) 𝟘
        nothing = bounded_up binary64 1074 (prec binary64 + e) 𝟘 S.unit_least (zero_finite 0).bounded

        tight : M < K v → Bounded binary64 (prec binary64 + suc m) v
        tight h = record {
          sure = v_sure;
          lower = go (K v) M (2 ^ (prec binary64 + suc m)) h;
          upper = le_trans (sub_le binary64 P Q P_bounded.sure Q_sure Q_least) P_bounded.upper;
        }
          where
            go : (k m w : ℕ) → m < k → m ≤ k + w
            go k m w h = omega arith

    pub half_least : M ≤ K (half_width b z)
    unfolding half_width
    half_least = pick (λ (r : Float). M ≤ K r) (v ≼ 𝟘) (λ h. le_of_eq (sym zero_key))
        (λ h. let l =
        lt_of_le_of_lt (le_of_eq (sym zero_key)) (nle→key binary64 v 𝟘 (number_of binary64 v v_sure) zero_number h) in
        rw (sqrt_is binary64 v v_sure l) (root_not_negative binary64 _))
