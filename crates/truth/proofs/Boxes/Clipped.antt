-- AN EDGE WITH BOTH ENDS INSIDE THE BOX IS CLIPPED WHOLE, because rounding is monotone: no side's quotient lies strictly between
-- 0 and 1.
use Prim.Native.Nat.{◌*◌, ◌+◌, ◌-◌, ◌<◌, ◌^◌, min, ℕ, ◌≤◌}
use mathlib.Core.Bool.{false, not}
use mathlib.Core.Path.{◌≡◌, refl, sym, ◌∙◌}
use native.Mathlib.Nat.{le_of_eq, le_refl, le_trans, lt_of_lt_of_le, mul-le-mul_right, not-le_of_lt, one-mul}
use native.Mathlib.Omega.{arith}
use lib.Dec.{leb→le, T}
use Rattle.std.specs.Prelude.{Option, Some}
use lib.Pow.{pow_pos}
use lib.Ieee.{binary64, div, fits, Float, Format, is_nan, low, lt, neg, of_bits, prec, sub}
use Rattle.arith.proofs.roots.Rounding.Fraction.{rounded, rounded_fix, rounded_zero}
use Rattle.arith.proofs.roots.Rounding.Key.{finite_number, key, magnitude, mid, number, prec_pos, unit}
use Rattle.arith.proofs.roots.Rounding.KeyOrder.{lt→key, nlt→key}
use Rattle.arith.proofs.roots.Rounding.Product.{negative_part, positive_part}
use Rattle.arith.proofs.roots.Rounding.Quotient.{div_key, div_key_neg, div_number, div_number_neg}
use Rattle.arith.proofs.roots.Rounding.RoundKey.{round_key, round_key_mono, round_key_side}
use Rattle.arith.proofs.roots.Rounding.Sum.{neg_key, sub_key}
use Rattle.arith.specs.F64.{◌⊖◌, ◌⊘◌, ◌≺◌, ◌≼◌, 𝟘, 𝟙, e_15, e_18}
use Rattle.arith.specs.Num.{abs}
use Rattle.arith.proofs.Laws.Bounded.{one_lt}
use Rattle.arith.proofs.Laws.Monotone.{sub_key_mono}
use Rattle.arith.proofs.Laws.Quotients.{abs_not_e_18, above, AwayFrom0, below}
use Rattle.arith.proofs.Laws.Sizes.{Finite, finite_number_lem, K, M, neg_finite, one_finite, sub_finite, zero_key}
use Rattle.arith.proofs.Laws.Sizes.{zero_number}
use Rattle.section.proofs.profile.Steps.{pick}
use Rattle.section.specs.declared.profile.shapes.Aabb.{Aabb}
use Rattle.section.specs.declared.profile.shapes.Vertex.{Vertex}
use Rattle.section.specs.segments.Clip.{clip, clip_side, part}
use Rattle.section.specs.declared.segments.shapes.Part.{Part}
use Rattle.truth.proofs.Boxes.Floats.{U}
use Rattle.truth.proofs.Boxes.Taken.{one_key}

-- ---- the quotient of what is not negative
module _ (f : Format) (q p : Float) (Q : T (finite_number f q)) (P : T (finite_number f p)) (q⁺ : mid f ≤ key f q) where
  none : negative_part f q ≡ 0
  none = omega (arith, q⁺)

  -- by what is positive and no larger: at least 1
  at_least_one : unit f ≤ mid f → mid f < key f p → key f p ≤ key f q → mid f + unit f ≤ key f (div f q p)
  at_least_one u p⁺ h =
      let m = round_key_mono f (1 * 2 ^ low f * over) 0 over (positive_part f q * unit f) (negative_part f q * unit f) over over⁺
      over⁺ larger in
      let s = round_key_side f false (1 * 2 ^ low f * over) (1 * 2 ^ low f * over) 0 over over⁺ (omega arith) in
      let r = rounded_fix (prec f) 1 (low f) over over⁺ (one_lt f) in
      go (key f (div f q p)) _ (rounded (prec f) (1 * 2 ^ low f * over) over) (mid f) (unit f) (div_key f q p Q P p⁺) m s
      (r ∙ one) u
    where
      over : ℕ
      over = positive_part f p

      over⁺ : 0 < over
      over⁺ = omega (arith, p⁺)

      one : 1 * 2 ^ low f ≡ unit f
      one = unfold unit in one-mul (2 ^ low f)

      larger : 1 * 2 ^ low f * over * over + negative_part f q * unit f * over ≤ positive_part f q * unit f * over + 0 * over
      larger = rw (one, none) (step (unit f) over (positive_part f q)
          (mul-le-mul_right (unit f * over) (less (key f p) (key f q) (mid f) h)))
        where
          less : (a b c : ℕ) → a ≤ b → a - c ≤ b - c
          less a b c h = omega arith

          step : (v o w : ℕ) → o * (v * o) ≤ w * (v * o) → v * o * o + 0 * v * o ≤ w * v * o + 0 * o
          step v o w h = omega arith

      go : (k z r m v : ℕ) → k ≡ z → round_key f (1 * 2 ^ low f * over) 0 over ≤ z
          → round_key f (1 * 2 ^ low f * over) 0 over ≡ m + min m r → r ≡ v → v ≤ m → m + v ≤ k
      go k z r m v a b c d e = omega arith

  -- by what is negative: at most 0
  at_most_zero : key f p < mid f → key f (div f q p) ≤ mid f
  at_most_zero p⁻ =
      let m = round_key_mono f (negative_part f q * unit f) (positive_part f q * unit f) under 0 0 under under⁺ under⁺
      (rw none (go (unit f) under (positive_part f q))) in
      let s = round_key_side f false 0 0 0 under under⁺ refl in
      let d = div_key_neg f q p Q P p⁻ in
      last (key f (div f q p)) _ (mid f) d m (s ∙ zero)
    where
      under : ℕ
      under = negative_part f p

      under⁺ : 0 < under
      under⁺ = omega (arith, p⁻)

      go : (v c w : ℕ) → 0 * v * c + 0 * c ≤ 0 * c + w * v * c
      go v c w = omega arith

      zero : mid f + min (mid f) (rounded (prec f) 0 under) ≡ mid f
      zero = small (mid f) (rounded (prec f) 0 under) (rounded_zero (prec f) under (prec_pos f) under⁺)
        where
          small : (m r : ℕ) → r ≡ 0 → m + min m r ≡ m
          small m r e = omega arith

      last : (k z m : ℕ) → k ≡ z → z ≤ round_key f 0 0 under → round_key f 0 0 under ≡ m → k ≤ m
      last k z m a b c = omega arith

-- ---- one side of the box, inside of which both ends lie
module _ (p q : Float) (P : Finite 24 p) (Q : Finite 24 q) (q⁺ : M ≤ K q) (covers : K p ≤ K q) where
  abbrev t : Float
  t = q ⊘ p

  abbrev whole : Part
  whole = part 𝟘 𝟙

  stays : clip_side p q whole ≡ Some whole
  unfolding clip_side
  stays =
      pick Whole (abs p ≼ e_18) (λ h. pick Whole (q ≺ neg e_15) (λ k. absurd (inward k)) (λ k. refl))
      (λ h. pick Whole (p ≺ 𝟘)
      (λ k. pick Whole (𝟙 ≺ t) (λ l. absurd (enters k 𝟙 (finite_number_lem one_finite) (le_trans (more M U) (le_of_eq (sym one_key)))
      l))
      (λ l. pick Whole (𝟘 ≺ t) (λ o. absurd (enters k 𝟘 zero_number (le_of_eq (sym zero_key)) o)) (λ o. refl)))
      (λ k. pick Whole (t ≺ 𝟘) (λ l. absurd (leaves h k 𝟘 zero_number (le_trans (le_of_eq zero_key) (more M U)) l))
      (λ l. pick Whole (t ≺ 𝟙) (λ o. absurd (leaves h k 𝟙 (finite_number_lem one_finite) (le_of_eq one_key) o)) (λ o. refl))))
    where
      Whole : Option Part → Type 0
      Whole c = c ≡ Some whole

      more : (m u : ℕ) → m ≤ m + u
      more m u = omega arith

      inward : T (q ≺ neg e_15) → ⊥
      inward k = not-le_of_lt (lt→key binary64 q (neg e_15) (finite_number_lem Q) low_number k) (le_trans low_key q⁺)
        where
          low_number : T (number binary64 (neg e_15))
          low_number = unfold mid key magnitude unit of_bits neg fits is_nan in tt

          low_key : K (neg e_15) ≤ M
          low_key = unfold mid key magnitude unit of_bits neg in leb→le _ _ tt

      enters : T (p ≺ 𝟘) → (c : Float) → T (number binary64 c) → M ≤ K c → T (c ≺ t) → ⊥
      enters k c C l h =
          let p⁻ = lt_of_lt_of_le (lt→key binary64 p 𝟘 (finite_number_lem P) zero_number k) (le_of_eq zero_key) in
          not-le_of_lt (lt→key binary64 c t C (div_number_neg binary64 q p Q.bounded.sure P.bounded.sure p⁻) h)
          (le_trans (at_most_zero binary64 q p Q.bounded.sure P.bounded.sure q⁺ p⁻) l)

      leaves : T (not (abs p ≼ e_18)) → T (not (p ≺ 𝟘)) → (c : Float) → T (number binary64 c) → K c ≤ M + U → T (t ≺ c) → ⊥
      leaves o k c C l h =
          not-le_of_lt (lt→key binary64 t c (div_number binary64 q p Q.bounded.sure P.bounded.sure (positive o k)) C h)
          (le_trans l (at_least_one binary64 q p Q.bounded.sure P.bounded.sure q⁺ (unfold unit mid in leb→le _ _ tt)
          (positive o k) covers))
        where
          positive : T (not (abs p ≼ e_18)) → T (not (p ≺ 𝟘)) → M < K p
          positive o k = away (abs_not_e_18 P o)
            where
              least : M ≤ K p
              least = le_trans (le_of_eq (sym zero_key)) (nlt→key binary64 p 𝟘 (finite_number_lem P) zero_number k)

              away : AwayFrom0 60 p → M < K p
              away (above a) = up M (2 ^ (1074 - 60)) (K p) (pow_pos (1074 - 60)) a
                where
                  up : (m w k : ℕ) → 0 < w → m + w ≤ k → m < k
                  up m w k p h = omega arith
              away (below a) = absurd (down M (2 ^ (1074 - 60)) (K p) (pow_pos (1074 - 60)) least a)
                where
                  down : (m w k : ℕ) → 0 < w → m ≤ k → k + w ≤ m → ⊥
                  down m w k p l h = omega arith

-- ---- a difference turned round
turned_sum : (f : Format) (x y : Float) → T (finite_number f x) → T (finite_number f y)
    → key f (sub f x y) + key f (sub f y x) ≡ mid f + mid f
unfolding round_key
turned_sum f x y X Y = rw (sub_key f x y X Y, sub_key f y x Y X)
    (go (mid f) (rounded (prec f) (key f x - key f y) 1) (rounded (prec f) (key f y - key f x) 1))
  where
    go : (m a b : ℕ) → m + min m a - min m b + (m + min m b - min m a) ≡ m + m
    go m a b = step (min m a) (min m b) (omega arith) (omega arith)
      where
        step : (c d : ℕ) → c ≤ m → d ≤ m → m + c - d + (m + d - c) ≡ m + m
        step c d h k = omega arith

neg_turned : (x y : Float) → Finite 23 x → Finite 23 y → K (neg (x ⊖ y)) ≡ K (y ⊖ x)
neg_turned x y X Y = same (K (neg (x ⊖ y))) (K (x ⊖ y)) (K (y ⊖ x)) M
    (neg_key binary64 (x ⊖ y) (finite_number_lem (sub_finite X Y tt)))
    (turned_sum binary64 x y X.bounded.sure Y.bounded.sure)
  where
    same : (n k j m : ℕ) → n + k ≡ m + m → k + j ≡ m + m → n ≡ j
    same n k j m a b = omega arith

sub_mono : (x x' y y' : Float) → Finite 23 x → Finite 23 x' → Finite 23 y → Finite 23 y' → K x ≤ K x' → K y' ≤ K y
    → K (x ⊖ y) ≤ K (x' ⊖ y')
sub_mono x x' y y' X X' Y Y' = sub_key_mono binary64 x x' y y' X.bounded.sure X'.bounded.sure Y.bounded.sure
    Y'.bounded.sure

-- what is no less than what is taken off
not_negative : (x y : Float) → Finite 23 x → Finite 23 y → K y ≤ K x → M ≤ K (x ⊖ y)
not_negative x y X Y h = go (K (y ⊖ x)) (K (x ⊖ y)) M (turned_sum binary64 y x Y.bounded.sure X.bounded.sure)
    (sub_mono y x x y Y X X Y h h)
  where
    go : (j k m : ℕ) → j + k ≡ m + m → j ≤ k → m ≤ k
    go j k m a b = omega arith

-- one coordinate: from a to b, both between l and h
module _ (a b l h : Float) (A : Finite 23 a) (B : Finite 23 b) (L : Finite 23 l) (H : Finite 23 h) where
  pub stays_low : K l ≤ K a → K l ≤ K b → clip_side (neg (b ⊖ a)) (a ⊖ l) (part 𝟘 𝟙) ≡ Some (part 𝟘 𝟙)
  stays_low p q = stays (neg (b ⊖ a)) (a ⊖ l) (neg_finite (sub_finite B A tt)) (sub_finite A L tt) (not_negative a l A L p)
      (le_trans (le_of_eq (neg_turned b a B A)) (sub_mono a a b l A A B L (le_refl (K a)) q))

  pub stays_high : K a ≤ K h → K b ≤ K h → clip_side (b ⊖ a) (h ⊖ a) (part 𝟘 𝟙) ≡ Some (part 𝟘 𝟙)
  stays_high p q = stays (b ⊖ a) (h ⊖ a) (sub_finite B A tt) (sub_finite H A tt) (not_negative h a H A p)
      (sub_mono b h a a B H A A q (le_refl (K a)))

-- the box's four numbers and both ends' two
pub record Sized (x : Aabb) (a b : Vertex) : Type 0 where
  pub z0 : Finite 23 x.z0
  pub z1 : Finite 23 x.z1
  pub r0 : Finite 23 x.r0
  pub r1 : Finite 23 x.r1
  pub az : Finite 23 a.z
  pub ar : Finite 23 a.r
  pub bz : Finite 23 b.z
  pub br : Finite 23 b.r

-- an end inside the box
pub record Inside (x : Aabb) (v : Vertex) : Type 0 where
  pub z_from : K x.z0 ≤ K v.z
  pub z_to : K v.z ≤ K x.z1
  pub r_from : K x.r0 ≤ K v.r
  pub r_to : K v.r ≤ K x.r1

pub clip_whole : (x : Aabb) (a b : Vertex) → Sized x a b → Inside x a → Inside x b → clip x a b ≡ Some (part 𝟘 𝟙)
unfolding clip lt of_bits
clip_whole x a b S A B = rw (
  stays_low a.z b.z x.z0 x.z1 S.az S.bz S.z0 S.z1 A.z_from B.z_from,
  stays_high a.z b.z x.z0 x.z1 S.az S.bz S.z0 S.z1 A.z_to B.z_to,
  stays_low a.r b.r x.r0 x.r1 S.ar S.br S.r0 S.r1 A.r_from B.r_from,
  stays_high a.r b.r x.r0 x.r1 S.ar S.br S.r0 S.r1 A.r_to B.r_to,
) refl
