-- The half width of a band at z is at most 2 ^ 20, since it is the root of no more than the radius's square; it is not negative, and
-- no less at a place between zc and z than at z: rounded differences, squares and roots are monotone.
use Prim.Native.Nat.{ℕ, ◌+◌, ◌^◌, ◌≤◌, ◌<◌}
use mathlib.Core.Path.{◌≡◌, sym}
use mathlib.Core.Logic.{inl, inr, ◌⊎◌}
use mathlib.Core.Bool.{cond}
use native.Mathlib.Nat.{le_refl, le_trans, le_of_eq, mul-le-mul_right, not-le_of_lt}
use native.Mathlib.Omega.{arith}
use lib.Dec.{T, lit≤, lit<}
use lib.Ieee.{Float, binary64}
use Rattle.arith.specs.F64.{◌⊖◌, ◌⊗◌, ◌≼◌, 𝟘}
use Rattle.arith.specs.roots.Roots.{sqrt}
use Rattle.arith.proofs.roots.Rounding.Key.{unit}
use Rattle.arith.proofs.roots.Rounding.KeyOrder.{le→key}
use Rattle.arith.proofs.roots.Rounding.Product.{positive_part}
use Rattle.arith.proofs.Laws.Bounded.{Bounded}
use Rattle.arith.proofs.Laws.Exact.{sub_le}
use Rattle.arith.proofs.Laws.Extended.{sub_self}
use Rattle.arith.proofs.Laws.HypotKey.{sqrt_is, root_not_negative}
use Rattle.arith.proofs.Laws.Monotone.{key_size, square_key_mono, square_not_negative, sub_key_mono}
use Rattle.arith.proofs.Laws.RootBounded.{sqrt_bounded}
use Rattle.arith.proofs.Laws.RootKey.{root_mono}
use Rattle.arith.proofs.Laws.SizedOrder.{positive}
use Rattle.arith.proofs.Laws.Sizes.{Finite, K, M, finite_number_lem, mul_finite, mul_given, sub_finite, zero_finite, zero_key}
use Rattle.arith.proofs.Laws.Sizes.{zero_number}
use Rattle.section.proofs.profile.Steps.{pick}
use Rattle.walk.specs.bands.Band.{half_width}
use Rattle.walk.specs.declared.bands.shapes.RadialBand.{RadialBand}
use Rattle.walk.proofs.bands.Limit.{InLimit}

-- m lies between c and z, all by their keys
abbrev pub LiesBetween : ℕ → ℕ → ℕ → Type 0
LiesBetween c m z = ((c ≤ m) × (m ≤ z)) ⊎ ((z ≤ m) × (m ≤ c))

-- ---- the root of a positive number, and 0 of any other
abbrev root_of : Float → Float
root_of v = cond (v ≼ 𝟘) 𝟘 (sqrt binary64 v)

root_of_not_negative : {n : ℕ} {v : Float} → Finite n v → M ≤ K (root_of v)
root_of_not_negative {n} {v} X =
    pick (λ (r : Float). M ≤ K r) (v ≼ 𝟘) (λ h. le_of_eq (sym zero_key))
    (λ h. rw (sqrt_is binary64 v X.bounded.sure (positive X h)) (root_not_negative binary64 _))

root_of_mono : {i j : ℕ} {v w : Float} → Finite i v → Finite j w → K v ≤ K w → K (root_of v) ≤ K (root_of w)
root_of_mono {v = v} {w = w} X Y h =
    pick (λ (r : Float). K r ≤ K (root_of w)) (v ≼ 𝟘) (λ g. le_trans (le_of_eq zero_key) (root_of_not_negative Y))
    (λ g. pick (λ (r : Float). K (sqrt binary64 v) ≤ K r) (w ≼ 𝟘) (λ k. absurd (not-le_of_lt (positive X g) (low k)))
    (λ k. rw (sqrt_is binary64 v X.bounded.sure (positive X g), sqrt_is binary64 w Y.bounded.sure (positive Y k))
    (root_mono binary64 _ _ (mul-le-mul_right (unit binary64) parts))))
  where
    low : T (w ≼ 𝟘) → K v ≤ M
    low k = le_trans h (le_trans (le→key binary64 w 𝟘 (finite_number_lem Y) zero_number k) (le_of_eq zero_key))

    parts : positive_part binary64 v ≤ positive_part binary64 w
    parts = omega arith

-- ---- nearer to c is no farther in size
offset_mono : {i j k : ℕ} {c m z : Float} → Finite i c → Finite j m → Finite k z → LiesBetween (K c) (K m) (K z)
    → key_size binary64 (m ⊖ c) ≤ key_size binary64 (z ⊖ c)
unfolding key_size
offset_mono {c = c} {m = m} {z = z} C N Z h = go h
  where
    at_zero : K (c ⊖ c) ≡ M
    at_zero = sub_self binary64 c C.bounded.sure

    down : {i j : ℕ} {x y : Float} → Finite i x → Finite j y → K x ≤ K y → K (x ⊖ c) ≤ K (y ⊖ c)
    down {x = x} {y = y} X Y l =
        let p = C.bounded.sure in
        sub_key_mono binary64 x y c c X.bounded.sure Y.bounded.sure p p l (le_refl (K c))

    go : LiesBetween (K c) (K m) (K z) → key_size binary64 (m ⊖ c) ≤ key_size binary64 (z ⊖ c)
    go (inl h) = omega (arith, at_zero, down C N h.0, down N Z h.1)
    go (inr h) = omega (arith, at_zero, down Z N h.0, down N C h.1)

-- ---- the half width
module _ {b : RadialBand} (B : InLimit b) where
  radius² : Finite 40 (b.radius ⊗ b.radius)
  radius² = mul_given B.radius B.radius tt

  module _ {z : Float} (Z : Finite 23 z) where
    abbrev radicand : Float
    radicand = b.radius ⊗ b.radius ⊖ (z ⊖ b.zc) ⊗ (z ⊖ b.zc)

    offset : Finite 24 (z ⊖ b.zc)
    offset = sub_finite Z B.zc tt

    offset² : Finite 48 ((z ⊖ b.zc) ⊗ (z ⊖ b.zc))
    offset² = mul_finite offset offset tt

    radicand_finite : Finite 49 radicand
    radicand_finite = sub_finite radius² offset² tt

    -- a positive one is no more than the radius's square
    radicand_tight : M < K radicand → Bounded binary64 1114 radicand
    radicand_tight h =
        record {
          sure = radicand_finite.bounded.sure;
          lower = lower (K radicand) (2 ^ 1114) M h;
          upper = le_trans (sub_le binary64 _ _ radius².bounded.sure offset².bounded.sure
              (square_not_negative binary64 _ offset.bounded.sure)) radius².bounded.upper;
        }
      where
        lower : (k w m : ℕ) → m < k → m ≤ k + w
        lower k w m h = omega arith

    pub half_width_finite : Finite 20 (half_width b z)
    unfolding half_width
    half_width_finite = pick (Finite 20) (radicand ≼ 𝟘) (λ h. zero_finite 20) (λ h. root (positive radicand_finite h))
      where
        root : M < K radicand → Finite 20 (sqrt binary64 radicand)
        root h = record { bounded = sqrt_bounded binary64 1114 1094 radicand (lit< tt) (lit≤ tt) (radicand_tight h) h }

    pub half_width_not_negative : M ≤ K (half_width b z)
    unfolding half_width
    half_width_not_negative = root_of_not_negative radicand_finite

  pub nearer_is_wider : {m z : Float} → Finite 23 m → Finite 23 z → LiesBetween (K b.zc) (K m) (K z)
      → K (half_width b z) ≤ K (half_width b m)
  unfolding half_width
  nearer_is_wider N Z h =
      let squares = square_key_mono binary64 _ _ (offset N).bounded.sure (offset Z).bounded.sure
      (offset_mono B.zc N Z h) in
      let r = radius².bounded.sure in
      root_of_mono (radicand_finite Z) (radicand_finite N)
      (sub_key_mono binary64 _ _ _ _ r r (offset² Z).bounded.sure (offset² N).bounded.sure (le_refl _) squares)
