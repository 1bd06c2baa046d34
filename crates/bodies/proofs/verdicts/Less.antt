-- A distance less half of a cylinder's length is not above it, since half of a hypot is not below 0; where the length is 0 it is
-- the distance itself, since x - 0 is x. Of any cylinder within the limits and any distance of at most 2 ^ 28.
use Prim.Native.Nat.{◌≤◌}
use mathlib.Core.Bool.{false}
use mathlib.Core.Path.{◌≡◌, ◌∙◌, refl, ap, sym}
use native.Mathlib.Nat.{le_antisymm, le_of_eq, le_trans}
use native.Mathlib.Omega.{arith}
use lib.Dec.{T}
use lib.Ieee.{Float, binary64, of_bits}
use Rattle.arith.specs.F64.{◌⊕◌, ◌⊖◌, ◌⊗◌, ◌≼◌, 𝟘, ½, e_9}
use Rattle.arith.specs.roots.Roots.{hypot}
use Rattle.arith.proofs.roots.Pattern.Special.{greater}
use Rattle.arith.proofs.roots.Rounding.Key.{negative}
use Rattle.arith.proofs.roots.Rounding.KeyOrder.{key→lt, le→key, lt→key}
use Rattle.arith.proofs.Laws.Exact.{key_unique, sub_le}
use Rattle.arith.proofs.Laws.Hypot.{hypot_plus}
use Rattle.arith.proofs.Laws.Monotone.{add_key_mono}
use Rattle.arith.proofs.Laws.OrderHeld.{T→true, held_number}
use Rattle.arith.proofs.Laws.SizedOrder.{half_not_negative, half_of_zero, hypot_not_negative, key_le, sub_zero_finite}
use Rattle.arith.proofs.Laws.Sizes.{Finite, Given, K, M, add_finite, finite_given, finite_number_lem, half_finite, hypot_given}
use Rattle.arith.proofs.Laws.Sizes.{e_9_finite, sub_finite, sub_given, zero_key, zero_number}
use Rattle.walk.specs.declared.bands.shapes.Axis.{Axis}
use Rattle.walk.specs.declared.bands.shapes.Axis.TheVariants.{Axial, AlongX, AlongY, Neither}
use Rattle.walk.specs.declared.bands.shapes.Cylinder.{Cylinder}
use Rattle.walk.proofs.bands.Limit.{CylinderInLimit}
use Rattle.walk.specs.cylinders.Steps.{IsF64}
use Rattle.bodies.specs.verdicts.Tilt.{less_tilt, tilt_length}
use Rattle.bodies.specs.verdicts.Verdicts.{collides}

-- ---- the length: finite, and not below 0
across : {a b c d : Float} → Given 20 a → Given 20 b → Given 20 c → Given 20 d → Finite 22 (hypot binary64 (a ⊖ b) (c ⊖ d))
across A B C D = hypot_given (finite_given (sub_given A B tt)) (finite_given (sub_given C D tt)) tt

across_not_negative : {a b c d : Float} → Given 20 a → Given 20 b → Given 20 c → Given 20 d
    → M ≤ K (hypot binary64 (a ⊖ b) (c ⊖ d))
across_not_negative A B C D = hypot_not_negative (finite_given (sub_given A B tt)) (finite_given (sub_given C D tt))

zero_plus : negative 𝟘 ≡ false
unfolding of_bits
zero_plus = refl

module _ {c : Cylinder} (C : CylinderInLimit c) where
  length_finite : (a : Axis) → Finite 22 (tilt_length a c)
  length_finite Axial = across C.ax C.bx C.ay C.by
  length_finite AlongX = across C.ay C.by C.az C.bz
  length_finite AlongY = across C.ax C.bx C.az C.bz
  length_finite Neither = across C.ax C.bx C.ay C.by

  length_not_negative : (a : Axis) → M ≤ K (tilt_length a c)
  length_not_negative Axial = across_not_negative C.ax C.bx C.ay C.by
  length_not_negative AlongX = across_not_negative C.ay C.by C.az C.bz
  length_not_negative AlongY = across_not_negative C.ax C.bx C.az C.bz
  length_not_negative Neither = across_not_negative C.ax C.bx C.ay C.by

  length_plus : (a : Axis) → negative (tilt_length a c) ≡ false
  length_plus Axial = hypot_plus binary64 (c.a.x ⊖ c.b.x) (c.a.y ⊖ c.b.y)
  length_plus AlongX = hypot_plus binary64 (c.a.y ⊖ c.b.y) (c.a.z ⊖ c.b.z)
  length_plus AlongY = hypot_plus binary64 (c.a.x ⊖ c.b.x) (c.a.z ⊖ c.b.z)
  length_plus Neither = hypot_plus binary64 (c.a.x ⊖ c.b.x) (c.a.y ⊖ c.b.y)

  half : (a : Axis) → Finite 21 (tilt_length a c ⊗ ½)
  half a = half_finite (length_finite a) tt

  -- ---- beside any distance of at most 2 ^ 28
  module _ {d : Float} (D : Finite 28 d) (a : Axis) where
    less_finite : Finite 29 (less_tilt a c d)
    less_finite = sub_finite D (half a) tt

    less_key : K (less_tilt a c d) ≤ K d
    less_key =
        sub_le binary64 d (tilt_length a c ⊗ ½) D.bounded.sure (half a).bounded.sure
        (half_not_negative (length_finite a) (length_not_negative a))

    pub less_not_above : T (less_tilt a c d ≼ d)
    less_not_above = key_le less_finite D less_key

    -- what lies below the clearance by the distance lies below it by less
    pub less_collides : (clearance : Float) → IsF64 clearance → T (collides d clearance) → T (collides (less_tilt a c d) clearance)
    less_collides clearance F h =
        let near = add_finite D e_9_finite tt in
        let nearer = add_finite less_finite e_9_finite tt in
        let n = held_number binary64 clearance F (greater (d ⊕ e_9) clearance (T→true _ h)) in
        key→lt binary64 (less_tilt a c d ⊕ e_9) clearance (finite_number_lem nearer) n
        (omega (
          arith,
          add_key_mono binary64 (less_tilt a c d) d e_9 e_9 less_finite.bounded.sure D.bounded.sure
              e_9_finite.bounded.sure e_9_finite.bounded.sure less_key (le_of_eq refl),
          lt→key binary64 (d ⊕ e_9) clearance (finite_number_lem near) n h,
        ))

    -- a hypot has no -0, so that a length of 0 is the one zero
    zero_length : T (tilt_length a c ≼ 𝟘) → tilt_length a c ≡ 𝟘
    zero_length h =
        key_unique binary64 (tilt_length a c) 𝟘 (finite_number_lem (length_finite a)) zero_number (length_plus a ∙ sym zero_plus)
        (le_antisymm (le→key binary64 (tilt_length a c) 𝟘 (finite_number_lem (length_finite a)) zero_number h)
        (le_trans (le_of_eq zero_key) (length_not_negative a)))

    pub less_nothing : T (tilt_length a c ≼ 𝟘) → less_tilt a c d ≡ d
    less_nothing h = ap (λ (l : Float). d ⊖ l ⊗ ½) (zero_length h) ∙ ap (λ (l : Float). d ⊖ l) half_of_zero ∙ sub_zero_finite D
