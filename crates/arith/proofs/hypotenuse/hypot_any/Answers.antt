-- `arith::hypotenuse::hypot_any` meets its contract: what an infinity or a NaN gives, and the bits of the rest.
use Rattle.std.proofs.Common.{◌≡◌, true, false, not, T, sym, ◌∙◌, subst}
use lib.Ieee.{Float, binary64, fits, is_nan}
use Rattle.arith.proofs.roots.Root.HypotCore.{infinity}
use Rattle.arith.proofs.roots.Root.HypotValue.{finite, hypot_by_bits, infinite_left, infinite_right, nan_left, nan_right}
use Rattle.arith.proofs.roots.Root.SqrtValue.{none}
use Rattle.arith.proofs.roots.Pattern.Special.{no_nan}
use Rattle.arith.proofs.hypotenuse.hypot_any.Goals as goal
use Rattle.arith.proofs.hypotenuse.hypot_any.Goals.{then-is_infinite-via-then-is_infinite, then-is_infinite-via-else-is_infinite+then-is_infinite-2, then-is_nan-via-then-is_nan, then-is_nan-via-else-is_nan+then-is_nan-2}

held : (x : Float) → fits binary64 x ≡ true → T (fits binary64 x)
held x h = subst T (sym h) tt

a_number : (x : Float) → is_nan x ≡ false → T (not (is_nan x))
a_number x h = subst (λ b. T (not b)) (sym h) tt

pub returns-then-is_infinite : goal.returns-then-is_infinite
returns-then-is_infinite c = infinity ∙ elim c.then-is_infinite.branch [
  | then-is_infinite-via-then-is_infinite w ↦ infinite_left _ _ (sym c.is_infinite.ensures ∙ w.if-is_infinite.true)
  | then-is_infinite-via-else-is_infinite+then-is_infinite-2 w ↦ infinite_right _ _
      (sym w.is_infinite-else-is_infinite.ensures ∙ w.if-is_infinite-2.true)
]

pub returns-then-is_nan : goal.returns-then-is_nan
returns-then-is_nan c = none ∙ elim c.then-is_nan.branch [
  | then-is_nan-via-then-is_nan w ↦ nan_left _ _ (sym c.is_infinite-else-is_infinite.ensures ∙ c.if-is_infinite-2.false)
      (sym c.is_nan.ensures.value ∙ w.if-is_nan.true)
  | then-is_nan-via-else-is_nan+then-is_nan-2 w ↦ nan_right _ _ (sym c.is_infinite.ensures ∙ c.if-is_infinite.false)
      (sym w.is_nan-else-is_nan.ensures.value ∙ w.if-is_nan-2.true)
]

pub hypot_bits-requires : goal.hypot_bits-requires
hypot_bits-requires c = (
  finite _ (held _ c.well_formed.0.1) (sym c.is_infinite.ensures ∙ c.if-is_infinite.false)
      (a_number _ (sym c.is_nan.ensures.value ∙ c.if-is_nan.false)),
  finite _ (held _ c.well_formed.1.0.1) (sym c.is_infinite-else-is_infinite.ensures ∙ c.if-is_infinite-2.false)
      (a_number _ (sym c.is_nan-else-is_nan.ensures.value ∙ c.if-is_nan-2.false)),
)

pub float_from_bits-result : goal.float_from_bits-result
float_from_bits-result c = no_nan _ c.hypot_bits.ensures.fine

pub returns : goal.returns
returns c =
    let r = hypot_bits-requires c.before in
    hypot_by_bits _ _ _ (held _ c.well_formed.0.1) (held _ c.well_formed.1.0.1) r.0 r.1 c.hypot_bits.ensures
