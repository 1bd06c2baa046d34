-- `arith::square_root::sqrt` meets its contract.
use Rattle.std.proofs.Common.{◌≡◌, ℕ, ◌<◌, ◌≤◌, true, T, sym, ◌∙◌, subst, le_of_lt, arith}
use lib.Ieee.{Float, binary64, fits, to_bits}
use lib.Ieee.Bits.{to_bits-lt}
use Rattle.arith.proofs.roots.Root.SqrtValue.{normal_sqrt, sqrt_by_bits, sqrt_same, sqrt_fixed, sqrt_no, sqrt_of_nan}
use Rattle.arith.proofs.roots.Pattern.Special.{no_nan}
use Rattle.arith.proofs.square_root.sqrt.Goals as goal

held : (x : Float) → fits binary64 x ≡ true → T (fits binary64 x)
held x h = subst T (sym h) tt

zero : (x : Float) → to_bits binary64 x ≤ 0 → to_bits binary64 x ≡ 0
zero x h = omega arith

above : (n : ℕ) → 9218868437227405312 ≤ n → (n ≡ 9218868437227405312 → ⊥) → 9218868437227405312 < n
above n h k = omega arith

pub float_from_bits-result : goal.float_from_bits-result
float_from_bits-result c = no_nan _ (le_of_lt (normal_sqrt _ _ c.if-b-ge-T52.true
    c.if-b-lt-INF.true c.in-Some.ensures).fine)

pub returns-in-Some : goal.returns-in-Some
returns-in-Some c = sqrt_by_bits _ _ (held _ c.well_formed.0.1)
    (normal_sqrt _ _ c.if-b-ge-T52.true c.if-b-lt-INF.true c.in-Some.ensures)

pub float_from_bits-result-then-b-ge-T52 : goal.float_from_bits-result-then-b-ge-T52
float_from_bits-result-then-b-ge-T52 c = no_nan _ (le_of_lt c.sqrt_searched.ensures.fine)

pub returns-then-b-ge-T52 : goal.returns-then-b-ge-T52
returns-then-b-ge-T52 c = sqrt_by_bits _ _ (held _ c.well_formed.0.1)
    (normal_sqrt _ _ c.if-b-ge-T52.true c.if-b-lt-INF.true
    c.sqrt_searched.ensures)

pub float_from_bits-result-then-b-gt0 : goal.float_from_bits-result-then-b-gt0
float_from_bits-result-then-b-gt0 c = no_nan _ (le_of_lt c.sqrt_subnormal.ensures.fine)

pub returns-then-b-gt0 : goal.returns-then-b-gt0
returns-then-b-gt0 c = sqrt_by_bits _ _ (held _ c.well_formed.0.1)
    c.sqrt_subnormal.ensures

pub returns-then-b-lt-INF : goal.returns-then-b-lt-INF
returns-then-b-lt-INF c = sqrt_same _ 0 (held _ c.well_formed.0.1) (zero _ c.if-b-gt0.false)
    sqrt_fixed.0

pub returns-then-b-eq-INF : goal.returns-then-b-eq-INF
returns-then-b-eq-INF c = sqrt_same _ 9218868437227405312 (held _ c.well_formed.0.1) c.if-b-eq-INF.true
    sqrt_fixed.1

pub returns-then-b : goal.returns-then-b
returns-then-b c = sqrt_same _ 9223372036854775808 (held _ c.well_formed.0.1) c.if-b.true
    sqrt_fixed.2

pub returns : goal.returns
returns c = let f = held _ c.well_formed.0.1 in sqrt_no _ f (to_bits-lt binary64 _ f)
    (above _ c.if-b-lt-INF.false c.if-b-eq-INF.false) c.if-b.false

pub returns-then-is_nan : goal.returns-then-is_nan
returns-then-is_nan c = sqrt_of_nan _ (sym c.is_nan.ensures.value ∙ c.if-is_nan.true)
