-- No refusal has the number 0; a refusal that is handed on stays what it is.
use native.Mathlib.Omega.{arith}
use mathlib.Core.Path.{◌≡◌, ◌∙◌, ap, sym}
use Rattle.std.specs.Prelude.{ℕ, Bool, true, false, ◌<◌, ◌≤◌, ltb, Result, Ok, Err, IsErr, IsErrAnd}
use Rattle.std.proofs.lemmas.Bool.{ltb-true, ltb-false}
use Rattle.section.specs.declared.shapes.Refusal.{Refusal}
use Rattle.section.specs.declared.shapes.Refusal.TheVariants as refusals
use Rattle.section.specs.profile.Numbers.{refusal_number}

pub above_zero : (e : Refusal) → refusal_number e ≡ 0 → ⊥
above_zero refusals.OddCount e = omega arith
above_zero refusals.TooFewVertices e = omega arith
above_zero refusals.TooManyVertices e = omega arith
above_zero refusals.NotFinite e = omega arith
above_zero refusals.TooLarge e = omega arith
above_zero refusals.RadiusBelowAxis e = omega arith
above_zero refusals.SpaceTooSmall e = omega arith
above_zero refusals.TooFewKept e = omega arith
above_zero refusals.NegativeRadius e = omega arith
above_zero refusals.ReversedBounds e = omega arith
above_zero refusals.SkewCylinder e = omega arith
above_zero refusals.StoreLength e = omega arith
above_zero refusals.BadLink e = omega arith
above_zero refusals.WrongKind e = omega arith
above_zero refusals.EmptyStore e = omega arith
above_zero refusals.TooManyRecords e = omega arith
above_zero refusals.TooManyBodies e = omega arith
above_zero refusals.BadSettings e = omega arith
above_zero refusals.BadSteps e = omega arith
above_zero refusals.BadSeed e = omega arith
above_zero refusals.BadLoad e = omega arith
above_zero refusals.SettersEdit e = omega arith
above_zero refusals.StoreFull e = omega arith
above_zero refusals.NoSuchRecord e = omega arith

-- an outcome's number, by its test
pub is_above : {b : Bool} {n : ℕ} → b ≡ ltb 0 n → b ≡ true → n ≡ 0 → ⊥
is_above {b} {n} e t z = let h : 0 < n = ltb-true _ _ (sym e ∙ t) in omega arith

pub is_none : {b : Bool} {n : ℕ} → b ≡ ltb 0 n → b ≡ false → n ≡ 0
is_none {b} {n} e f = let h : n ≤ 0 = ltb-false _ _ (sym e ∙ f) in omega arith

-- by `?`
pub handed_on : {A : Type 0} {e : Refusal} (r : Result A Refusal) → IsErr r × IsErrAnd r (λ (y : Refusal). y ≡ e) → r ≡ Err e
handed_on (Ok a) h = absurd h.1
handed_on (Err y) h = ap Err h.1
