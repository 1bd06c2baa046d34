-- A builder's answer, what it hands back and the space it leaves, by cases of its number.
use Prim.Native.Nat.{ℕ, zero, suc, ◌*◌, ◌/◌, ◌≤◌}
use native.Mathlib.Omega.{arith}
use mathlib.Core.Bool.{Bool, true, false, cond}
use mathlib.Core.List.{List, [], ◌∷◌}
use mathlib.Core.Path.{◌≡◌, refl, ap, sym}
use lib.Dec.{ltb}
use lib.ListN.{length}
use lib.Seq.{take_all}
use lib.Ieee.{Float}
use Rattle.std.specs.Prelude.{Result, Ok, Err}
use Rattle.std.specs.Result.{result_unwrap_or}
use Rattle.section.specs.profile.Vertices.{count}
use Rattle.section.specs.profile.Refusals.{◌when◌, refusal, fewer}
use Rattle.section.specs.profile.Replies.{value, turned_down, reply, told}
use Rattle.section.specs.builders.Builder.{filled}
use Rattle.section.specs.builders.Steps.{three_kept, front_kept}
use Rattle.section.specs.builders.Kept.{handed_back}
use Rattle.section.specs.declared.shapes.Refusal.{Refusal}
use Rattle.section.specs.declared.shapes.Refusal.TheVariants.{TooFewKept}
use Rattle.section.proofs.builders.Builders.Keep.{Whole}

-- number n, and l what is kept
module _ (l : List Float) where
  pub three_answer : Whole l → told (three_kept (count l)) ≡ reply (refusal ((8 when fewer 3 l) ∷ [])) (length l)
  unfolding three_kept refusal
  three_answer e = by (ltb (count l) 3)
    where
      by : (t : Bool) → told (cond t (Err TooFewKept) (Ok (count l * 2))) ≡ reply (cond t 8 0) (length l)
      by true = refl
      by false = ap value (sym e)

  pub handed_long : (a : Result ℕ Refusal) (n : ℕ) → told a ≡ reply n (length l) → result_unwrap_or a 0 ≡ length (handed_back n l)
  handed_long (Ok m) zero e = cc
  handed_long (Ok m) (suc n) e = let z : ◌≡◌ {A = ℕ} 0 1 = cc in absurd (omega arith)
  handed_long (Err m) zero e = let z : ◌≡◌ {A = ℕ} 0 1 = cc in absurd (omega arith)
  handed_long (Err m) (suc n) e = refl

  -- turned down, the space stays; otherwise n is 0, and l is kept
  pub stays : (n m : ℕ) (space : List Float) → turned_down m ≡ reply n (length l) → space ≡ filled (handed_back n l) space
  unfolding filled
  stays zero m space e = let z : ◌≡◌ {A = ℕ} 0 1 = cc in absurd (omega arith)
  stays (suc n) m space e = refl

  pub accepted : (n m : ℕ) → value m ≡ reply n (length l) → (n ≡ 0) × (m ≡ length l) × (handed_back n l ≡ l)
  accepted zero m e = (refl, cc, refl)
  accepted (suc n) m e = let z : ◌≡◌ {A = ℕ} 0 1 = cc in absurd (omega arith)

-- all of l is written where the limit is that of the answer
pub written_all : (n m : ℕ) (l space : List Float) → Whole l → value m ≡ reply n (length l)
    → front_kept (m / 2) l space ≡ filled (handed_back n l) space
written_all n m l space e a =
    let k = accepted l n m a in
    let h : length l ≤ m / 2 * 2 = omega arith in
    rw (k.2, take_all (m / 2 * 2) l h)
