-- Lists that are taken have seven numbers a body, by the tests in order; of at most 64 bodies all are read, of more none.
use Prim.Native.Nat.{ℕ, ◌*◌, ◌<◌, ◌≤◌}
use mathlib.Core.Bool.{Bool, true, false, not, cond}
use mathlib.Core.List.{List}
use mathlib.Core.Path.{◌≡◌, sym, subst}
use native.Mathlib.Nat.{le_refl}
use native.Mathlib.Omega.{arith}
use mir.Facts.{T_not-not}
use lib.Dec.{T, eqb, ltb, ltb→lt, nltb→le, eqb→eq}
use lib.Ieee.{Float}
use lib.ListN.{length}
use Rattle.section.specs.profile.Refusals.{refusal}
use Rattle.section.proofs.profile.Each.{All, cons}
use Rattle.section.proofs.profile.Refusals.Ordered.{Passes, none_applies}
use Rattle.capi.specs.lists.Lists.{one_body_tests, lists_tests, front_of}

passed_count : {n k : ℕ} → T (not (not (eqb n k))) → n ≡ k
passed_count {n} {k} h = eqb→eq n k (T_not-not (eqb n k) h)

-- one body
pub seven_given : (kind : ℕ) (l : List Float) → refusal (one_body_tests kind l) ≡ 0 → 7 ≤ length l
seven_given kind l e = go (none_applies (one_body_tests kind l) tt e)
  where
    at_least : {n : ℕ} → n ≡ 7 → 7 ≤ n
    at_least f = omega arith

    go : All Passes (one_body_tests kind l) → 7 ≤ length l
    go (cons h k) = at_least (passed_count h)

-- an assembly
pub seven_each : (kinds : List ℕ) (numbers : List Float) → refusal (lists_tests kinds numbers) ≡ 0
    → length numbers ≡ 7 * length kinds
seven_each kinds numbers e = go (none_applies (lists_tests kinds numbers) tt e)
  where
    go : All Passes (lists_tests kinds numbers) → length numbers ≡ 7 * length kinds
    go (cons h k) = passed_count h

-- how many are read
pub front_cases : (P : ℕ → Type 0) (count : ℕ) → (64 < count → P 0) → (count ≤ 64 → P count) → P (front_of count)
front_cases P count f g = go (ltb 64 count) (ltb→lt 64 count) (nltb→le 64 count)
  where
    go : (b : Bool) → (T b → 64 < count) → (T (not b) → count ≤ 64) → P (cond b 0 count)
    go true h k = f (h tt)
    go false h k = g (k tt)

pub front_few : (count : ℕ) {n : ℕ} → n ≡ front_of count → (n ≤ 64) × (n ≤ count)
front_few count e =
    subst (λ (n : ℕ). (n ≤ 64) × (n ≤ count)) (sym e)
    (front_cases (λ (n : ℕ). (n ≤ 64) × (n ≤ count)) count (λ h. (omega arith, omega arith)) (λ h. (h, le_refl count)))
