-- A lent array that is filled from its front on, or a refusal.
use Prim.Native.Nat.{ℕ, ◌≤◌}
use mathlib.Core.List.{List}
use mathlib.Core.Path.{◌≡◌, refl, sym}
use native.Mathlib.Omega.{arith}
use lib.ListN.{take}
use Rattle.std.specs.Prelude.{Result, Ok, Err}
use Rattle.std.specs.Result.{result_unwrap_or}
use Rattle.section.specs.profile.Numbers.{refusal_number}
use Rattle.store.specs.Answers.{StoreAnswer, Accepted, Refused}
use Rattle.store.specs.Store.{and_then}
use Rattle.store.specs.Steps.{Fills, FilledTo}
use Rattle.store.specs.declared.answers.RefusedStore.{RefusedStore}

never : {n : ℕ} {e : RefusedStore} → ◌≡◌ {A = Result ℕ RefusedStore} (Ok n) (Err e) → ⊥
never same = let z : ◌≡◌ {A = ℕ} 0 1 = cc in omega arith

same_front : {m n : ℕ} → ◌≡◌ {A = Result ℕ RefusedStore} (Ok m) (Ok n) → m ≡ n
same_front same = cc

same_refusal : {d e : RefusedStore} → ◌≡◌ {A = Result ℕ RefusedStore} (Err d) (Err e) → d ≡ e
same_refusal same = cc

module _ {A : Type 0} {a : StoreAnswer} {xs after : List A} where
  pub fills_front : {m : ℕ} → a ≡ Accepted → take m after ≡ xs → m ≤ 512 → Fills a xs (Ok m) after
  fills_front good front small =
      record {
        accepted = λ n e. rw (← same_front e) (record { good = good; front = front; small = small });
        refused = λ e same. absurd (never same);
      }

  pub fills_refused : {d : RefusedStore} → a ≡ Refused (refusal_number d.refusal) d.at → Fills a xs (Err d) after
  fills_refused bad =
      record {
        accepted = λ m e. absurd (never (sym e));
        refused = λ e same. rw (← same_refusal same) bad;
      }

-- what is not refused is filled
pub filled_by :
    {A : Type 0} {a : StoreAnswer} {xs after : List A} (r : Result ℕ RefusedStore) → Fills a xs r after
    → ((n k : ℕ) → a ≡ Refused n k → ⊥) → FilledTo a xs (result_unwrap_or r 0) after
filled_by (Ok n) h fine = h.accepted n refl
filled_by (Err e) h fine = absurd (fine _ _ (h.refused e refl))

-- a refusal stands, an accepted part leaves it to the next
module _ {A : Type 0} {a : StoreAnswer} (rest : StoreAnswer) {xs after : List A} where
  pub fills_sooner :
      {d : RefusedStore} → a ≡ Refused (refusal_number d.refusal) d.at → Fills (and_then a rest) xs (Err d) after
  fills_sooner bad = fills_refused (rw bad)

  pub fills_later :
      {r : Result ℕ RefusedStore} → a ≡ Accepted → Fills rest xs r after → Fills (and_then a rest) xs r after
  fills_later good h = rw good h
