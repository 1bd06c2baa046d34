-- Where an add goes: the record is the lowest that the chain does not hold. Idea: the search's own recursion.
use Prim.Native.Nat.{ℕ, zero, suc, ◌+◌, ◌<◌, ◌≤◌}
use native.Mathlib.Omega.{arith}
use mathlib.Core.Bool.{Bool, true, false, cond}
use mathlib.Core.List.{List}
use mathlib.Core.Path.{◌≡◌, refl, subst}
use lib.Dec.{eqb}
use borrow.Author.Tests.{eqb-true, eqb-false}
use lib.Arith.{lt_of_le-ne}
use Rattle.store.specs.Records.{records}
use Rattle.store.specs.Chain.{member}
use Rattle.store.specs.Store.{chained}
use Rattle.store.specs.edits.Written.{lowest_from, free_record}
use Rattle.store.proofs.edits.Whole.{Whole}

pub record Lowest (ks : List ℕ) (left m r : ℕ) : Type 0 where
  pub bound : r ≤ m + left
  pub lower : (j : ℕ) → m ≤ j → j < r → member j ks ≡ true
  pub free : r < m + left → member r ks ≡ false

pub lowest : (ks : List ℕ) (left m : ℕ) → Lowest ks left m (lowest_from ks left m)
unfolding lowest_from
lowest ks zero m =
    record { bound = omega arith; lower = λ j a h. absurd (omega arith); free = λ h. absurd (omega arith) }
lowest ks (suc left) m = go (member m ks) refl (lowest ks left (m + 1))
  where
    go : (there : Bool) → member m ks ≡ there → Lowest ks left (m + 1) (lowest_from ks left (m + 1))
        → Lowest ks (suc left) m (cond there (lowest_from ks left (m + 1)) m)
    go true e rest =
        record {
          bound = omega (arith, rest.bound);
          lower = λ j a h. by_first j a h (eqb m j) refl;
          free = λ h. rest.free (omega arith);
        }
      where
        by_first :
            (j : ℕ) → m ≤ j → j < lowest_from ks left (m + 1) → (same : Bool) → eqb m j ≡ same → member j ks ≡ true
        by_first j a h true q = subst (λ (i : ℕ). member i ks ≡ true) (eqb-true m j q) e
        by_first j a h false q = let more : m < j = lt_of_le-ne a (eqb-false m j q) in rest.lower j (omega arith) h
    go false e rest =
        record { bound = omega arith; lower = λ j a h. absurd (omega arith); free = λ h. e }

module _ (b : List ℕ) (w : Whole b (chained b)) where
  found : Lowest (chained b) (records b) 0 (free_record b)
  unfolding free_record
  found = lowest (chained b) (records b) 0

  pub free_bound : free_record b ≤ records b
  free_bound = omega (arith, found.bound)

  pub free_lowest : (j : ℕ) → j < free_record b → member j (chained b) ≡ true
  free_lowest j h = found.lower j (omega arith) h

  pub free_unreached : member (free_record b) (chained b) ≡ false
  free_unreached = go (member (free_record b) (chained b)) refl
    where
      go : (there : Bool) → member (free_record b) (chained b) ≡ there → member (free_record b) (chained b) ≡ false
      go false e = e
      go true e = found.free (omega (arith, w.within (free_record b) e))
