-- How the chain follows the next fields: where those of its records stay, it stays; where only the last one's next comes
-- to lead to an unreached record whose next is 0, it is the old chain with that record behind it. Idea: both chains are
-- walked together.
use Prim.Native.Nat.{ℕ, suc, ◌<◌, ◌≤◌}
use native.Mathlib.Omega.{arith}
use mathlib.Core.Bool.{true, false}
use mathlib.Core.List.{List, [], ◌∷◌, ◌++◌}
use mathlib.Core.Path.{◌≡◌, sym, ap, ◌∙◌}
use borrow.Author.Tests.{ne_eqb, lt-leb}
use Rattle.store.specs.Records.{records, next}
use Rattle.store.specs.Chain.{whole, member, follow, chain}
use Rattle.store.proofs.edits.Members.{not_both, member_new, last_of_more}
use Rattle.store.proofs.edits.Walking.{Ended, walked}
use Rattle.store.proofs.edits.Whole.{last, Whole, follow_holds}

module _ (b : List ℕ) (left : ℕ) (passed : List ℕ) (k : ℕ) where
  follow_on :
      (m : ℕ) → next b k ≡ m → (m ≡ 0 → ⊥) → m < records b → member m (passed ++ (k ∷ [])) ≡ false
      → follow b (suc left) passed k ≡ follow b left (passed ++ (k ∷ [])) m
  unfolding follow
  follow_on m read more small new = rw (read, ne_eqb m 0 more, lt-leb (records b) m small, new)

  follow_ends : next b k ≡ 0 → follow b (suc left) passed k ≡ whole (passed ++ (k ∷ []))
  unfolding follow
  follow_ends read = rw read

module _ (b b' ks : List ℕ) (is : chain b ≡ whole ks) where
  pub chain_kept :
      records b' ≡ records b → ((j : ℕ) → member j ks ≡ true → next b' j ≡ next b j) → chain b' ≡ whole ks
  unfolding chain
  chain_kept count same =
      result (walked b ks (λ (left : ℕ) (passed : List ℕ) (k : ℕ). chain b' ≡ follow b' left passed k)
      (λ left passed k now f more small new.
      now ∙ follow_on b' left passed k (next b k) (same k (follow_holds b ks (suc left) passed k f)) more (omega arith) new)
      (records b) [] 0 (ap (λ (n : ℕ). follow b' n [] 0) count) is)
    where
      result : Ended b ks (λ (left : ℕ) (passed : List ℕ) (k : ℕ). chain b' ≡ follow b' left passed k) → chain b' ≡ whole ks
      result w =
          w.holds
          ∙ follow_ends b' w.left w.passed w.here
          (same w.here (rw w.all (member_new w.passed w.here)) ∙ w.end)
          ∙ ap whole (sym w.all)

  module _
      (m : ℕ) (w₀ : Whole b ks) (fuel : chain b' ≡ follow b' (suc (records b)) [] 0) (more : records b ≤ records b')
      (new : member m ks ≡ false) (there : m < records b') (link : next b' (last ks) ≡ m) (end : next b' m ≡ 0)
      (same : (j : ℕ) → member j ks ≡ true → (next b j ≡ 0 → ⊥) → next b' j ≡ next b j)
    where
      not_zero : m ≡ 0 → ⊥
      not_zero e = not_both w₀.first (rw e at new)

      result :
          Ended b ks (λ (left : ℕ) (passed : List ℕ) (k : ℕ). chain b' ≡ follow b' (suc left) passed k)
          → chain b' ≡ whole (ks ++ (m ∷ []))
      result w =
          w.holds
          ∙ follow_on b' (suc w.left) w.passed w.here m
          (ap (next b') (sym (last_of_more w.passed w.here) ∙ sym (ap last w.all)) ∙ link) not_zero there
          (rw w.all at new)
          ∙ follow_ends b' w.left (w.passed ++ (w.here ∷ [])) m end
          ∙ ap (λ (l : List ℕ). whole (l ++ (m ∷ []))) (sym w.all)

      pub chain_grown : chain b' ≡ whole (ks ++ (m ∷ []))
      unfolding chain
      chain_grown =
          result (walked b ks (λ (left : ℕ) (passed : List ℕ) (k : ℕ). chain b' ≡ follow b' (suc left) passed k)
          (λ left passed k now f go small first.
          now ∙ follow_on b' (suc left) passed k (next b k) (same k (follow_holds b ks (suc left) passed k f) go) go
          (omega arith) first)
          (records b) [] 0 fuel is)
