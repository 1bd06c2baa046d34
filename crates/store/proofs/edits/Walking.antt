-- A chain that is whole, followed to its end: what holds at its first record and goes on from each record to the next
-- holds at its last. Idea: the recursion of `follow`, once for all that is shown by it.
use Prim.Native.Nat.{ℕ, zero, suc, ◌<◌}
use native.Mathlib.Omega.{arith}
use mathlib.Core.Bool.{Bool, true, false, ◌||◌, cond}
use mathlib.Core.List.{List, [], ◌∷◌, ◌++◌}
use mathlib.Core.Path.{◌≡◌, refl}
use lib.Dec.{eqb, leb}
use borrow.Author.Tests.{eqb-true, eqb-false, leb-false}
use Rattle.store.specs.Records.{records, next}
use Rattle.store.specs.Chain.{whole, broken, member, follow}

-- where the walk ends: at record k, with `passed` behind it, which together are ks
pub record Ended (b ks : List ℕ) (P : ℕ → List ℕ → ℕ → Type 0) : Type 0 where
  pub left : ℕ
  pub passed : List ℕ
  pub here : ℕ
  pub holds : P (suc left) passed here
  pub all : ks ≡ passed ++ (here ∷ [])
  pub end : next b here ≡ 0

never : {k : ℕ} {ks : List ℕ} → broken k ≡ whole ks → ⊥
never e = let z : ◌≡◌ {A = ℕ} 0 1 = cc in omega arith

same_list : {ks ls : List ℕ} → whole ks ≡ whole ls → ls ≡ ks
same_list e = cc

neither : (p q : Bool) → (p || q) ≡ false → (p ≡ false) × (q ≡ false)
neither true q e = absurd (let z : ◌≡◌ {A = ℕ} 0 1 = cc in omega arith)
neither false q e = (refl, e)

module _
    (b ks : List ℕ) (P : ℕ → List ℕ → ℕ → Type 0)
    (on :
    (left : ℕ) (passed : List ℕ) (k : ℕ) → P (suc left) passed k → follow b (suc left) passed k ≡ whole ks
    → (next b k ≡ 0 → ⊥) → next b k < records b → member (next b k) (passed ++ (k ∷ [])) ≡ false
    → P left (passed ++ (k ∷ [])) (next b k))
  where
    one_step :
        (left : ℕ) (passed : List ℕ) (k : ℕ) → P (suc left) passed k → follow b (suc left) passed k ≡ whole ks
        → (P left (passed ++ (k ∷ [])) (next b k) → follow b left (passed ++ (k ∷ [])) (next b k) ≡ whole ks → Ended b ks P)
        → (stop : Bool) → eqb (next b k) 0 ≡ stop
        → (bad : Bool) → (leb (records b) (next b k) || member (next b k) (passed ++ (k ∷ []))) ≡ bad
        → cond stop (whole (passed ++ (k ∷ []))) (cond bad (broken k) (follow b left (passed ++ (k ∷ [])) (next b k))) ≡ whole ks
        → Ended b ks P
    one_step left passed k now e rest true stops bad t found =
        record {
          left = left;
          passed = passed;
          here = k;
          holds = now;
          all = same_list found;
          end = eqb-true (next b k) 0 stops;
        }
    one_step left passed k now e rest false stops true t found = absurd (never found)
    one_step left passed k now e rest false stops false t found =
        let h = neither (leb (records b) (next b k)) (member (next b k) (passed ++ (k ∷ []))) t in
        rest (on left passed k now e (eqb-false (next b k) 0 stops) (leb-false (records b) (next b k) h.0) h.1) found

    pub walked : (left : ℕ) (passed : List ℕ) (k : ℕ) → P left passed k → follow b left passed k ≡ whole ks → Ended b ks P
    unfolding follow
    walked zero passed k now e = absurd (never e)
    walked (suc left) passed k now e =
        one_step left passed k now e (walked left (passed ++ (k ∷ [])) (next b k)) (eqb (next b k) 0) refl
        (leb (records b) (next b k) || member (next b k) (passed ++ (k ∷ []))) refl e
