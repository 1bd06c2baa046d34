-- A chain passes each record at most once: a sum over its records is at most the sum over all numbers below the count.
-- By marks: what is added when a record is passed is what its mark adds.
use Prim.Native.Nat.{ℕ, zero, suc, ◌+◌, ◌<◌, ◌≤◌}
use native.Mathlib.Nat.{le_refl, eq-or-lt_of_le}
use native.Mathlib.Omega.{arith}
use mathlib.Core.Bool.{Bool, true, false, ◌||◌, cond, or-true, or-false}
use mathlib.Core.List.{List, [], ◌∷◌, ◌++◌}
use mathlib.Core.Logic.{⊎_elim}
use mathlib.Core.Path.{◌≡◌, refl, sym, ap, subst, ◌∙◌}
use lib.Dec.{eqb, leb}
use borrow.Author.Tests.{ne_eqb, eq-eqb, leb-false}
use Rattle.section.specs.profile.Refusals.{any_of}
use Rattle.store.specs.Records.{records, next}
use Rattle.store.specs.Chain.{Chain, whole, broken, member, follow, chain}
use Rattle.store.proofs.Following.{member_snoc}

not_broken : {k : ℕ} {ks : List ℕ} → broken k ≡ whole ks → ⊥
not_broken e = let z : ◌≡◌ {A = ℕ} 0 1 = cc in omega arith

same_list : {l ks : List ℕ} → whole l ≡ whole ks → l ≡ ks
same_list e = cc

module _ (f : ℕ → ℕ) where
  abbrev pub sum_over : List ℕ → ℕ
  sum_over [] = 0
  sum_over (k ∷ ks) = f k + sum_over ks

  unfoldable pub sum_below : ℕ → ℕ
  sum_below zero = 0
  sum_below (suc n) = sum_below n + f n

  -- the sum of those below n that are among l
  abbrev sum_marked : List ℕ → ℕ → ℕ
  sum_marked l zero = 0
  sum_marked l (suc n) = sum_marked l n + cond (member n l) (f n) 0

  over_snoc : (l : List ℕ) (k : ℕ) → sum_over (l ++ (k ∷ [])) ≡ sum_over l + f k
  over_snoc [] k = omega arith
  over_snoc (x ∷ l) k = omega (arith, over_snoc l k)

  -- a new number changes nothing below it, and adds its own part above
  same_below : (l : List ℕ) (m n : ℕ) → n ≤ m → sum_marked (l ++ (m ∷ [])) n ≡ sum_marked l n
  same_below l m zero h = refl
  same_below l m (suc n) h =
      let other : eqb n m ≡ false = ne_eqb n m (λ e. omega arith) in
      rw (same_below l m n (omega arith), member_snoc n m l, other, or-false)

  at_itself : (l : List ℕ) (m : ℕ) → member m l ≡ false → sum_marked (l ++ (m ∷ [])) (suc m) ≡ sum_marked l (suc m) + f m
  at_itself l m new =
      rw (same_below l m m (le_refl m), member_snoc m m l, eq-eqb m m refl, or-true, new) (omega arith)

  one_more :
      (l : List ℕ) (m n : ℕ) → m < n → member m l ≡ false → sum_marked (l ++ (m ∷ [])) n ≡ sum_marked l n + f m
  one_more l m zero h new = absurd (omega arith)
  one_more l m (suc n) h new =
      ⊎_elim
      (λ (e : m ≡ n).
      subst (λ (j : ℕ). sum_marked (l ++ (m ∷ [])) (suc j) ≡ sum_marked l (suc j) + f m) e (at_itself l m new))
      (λ (less : m < n).
      let other : eqb n m ≡ false = ne_eqb n m (λ e. omega arith) in
      rw (one_more l m n less new, member_snoc n m l, other, or-false) (omega arith))
      (eq-or-lt_of_le (omega arith))

  part : (marked : Bool) (x : ℕ) → cond marked x 0 ≤ x
  part true x = omega arith
  part false x = omega arith

  at_most : (l : List ℕ) (n : ℕ) → sum_marked l n ≤ sum_below n
  unfolding sum_below
  at_most l zero = omega arith
  at_most l (suc n) = omega (arith, at_most l n, part (member n l) (f n))

  more_below : (n m : ℕ) → n ≤ m → sum_below n ≤ sum_below m
  unfolding sum_below
  more_below n zero h = let e : 0 ≡ n = omega arith in subst (λ (k : ℕ). sum_below k ≤ 0) e (le_refl 0)
  more_below n (suc m) h =
      ⊎_elim
      (λ (e : n ≡ suc m). subst (λ (k : ℕ). sum_below n ≤ sum_below k) e (le_refl (sum_below n)))
      (λ (less : n < suc m). omega (arith, more_below n m (omega arith)))
      (eq-or-lt_of_le h)

  -- ---- along the chain
  abbrev Summed : ℕ → List ℕ → Type 0
  Summed n l = sum_over l ≡ sum_marked l n

  summed_more : (n : ℕ) (l : List ℕ) (m : ℕ) → Summed n l → m < n → member m l ≡ false → Summed n (l ++ (m ∷ []))
  summed_more n l m sum h new = over_snoc l m ∙ ap (λ (s : ℕ). s + f m) sum ∙ sym (one_more l m n h new)

  -- one step of the chain that ends whole: it ends here, or goes on to a record below n that is new
  step_whole :
      (n k m : ℕ) (l ks : List ℕ) (rest : Chain) (end past seen : Bool) → leb n m ≡ past → member m l ≡ seen
      → cond end (whole l) (cond (past || seen) (broken k) rest) ≡ whole ks → Summed n l
      → (m < n → member m l ≡ false → rest ≡ whole ks → Summed n ks) → Summed n ks
  step_whole n k m l ks rest true past seen ep es h sum go = subst (Summed n) (same_list h) sum
  step_whole n k m l ks rest false true seen ep es h sum go = absurd (not_broken h)
  step_whole n k m l ks rest false false true ep es h sum go = absurd (not_broken h)
  step_whole n k m l ks rest false false false ep es h sum go = go (leb-false n m ep) es h

  follow_sums :
      (b : List ℕ) (left : ℕ) (passed : List ℕ) (k : ℕ) (ks : List ℕ) → follow b left passed k ≡ whole ks
      → Summed (records b) passed → k < records b → member k passed ≡ false → Summed (records b) ks
  unfolding follow
  follow_sums b zero passed k ks h sum below new = absurd (not_broken h)
  follow_sums b (suc left) passed k ks h sum below new =
      step_whole (records b) k (next b k) (passed ++ (k ∷ [])) ks _ (eqb (next b k) 0) _ _ refl refl h
      (summed_more (records b) passed k sum below new)
      (λ less fresh rest. follow_sums b left (passed ++ (k ∷ [])) (next b k) ks rest
      (summed_more (records b) passed k sum below new) less fresh)

  -- a sum over the chained records, at most that over all numbers below `top`
  pub chain_sum :
      (b ks : List ℕ) (top : ℕ) → chain b ≡ whole ks → 1 ≤ records b → records b ≤ top → sum_over ks ≤ sum_below top
  unfolding chain any_of
  chain_sum b ks top h some most =
      omega (
        arith,
        follow_sums b (records b) [] 0 ks h (empty (records b)) (omega arith) refl,
        at_most ks (records b),
        more_below (records b) top most,
      )
    where
      empty : (n : ℕ) → 0 ≡ sum_marked [] n
      empty zero = refl
      empty (suc n) = rw (← empty n)
