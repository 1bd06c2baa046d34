-- The chain's definition counts records down only to end: with more to count it gives the same. Idea: each record that is
-- passed is one more of the numbers below the count of records that the list of passed ones holds.
use Prim.Native.Nat.{ℕ, zero, suc, ◌+◌, ◌<◌, ◌≤◌}
use native.Mathlib.Nat.{zero-add, suc-add}
use native.Mathlib.Omega.{arith}
use mathlib.Core.Bool.{Bool, true, false, ◌||◌, cond, or-true, or-false}
use mathlib.Core.List.{List, [], ◌∷◌, ◌++◌}
use mathlib.Core.Path.{◌≡◌, refl, ap, ◌∙◌}
use lib.Dec.{eqb, leb}
use borrow.Author.Tests.{ne_eqb, eqb-true, eqb-false, leb-true, leb-false}
use Rattle.section.specs.profile.Refusals.{any_of}
use Rattle.store.specs.Records.{records, next}
use Rattle.store.specs.Chain.{Chain, whole, broken, member, follow, chain}
use Rattle.store.proofs.Following.{member_snoc}

abbrev one : Bool → ℕ
one t = cond t 1 0

-- how many of the numbers below n the list holds
unfoldable held : ℕ → List ℕ → ℕ
held zero l = 0
held (suc n) l = held n l + one (member n l)

at_most_one : (t : Bool) → one t ≤ 1
at_most_one true = omega arith
at_most_one false = omega arith

held_most : (n : ℕ) (l : List ℕ) → held n l ≤ n
unfolding held
held_most zero l = omega arith
held_most (suc n) l = omega (arith, held_most n l, at_most_one (member n l))

other_member : (i m : ℕ) (l : List ℕ) → eqb i m ≡ false → member i (l ++ (m ∷ [])) ≡ member i l
other_member i m l e = member_snoc i m l ∙ rw (e, or-false)

held_same : (n m : ℕ) (l : List ℕ) → n ≤ m → held n (l ++ (m ∷ [])) ≡ held n l
unfolding held
held_same zero m l h = refl
held_same (suc n) m l h =
    rw (held_same n m l (omega arith), other_member n m l (ne_eqb n m (λ e. omega arith)))

below : (m n : ℕ) → m < suc n → (n ≡ m → ⊥) → m < n
below m n h other = go (leb n m) refl
  where
    go : (t : Bool) → leb n m ≡ t → m < n
    go true e = let le : n ≤ m = leb-true n m e in absurd (other (omega arith))
    go false e = leb-false n m e

-- a number that is new makes one more: by whether it is n itself
module _ (n m : ℕ) (l : List ℕ) (h : m < suc n) (new : member m l ≡ false) where
  last_held :
      (same : Bool) → eqb n m ≡ same → (m < n → held n (l ++ (m ∷ [])) ≡ held n l + 1)
      → held n (l ++ (m ∷ [])) + one (member n (l ++ (m ∷ []))) ≡ held n l + one (member n l) + 1
  last_held true e rest =
      let same : n ≡ m = eqb-true n m e in
      let hit : member n (l ++ (m ∷ [])) ≡ true = member_snoc n m l ∙ rw (e, or-true) in
      let miss : member n l ≡ false = ap (λ (j : ℕ). member j l) same ∙ new in
      rw (held_same n m l (omega arith), hit, miss) (omega arith)
  last_held false e rest = rw (rest (below m n h (eqb-false n m e)), other_member n m l e) (omega arith)

held_more : (n m : ℕ) (l : List ℕ) → m < n → member m l ≡ false → held n (l ++ (m ∷ [])) ≡ held n l + 1
unfolding held
held_more zero m l h new = absurd (omega arith)
held_more (suc n) m l h new = last_held n m l h new (eqb n m) refl (λ more. held_more n m l more new)

-- one test or the other stops both chains alike
unless :
    (past again : Bool) (x : Chain) {y z : Chain} → (past ≡ false → again ≡ false → y ≡ z)
    → cond (past || again) x y ≡ cond (past || again) x z
unless true again x h = refl
unless false true x h = refl
unless false false x h = h refl refl

module _ (b : List ℕ) where
  one_more :
      (left : ℕ) (passed : List ℕ) (k : ℕ) → k < records b → member k passed ≡ false
      → records b ≤ held (records b) passed + left → follow b (suc left) passed k ≡ follow b left passed k
  unfolding follow
  one_more zero passed k here new enough =
      absurd (omega (arith, held_more (records b) k passed here new, held_most (records b) (passed ++ (k ∷ []))))
  one_more (suc left) passed k here new enough =
      ap (λ (rest : Chain). cond (eqb (next b k) 0) (whole (passed ++ (k ∷ []))) rest)
      (unless (leb (records b) (next b k)) (member (next b k) (passed ++ (k ∷ []))) (broken k) λ within first.
      one_more left (passed ++ (k ∷ [])) (next b k) (leb-false (records b) (next b k) within) first
      (omega (arith, held_more (records b) k passed here new)))

  -- whatever is counted down from beyond the number of records
  pub counted_enough : (more : ℕ) → 1 ≤ records b → follow b (more + records b) [] 0 ≡ chain b
  unfolding chain any_of
  counted_enough zero some = rw zero-add
  counted_enough (suc more) some =
      rw suc-add (one_more (more + records b) [] 0 (omega arith) refl (omega arith)) ∙ counted_enough more some
