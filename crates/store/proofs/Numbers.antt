-- The numbers that the parts of the verdict give: each part has its own, and an answer has another's only from that part.
use Prim.Native.Nat.{ℕ, zero, suc, ◌≤◌}
use mathlib.Core.Bool.{Bool, true, false, cond, true≢false}
use mathlib.Core.List.{List, [], ◌∷◌}
use mathlib.Core.Path.{◌≡◌, refl, sym, ◌∙◌}
use lib.Ieee.{Float}
use Rattle.section.specs.profile.Refusals.{list_tests}
use Rattle.section.proofs.profile.Refusals.Ordered.{refusal_most}
use Rattle.store.specs.First.{first_refused}
use Rattle.store.specs.Chain.{Chain, whole, broken}
use Rattle.store.specs.Store.{and_then, numbered, links_answer, section_answer}
use Rattle.store.specs.Answers.{StoreAnswer, Accepted, Refused}

-- refused with a number of which the test is true
abbrev pub refused_by : (ℕ → Bool) → StoreAnswer → Bool
refused_by test Accepted = false
refused_by test (Refused n k) = test n

module _ (test : ℕ → Bool) where
  -- ---- the parts
  pub links_other : test 13 ≡ false → (c : Chain) → refused_by test (links_answer c) ≡ false
  links_other e (whole ks) = refl
  links_other e (broken k) = e

  pub first_other : (n : ℕ) (of : ℕ → Bool) → test n ≡ false → (ks : List ℕ) → refused_by test (first_refused n of ks) ≡ false
  unfolding first_refused
  first_other n of e [] = refl
  first_other n of e (k ∷ ks) = go (of k) (first_other n of e ks)
    where
      go :
          (found : Bool) → refused_by test (first_refused n of ks) ≡ false
          → refused_by test (cond found (Refused n k) (first_refused n of ks)) ≡ false
      go true rest = e
      go false rest = rest

  number_other : (n : ℕ) → test n ≡ false → refused_by test (numbered n) ≡ false
  number_other zero e = refl
  number_other (suc n) e = e

  pub section_other : ((n : ℕ) → n ≤ 5 → test n ≡ false) → (s : List Float) → refused_by test (section_answer s) ≡ false
  unfolding section_answer
  section_other small s = number_other _ (small _ (refusal_most 5 (list_tests 3 256 s) tt))

  -- ---- one after the other
  pub other_later :
      (a c : StoreAnswer) → refused_by test a ≡ false → refused_by test c ≡ false → refused_by test (and_then a c) ≡ false
  other_later Accepted c p q = q
  other_later (Refused n k) c p q = p

  pub same_later : (a c : StoreAnswer) → refused_by test c ≡ false → refused_by test (and_then a c) ≡ refused_by test a
  same_later Accepted c q = q
  same_later (Refused n k) c q = refl

  pub first_alone :
      (a c : StoreAnswer) → refused_by test c ≡ false → refused_by test (and_then a c) ≡ true → and_then a c ≡ a
  first_alone Accepted c q h = absurd (true≢false (sym h ∙ q))
  first_alone (Refused n k) c q h = refl

  pub second_alone :
      (a c : StoreAnswer) → refused_by test a ≡ false → refused_by test (and_then a c) ≡ true → and_then a c ≡ c
  second_alone Accepted c p h = refl
  second_alone (Refused n k) c p h = absurd (true≢false (sym h ∙ p))
