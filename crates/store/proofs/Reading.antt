-- The verdict on a store, part by part: the length, the links, the kinds, the section and the radii.
use Prim.Native.Nat.{ℕ, zero, suc, ◌*◌, ◌/◌, ◌%◌, ◌<◌, ◌≤◌}
use native.Mathlib.Omega.{arith}
use mathlib.Core.Bool.{not}
use mathlib.Core.List.{List, [], ◌∷◌}
use mathlib.Core.Path.{◌≡◌, refl, ◌∙◌}
use lib.ListN.{length}
use lib.Dec.{T, eqb, ltb, nltb→le}
use lib.Ieee.{Float}
use borrow.Author.Tests.{ne_eqb, lt-ltb, le-ltb}
use Rattle.section.specs.declared.shapes.Refusal.{Refusal}
use Rattle.section.specs.profile.Numbers.{refusal_number}
use Rattle.section.specs.profile.Refusals.{◌when◌, any_of, list_tests, refusal}
use Rattle.section.proofs.profile.Numbered.{above_zero}
use Rattle.section.proofs.profile.Each.{All, nil, cons}
use Rattle.section.proofs.profile.Refusals.Ordered.{Passes, none_applies}
use Rattle.section.proofs.profile.Refusals.Passed.{Counted, list_counted}
use Rattle.store.specs.Records.{records}
use Rattle.store.specs.Chain.{Chain, whole, broken, chain, in_order}
use Rattle.store.specs.Kinds.{kinds_answer}
use Rattle.store.specs.Radii.{radii_answer}
use Rattle.store.specs.Store.{and_then, length_answer, links_answer, vertices, numbered, section_answer, chained, store_answer}
use Rattle.store.specs.Answers.{StoreAnswer, Accepted, Refused}

never : {n k : ℕ} → Refused n k ≡ Accepted → ⊥
never e = let z : ◌≡◌ {A = ℕ} 0 1 = cc in omega arith

none_numbered : (n : ℕ) → numbered n ≡ Accepted → n ≡ 0
none_numbered zero e = refl
none_numbered (suc n) e = absurd (never e)

-- an accepted length is that of 1 to 512 records
pub record Whole (n : ℕ) : Type 0 where
  pub even : n % 40 ≡ 0
  pub some : 1 ≤ n / 40
  pub most : n / 40 ≤ 512

some_bytes : (n : ℕ) → T (not (eqb n 0)) → 1 ≤ n
some_bytes zero h = absurd h
some_bytes (suc n) h = omega arith

pub length_accepted : (n : ℕ) → length_answer n ≡ Accepted → Whole n
unfolding length_answer
length_accepted n e = go (none_applies _ tt (none_numbered _ e))
  where
    go : All Passes ((12 when ltb 0 (n % 40)) ∷ (15 when eqb n 0) ∷ (16 when ltb 512 (n / 40)) ∷ []) → Whole n
    go (cons a (cons b (cons c nil))) =
        let even = nltb→le 0 (n % 40) a in
        record {
          even = omega arith;
          some = omega (arith, some_bytes n b);
          most = nltb→le 512 (n / 40) c;
        }

numbered_refused : (n : ℕ) → (n ≡ 0 → ⊥) → numbered n ≡ Refused n 0
numbered_refused zero h = absurd (h refl)
numbered_refused (suc n) h = refl

-- the section's number
pub section_refused :
    {t s : List Float} (e : Refusal) → t ≡ s → refusal_number e ≡ refusal (list_tests 3 256 t)
    → section_answer s ≡ Refused (refusal_number e) 0
unfolding section_answer
section_refused e same h = rw (← same, ← h) (numbered_refused _ (above_zero e))

pub section_fine : {t s : List Float} → t ≡ s → 0 ≡ refusal (list_tests 3 256 t) → section_answer s ≡ Accepted
unfolding section_answer
section_fine same h = rw (← same, ← h)

-- an accepted section has none of the numbers, and 3 to 256 vertices
pub section_passes : (s : List Float) → section_answer s ≡ Accepted → refusal (list_tests 3 256 s) ≡ 0
unfolding section_answer
section_passes s e = none_numbered (refusal (list_tests 3 256 s)) e

pub section_accepted : (s : List Float) → section_answer s ≡ Accepted → Counted 3 256 s
section_accepted s e = list_counted 3 256 s (section_passes s e)

pub too_many : (s : List Float) (n : ℕ) → length s ≡ n * 2 → 256 < n → section_answer s ≡ Refused 3 0
unfolding section_answer refusal any_of
too_many s n e h =
    rw (e, ne_eqb (n * 2 % 2) 1 (omega arith), le-ltb (n * 2 / 2) 3 (omega arith), lt-ltb 256 (n * 2 / 2) (omega arith))

-- an accepted store is accepted in every part
both : (a c : StoreAnswer) → and_then a c ≡ Accepted → (a ≡ Accepted) × (c ≡ Accepted)
both Accepted c e = (refl, e)
both (Refused n k) c e = absurd (never e)

whole_chain : (c : Chain) → links_answer c ≡ Accepted → c ≡ whole (in_order c)
whole_chain (whole ks) e = refl
whole_chain (broken k) e = absurd (never e)

pub record AcceptedStore (b : List ℕ) : Type 0 where
  pub some : 1 ≤ records b
  pub most : records b ≤ 512
  pub links : chain b ≡ whole (chained b)
  pub kinds : kinds_answer b (chained b) ≡ Accepted
  pub section : section_answer (vertices b (chained b)) ≡ Accepted
  pub radii : radii_answer b (chained b) ≡ Accepted

pub accepted_sound : (b : List ℕ) → store_answer b ≡ Accepted → AcceptedStore b
unfolding store_answer chained
accepted_sound b e =
    let first = both (length_answer (length b)) _ e in
    let second = both (links_answer (chain b)) _ first.1 in
    let third = both (kinds_answer b (in_order (chain b))) _ second.1 in
    let fourth = both (section_answer (vertices b (in_order (chain b)))) _ third.1 in
    let size = length_accepted (length b) first.0 in
    record {
      some = size.some;
      most = size.most;
      links = whole_chain (chain b) second.0;
      kinds = third.0;
      section = fourth.0;
      radii = fourth.1;
    }

-- a store's answer is that of its length and links, or else that of its kinds, section and radii
then_then : (a b c : StoreAnswer) → and_then a (and_then b c) ≡ and_then (and_then a b) c
then_then Accepted b c = refl
then_then (Refused n k) b c = refl

module _ (b : List ℕ) where
  parts :
      store_answer b
      ≡ and_then (and_then (length_answer (length b)) (links_answer (chain b)))
      (and_then (kinds_answer b (chained b)) (and_then (section_answer (vertices b (chained b))) (radii_answer b (chained b))))
  unfolding store_answer
  parts = then_then (length_answer (length b)) (links_answer (chain b)) _

  pub refused_first :
      {n k : ℕ} → and_then (length_answer (length b)) (links_answer (chain b)) ≡ Refused n k → store_answer b ≡ Refused n k
  refused_first e = parts ∙ rw e

  pub decided_second :
      {ks : List ℕ} {a : StoreAnswer} → and_then (length_answer (length b)) (links_answer (chain b)) ≡ Accepted
      → ks ≡ chained b → and_then (kinds_answer b ks) (and_then (section_answer (vertices b ks)) (radii_answer b ks)) ≡ a
      → store_answer b ≡ a
  decided_second e same h = parts ∙ rw (e, ← same) h
