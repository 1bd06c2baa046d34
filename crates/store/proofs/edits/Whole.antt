-- A whole chain: it holds record 0, all it holds are records of the store, none twice, and its last one's next is 0. Idea:
-- each of these holds at record 0 and goes on with every step.
use Prim.Native.Nat.{ℕ, ◌-◌, ◌<◌, ◌≤◌}
use native.Mathlib.Omega.{arith}
use mathlib.Core.Bool.{true, false}
use mathlib.Core.List.{List, [], ◌∷◌, ◌++◌}
use mathlib.Core.Path.{◌≡◌, refl}
use lib.ListN.{length, get_or}
use Rattle.section.specs.profile.Refusals.{any_of}
use Rattle.store.specs.Records.{records, next}
use Rattle.store.specs.Chain.{whole, member, follow, chain}
use Rattle.store.specs.edits.Series.{NoRepeats}
use Rattle.store.proofs.edits.Members.{member_more, member_new, member_cases, last_of_more, no_repeats_more}
use Rattle.store.proofs.edits.Walking.{Ended, walked}

abbrev pub last : List ℕ → ℕ
last ks = get_or ks (length ks - 1) 0

pub record Whole (b ks : List ℕ) : Type 0 where
  pub first : member 0 ks ≡ true
  pub apart : NoRepeats ks
  pub within : (j : ℕ) → member j ks ≡ true → j < records b
  pub ends : next b (last ks) ≡ 0
  pub held : member (last ks) ks ≡ true

-- what is known of the records that the walk has reached
record Reached (b l : List ℕ) : Type 0 where
  pub from : member 0 l ≡ true
  pub once : NoRepeats l
  pub below : (j : ℕ) → member j l ≡ true → j < records b

reached_more :
    (b l : List ℕ) (m : ℕ) → Reached b l → m < records b → member m l ≡ false → Reached b (l ++ (m ∷ []))
reached_more b l m r small new =
    record {
      from = member_more l m 0 r.from;
      once = no_repeats_more l m r.once new;
      below = member_cases l m (λ (j : ℕ). j < records b) r.below small;
    }

only : (b : List ℕ) → 1 ≤ records b → Reached b (0 ∷ [])
unfolding any_of
only b some =
    record {
      from = refl;
      once = λ i j less small same. omega arith;
      below = member_cases [] 0 (λ (j : ℕ). j < records b) (λ j e. absurd (nothing j e)) (omega arith);
    }
  where
    nothing : (j : ℕ) → member j [] ≡ true → ⊥
    nothing j e = let one : ◌≡◌ {A = ℕ} 0 1 = cc in omega arith

pub chain_whole : (b ks : List ℕ) → 1 ≤ records b → chain b ≡ whole ks → Whole b ks
unfolding chain
chain_whole b ks some e =
    let w = walked b ks (λ left passed k. Reached b (passed ++ (k ∷ [])))
    (λ left passed k r f more small new. reached_more b (passed ++ (k ∷ [])) (next b k) r small new)
    (records b) [] 0 (only b some) e in
    result w
  where
    result : Ended b ks (λ left passed k. Reached b (passed ++ (k ∷ []))) → Whole b ks
    result w =
        rw w.all
        record {
          first = w.holds.from;
          apart = w.holds.once;
          within = w.holds.below;
          ends = rw last_of_more w.end;
          held = rw last_of_more (member_new w.passed w.here);
        }

-- a record from which the walk goes on is on the chain
pub follow_holds :
    (b ks : List ℕ) (left : ℕ) (passed : List ℕ) (k : ℕ) → follow b left passed k ≡ whole ks → member k ks ≡ true
follow_holds b ks left passed k e =
    result (walked b ks (λ (l : ℕ) (p : List ℕ) (m : ℕ). member k (p ++ (m ∷ [])) ≡ true)
    (λ l p m h f more small new. member_more (p ++ (m ∷ [])) (next b m) k h)
    left passed k (member_new passed k) e)
  where
    result : Ended b ks (λ (l : ℕ) (p : List ℕ) (m : ℕ). member k (p ++ (m ∷ [])) ≡ true) → member k ks ≡ true
    result w = rw w.all w.holds
