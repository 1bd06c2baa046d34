-- What the functions behind the entry points ask of each other and promise.
use Rattle.std.specs.Prelude.{ℕ, ◌+◌, ◌*◌, ◌/◌, ◌≤◌, Bool, true, cond, List, ◌≡◌, length, take, set, ltb, Float, Result, Ok, Err}
use Rattle.std.proofs.lemmas.List.Edits.{sets}
use Rattle.section.specs.profile.Numbers.{refusal_number}
use Rattle.store.specs.Records.{records, next}
use Rattle.store.specs.Answers.{StoreAnswer, Accepted, Refused}
use Rattle.store.specs.declared.answers.RefusedStore.{RefusedStore}

-- ---- the chain
-- a store of 1 to 512 records, and the array for their order
pub record ChainRoom (b order : List ℕ) : Type 0 where
  pub room : length order ≡ 512
  pub some : 1 ≤ records b
  pub most : records b ≤ 512

-- record k gets its mark, and r is its next
pub record Visits (b : List ℕ) (k : ℕ) (marks after : List Bool) (r : ℕ) : Type 0 where
  pub marked : after ≡ set marks k true
  pub read : r ≡ next b k

-- ---- the section
-- the records in order, and the array for their vertices
pub record SectionRoom (order : List ℕ) (space : List Float) : Type 0 where
  pub room : length space ≡ 512
  pub few : length order ≤ 512

-- what the space becomes by the numbers w of one record, behind n vertices
abbrev pub put : ℕ → List Float → List Float → List Float
put n space w = cond (ltb n 256) (sets space (n * 2) w) space

-- w goes behind n vertices while there is room for it, and r counts it
pub record Adds (w : List Float) (n : ℕ) (space after : List Float) (r : ℕ) : Type 0 where
  pub filled : after ≡ put n space w
  pub count : r ≡ n + length w / 2

-- the section s has r vertices, and `after` begins with it if they are not too many
pub record Gathers (s after : List Float) (r : ℕ) : Type 0 where
  pub size : length s ≡ r * 2
  pub front : r ≤ 256 → take (r * 2) after ≡ s

-- ---- a lent array, filled from its front on
-- the answer a is accepted, and the first n of `after` are xs
pub record FilledTo {A : Type 0} (a : StoreAnswer) (xs : List A) (n : ℕ) (after : List A) : Type 0 where
  pub good : a ≡ Accepted
  pub front : take n after ≡ xs
  pub small : n ≤ 512

-- r tells the answer a; where that is accepted, the list `after` begins with xs
pub record Fills {A : Type 0} (a : StoreAnswer) (xs : List A) (r : Result ℕ RefusedStore) (after : List A) : Type 0 where
  pub accepted : (n : ℕ) → r ≡ Ok n → FilledTo a xs n after
  pub refused : (e : RefusedStore) → r ≡ Err e → a ≡ Refused (refusal_number e.refusal) e.at
