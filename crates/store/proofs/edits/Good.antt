-- What an accepted space tells: its size, that the length is one of 1 to 512 records, and that the chain is whole. Idea:
-- the verdict's parts are all accepted.
use Prim.Native.Nat.{ℕ, ◌+◌, ◌*◌, ◌/◌, ◌%◌, ◌≤◌, ◌<◌}
use native.Mathlib.Omega.{arith}
use mathlib.Core.Bool.{Bool, true, false, cond}
use mathlib.Core.List.{List}
use mathlib.Core.Path.{◌≡◌, refl}
use lib.ListN.{length, take, length-take}
use lib.Dec.{eqb}
use borrow.Author.Tests.{eqb-true}
use Rattle.store.specs.Records.{records}
use Rattle.store.specs.Chain.{whole, chain, member}
use Rattle.store.specs.Store.{and_then, length_answer, chained, store_answer}
use Rattle.store.specs.Answers.{StoreAnswer, Accepted, Refused}
use Rattle.store.proofs.Reading.{accepted_sound, length_accepted}
use Rattle.store.specs.edits.Edits.{space_answer}
use Rattle.store.proofs.edits.Whole.{Whole, chain_whole}

never : {n k : ℕ} → Refused n k ≡ Accepted → ⊥
never e = let z : ◌≡◌ {A = ℕ} 0 1 = cc in omega arith

pub record Good (s : List ℕ) (n : ℕ) : Type 0 where
  pub space : length s ≡ 20480
  pub even : n % 40 ≡ 0
  pub some : 1 ≤ n / 40
  pub most : n / 40 ≤ 512
  pub size : length (take n s) ≡ n
  pub accepted : store_answer (take n s) ≡ Accepted
  pub links : chain (take n s) ≡ whole (chained (take n s))
  pub chain : Whole (take n s) (chained (take n s))

-- the verdict's three parts
parts :
    (right : Bool) (a c : StoreAnswer) → cond right (and_then a c) (Refused 12 0) ≡ Accepted
    → (right ≡ true) × (a ≡ Accepted) × (c ≡ Accepted)
parts true Accepted c e = (refl, refl, e)
parts true (Refused n k) c e = absurd (never e)
parts false a c e = absurd (never e)

-- an accepted length is within the space
pub length_within : (n : ℕ) → length_answer n ≡ Accepted → n ≤ 20480
length_within n e = let right = length_accepted n e in omega (arith, right.even, right.most)

pub good : (s : List ℕ) (n : ℕ) → space_answer s n ≡ Accepted → Good s n
unfolding space_answer
good s n e =
    let p = parts (eqb (length s) 20480) (length_answer n) (store_answer (take n s)) e in
    let all : length s ≡ 20480 = eqb-true (length s) 20480 p.0 in
    let right = length_accepted n p.1 in
    let rest : n % 40 ≡ 0 = right.even in
    let few : n / 40 ≤ 512 = right.most in
    let front : length (take n s) ≡ n = simp length-take (omega arith) in
    let sound = accepted_sound (take n s) p.2 in
    record {
      space = all;
      even = rest;
      some = right.some;
      most = right.most;
      size = front;
      accepted = p.2;
      links = sound.links;
      chain = chain_whole (take n s) (chained (take n s)) sound.some sound.links;
    }

pub front_fits : (s : List ℕ) (n : ℕ) → space_answer s n ≡ Accepted → n ≤ length s
front_fits s n e = let g = good s n e in omega (arith, g.space, g.even, g.most)

-- the store's records
module _ {s : List ℕ} {n : ℕ} (g : Good s n) where
  pub count : records (take n s) ≡ n / 40
  count = rw g.size

  -- a record on the chain lies within the length
  pub room : (j : ℕ) → member j (chained (take n s)) ≡ true → j * 40 + 40 ≤ n
  room j e =
      let below : j < n / 40 = rw (count) at (g.chain.within j e) in
      let even : n % 40 ≡ 0 = g.even in omega arith

  pub within : n ≤ 20480
  within = let even : n % 40 ≡ 0 = g.even in let most : n / 40 ≤ 512 = g.most in omega arith

pub chained_whole : (b ks : List ℕ) → chain b ≡ whole ks → chained b ≡ ks
unfolding chained
chained_whole b ks e = rw e
