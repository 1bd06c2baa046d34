-- What the checks decide, one law for each return of the editing functions.
use Prim.Native.Nat.{ℕ, ◌+◌, ◌-◌, ◌*◌, ◌/◌, ◌<◌, ◌≤◌}
use native.Mathlib.Omega.{arith}
use mathlib.Core.Bool.{true, false, not, cond}
use mathlib.Core.List.{List, [], ◌∷◌}
use mathlib.Core.Path.{◌≡◌, refl, sym, ap, subst, ◌∙◌}
use lib.ListN.{length, take, get_or, length-take}
use lib.Seq.{sets, get_or-take}
use lib.Dec.{ltb}
use borrow.Author.Tests.{le-leb, lt-leb}
use Rattle.std.specs.Prelude.{Result, Err}
use Rattle.section.specs.declared.shapes.Refusal.{Refusal}
use Rattle.section.specs.declared.shapes.Refusal.TheVariants as refusals
use Rattle.section.specs.profile.Numbers.{refusal_number}
use Rattle.section.specs.profile.Refusals.{refusal, any_of}
use Rattle.section.specs.profile.Replies.{Reply, value, turned_down}
use Rattle.store.specs.Chain.{member}
use Rattle.store.specs.Store.{chained}
use Rattle.store.specs.Answers.{Accepted, Refused}
use Rattle.store.specs.edits.Written.{lowest_from, free_record, last_record, appended, written, length_then}
use Rattle.store.specs.edits.Edits.{space_answer, not_there, not_allowed, no_room, unless, kept, edit_answer, space_after, Edited}
use Rattle.store.specs.edits.Steps.{Small, Tried}
use Rattle.store.specs.declared.edits.shapes.Role.{Role}
use Rattle.store.specs.declared.edits.shapes.Place.{Place}
use Rattle.store.specs.declared.edits.shapes.Place.TheVariants.{Record, Add}
use Rattle.store.proofs.edits.Good.{good, count, room, within}

module _ (s : List ℕ) (n : ℕ) (role : Role) (place : Place) (bytes : List ℕ) where
  turned :
      {e : Refusal} → edit_answer s n role place bytes ≡ turned_down (refusal_number e) → Edited s n role place bytes (Err e) s
  unfolding space_after
  turned e = record { answer = sym e; space = sym (ap (λ (a : Reply ℕ). kept a (written s n place bytes) s) e) }

  pub refused_space :
      {e : Refusal} {k : ℕ} → space_answer s n ≡ Refused (refusal_number e) k → Edited s n role place bytes (Err e) s
  unfolding edit_answer refusal
  refused_space e = turned (rw e)

  module _ (right : space_answer s n ≡ Accepted) where
    refused_24 : not_there (take n s) place ≡ true → Edited s n role place bytes (Err refusals.NoSuchRecord) s
    unfolding edit_answer refusal
    refused_24 p = turned (rw (right, p))

    module _ (there : not_there (take n s) place ≡ false) where
      refused_22 : not_allowed (take n s) role place bytes ≡ true → Edited s n role place bytes (Err refusals.SettersEdit) s
      unfolding edit_answer refusal
      refused_22 p = turned (rw (right, there, p))

      module _ (allowed : not_allowed (take n s) role place bytes ≡ false) where
        refused_23 : no_room (take n s) place ≡ true → Edited s n role place bytes (Err refusals.StoreFull) s
        unfolding edit_answer refusal
        refused_23 p = turned (rw (right, there, allowed, p))

        tried_is_edited :
            {r : Result ℕ Refusal} {after : List ℕ} → no_room (take n s) place ≡ false
            → Tried s (written s n place bytes) (length_then s n place) r after → Edited s n role place bytes r after
        unfolding edit_answer space_after refusal
        tried_is_edited {r} {after} p tried =
            record {
              answer = tried.answer ∙ sym whole;
              space =
                  tried.bytes
                  ∙ ap (λ (a : Reply ℕ). kept a (written s n place bytes) s) (tried.answer ∙ sym whole);
            }
          where
            whole :
                edit_answer s n role place bytes
                ≡ unless (space_answer (written s n place bytes) (length_then s n place)) (value (length_then s n place))
            whole = rw (right, there, allowed, p)

pub at_place :
    {s : List ℕ} {n : ℕ} {role : Role} {p q : Place} {bytes : List ℕ} {r : Result ℕ Refusal} {after : List ℕ} → p ≡ q
    → Edited s n role q bytes r after → Edited s n role p bytes r after
at_place {s} {n} {role} {p} {q} {bytes} {r} {after} e h =
    subst (λ (at : Place). Edited s n role at bytes r after) (sym e) h

pub right_space : (s : List ℕ) (n : ℕ) → space_answer s n ≡ Accepted → (length s ≡ 20480) × (n ≤ 20480) × (n / 40 ≤ 512)
right_space s n right = let g = good s n right in (g.space, within g, g.most)

-- a record on the chain is one of 512
pub chained_small :
    (s : List ℕ) (n : ℕ) {l : List ℕ} {k : ℕ} → space_answer s n ≡ Accepted → l ≡ chained (take n s) → member k l ≡ true → k < 512
chained_small s n {l} {k} right e h =
    let g = good s n right in omega (arith, room g k (rw e at h), within g)

pub all_small : (s : List ℕ) (n : ℕ) {l : List ℕ} → space_answer s n ≡ Accepted → l ≡ chained (take n s) → Small l
all_small s n right e = record { small = λ k h. chained_small s n right e h }

module _ (s : List ℕ) (n : ℕ) (role : Role) (k : ℕ) (bytes : List ℕ) {l : List ℕ}
    (right : space_answer s n ≡ Accepted) (read : l ≡ chained (take n s))
  where
    pub replace_24 : member k l ≡ false → Edited s n role (Record k) bytes (Err refusals.NoSuchRecord) s
    unfolding not_there
    replace_24 h = refused_24 s n role (Record k) bytes right (ap not (rw read at h))

    module _ (held : member k l ≡ true) where
      there : not_there (take n s) (Record k) ≡ false
      unfolding not_there
      there = ap not (rw read at held)

      pub replace_22 : not_allowed (take n s) role (Record k) bytes ≡ true → Edited s n role (Record k) bytes (Err refusals.SettersEdit) s
      replace_22 h = refused_22 s n role (Record k) bytes right there h

      pub replace_done :
          {r : Result ℕ Refusal} {after : List ℕ} → not_allowed (take n s) role (Record k) bytes ≡ false
          → Tried s (sets s (k * 40) bytes) n r after → Edited s n role (Record k) bytes r after
      unfolding written length_then no_room
      replace_done h tried = tried_is_edited s n role (Record k) bytes right there h refl tried

-- the end of the chain is the last that was read
some_held : (j : ℕ) (l : List ℕ) → member j l ≡ true → 1 ≤ length l
unfolding any_of
some_held j [] e = absurd (let z : ◌≡◌ {A = ℕ} 0 1 = cc in omega arith)
some_held j (x ∷ l) e = omega arith

module _ (s : List ℕ) (n : ℕ) (order : List ℕ) (c : ℕ) (right : space_answer s n ≡ Accepted)
    (read : take c order ≡ chained (take n s)) (room_for : c ≤ length order)
  where
    read_size : length (chained (take n s)) ≡ c
    read_size = ap length (sym read) ∙ length-take c order ∙ omega arith

    pub some_read : 1 ≤ c
    some_read = omega (arith, read_size, some_held 0 (chained (take n s)) (good s n right).chain.first)

    pub last_read : get_or order (c - 1) 0 ≡ last_record (take n s)
    unfolding last_record
    last_read =
        sym (get_or-take c order (c - 1) 0 (omega (arith, some_read)))
        ∙ ap (λ (l : List ℕ). get_or l (c - 1) 0) read
        ∙ ap (λ (i : ℕ). get_or (chained (take n s)) (i - 1) 0) (sym read_size)

    pub last_small : get_or order (c - 1) 0 < 512
    unfolding last_record
    last_small =
        rw last_read (chained_small s n right refl (good s n right).chain.held)

module _ (s : List ℕ) (n : ℕ) (role : Role) (bytes : List ℕ) (right : space_answer s n ≡ Accepted) where
  nothing_named : not_there (take n s) Add ≡ false
  unfolding not_there
  nothing_named = refl

  pub add_22 : not_allowed (take n s) role Add bytes ≡ true → Edited s n role Add bytes (Err refusals.SettersEdit) s
  add_22 h = refused_22 s n role Add bytes right nothing_named h

  module _ {l : List ℕ} {m : ℕ} (allowed : not_allowed (take n s) role Add bytes ≡ false) (read : l ≡ chained (take n s))
      (found : m ≡ lowest_from l (n / 40) 0)
    where
      free : free_record (take n s) ≡ m
      unfolding free_record
      free = rw (← read, count (good s n right)) (sym found)

      pub add_23 : 512 ≤ m → Edited s n role Add bytes (Err refusals.StoreFull) s
      unfolding no_room
      add_23 h =
          refused_23 s n role Add bytes right nothing_named allowed (rw free (le-leb 512 m h))

      pub add_done :
          {t size : ℕ} {r : Result ℕ Refusal} {after : List ℕ} → m < 512 → t ≡ last_record (take n s)
          → size ≡ cond (ltb m (n / 40)) n (n + 40)
          → Tried s (appended s m t bytes) size r after → Edited s n role Add bytes r after
      unfolding no_room written length_then
      add_done {t} {size} {r} {after} h last long tried =
          tried_is_edited s n role Add bytes right nothing_named allowed (rw free (lt-leb 512 m h))
          (rw (free, count (good s n right), ← last, ← long) tried)
