-- One edit of any space: an accepted store stays accepted, an operator leaves the section, an add's chain is the old one
-- and its record. Idea: an edit that passed its checks, by its place.
use Prim.Native.Nat.{ℕ, ◌<◌}
use native.Mathlib.Omega.{arith}
use mathlib.Core.Bool.{Bool, true, false, not, ◌||◌}
use mathlib.Core.List.{List, [], ◌∷◌, ◌++◌, append-nil}
use mathlib.Core.Path.{◌≡◌, refl, sym, subst, ◌∙◌}
use lib.ListN.{length, take}
use lib.Dec.{eqb}
use borrow.Author.Tests.{eqb-true, not-false, leb-false}
use Rattle.section.specs.profile.Replies.{value}
use Rattle.store.specs.Records.{next}
use Rattle.store.specs.Chain.{whole, chain, member}
use Rattle.store.specs.Kinds.{is_vertex}
use Rattle.store.specs.Store.{chained, vertices}
use Rattle.store.specs.Answers.{Accepted}
use Rattle.store.specs.edits.Written.{free_record, ending, written, length_then}
use Rattle.store.specs.edits.Edits.{not_there, not_allowed, no_room}
use Rattle.store.specs.edits.Series.{Space, store, verdict, section, answer, edited, Forty, NoRepeats}
use Rattle.store.specs.declared.edits.shapes.Role.{Role}
use Rattle.store.specs.declared.edits.shapes.Role.TheVariants.{Operator}
use Rattle.store.specs.declared.edits.shapes.Place.{Place}
use Rattle.store.specs.declared.edits.shapes.Place.TheVariants.{Record, Add}
use Rattle.store.specs.declared.edits.shapes.Edit.{Edit}
use Rattle.store.proofs.edits.Fields.{SameFrom}
use Rattle.store.proofs.edits.Good.{good}
use Rattle.store.proofs.edits.Answered.{Passed, passed, by_answer, carried_out_lem}
use Rattle.store.proofs.edits.Replaced.{replaced_record, replaced_section}
use Rattle.store.proofs.edits.Added.{added_record, added_chain, added_section}

pub stays_accepted : (h : Space) (e : Edit) → verdict h ≡ Accepted → verdict (edited h e) ≡ Accepted
stays_accepted h e yes-before = by_answer h e (λ (g : Space). verdict g ≡ Accepted) yes-before (λ p. p.after)

-- an accepted store's chain is whole and meets no record twice
pub chain_once :
    (h : Space) → verdict h ≡ Accepted → (chain (store h) ≡ whole (chained (store h))) × NoRepeats (chained (store h))
chain_once h e = let g = good h.all h.size e in (g.links, g.chain.apart)

-- an operator's edit, by its place
four : (p q r t : Bool) → (p || (q || (not r || t))) ≡ false → (q ≡ false) × (r ≡ true) × (t ≡ false)
four false false true false e = (refl, refl, refl)
four false false true true e = absurd (let z : ◌≡◌ {A = ℕ} 0 1 = cc in omega arith)
four false false false t e = absurd (let z : ◌≡◌ {A = ℕ} 0 1 = cc in omega arith)
four false true r t e = absurd (let z : ◌≡◌ {A = ℕ} 0 1 = cc in omega arith)
four true q r t e = absurd (let z : ◌≡◌ {A = ℕ} 0 1 = cc in omega arith)

same_section :
    (s : List ℕ) (n : ℕ) (place : Place) (bytes : List ℕ) {then : ℕ} → length bytes ≡ 40 → Passed s n Operator place bytes then
    → (let b' = take (length_then s n place) (written s n place bytes) in
    vertices b' (chained b') ≡ vertices (take n s) (chained (take n s)))
unfolding written length_then not_there not_allowed no_room
same_section s n (Record k) bytes forty p =
    let tests = four (eqb k 0) (is_vertex (take n s) k) (eqb (next bytes 0) (next (take n s) k)) (is_vertex bytes 0) p.allowed in
    replaced_section s n (good s n p.before) k bytes forty (not-false (member k (chained (take n s))) p.there)
    (eqb-true (next bytes 0) (next (take n s) k) tests.1) tests.0 tests.2
same_section s n Add bytes forty p =
    added_section s n (good s n p.before) bytes forty (leb-false 512 (free_record (take n s)) p.room)
    ∙ rw (p.allowed, append-nil)

pub operator_keeps_section : (h : Space) (e : Edit) → Forty e → e.role ≡ Operator → section (edited h e) ≡ section h
operator_keeps_section h e forty operator =
    by_answer h e (λ (g : Space). section g ≡ section h) refl λ p.
    same_section h.all h.size e.place e.bytes forty
    (subst (λ (r : Role). Passed h.all h.size r e.place e.bytes (length_then h.all h.size e.place))
    operator p)

-- an add that is carried out, and a replacement
module _ (s : List ℕ) (n : ℕ) (role : Role) (bytes : List ℕ) {then : ℕ} (forty : length bytes ≡ 40) where
  extends :
      (place : Place) → place ≡ Add → Passed s n role place bytes then
      → (let b' = take (length_then s n place) (written s n place bytes) in
      (chained b' ≡ chained (take n s) ++ (free_record (take n s) ∷ []))
      × SameFrom 0 b' (free_record (take n s)) (ending bytes) 0)
  unfolding written no_room
  extends (Record k) add p = absurd (let z : ◌≡◌ {A = ℕ} 0 1 = cc in omega arith)
  extends Add add p =
      let room : free_record (take n s) < 512 = leb-false 512 (free_record (take n s)) p.room in
      (added_chain s n (good s n p.before) bytes forty room, added_record s n (good s n p.before) bytes forty room)

  replaces :
      (place : Place) (k : ℕ) → place ≡ Record k → Passed s n role place bytes then
      → SameFrom 0 (take (length_then s n place) (written s n place bytes)) k bytes 0
  unfolding written length_then not_there
  replaces Add k named p = absurd (let z : ◌≡◌ {A = ℕ} 0 1 = cc in omega arith)
  replaces (Record j) k named p =
      let same : j ≡ k = cc in
      rw (sym same)
      (replaced_record s n (good s n p.before) j bytes forty (not-false (member j (chained (take n s))) p.there))

module _ (h : Space) (e : Edit) (forty : Forty e) {n : ℕ} (done : answer h e ≡ value n) where
  all_passed : Passed h.all h.size e.role e.place e.bytes n
  all_passed = passed h.all h.size e.role e.place e.bytes done

  -- the chain is the old one, and at its end the lowest unreached record, which has the bytes, with next 0
  pub add_extends :
      e.place ≡ Add
      → (chained (store (edited h e)) ≡ chained (store h) ++ (free_record (store h) ∷ []))
      × SameFrom 0 (store (edited h e)) (free_record (store h)) (ending e.bytes) 0
  add_extends add =
      subst
      (λ (g : Space).
      (chained (store g) ≡ chained (store h) ++ (free_record (store h) ∷ []))
      × SameFrom 0 (store g) (free_record (store h)) (ending e.bytes) 0)
      (sym (carried_out_lem h e done)) (extends h.all h.size e.role e.bytes forty e.place add all_passed)

  -- the named record has the new bytes
  pub replace_replaces : (k : ℕ) → e.place ≡ Record k → SameFrom 0 (store (edited h e)) k e.bytes 0
  replace_replaces k named =
      subst (λ (g : Space). SameFrom 0 (store g) k e.bytes 0) (sym (carried_out_lem h e done))
      (replaces h.all h.size e.role e.bytes forty e.place k named all_passed)
