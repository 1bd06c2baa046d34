-- What an answer tells of its edit: all checks were passed, or nothing changed. Idea: by the answer's own tests.
use Prim.Native.Nat.{ℕ}
use native.Mathlib.Omega.{arith}
use mathlib.Core.Bool.{Bool, true, false, cond}
use mathlib.Core.List.{List}
use mathlib.Core.Path.{◌≡◌, refl, sym, ap, subst}
use lib.ListN.{take}
use Rattle.section.specs.profile.Refusals.{refusal}
use Rattle.section.specs.profile.Replies.{Reply, value, turned_down}
use Rattle.store.specs.Store.{numbered}
use Rattle.store.specs.Answers.{StoreAnswer, Accepted, Refused}
use Rattle.store.specs.edits.Written.{written, length_then}
use Rattle.store.specs.edits.Edits.{space_answer, not_there, not_allowed, no_room, unless, edit_answer, kept, space_after}
use Rattle.store.specs.edits.Series.{Space, answer, kept_length, edited}
use Rattle.store.specs.declared.edits.shapes.Role.{Role}
use Rattle.store.specs.declared.edits.shapes.Place.{Place}
use Rattle.store.specs.declared.edits.shapes.Edit.{Edit}

abbrev space_of : List ℕ → ℕ → Space
space_of s n = record { all = s; size = n }

-- the space with the edit carried out
abbrev pub outcome : Space → Edit → Space
outcome h e = space_of (written h.all h.size e.place e.bytes) (length_then h.all h.size e.place)

pub record Passed (s : List ℕ) (n : ℕ) (role : Role) (place : Place) (bytes : List ℕ) (then : ℕ) : Type 0 where
  pub before : space_answer s n ≡ Accepted
  pub there : not_there (take n s) place ≡ false
  pub allowed : not_allowed (take n s) role place bytes ≡ false
  pub room : no_room (take n s) place ≡ false
  pub after : space_answer (written s n place bytes) (length_then s n place) ≡ Accepted
  pub size : then ≡ length_then s n place

never : {m n : ℕ} → turned_down m ≡ value n → ⊥
never e = let z : ◌≡◌ {A = ℕ} 0 1 = cc in omega arith

same_length : {m n : ℕ} → value m ≡ value n → n ≡ m
same_length e = cc

parts :
    (a : StoreAnswer) (p q r : Bool) (c : StoreAnswer) (m n : ℕ)
    → unless a (unless (numbered (cond p 24 (cond q 22 (cond r 23 0)))) (unless c (value m))) ≡ value n
    → (a ≡ Accepted) × (p ≡ false) × (q ≡ false) × (r ≡ false) × (c ≡ Accepted) × (n ≡ m)
parts (Refused i k) p q r c m n e = absurd (never e)
parts Accepted true q r c m n e = absurd (never e)
parts Accepted false true r c m n e = absurd (never e)
parts Accepted false false true c m n e = absurd (never e)
parts Accepted false false false (Refused i k) m n e = absurd (never e)
parts Accepted false false false Accepted m n e = (refl, refl, refl, refl, refl, same_length e)

module _ (s : List ℕ) (n : ℕ) (role : Role) (place : Place) (bytes : List ℕ) where
  pub passed : {then : ℕ} → edit_answer s n role place bytes ≡ value then → Passed s n role place bytes then
  unfolding edit_answer refusal
  passed {then} e =
      let p = parts (space_answer s n) (not_there (take n s) place) (not_allowed (take n s) role place bytes)
      (no_room (take n s) place) (space_answer (written s n place bytes) (length_then s n place)) (length_then s n place) then e in
      record {
        before = p.0;
        there = p.1;
        allowed = p.2;
        room = p.3;
        after = p.4;
        size = p.5;
      }

-- what holds of the space as it was, and of an edit that passed every check, holds afterwards
pub by_answer :
    (h : Space) (e : Edit) (P : Space → Type 0) → P h
    → (Passed h.all h.size e.role e.place e.bytes (length_then h.all h.size e.place) → P (outcome h e))
    → P (edited h e)
unfolding space_after
by_answer h e P as_before done = go (answer h e) refl
  where
    go : (a : Reply ℕ) → answer h e ≡ a
        → P (space_of (kept a (written h.all h.size e.place e.bytes) h.all) (kept_length a h.size))
    go (value then) q =
        let p = passed h.all h.size e.role e.place e.bytes q in
        subst (λ (n : ℕ). P (space_of (written h.all h.size e.place e.bytes) n)) (sym p.size)
        (done (subst (λ (n : ℕ). Passed h.all h.size e.role e.place e.bytes n) p.size p))
    go (turned_down n) q = as_before

-- an edit that is answered with a length is carried out
pub carried_out_lem : (h : Space) (e : Edit) {n : ℕ} → answer h e ≡ value n → edited h e ≡ outcome h e
unfolding space_after
carried_out_lem h e q =
    rw q (ap (space_of (written h.all h.size e.place e.bytes))
    (passed h.all h.size e.role e.place e.bytes q).size)

-- a refused edit is no edit
pub refused_nothing : (h : Space) (e : Edit) {n : ℕ} → answer h e ≡ turned_down n → edited h e ≡ h
unfolding space_after
refused_nothing h e q = rw q
