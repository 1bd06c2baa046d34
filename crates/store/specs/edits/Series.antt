-- Edits one after the other on a space with a store at its front.
use Rattle.std.specs.Prelude.{ℕ, ◌<◌, Bool, false, ◌||◌, ◌≡◌, List, [], ◌∷◌, length, get_or, take, Float}
use Rattle.section.specs.profile.Replies.{Reply, value, turned_down}
use Rattle.store.specs.Store.{chained, vertices}
use Rattle.store.specs.Answers.{StoreAnswer}
use Rattle.store.specs.edits.Written.{touches}
use Rattle.store.specs.edits.Edits.{space_answer, edit_answer, kept, space_after}
use Rattle.store.specs.declared.edits.shapes.Role.TheVariants.{Operator}
use Rattle.store.specs.declared.edits.shapes.Edit.{Edit}

-- a space, and the length of the store at its front
pub record Space : Type 0 where
  pub all : List ℕ
  pub size : ℕ

abbrev pub store : Space → List ℕ
store h = take h.size h.all

abbrev pub verdict : Space → StoreAnswer
verdict h = space_answer h.all h.size

abbrev pub section : Space → List Float
section h = vertices (store h) (chained (store h))

abbrev pub answer : Space → Edit → Reply ℕ
answer h e = edit_answer h.all h.size e.role e.place e.bytes

-- the length afterwards, as it was for a refused edit
abbrev pub kept_length : Reply ℕ → ℕ → ℕ
kept_length (value n) before = n
kept_length (turned_down n) before = before

-- what one edit makes of it; a refused edit leaves everything
abbrev pub edited : Space → Edit → Space
edited h e =
    record {
      all = space_after h.all h.size e.role e.place e.bytes;
      size = kept_length (answer h e) h.size;
    }

unfoldable pub edited_by : Space → List Edit → Space
edited_by h [] = h
edited_by h (e ∷ es) = edited_by (edited h e) es

-- ---- what is said of a list of edits

-- as the type of an edit has it
abbrev pub Forty : Edit → Type 0
Forty e = length e.bytes ≡ 40

pub data AllForty : List Edit → Type 0 where
  none : AllForty []
  also : {e : Edit} {es : List Edit} → Forty e → AllForty es → AllForty (e ∷ es)

-- by an operator, all of them
pub data Operators : List Edit → Type 0 where
  none : Operators []
  also : {e : Edit} {es : List Edit} → e.role ≡ Operator → Operators es → Operators (e ∷ es)

-- those that are not refused
unfoldable pub carried_out : Space → List Edit → List Edit
carried_out h [] = []
carried_out h (e ∷ es) = kept (answer h e) (e ∷ carried_out (edited h e) es) (carried_out h es)

-- byte i is in the record of one of the edits, or in the next field that leads to it
unfoldable pub touched_by : Space → List Edit → ℕ → Bool
touched_by h [] i = false
touched_by h (e ∷ es) i = touches (store h) e.place i || touched_by (edited h e) es i

-- no record stands at two places of a list
abbrev pub NoRepeats : List ℕ → Type 0
NoRepeats ks = (i j : ℕ) → i < j → j < length ks → get_or ks i 0 ≡ get_or ks j 0 → ⊥
