-- An edit's answer and the space afterwards, in 02's order: 12 for a space of another size, the store's own numbers, then 24, 22
-- and 23, then the outcome's number. A refused edit changes nothing.
use Rattle.std.specs.Prelude.{ℕ, Bool, false, not, ◌||◌, cond, List, [], ◌∷◌, ◌≡◌, length, take, eqb, leb, Result}
use Rattle.section.specs.declared.shapes.Refusal.{Refusal}
use Rattle.section.specs.profile.Refusals.{Test, ◌when◌, refusal}
use Rattle.section.specs.profile.Replies.{Reply, value, turned_down, told}
use Rattle.store.specs.Records.{next}
use Rattle.store.specs.Chain.{member}
use Rattle.store.specs.Kinds.{is_vertex}
use Rattle.store.specs.Store.{and_then, numbered, length_answer, chained, store_answer}
use Rattle.store.specs.Answers.{StoreAnswer, Accepted, Refused}
use Rattle.store.specs.edits.Written.{free_record, written, length_then}
use Rattle.store.specs.declared.edits.shapes.Role.{Role}
use Rattle.store.specs.declared.edits.shapes.Role.TheVariants.{Setter, Operator}
use Rattle.store.specs.declared.edits.shapes.Place.{Place}
use Rattle.store.specs.declared.edits.shapes.Place.TheVariants.{Record, Add}

-- The verdict on a space s whose first n bytes are the store: 12 for a space of another size, then as the reader judges. The
-- length is judged by itself first, since a length past the space would cut off nothing.
unfoldable pub space_answer : List ℕ → ℕ → StoreAnswer
space_answer s n = cond (eqb (length s) 20480) (and_then (length_answer n) (store_answer (take n s))) (Refused 12 0)

-- 24: a named record that is unreached or absent
unfoldable pub not_there : List ℕ → Place → Bool
not_there b (Record k) = not (member k (chained b))
not_there b Add = false

-- 22: an operator's edit of record 0, of a vertex, of a link, or one that would make a vertex
unfoldable pub not_allowed : List ℕ → Role → Place → List ℕ → Bool
not_allowed b Setter place bytes = false
not_allowed b Operator (Record k) bytes =
    eqb k 0 || (is_vertex b k || (not (eqb (next bytes 0) (next b k)) || is_vertex bytes 0))
not_allowed b Operator Add bytes = is_vertex bytes 0

-- 23: an add with 512 records all reached, so that the next record would be 512
unfoldable pub no_room : List ℕ → Place → Bool
no_room b (Record k) = false
no_room b Add = leb 512 (free_record b)

-- of an edit of the store b
abbrev pub edit_tests : List ℕ → Role → Place → List ℕ → List Test
edit_tests b role place bytes =
    (24 when not_there b place) ∷ (22 when not_allowed b role place bytes) ∷ (23 when no_room b place) ∷ []

-- a refusal's number stands; otherwise what follows
abbrev pub unless : StoreAnswer → Reply ℕ → Reply ℕ
unless Accepted rest = rest
unless (Refused n k) rest = turned_down n

-- of the space s with a store of n bytes at its front
unfoldable pub edit_answer : List ℕ → ℕ → Role → Place → List ℕ → Reply ℕ
edit_answer s n role place bytes =
    unless (space_answer s n)
    (unless (numbered (refusal (edit_tests (take n s) role place bytes)))
    (unless (space_answer (written s n place bytes) (length_then s n place)) (value (length_then s n place))))

-- by the answer: what an edit makes, or what was before
abbrev pub kept : {A : Type 0} → Reply ℕ → A → A → A
kept (value n) after before = after
kept (turned_down n) after before = before

unfoldable pub space_after : List ℕ → ℕ → Role → Place → List ℕ → List ℕ
space_after s n role place bytes = kept (edit_answer s n role place bytes) (written s n place bytes) s

-- what an edit owes: the answer, and every byte of the space afterwards
pub record Edited
    (s : List ℕ) (n : ℕ) (role : Role) (place : Place) (bytes : List ℕ) (r : Result ℕ Refusal) (after : List ℕ) : Type 0
  where
    pub answer : told r ≡ edit_answer s n role place bytes
    pub space : after ≡ space_after s n role place bytes
