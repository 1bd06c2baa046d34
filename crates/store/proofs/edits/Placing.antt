-- Records of a list into which a record, or a next field, was put: the one put there reads as new, all others as before.
-- Idea: two records have no byte in common.
use Prim.Native.Nat.{ℕ, ◌+◌, ◌-◌, ◌*◌, ◌<◌, ◌≤◌}
use native.Mathlib.Nat.{zero-add}
use native.Mathlib.Omega.{arith}
use mathlib.Core.Bool.{Bool, true, false}
use mathlib.Core.List.{List}
use mathlib.Core.Path.{◌≡◌, refl, sym, ◌∙◌}
use lib.ListN.{length, get_or, take, drop, length-drop}
use lib.Seq.{sets, get_or-take, get_or-drop, get_or-append-add, length-sets}
use lib.Arith.{lt_of_le-ne}
use lib.Dec.{ltb}
use borrow.Author.Tests.{ltb-true, ltb-false}
use Rattle.store.specs.Bytes.{little_endian}
use Rattle.store.specs.Records.{next}
use Rattle.store.specs.edits.Written.{next_bytes, ending, appended}
use Rattle.store.proofs.edits.Fields.{SameFrom, sets_before, sets_behind, sets_inside, next_read}

pub same_then :
    {f : ℕ} {a b c : List ℕ} {j k l : ℕ} → SameFrom f a j b k → SameFrom f b k c l → SameFrom f a j c l
same_then p q = record { byte = λ i after h. p.byte i after h ∙ q.byte i after h }

pub same_back : {f : ℕ} {a b : List ℕ} {j k : ℕ} → SameFrom f a j b k → SameFrom f b k a j
same_back p = record { byte = λ i after h. sym (p.byte i after h) }

pub same_later : {a b : List ℕ} {j k : ℕ} → SameFrom 0 a j b k → SameFrom 4 a j b k
same_later p = record { byte = λ i after h. p.byte i (omega arith) h }

-- a record at the front of a list
pub in_front : (f n : ℕ) (l : List ℕ) (j : ℕ) → j * 40 + 40 ≤ n → SameFrom f (take n l) j l j
in_front f n l j room = record { byte = λ i after h. get_or-take n l (j * 40 + i) 0 (omega arith) }

-- the bytes of another record than k
pub elsewhere :
    (f : ℕ) (vs l : List ℕ) (j k : ℕ) → length vs ≤ 40 → (j ≡ k → ⊥) → SameFrom f (sets l (k * 40) vs) j l j
elsewhere f vs l j k short other = go (ltb j k) refl
  where
    go : (below : Bool) → ltb j k ≡ below → SameFrom f (sets l (k * 40) vs) j l j
    go true e =
        let less : j < k = ltb-true j k e in
        record { byte = λ i after h. sets_before vs l (k * 40) (j * 40 + i) (omega arith) }
    go false e =
        let more : k < j = lt_of_le-ne (ltb-false j k e) (λ q. other (sym q)) in
        record { byte = λ i after h. sets_behind vs l (k * 40) (j * 40 + i) (omega arith) }

-- the record that was put at k
pub placed :
    (f : ℕ) (vs l : List ℕ) (k : ℕ) → length vs ≡ 40 → k * 40 + 40 ≤ length l → SameFrom f (sets l (k * 40) vs) k vs 0
placed f vs l k size room =
    record { byte = λ i after h. sets_inside vs l (k * 40) i (omega arith) (omega arith) ∙ rw zero-add }

-- behind a next field the record is as it was
pub behind_next : (l : List ℕ) (t m : ℕ) → SameFrom 4 (sets l (t * 40) (next_bytes m)) t l t
behind_next l t m = record { byte = λ i after h. sets_behind (next_bytes m) l (t * 40) (t * 40 + i) (omega arith) }

-- 40 bytes with next 0
module _ (bytes : List ℕ) (size : length bytes ≡ 40) where
  pub ending_size : length (ending bytes) ≡ 40
  ending_size = simp length-drop (omega arith)

  pub ending_next : next (ending bytes) 0 ≡ 0
  unfolding next little_endian
  ending_next = refl

  pub ending_rest : SameFrom 4 (ending bytes) 0 bytes 0
  ending_rest = record { byte = λ i after h. rest i after }
    where
      rest : (i : ℕ) → 4 ≤ i → get_or (ending bytes) (0 * 40 + i) 0 ≡ get_or bytes (0 * 40 + i) 0
      rest i after =
          let from : i ≡ 4 + (i - 4) = omega arith in
          rw (zero-add, from) (get_or-append-add (next_bytes 0) (drop 4 bytes) (i - 4) 0 ∙ get_or-drop 4 bytes (i - 4) 0)

-- record m put behind record t
module _ (s bytes : List ℕ) (m t : ℕ) (size : length bytes ≡ 40) (other : m ≡ t → ⊥) where
  pub appended_size : length (appended s m t bytes) ≡ length s
  appended_size = length-sets (sets s (m * 40) (ending bytes)) (t * 40) (next_bytes m) ∙ length-sets s (m * 40) (ending bytes)

  pub appended_other : (f j : ℕ) → (j ≡ m → ⊥) → (j ≡ t → ⊥) → SameFrom f (appended s m t bytes) j s j
  appended_other f j a b =
      same_then (elsewhere f (next_bytes m) _ j t (omega arith) b)
      (elsewhere f (ending bytes) s j m (omega (arith, ending_size bytes size)) a)

  pub appended_old : SameFrom 4 (appended s m t bytes) t s t
  appended_old =
      same_then (behind_next _ t m)
      (elsewhere 4 (ending bytes) s t m (omega (arith, ending_size bytes size)) (λ e. other (sym e)))

  pub appended_link : t * 40 + 40 ≤ length s → next (appended s m t bytes) t ≡ m
  appended_link room =
      next_read (sets s (m * 40) (ending bytes)) t m (simp length-sets (omega arith))

  pub appended_new : (f : ℕ) → m * 40 + 40 ≤ length s → SameFrom f (appended s m t bytes) m (ending bytes) 0
  appended_new f room =
      same_then (elsewhere f (next_bytes m) _ m t (omega arith) other)
      (placed f (ending bytes) s m (ending_size bytes size) room)
