-- A run of bytes put into a list is read back where it was put, and every other byte is as before; so a field reads as
-- its own bytes do. Idea: element by element, then number by number.
use Prim.Native.Nat.{ℕ, zero, suc, ◌+◌, ◌*◌, ◌<◌, ◌≤◌}
use native.Mathlib.Nat.{add-zero, zero-add, add_assoc}
use native.Mathlib.Omega.{arith}
use mathlib.Core.List.{List, [], ◌∷◌}
use mathlib.Core.Path.{◌≡◌, refl, sym, ap, ◌∙◌}
use lib.ListN.{length, get_or, set, length-set}
use lib.Seq.{sets, get_or-set_same, get_or-set_other}
use lib.Ieee.{binary64, of_bits}
use Rattle.store.specs.Bytes.{little_endian}
use Rattle.store.specs.Records.{next, kind, number}
use Rattle.store.specs.edits.Written.{next_bytes}

pub sets_before : (vs l : List ℕ) (p i : ℕ) → i < p → get_or (sets l p vs) i 0 ≡ get_or l i 0
sets_before [] l p i h = refl
sets_before (v ∷ vs) l p i h =
    sets_before vs (set l p v) (suc p) i (omega arith) ∙ get_or-set_other l p i v 0 (λ e. omega arith)

pub sets_behind : (vs l : List ℕ) (p i : ℕ) → p + length vs ≤ i → get_or (sets l p vs) i 0 ≡ get_or l i 0
sets_behind [] l p i h = refl
sets_behind (v ∷ vs) l p i h =
    sets_behind vs (set l p v) (suc p) i (omega arith) ∙ get_or-set_other l p i v 0 (λ e. omega arith)

pub sets_inside :
    (vs l : List ℕ) (p i : ℕ) → p + length vs ≤ length l → i < length vs → get_or (sets l p vs) (p + i) 0 ≡ get_or vs i 0
sets_inside [] l p i room h = absurd (omega arith)
sets_inside (v ∷ vs) l p zero room h =
    rw add-zero (sets_before vs (set l p v) (suc p) p (omega arith) ∙ get_or-set_same l p v 0 (omega arith))
sets_inside (v ∷ vs) l p (suc i) room h =
    ap (λ (j : ℕ). get_or (sets (set l p v) (suc p) vs) j 0) on
    ∙ sets_inside vs (set l p v) (suc p) i (simp length-set (omega arith)) (omega arith)
  where
    on : p + suc i ≡ suc p + i
    on = omega arith

-- a number is that of its bytes, wherever they stand
pub same_number :
    (n : ℕ) (a b : List ℕ) (p q : ℕ) → ((i : ℕ) → i < n → get_or a (p + i) 0 ≡ get_or b (q + i) 0)
    → little_endian n a p ≡ little_endian n b q
unfolding little_endian
same_number zero a b p q h = refl
same_number (suc n) a b p q h = rw (first, same_number n a b (p + 1) (q + 1) later)
  where
    first : get_or a p 0 ≡ get_or b q 0
    first = simp add-zero at (h 0 (omega arith))

    later : (i : ℕ) → i < n → get_or a (p + 1 + i) 0 ≡ get_or b (q + 1 + i) 0
    later i small =
        ap (λ (j : ℕ). get_or a j 0) (on p) ∙ h (i + 1) (omega arith) ∙ ap (λ (j : ℕ). get_or b j 0) (sym (on q))
      where
        on : (r : ℕ) → r + 1 + i ≡ r + (i + 1)
        on r = omega arith

-- record j of a is record k of b, from byte f on
pub record SameFrom (f : ℕ) (a : List ℕ) (j : ℕ) (b : List ℕ) (k : ℕ) : Type 0 where
  pub byte : (i : ℕ) → f ≤ i → i < 40 → get_or a (j * 40 + i) 0 ≡ get_or b (k * 40 + i) 0

module _ {a b : List ℕ} {j k : ℕ} where
  -- the n bytes from byte f of a record on
  field :
      (f n : ℕ) {from : ℕ} → from ≤ f → f + n ≤ 40 → SameFrom from a j b k
      → little_endian n a (j * 40 + f) ≡ little_endian n b (k * 40 + f)
  field f n after room same =
      same_number n a b (j * 40 + f) (k * 40 + f) λ i h.
      simp add_assoc (same.byte (f + i) (omega arith) (omega arith))

  pub same_next : SameFrom 0 a j b k → next a j ≡ next b k
  unfolding next
  same_next same = simp add-zero at (field 0 4 (omega arith) (omega arith) same)

  pub same_kind : SameFrom 4 a j b k → kind a j ≡ kind b k
  unfolding kind
  same_kind same = field 4 4 (omega arith) (omega arith) same

  pub same_numbers : SameFrom 4 a j b k → (i : ℕ) → i < 4 → number a j i ≡ number b k i
  unfolding number
  same_numbers same i h =
      ap (of_bits binary64)
      (simp add_assoc (field (8 + i * 8) 8 (omega arith) (omega arith) same))

-- a next field that was written is read
pub next_read :
    (l : List ℕ) (t m : ℕ) → t * 40 + 4 ≤ length l → next (sets l (t * 40) (next_bytes m)) t ≡ m
unfolding next little_endian
next_read l t m room =
    same_number 4 (sets l (t * 40) (next_bytes m)) (next_bytes m) (t * 40) 0 bytes ∙ (omega arith)
  where
    bytes : (i : ℕ) → i < 4 → get_or (sets l (t * 40) (next_bytes m)) (t * 40 + i) 0 ≡ get_or (next_bytes m) (0 + i) 0
    bytes i h = rw zero-add (sets_inside (next_bytes m) l (t * 40) i room h)
