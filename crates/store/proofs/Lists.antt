-- Lists that a loop goes through from the front, one element a turn.
use Prim.Native.Nat.{ℕ, ◌+◌, ◌<◌, ◌≤◌}
use native.Mathlib.Numerals.{add-one}
use native.Mathlib.Omega.{arith}
use mathlib.Core.Bool.{Bool, true, false}
use mathlib.Core.List.{List, [], ◌∷◌, ◌++◌, append_assoc, append-nil, flat_map}
use mathlib.Core.Path.{◌≡◌, refl, ap, ◌∙◌}
use lib.ListN.{length, take, drop, get_or, drop_of_length-le, length-append}
use lib.Seq.{take-suc, drop-cons, sets, sets-eq, take_at, length-take-le}
use Rattle.store.specs.First.{first_refused}
use Rattle.store.specs.Answers.{Accepted, Refused}

module _ {A : Type 0} where
  pub take_more : (l : List A) (i : ℕ) (d : A) → i < length l → take (i + 1) l ≡ take i l ++ (get_or l i d ∷ [])
  take_more l i d h = rw (add-one, take-suc l i d h)

  pub drop_more : (l : List A) (i : ℕ) (d : A) → i < length l → drop i l ≡ get_or l i d ∷ drop (i + 1) l
  drop_more l i d h = rw (add-one, drop-cons l i d h)

  -- a run of stores, and what stands before it
  pub sets_front :
      (vs l : List A) (i : ℕ) → i + length vs ≤ length l → take (i + length vs) (sets l i vs) ≡ take i l ++ vs
  sets_front vs l i h =
      ap (take (i + length vs)) (sets-eq vs l i h)
      ∙ take_at (take i l ++ vs) (drop (i + length vs) l) (i + length vs)
      (length-append (take i l) vs ∙ ap (λ (k : ℕ). k + length vs) (length-take-le i l (omega arith)))

module _ {A B : Type 0} (f : A → List B) where
  pub flat_map_append : (k l : List A) → flat_map f (k ++ l) ≡ flat_map f k ++ flat_map f l
  unfolding flat_map
  flat_map_append [] l = refl
  flat_map_append (x ∷ k) l = rw (flat_map_append k l, append_assoc)

  -- one element more
  pub flat_map_more :
      (l : List A) (i : ℕ) (d : A) → i < length l → flat_map f (take (i + 1) l) ≡ flat_map f (take i l) ++ f (get_or l i d)
  unfolding flat_map
  flat_map_more l i d h = rw (take_more l i d h, flat_map_append, append-nil)

-- the search for the first record of which a test is true: one record more, a find, and the end
module _ (n : ℕ) (test : ℕ → Bool) (l : List ℕ) (i : ℕ) where
  pub first_more :
      i < length l → test (get_or l i 0) ≡ false → first_refused n test (drop i l) ≡ first_refused n test (drop (i + 1) l)
  unfolding first_refused
  first_more h passed = rw (drop_more l i 0 h, passed)

  pub first_found : i < length l → test (get_or l i 0) ≡ true → first_refused n test (drop i l) ≡ Refused n (get_or l i 0)
  unfolding first_refused
  first_found h found = rw (drop_more l i 0 h, found)

  pub first_end : length l ≤ i → first_refused n test (drop i l) ≡ Accepted
  unfolding first_refused
  first_end h = rw (drop_of_length-le l h)
