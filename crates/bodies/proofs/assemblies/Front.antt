-- Loops over a list, or over its first n, that leave at the first element that decides: what is not yet tried decides for all. By
-- the element that stands at the head of what is left.
use Prim.Native.Nat.{ℕ, suc, ◌+◌, ◌<◌, ◌≤◌}
use native.Mathlib.Nat.{le_of_eq, le_trans, lt_of_lt_of_le}
use native.Mathlib.Numerals.{add-one}
use mathlib.Core.Bool.{Bool, true, false}
use mathlib.Core.List.{List, [], ◌∷◌, flat_map}
use mathlib.Core.Path.{◌≡◌, ap, sym, ◌∙◌}
use lib.Dec.{T}
use lib.ListN.{length, get_or, drop, take, drop_of_length-le}
use lib.Seq.{drop-cons, get_or-take, length-take-le}
use Rattle.section.specs.profile.Refusals.{Test, refusal, any_of}
use Rattle.section.specs.profile.Steps.{numbered}
use Rattle.section.proofs.profile.Refusals.Ordered.{refusal_append, or_else_first}

module _ {A : Type 0} (l : List A) (n : ℕ) (long : n ≤ length l) where
  size : length (take n l) ≡ n
  size = length-take-le n l long

  -- the element at i, then the rest
  front_at : (i : ℕ) (d : A) → i < n → drop i (take n l) ≡ get_or l i d ∷ drop (i + 1) (take n l)
  front_at i d h =
      drop-cons (take n l) i d (lt_of_lt_of_le h (le_of_eq (sym size)))
      ∙ ap (λ (x : A). x ∷ drop (suc i) (take n l)) (get_or-take n l i d h)
      ∙ ap (λ (k : ℕ). get_or l i d ∷ drop k (take n l)) (sym (add-one i))

  front_end : (i : ℕ) → n ≤ i → drop i (take n l) ≡ []
  front_end i h = drop_of_length-le (take n l) {i = i} (le_trans (le_of_eq size) h)

  -- a search: one more that fails, one that does not, and the end
  module _ (test : A → Bool) (i : ℕ) (inv : any_of test (drop i (take n l)) ≡ any_of test (take n l)) where
    pub found_later : (d : A) → i < n → test (get_or l i d) ≡ false → any_of test (drop (i + 1) (take n l)) ≡ any_of test (take n l)
    unfolding any_of
    found_later d h missed = rw (front_at i d h, missed) at inv

    pub found_here : (d : A) → i < n → test (get_or l i d) ≡ true → true ≡ any_of test (take n l)
    unfolding any_of
    found_here d h found = rw (front_at i d h, found) at inv

    pub found_never : n ≤ i → false ≡ any_of test (take n l)
    unfolding any_of
    found_never h = rw (front_end i h) at inv

-- tests of each element of a list, one element after the other; r the number of the element at i
module _ {A : Type 0} (l : List A) (tests : A → List Test) (i : ℕ)
    (inv : refusal (flat_map tests (drop i l)) ≡ refusal (flat_map tests l)) where
  pub refused_never : length l ≤ i → 0 ≡ refusal (flat_map tests l)
  unfolding flat_map refusal
  refused_never h = rw (drop_of_length-le l h) at inv

  module _ (k : (x : A) → T (numbered (tests x))) (d : A) (h : i < length l) {r : ℕ} (e : r ≡ refusal (tests (get_or l i d))) where
    pub refused_later : r ≡ 0 → refusal (flat_map tests (drop (i + 1) l)) ≡ refusal (flat_map tests l)
    unfolding flat_map
    refused_later z = rw add-one (rw (drop-cons l i d h, refusal_append _ _ (k _), ← e, z) at inv)

    pub refused_here : (r ≡ 0 → ⊥) → r ≡ refusal (flat_map tests l)
    unfolding flat_map
    refused_here z = or_else_first r _ z ∙ (rw (drop-cons l i d h, refusal_append _ _ (k _), ← e) at inv)
