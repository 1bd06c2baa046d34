-- What every element of a list has; and what `any_of` tells of them where it finds none.
use Prim.Native.Nat.{ℕ, zero, suc, ◌<◌}
use mathlib.Core.Bool.{Bool, true, false, not, ◌||◌}
use mathlib.Core.List.{List, [], ◌∷◌, ◌++◌}
use native.Mathlib.Omega.{arith}
use lib.Dec.{T}
use lib.ListN.{get_or, length, take}
use Rattle.section.specs.profile.Refusals.{any_of}

pub data All {A : Type 0} (P : A → Type 0) : List A → Type 0 where
  nil : All P []
  cons : {x : A} {xs : List A} → P x → All P xs → All P (x ∷ xs)

module _ {A : Type 0} {P : A → Type 0} where
  pub all_map : {Q : A → Type 0} → ((x : A) → P x → Q x) → {l : List A} → All P l → All Q l
  all_map f nil = nil
  all_map f (cons {x} p h) = cons (f x p) (all_map f h)

  pub all_first : (a b : List A) → All P (a ++ b) → All P a
  all_first [] b h = nil
  all_first (x ∷ a) b (cons p h) = cons p (all_first a b h)

  pub all_rest : (a b : List A) → All P (a ++ b) → All P b
  all_rest [] b h = h
  all_rest (x ∷ a) b (cons p h) = all_rest a b h

  pub all_append : {a b : List A} → All P a → All P b → All P (a ++ b)
  all_append nil k = k
  all_append (cons p h) k = cons p (all_append h k)

  pub all_take : (n : ℕ) {l : List A} → All P l → All P (take n l)
  all_take zero h = nil
  all_take (suc n) nil = nil
  all_take (suc n) (cons p h) = cons p (all_take n h)

  pub all_at : {l : List A} → All P l → (d : A) (k : ℕ) → k < length l → P (get_or l k d)
  all_at nil d k l = let c : ⊥ = omega arith in absurd c
  all_at (cons p h) d zero l = p
  all_at (cons p h) d (suc k) l = all_at h d k (omega arith)

or_not : (a b : Bool) → T (not (a || b)) → T (not a) × T (not b)
or_not true b h = absurd h
or_not false b h = (tt, h)

not_or : (a b : Bool) → T (not a) → T (not b) → T (not (a || b))
not_or true b h k = h
not_or false b h k = k

module _ {A : Type 0} (test : A → Bool) where
  pub none_found : (l : List A) → T (not (any_of test l)) → All (λ (x : A). T (not (test x))) l
  unfolding any_of
  none_found [] h = nil
  none_found (x ∷ l) h = let z = or_not (test x) (any_of test l) h in cons z.0 (none_found l z.1)

  pub found_none : {l : List A} → All (λ (x : A). T (not (test x))) l → T (not (any_of test l))
  unfolding any_of
  found_none nil = tt
  found_none (cons {x} {xs} p h) = not_or (test x) (any_of test xs) p (found_none h)
