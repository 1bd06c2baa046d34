-- Text written into a buffer piece by piece: one run of stores behind another is one run.
use Prim.Native.Nat.{ℕ, suc, ◌+◌, ◌<◌, ◌≤◌}
use native.Mathlib.Nat.{add-zero, zero-add, add-suc, suc-add}
use native.Mathlib.Omega.{arith}
use mathlib.Core.List.{List, [], ◌∷◌, ◌++◌}
use mathlib.Core.Path.{◌≡◌, refl, sym, ap, ◌∙◌}
use lib.ListN.{length, take, drop, get_or, set, length-append}
use lib.Seq.{sets, sets-eq, length-sets}
use Rattle.listings.specs.store_listing.Listing.{Prints}
use Rattle.listings.specs.store_listing.Steps.{Written}
use Rattle.store.proofs.Lists.{take_more}

sets_append : (l : List ℕ) (i : ℕ) (t u : List ℕ) → sets l i (t ++ u) ≡ sets (sets l i t) (i + length t) u
sets_append l i [] u = rw add-zero
sets_append l i (x ∷ t) u = rw (sets_append (set l i x) (suc i) t u, suc-add, add-suc)

module _ {before mid : List ℕ} {at m : ℕ} {t : List ℕ} (first : Written before at t mid m) where
  pub then : {u after : List ℕ} {r : ℕ} → Written mid m u after r → Written before at (t ++ u) after r
  then {u} {after} {r} next =
      record {
        text =
            next.text
            ∙ ap (λ (l : List ℕ). sets l m u) first.text
            ∙ ap (λ (j : ℕ). sets (sets before at t) j u) first.end
            ∙ sym (sets_append before at t u);
        end = omega (arith, first.end, next.end, length-append t u);
      }

  -- room for both is room for the second
  pub room_next : (u : List ℕ) → at + length (t ++ u) ≤ length before → m + length u ≤ length mid
  room_next u h =
      omega (arith, first.end, length-append t u, ap length first.text, length-sets before at t)

-- and for the first
pub room_first : (at : ℕ) (t u : List ℕ) {most : ℕ} → at + length (t ++ u) ≤ most → at + length t ≤ most
room_first at t u h = omega (arith, length-append t u)

pub nothing_written : (l : List ℕ) (at : ℕ) → Written l at [] l at
nothing_written l at = record { text = refl; end = omega arith }

-- a word goes in byte by byte
pub word_more :
    {l l' : List ℕ} {at : ℕ} (w : List ℕ) (i : ℕ) → Written l at (take i w) l' (at + i) → i < length w
    → Written l at (take (i + 1) w) (set l' (at + i) (get_or w i 0)) (at + (i + 1))
word_more {l} {l'} {at} w i now h =
    rw (take_more w i 0 h) (then now (record { text = refl; end = omega arith }))

-- what is written from the front on
pub front_of_lem : (l t : List ℕ) → length t ≤ length l → sets l 0 t ≡ t ++ drop (length t) l
front_of_lem l t h = sets-eq t l 0 (rw zero-add h) ∙ rw zero-add

pub front_written :
    {before l after : List ℕ} {r : ℕ} → Written before 0 l after r → length l ≤ length before
    → Prints l before after r
front_written {before} {l} w h =
    record { count = w.end ∙ zero-add (length l); front = w.text ∙ front_of_lem before l h }
