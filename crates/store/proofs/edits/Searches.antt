-- Searching a list from its front, one element a turn; and marking what it holds.
use Prim.Native.Nat.{ℕ, suc, ◌+◌, ◌-◌, ◌<◌, ◌≤◌}
use native.Mathlib.Omega.{arith}
use mathlib.Core.Bool.{Bool, true, false, cond}
use mathlib.Core.List.{List, [], ◌∷◌}
use mathlib.Core.Path.{◌≡◌, refl, sym, ap, subst, ◌∙◌}
use lib.ListN.{length, take, get_or, set, length-set, replicate, length-replicate, get_or-replicate}
use lib.Seq.{take_all}
use lib.Dec.{eqb}
use borrow.Author.Tests.{eq-eqb, ne_eqb, eqb-true, eqb-false}
use Rattle.std.specs.List.{list_any}
use Rattle.section.specs.profile.Refusals.{any_of}
use Rattle.store.specs.Chain.{member}
use Rattle.store.proofs.Lists.{take_more}
use Rattle.store.proofs.Following.{marked_more}
use Rattle.store.specs.edits.Written.{lowest_from}
use Rattle.store.specs.edits.Steps.{Small, Marked}
use Rattle.store.proofs.edits.Members.{get_d_member}

turned : (j k : ℕ) → eqb j k ≡ eqb k j
turned j k = go (eqb k j) refl
  where
    go : (same : Bool) → eqb k j ≡ same → eqb j k ≡ same
    go true e = eq-eqb j k (sym (eqb-true k j e))
    go false e = ne_eqb j k (λ q. eqb-false k j e (sym q))

-- the list holds the record where one of its records is it
pub held_by_one : (k : ℕ) (l : List ℕ) → list_any (λ (j : ℕ). eqb j k) l ≡ member k l
unfolding any_of
held_by_one k [] = refl
held_by_one k (j ∷ l) = rw (held_by_one k l, turned j k)

-- the first i records have their marks
pub record MarkedTo (l : List ℕ) (i : ℕ) (marks : List Bool) : Type 0 where
  pub within : i ≤ length l
  pub room : length marks ≡ 512
  pub first : Marked (take i l) marks

pub none_marked : (l : List ℕ) → MarkedTo l 0 (replicate 512 false)
unfolding any_of
none_marked l =
    record {
      within = omega arith;
      room = length-replicate 512 false;
      first = record { marked = λ m small. get_or-replicate 512 m false false small };
    }

module _ {l : List ℕ} {i : ℕ} {marks : List Bool} (now : MarkedTo l i marks) where
  pub one_small : Small l → i < length l → get_or l i 0 < 512
  one_small few h = few.small (get_or l i 0) (get_d_member l i h)

  pub one_marked : Small l → i < length l → MarkedTo l (i + 1) (set marks (get_or l i 0) true)
  one_marked few h =
      record {
        within = omega arith;
        room = length-set marks (get_or l i 0) true ∙ now.room;
        first = record {
          marked = λ m small.
              marked_more marks (take i l) (get_or l i 0) m (omega (arith, one_small few h, now.room)) (now.first.marked m small)
              ∙ ap (member m) (sym (take_more l i 0 h));
        };
      }

  pub all_marked : length l ≤ i → Marked l marks
  all_marked h = subst (λ (k : List ℕ). Marked k marks) (take_all i l h) now.first

module _ (ks : List ℕ) (count m : ℕ) where
  lowest_turn :
      m < count → lowest_from ks (count - m) m ≡ cond (member m ks) (lowest_from ks (count - (m + 1)) (m + 1)) m
  unfolding lowest_from
  lowest_turn h = ap (λ (n : ℕ). lowest_from ks n m) left
    where
      left : count - m ≡ suc (count - (m + 1))
      left = omega arith

  pub lowest_later :
      m < count → member m ks ≡ true → lowest_from ks (count - m) m ≡ lowest_from ks (count - (m + 1)) (m + 1)
  lowest_later h e = lowest_turn h ∙ rw e

  pub lowest_here : m < count → member m ks ≡ false → lowest_from ks (count - m) m ≡ m
  lowest_here h e = lowest_turn h ∙ rw e

  pub lowest_end : count ≤ m → lowest_from ks (count - m) m ≡ m
  unfolding lowest_from
  lowest_end h = ap (λ (n : ℕ). lowest_from ks n m) none
    where
      none : count - m ≡ 0
      none = omega arith
