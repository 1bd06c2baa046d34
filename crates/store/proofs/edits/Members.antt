-- Lists of records: which they hold, that none stands at two places, and their last. Idea: by the one element that is put
-- behind a list.
use Prim.Native.Nat.{ℕ, zero, suc, ◌-◌, ◌<◌, ◌≤◌}
use native.Mathlib.Omega.{arith}
use mathlib.Core.Bool.{Bool, true, false, ◌||◌, or-true}
use mathlib.Core.List.{List, [], ◌∷◌, ◌++◌}
use mathlib.Core.Path.{◌≡◌, refl, sym, ap, ◌∙◌}
use lib.ListN.{length, get_or, length-append, get_or-append}
use lib.Seq.{get_or_at}
use lib.Dec.{eqb, leb}
use borrow.Author.Tests.{eq-eqb, eqb-true, leb-true, leb-false}
use Rattle.section.specs.profile.Refusals.{any_of}
use Rattle.store.specs.Chain.{member}
use Rattle.store.proofs.Following.{member_snoc}
use Rattle.store.specs.edits.Series.{NoRepeats}

pub not_both : {t : Bool} → t ≡ true → t ≡ false → ⊥
not_both p q = let z : true ≡ false = sym p ∙ q in let one : ◌≡◌ {A = ℕ} 0 1 = cc in omega arith

either : (p q : Bool) → (p || q) ≡ true → (p ≡ false → q ≡ true)
either true q e f = absurd (not_both e f)
either false q e f = e

pub get_d_member : (l : List ℕ) (i : ℕ) → i < length l → member (get_or l i 0) l ≡ true
unfolding any_of
get_d_member [] i h = absurd (omega arith)
get_d_member (x ∷ l) zero h = rw (eq-eqb x x refl)
get_d_member (x ∷ l) (suc i) h = rw (get_d_member l i (omega arith), or-true)

module _ (l : List ℕ) (m : ℕ) where
  pub member_more : (j : ℕ) → member j l ≡ true → member j (l ++ (m ∷ [])) ≡ true
  member_more j e = member_snoc j m l ∙ rw e

  pub member_new : member m (l ++ (m ∷ [])) ≡ true
  member_new = member_snoc m m l ∙ rw (eq-eqb m m refl, or-true)

  -- what the longer list holds is the new one or of the old
  pub member_cases :
      (P : ℕ → Type 0) → ((j : ℕ) → member j l ≡ true → P j) → P m → (j : ℕ) → member j (l ++ (m ∷ [])) ≡ true → P j
  member_cases P old new j e = go (member j l) refl (sym (member_snoc j m l) ∙ e)
    where
      go : (there : Bool) → member j l ≡ there → (member j l || eqb j m) ≡ true → P j
      go true t e = old j t
      go false t e = rw (eqb-true j m (either (member j l) (eqb j m) e t)) new

  pub last_of_more : get_or (l ++ (m ∷ [])) (length (l ++ (m ∷ [])) - 1) 0 ≡ m
  last_of_more = get_or_at l m [] 0 (length (l ++ (m ∷ [])) - 1) (simp length-append (omega arith))

  pub no_repeats_more : NoRepeats l → member m l ≡ false → NoRepeats (l ++ (m ∷ []))
  no_repeats_more apart new i j less within same = go (leb (length l) j) refl
    where
      go : (end : Bool) → leb (length l) j ≡ end → ⊥
      go true e =
          let past : length l ≤ j = leb-true (length l) j e in
          let at : length l ≡ j = omega (arith, length-append l (m ∷ [])) in
          let old : get_or l i 0 ≡ m =
          sym (get_or-append l (m ∷ []) 0 i (omega arith)) ∙ same ∙ get_or_at l m [] 0 j at in
          not_both (get_d_member l i (omega arith)) (ap (λ (k : ℕ). member k l) old ∙ new)
      go false e =
          let before : j < length l = leb-false (length l) j e in
          apart i j less before
          (sym (get_or-append l (m ∷ []) 0 i (omega arith)) ∙ same ∙ get_or-append l (m ∷ []) 0 j before)
