-- Tests in order: where none applies, what two lists of tests give one after the other, the greatest number, and 01's sentence: where
-- the numbers ascend, the first that applies is the lowest. By induction over the list.
use Prim.Native.Nat.{ℕ, zero, suc, ◌<◌, ◌≤◌}
use native.Mathlib.Nat.{le_of_lt, le_refl, le_trans}
use native.Mathlib.Omega.{arith}
use mathlib.Core.Bool.{Bool, true, false, not, ◌&&◌, cond}
use mathlib.Core.List.{List, [], ◌∷◌, ◌++◌}
use mathlib.Core.Path.{◌≡◌, refl, sym, subst}
use lib.Dec.{T, ltb, leb, ltb→lt, leb→le}
use lib.Ieee.Fits.{and_l, and_r}
use borrow.Author.Tests.{ne_eqb}
use Rattle.section.specs.profile.Refusals.{Test, refusal}
use Rattle.section.specs.profile.Steps.{numbered, or_else}
use Rattle.section.proofs.profile.Each.{All, nil, cons, all_first, all_rest, all_append}

-- every number is at most n; each above the one before it
abbrev pub numbers_at_most : ℕ → List Test → Bool
numbers_at_most n [] = true
numbers_at_most n (t ∷ ts) = leb t.number n && numbers_at_most n ts

abbrev pub ascends_from : ℕ → List Test → Bool
ascends_from n [] = true
ascends_from n (t ∷ ts) = ltb n t.number && ascends_from t.number ts

abbrev pub Passes : Test → Type 0
Passes t = T (not t.applies)

-- ---- none applies
head_passes : (b : Bool) (n rest : ℕ) → 0 < n → cond b n rest ≡ 0 → T (not b) × (rest ≡ 0)
head_passes true n rest h e = let c : ⊥ = omega arith in absurd c
head_passes false n rest h e = (tt, e)

module _ (t : Test) (ts : List Test) (h : T (numbered (t ∷ ts))) where
  head_positive : 0 < t.number
  head_positive = ltb→lt 0 t.number (and_l (ltb 0 t.number) (numbered ts) h)

  tail_numbered : T (numbered ts)
  tail_numbered = and_r (ltb 0 t.number) (numbered ts) h

pub none_applies : (ts : List Test) → T (numbered ts) → refusal ts ≡ 0 → All Passes ts
unfolding refusal
none_applies [] h e = nil
none_applies (t ∷ ts) h e =
    let p = head_passes t.applies t.number (refusal ts) (head_positive t ts h) e in
    cons p.0 (none_applies ts (tail_numbered t ts h) p.1)

pub all_pass : {ts : List Test} → All Passes ts → refusal ts ≡ 0
unfolding refusal
all_pass nil = refl
all_pass (cons {x = t} {xs = ts} p h) = skip t.applies p (all_pass h)
  where
    skip : (b : Bool) → T (not b) → refusal ts ≡ 0 → cond b t.number (refusal ts) ≡ 0
    skip true q e = absurd q
    skip false q e = e

-- tests left out in the middle: nothing is turned down by the rest
pub left_out : (a b c : List Test) → T (numbered (a ++ (b ++ c))) → refusal (a ++ (b ++ c)) ≡ 0 → refusal (a ++ c) ≡ 0
left_out a b c h e =
    let p = none_applies (a ++ (b ++ c)) h e in
    all_pass (all_append (all_first a (b ++ c) p) (all_rest b c (all_rest a (b ++ c) p)))

-- ---- one list after the other
pub refusal_append : (a b : List Test) → T (numbered a) → refusal (a ++ b) ≡ or_else (refusal a) (refusal b)
unfolding refusal
refusal_append [] b h = refl
refusal_append (t ∷ a) b h = go t.applies (refusal_append a b (tail_numbered t a h))
  where
    go : (x : Bool) → refusal (a ++ b) ≡ or_else (refusal a) (refusal b)
        → cond x t.number (refusal (a ++ b)) ≡ or_else (cond x t.number (refusal a)) (refusal b)
    go true e = let p = head_positive t a h in rw (ne_eqb t.number 0 (omega arith))
    go false e = e

pub or_else_none : (n : ℕ) → or_else n 0 ≡ n
or_else_none zero = refl
or_else_none (suc n) = rw (ne_eqb (suc n) 0 (λ e. omega arith))

pub or_else_first : (n m : ℕ) → (n ≡ 0 → ⊥) → n ≡ or_else n m
or_else_first n m k = rw (ne_eqb n 0 k)

pub or_else_second : (n m : ℕ) → n ≡ 0 → m ≡ or_else n m
or_else_second n m z = rw z

-- a call that makes the tests a, then b, then has its own number
module _ (a b : List Test) (h : T (numbered a)) {n : ℕ} (own : ℕ) (e : n ≡ refusal a) where
  pub by_first : (n ≡ 0 → ⊥) → n ≡ or_else (refusal (a ++ b)) own
  by_first k = rw (refusal_append a b h, ← e, ne_eqb n 0 k, ne_eqb n 0 k)

  pub by_second : {m : ℕ} → n ≡ 0 → m ≡ refusal b → (m ≡ 0 → ⊥) → m ≡ or_else (refusal (a ++ b)) own
  by_second {m} z f k = rw (refusal_append a b h, ← e, z, ← f, ne_eqb m 0 k)

  pub by_own : {m : ℕ} → n ≡ 0 → m ≡ refusal b → m ≡ 0 → own ≡ or_else (refusal (a ++ b)) own
  by_own {m} z f y = rw (refusal_append a b h, ← e, z, ← f, y)

-- a call that makes the tests a, then b
pub by_rest : (a b : List Test) → T (numbered a) → {n m : ℕ} → n ≡ refusal a → n ≡ 0 → m ≡ refusal b → m ≡ refusal (a ++ b)
by_rest a b h e z f = rw (refusal_append a b h, ← e, z, f)

-- the tests a, then those of the settings, then the section's own, then the body's
pub own_after : (a settings axis b : List Test) → T (numbered a) → T (numbered settings) → T (numbered axis) → {r n own : ℕ}
    → r ≡ or_else (refusal a) (or_else n (or_else (refusal axis) own)) → n ≡ refusal settings → own ≡ refusal b
    → r ≡ refusal (a ++ (settings ++ (axis ++ b)))
own_after a settings axis b h k j e g f =
    rw (e, g, f, refusal_append a (settings ++ (axis ++ b)) h, refusal_append settings (axis ++ b) k, refusal_append axis b j)

-- a call without settings
pub no_settings : 0 ≡ refusal []
unfolding refusal
no_settings = refl

-- ---- the greatest number
pub refusal_most : (n : ℕ) (ts : List Test) → T (numbers_at_most n ts) → refusal ts ≤ n
unfolding refusal
refusal_most n [] h = omega arith
refusal_most n (t ∷ ts) h = go t.applies (refusal_most n ts (and_r (leb t.number n) (numbers_at_most n ts) h))
  where
    go : (x : Bool) → refusal ts ≤ n → cond x t.number (refusal ts) ≤ n
    go true l = leb→le t.number n (and_l (leb t.number n) (numbers_at_most n ts) h)
    go false l = l

-- ---- 01: the lowest number that applies

-- a test of the list applies, and n is its number
pub data Given (n : ℕ) : List Test → Type 0 where
  here : {t : Test} {ts : List Test} → T t.applies → t.number ≡ n → Given n (t ∷ ts)
  later : {t : Test} {ts : List Test} → Given n ts → Given n (t ∷ ts)

-- n is 0 where no test applies, and otherwise the lowest number that applies
pub record Lowest (ts : List Test) (n : ℕ) : Type 0 where
  pub none : n ≡ 0 → All Passes ts
  pub one : (n ≡ 0 → ⊥) → Given n ts
  pub lowest : All (λ (t : Test). T t.applies → n ≤ t.number) ts

module _ (n : ℕ) (t : Test) (ts : List Test) (h : T (ascends_from n (t ∷ ts))) where
  head_above : n < t.number
  head_above = ltb→lt n t.number (and_l (ltb n t.number) (ascends_from t.number ts) h)

  tail_ascends : T (ascends_from t.number ts)
  tail_ascends = and_r (ltb n t.number) (ascends_from t.number ts) h

-- what ascends from m, at n or above, is above n
above : (n m : ℕ) (ts : List Test) → n ≤ m → T (ascends_from m ts) → All (λ (t : Test). T t.applies → n ≤ t.number) ts
above n m [] l h = nil
above n m (t ∷ ts) l h =
    let p : n ≤ t.number = le_trans l (le_of_lt (head_above m t ts h)) in
    cons (λ a. p) (above n t.number ts p (tail_ascends m t ts h))

lowest_from_lem : (n : ℕ) (ts : List Test) → T (ascends_from n ts) → Lowest ts (refusal ts)
unfolding refusal
lowest_from_lem n [] h = record { none = λ e. nil; one = λ k. absurd (k refl); lowest = nil }
lowest_from_lem n (t ∷ ts) h = go t.applies refl (lowest_from_lem t.number ts (tail_ascends n t ts h))
  where
    p : n < t.number
    p = head_above n t ts h

    go : (b : Bool) → t.applies ≡ b → Lowest ts (refusal ts) → Lowest (t ∷ ts) (cond b t.number (refusal ts))
    go true e r = record {
      none = λ z. let c : ⊥ = omega (arith, p) in absurd c;
      one = λ k. here (subst T (sym e) tt) refl;
      lowest = cons (λ a. le_refl t.number) (above t.number t.number ts (le_refl t.number) (tail_ascends n t ts h));
    }
    go false e r = record {
      none = λ z. cons (subst (λ (b : Bool). T (not b)) (sym e) tt) (r.none z);
      one = λ k. later (r.one k);
      lowest = cons (λ a. absurd (subst T e a)) r.lowest;
    }

pub first_is_lowest : (ts : List Test) → T (ascends_from 0 ts) → Lowest ts (refusal ts)
first_is_lowest = lowest_from_lem 0
