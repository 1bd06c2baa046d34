-- A test over a list's elements: a loop that leaves at the first that is true, and a list in two parts. By the shape of `any_of`.
use Prim.Native.Nat.{ℕ, zero, suc, ◌+◌, ◌*◌, ◌/◌, ◌%◌, ◌<◌, ◌≤◌}
use native.Mathlib.Omega.{arith}
use native.Mathlib.Numerals.{add-one}
use mathlib.Core.Bool.{Bool, true, false, ◌||◌, or_assoc}
use mathlib.Core.List.{List, [], ◌∷◌, ◌++◌}
use mathlib.Core.Path.{◌≡◌, refl, subst, sym}
use lib.ListN.{length, get_or, drop, drop_of_length-le}
use lib.Seq.{drop-cons}
use lib.Ieee.{Float, nan}
use Rattle.section.specs.profile.Refusals.{any_of}

-- the first i elements failed: one more that fails, one that does not, and the end
module _ (test : Float → Bool) (l : List Float) (i : ℕ) (inv : any_of test (drop i l) ≡ any_of test l) where
  pub any_of_more : i < length l → test (get_or l i nan) ≡ false → any_of test (drop (i + 1) l) ≡ any_of test l
  unfolding any_of
  any_of_more h missed = rw add-one (rw (drop-cons l i nan h, missed) at inv)

  pub any_of_at : i < length l → test (get_or l i nan) ≡ true → true ≡ any_of test l
  unfolding any_of
  any_of_at h found = rw (drop-cons l i nan h, found) at inv

  pub any_of_end : length l ≤ i → false ≡ any_of test l
  unfolding any_of
  any_of_end h = rw (drop_of_length-le l h) at inv

module _ (test : Float → Bool) where
  pub any_of_append : (a b : List Float) → any_of test (a ++ b) ≡ (any_of test a || any_of test b)
  unfolding any_of
  any_of_append [] b = refl
  any_of_append (x ∷ a) b = rw (any_of_append a b, or_assoc)

  pub none_of_three : (a b c : List Float) → any_of test a ≡ false → any_of test b ≡ false → any_of test c ≡ false
      → any_of test (a ++ (b ++ c)) ≡ false
  none_of_three a b c ha hb hc = rw (any_of_append a (b ++ c), any_of_append b c, ha, hb, hc)

-- two elements at a time: both fail, and the end of a list of pairs
module _ (test : Float → Bool) (l : List Float) (k : ℕ) (inv : any_of test (drop (k * 2) l) ≡ any_of test l) where
  pub any_of_two : k * 2 + 1 < length l → test (get_or l (k * 2) nan) ≡ false → test (get_or l (k * 2 + 1) nan) ≡ false
      → any_of test (drop ((k + 1) * 2) l) ≡ any_of test l
  any_of_two h a b =
      let e : k * 2 + 1 + 1 ≡ (k + 1) * 2 = omega arith in
      subst (λ (i : ℕ). any_of test (drop i l) ≡ any_of test l) e
      (any_of_more test l (k * 2 + 1) (any_of_more test l (k * 2) inv (omega (arith, h)) a) h b)

  pub any_of_pairs_end : (length l % 2 ≡ 1 → ⊥) → length l / 2 ≤ k → any_of test l ≡ false
  any_of_pairs_end odd h = sym (any_of_end test l (k * 2) inv (whole (length l) odd h))
    where
      even : (n : ℕ) → (n % 2 ≡ 1 → ⊥) → n % 2 ≡ 0
      even n odd = go (n % 2) (omega arith) odd
        where
          go : (m : ℕ) → m < 2 → (m ≡ 1 → ⊥) → m ≡ 0
          go zero h k = refl
          go (suc zero) h k = absurd (k refl)
          go (suc (suc m)) h k = let c : ⊥ = omega arith in absurd c

      whole : (n : ℕ) → (n % 2 ≡ 1 → ⊥) → n / 2 ≤ k → n ≤ k * 2
      whole n odd h = omega (arith, even n odd, h)
