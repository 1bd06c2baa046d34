-- Records one behind the other, in the order of their numbers: one more, their length, and the one at a place.
use Prim.Native.Nat.{ℕ, zero, suc, ◌*◌, ◌<◌, ◌≤◌}
use native.Mathlib.Omega.{arith}
use mathlib.Core.List.{List, [], ◌∷◌, ◌++◌, flat_map, append_assoc, append-nil}
use mathlib.Core.Logic.{◌⊎◌, inl, inr}
use mathlib.Core.Path.{◌≡◌, sym, ap, ◌∙◌}
use lib.ListN.{length, length-append}
use Rattle.section.proofs.profile.Each.{All, nil, cons, all_append}
use Rattle.arith.proofs.roots.Numbers.{decide}
use Rattle.store.proofs.Lists.{flat_map_append}
use Rattle.loads.specs.Load.{up_to}

module _ {A : Type 0} (f : ℕ → List A) where
  pub run_more : (k : ℕ) → flat_map f (up_to (suc k)) ≡ flat_map f (up_to k) ++ f k
  unfolding up_to flat_map
  run_more k = flat_map_append f (up_to k) (k ∷ []) ∙ ap (λ (l : List A). flat_map f (up_to k) ++ l) (append-nil (f k))

  pub length_run : (size : ℕ) → ((k : ℕ) → length (f k) ≡ size) → (n : ℕ) → length (flat_map f (up_to n)) ≡ n * size
  unfolding up_to flat_map
  length_run size each zero = omega arith
  length_run size each (suc n) =
      rw (run_more n) (omega (arith, length-append (flat_map f (up_to n)) (f n), length_run size each n, each n))

  -- the run of n, cut at record k
  pub record CutAt (n k : ℕ) : Type 0 where
    pub after : List A
    pub parts : flat_map f (up_to n) ≡ flat_map f (up_to k) ++ (f k ++ after)

  pub cut_at : (n k : ℕ) → k < n → CutAt n k
  cut_at zero k h = absurd (omega arith)
  cut_at (suc n) k h = go (decide n k) (cut_at n k)
    where
      go : (n ≤ k) ⊎ (k < n) → (k < n → CutAt n k) → CutAt (suc n) k
      go (inl last) shorter =
          let same : n ≡ k = omega arith in
          record {
            after = [];
            parts = run_more n ∙ ap (λ (j : ℕ). flat_map f (up_to j) ++ f j) same
                ∙ ap (λ (l : List A). flat_map f (up_to k) ++ l) (sym (append-nil (f k)));
          }
      go (inr sooner) shorter =
          let c = shorter sooner in
          record {
            after = c.after ++ f n;
            parts = run_more n ∙ ap (λ (l : List A). l ++ f n) c.parts
                ∙ append_assoc (flat_map f (up_to k)) (f k ++ c.after) (f n)
                ∙ ap (λ (l : List A). flat_map f (up_to k) ++ l) (append_assoc (f k) c.after (f n));
          }

  -- what each record's part has
  pub all_run : {P : A → Type 0} (n : ℕ) → ((k : ℕ) → k < n → All P (f k)) → All P (flat_map f (up_to n))
  unfolding up_to flat_map
  all_run zero each = nil
  all_run (suc n) each = rw (run_more n) (all_append (all_run n (λ k h. each k (omega arith))) (each n (omega arith)))

-- what each number below n has
pub all_below : {P : ℕ → Type 0} (n : ℕ) → ((k : ℕ) → k < n → P k) → All P (up_to n)
unfolding up_to
all_below zero each = nil
all_below (suc n) each = all_append (all_below n (λ k h. each k (omega arith))) (cons (each n (omega arith)) nil)
