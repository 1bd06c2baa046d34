-- The report's distance is that of the step that it names, which is the first with the smallest: no step's is smaller, and every
-- earlier one's is larger. For any bodies and hits whose distances are no NaN, by induction over the steps.
use Prim.Native.Nat.{ℕ, zero, suc, ◌<◌}
use native.Mathlib.Nat.{eq-or-lt_of_le}
use native.Mathlib.Omega.{arith}
use mathlib.Core.Bool.{Bool, true, false, not, cond}
use mathlib.Core.Logic.{⊎_elim}
use mathlib.Core.Path.{◌≡◌, refl, subst, sym}
use lib.Dec.{T}
use lib.Ieee.{Float, is_nan}
use Rattle.arith.specs.F64.{◌≺◌, ∞}
use Rattle.section.specs.profile.Vertices.{upto}
use Rattle.walk.specs.declared.shapes.CountedHit.{CountedHit}
use Rattle.bodies.specs.declared.shapes.Body.{Body}
use Rattle.bodies.proofs.moves.Fields.{tried}
use Rattle.bodies.proofs.moves.Order.{apart, not_above, at_infinity}

-- of the distances at the first k steps
pub record Smallest (d : ℕ → Float) (k : ℕ) (distance : Float) (step : ℕ) : Type 0 where
  pub named : step < k
  pub its_own : distance ≡ d step
  pub none_smaller : (i : ℕ) → i < k → T (d i ≺ distance) → ⊥
  pub earlier_larger : (i : ℕ) → i < step → T (distance ≺ d i)

module _ (d : ℕ → Float) where
  -- of the first step alone
  only : T (not (is_nan (d 0))) → (b : Bool) → (T b → T (d 0 ≺ ∞)) → (T (d 0 ≺ ∞) → T b)
      → Smallest d 1 (cond b (d 0) ∞) (cond b 0 0)
  only p true f g = record {
    named = omega arith;
    its_own = refl;
    none_smaller = λ i h k. self i (omega (arith, h)) k;
    earlier_larger = λ i h. absurd (omega (arith, h));
  }
    where
      self : (i : ℕ) → i ≡ 0 → T (d i ≺ d 0) → ⊥
      self i e k = let q = subst (λ (j : ℕ). T (d j ≺ d 0)) e k in not_above (d 0) (d 0) q q
  only p false f g = record {
    named = omega arith;
    its_own = sym (at_infinity (d 0) p g);
    none_smaller = λ i h k. g (subst (λ (j : ℕ). T (d j ≺ ∞)) (first i h) k);
    earlier_larger = λ i h. absurd (omega (arith, h));
  }
    where
      first : (i : ℕ) → i < 1 → i ≡ 0
      first i h = omega (arith, h)

  -- with one step more
  module _ (k : ℕ) (numbers : (i : ℕ) → i < k → T (not (is_nan (d i)))) (distance : Float) (step : ℕ)
      (S : Smallest d k distance step) where
    one_more : (b : Bool) → (T b → T (d k ≺ distance)) → (T (d k ≺ distance) → T b)
        → Smallest d (suc k) (cond b (d k) distance) (cond b k step)
    one_more true f g = record {
      named = omega arith;
      its_own = refl;
      none_smaller = smaller;
      earlier_larger = larger;
    }
      where
        larger : (i : ℕ) → i < k → T (d k ≺ d i)
        larger i h = ⊎_elim (λ (p : T (d k ≺ d i)). p) (λ (p : T (d i ≺ distance)). absurd (S.none_smaller i h p))
            (apart (d k) distance (d i) (numbers i h) (f tt))

        smaller : (i : ℕ) → i < suc k → T (d i ≺ d k) → ⊥
        smaller i h p =
            ⊎_elim
            (λ (q : i ≡ k). let r = subst (λ (j : ℕ). T (d j ≺ d k)) q p in not_above (d k) (d k) r r)
            (λ (q : i < k). not_above (d i) (d k) p (larger i q))
            (eq-or-lt_of_le (omega (arith, h)))
    one_more false f g = record {
      named = omega (arith, S.named);
      its_own = S.its_own;
      none_smaller = smaller;
      earlier_larger = S.earlier_larger;
    }
      where
        smaller : (i : ℕ) → i < suc k → T (d i ≺ distance) → ⊥
        smaller i h p =
            ⊎_elim
            (λ (q : i ≡ k). g (subst (λ (j : ℕ). T (d j ≺ distance)) q p))
            (λ (q : i < k). S.none_smaller i q p)
            (eq-or-lt_of_le (omega (arith, h)))

module _ (body : ℕ → Body) (hit : ℕ → CountedHit) (clearance : Float) where
  abbrev d : ℕ → Float
  d i = (hit i).hit.distance

  pub smallest : (n : ℕ) → ((i : ℕ) → i < suc n → T (not (is_nan (hit i).hit.distance)))
      → Smallest (λ i. (hit i).hit.distance) (suc n) (tried body hit clearance (suc n)).distance
      (tried body hit clearance (suc n)).step
  unfolding upto
  smallest zero p = only d (p 0 (omega arith)) (d 0 ≺ ∞) (λ h. h) (λ h. h)
  smallest (suc n) p =
      let r = tried body hit clearance (suc n) in
      one_more d (suc n) (λ i h. p i (omega (arith, h))) r.distance r.step (smallest n (λ i h. p i (omega (arith, h))))
      (d (suc n) ≺ r.distance) (λ h. h) (λ h. h)

  -- at +infinity everywhere the step is 0
  pub all_infinite : (k : ℕ) → ((i : ℕ) → i < k → (hit i).hit.distance ≡ ∞)
      → ((tried body hit clearance k).distance ≡ ∞) × ((tried body hit clearance k).step ≡ 0)
  unfolding upto
  all_infinite zero p = (refl, refl)
  all_infinite (suc k) p =
      let q = all_infinite k (λ i h. p i (omega (arith, h))) in
      kept (d k ≺ (tried body hit clearance k).distance) (λ h. below (subst (λ (x : Float). T (d k ≺ x)) q.0 h)) q.0 q.1
    where
      below : T (d k ≺ ∞) → ⊥
      below h = let r = subst (λ (x : Float). T (x ≺ ∞)) (p k (omega arith)) h in not_above ∞ ∞ r r

      kept : {distance : Float} {step : ℕ} (b : Bool) → (T b → ⊥) → distance ≡ ∞ → step ≡ 0
          → (cond b (d k) distance ≡ ∞) × (cond b k step ≡ 0)
      kept true f e z = absurd (f tt)
      kept false f e z = (e, z)
