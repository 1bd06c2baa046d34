-- What a report's fields are after k steps: the boxes are the sum of the steps', it collides exactly when some step does, and the
-- first that does is the colliding step. By induction over the steps, for any bodies and hits.
use Prim.Native.Nat.{ℕ, zero, suc, ◌+◌, ◌*◌, ◌<◌, ◌≤◌}
use native.Mathlib.Nat.{eq-or-lt_of_le}
use native.Mathlib.Omega.{arith}
use mathlib.Core.Bool.{Bool, true, false, not, ◌||◌}
use mathlib.Core.Logic.{⊎_elim}
use mathlib.Core.Path.{◌≡◌, refl, ap, subst, sym, ◌∙◌}
use lib.Dec.{T}
use lib.Ieee.{Float}
use Rattle.std.specs.Bool.{then_some}
use Rattle.std.specs.Option.{option_or}
use Rattle.std.specs.Prelude.{Option, Some, None, is_some}
use Rattle.section.specs.profile.Vertices.{upto, any}
use Rattle.walk.specs.declared.shapes.CountedHit.{CountedHit}
use Rattle.bodies.specs.declared.shapes.Body.{Body}
use Rattle.bodies.specs.verdicts.Tilt.{judged_distance}
use Rattle.bodies.specs.verdicts.Verdicts.{collides}
use Rattle.bodies.specs.moves.Moves.{untried, with_step}
use Rattle.bodies.specs.declared.moves.shapes.Report.{Report}

-- the first k for which the test is true
pub record First (test : ℕ → Bool) (n k : ℕ) : Type 0 where
  pub below : k < n
  pub holds : T (test k)
  pub before : (i : ℕ) → i < k → T (not (test i))

module _ (body : ℕ → Body) (hit : ℕ → CountedHit) (clearance : Float) where
  abbrev pub tried : ℕ → Report
  tried k = upto (λ i r. with_step i (body i) (hit i) clearance r) untried k

  -- step i collides: the verdict's judgement of its distance
  abbrev pub hits : ℕ → Bool
  hits i = collides (judged_distance (body i) (hit i).hit.distance) clearance

  -- ---- the boxes
  pub boxes_total : (k : ℕ) → (tried k).boxes ≡ upto (λ i total. total + (hit i).boxes) 0 k
  unfolding upto
  boxes_total zero = refl
  boxes_total (suc k) = ap (λ (n : ℕ). n + (hit k).boxes) (boxes_total k)

  pub boxes_few : (most k : ℕ) → ((i : ℕ) → i < k → (hit i).boxes ≤ most) → (tried k).boxes ≤ k * most
  unfolding upto
  boxes_few most zero few = omega arith
  boxes_few most (suc k) few =
      let p = boxes_few most k (λ i h. few i (omega (arith, h))) in
      let q = few k (omega arith) in
      omega (arith, p, q)

  -- ---- the collision
  pub collides_any : (k : ℕ) → is_some (tried k).colliding_step ≡ any hits k
  unfolding upto any
  collides_any zero = refl
  collides_any (suc k) = more (tried k).colliding_step (hits k) ∙ ap (λ (b : Bool). b || hits k) (collides_any k)
    where
      more : (first : Option ℕ) (b : Bool) → is_some (option_or first (then_some b k)) ≡ (is_some first || b)
      more None true = refl
      more None false = refl
      more (Some i) b = refl

  -- whether and where
  pub data Colliding (k : ℕ) (r : Report) : Type 0 where
    never : r.colliding_step ≡ None → ((i : ℕ) → i < k → T (not (hits i))) → Colliding k r
    at : {j : ℕ} → r.colliding_step ≡ Some j → First hits k j → Colliding k r

  pub colliding : (k : ℕ) → Colliding k (tried k)
  unfolding upto
  colliding zero = never refl (λ i h. absurd (omega (arith, h)))
  colliding (suc k) = go (colliding k) (hits k) refl
    where
      longer : {P : ℕ → Type 0} → ((i : ℕ) → i < k → P i) → P k → (i : ℕ) → i < suc k → P i
      longer {P} f p i h =
          ⊎_elim (λ (q : i ≡ k). subst P (sym q) p) (λ (q : i < k). f i q) (eq-or-lt_of_le (omega (arith, h)))

      go : Colliding k (tried k) → (b : Bool) → hits k ≡ b → Colliding (suc k) (tried (suc k))
      go (never c none) true e =
          at (rw (c, e)) (record { below = omega arith; holds = subst T (sym e) tt; before = none })
      go (never c none) false e =
          never (rw (c, e)) (longer {P = λ i. T (not (hits i))} none (subst (λ (b : Bool). T (not b)) (sym e) tt))
      go (at c f) b e =
          at (rw c) (record { below = omega (arith, f.below); holds = f.holds; before = f.before })
