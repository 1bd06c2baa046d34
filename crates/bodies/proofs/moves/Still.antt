-- A move with equal offsets reports the query of that placement: every step places the body alike, at the offset start + 0, so
-- that the distance and the collision are those of step 0, and the boxes are that query's, once for each step.
use Prim.Native.Nat.{ℕ, zero, suc, ◌+◌, ◌*◌, ◌^◌, ◌<◌, ◌≤◌}
use native.Mathlib.Nat.{le_trans}
use native.Mathlib.Numerals.{add-one}
use native.Mathlib.Omega.{arith}
use mathlib.Core.Bool.{Bool, true, false, not, cond}
use mathlib.Core.List.{List}
use mathlib.Core.Path.{◌≡◌, refl, ap, subst, sym, ◌∙◌}
use lib.Dec.{T, lit≤}
use lib.Ieee.{Float, is_nan}
use mir.Facts.{T_not-not}
use Rattle.std.specs.Bool.{then_some}
use Rattle.std.specs.Option.{option_or}
use Rattle.std.specs.Prelude.{Option}
use Rattle.arith.specs.F64.{◌⊕◌, ◌≺◌, 𝟘, ∞}
use Rattle.arith.specs.Num.{is_finite}
use Rattle.arith.specs.Vector.{vec}
use Rattle.arith.specs.declared.vector.Vec3.{Vec3}
use Rattle.section.specs.profile.Refusals.{refusal, point_numbers}
use Rattle.section.specs.profile.Replies.{value}
use Rattle.section.specs.profile.Vertices.{upto}
use Rattle.section.proofs.profile.Each.{All, nil, cons, all_first}
use Rattle.section.proofs.profile.Refusals.Passed.{NumberTaken}
use Rattle.walk.specs.declared.settings.shapes.Settings.{Settings}
use Rattle.walk.specs.declared.shapes.CountedHit.{CountedHit}
use Rattle.bodies.specs.Bodies.{body_distance, body_answer}
use Rattle.bodies.specs.declared.shapes.Body.{Body}
use Rattle.bodies.specs.verdicts.Tilt.{judged_distance}
use Rattle.bodies.specs.verdicts.Verdicts.{collides}
use Rattle.bodies.specs.moves.Placement.{offset, placed, placed_at}
use Rattle.bodies.specs.moves.Moves.{before_placing, move_tests, untried, with_step, step_hit, report_upto, move_answer}
use Rattle.bodies.specs.declared.moves.shapes.Travel.{Travel}
use Rattle.bodies.specs.declared.moves.shapes.Report.{Report}
use Rattle.bodies.proofs.moves.Given.{steps_given, offsets_taken}
use Rattle.bodies.proofs.moves.Order.{at_infinity, not_above}
use Rattle.bodies.proofs.moves.Single.{passes, step_query, step_number, answer}
use Rattle.bodies.proofs.moves.Zero.{offset_still}

-- start + 0 is the start itself, but +0 where that is -0
abbrev pub stood : Vec3 → Vec3
stood o = vec (o.x ⊕ 𝟘) (o.y ⊕ 𝟘) (o.z ⊕ 𝟘)

-- ---- the same hit at every step
abbrev pub standing : Body → CountedHit → Float → ℕ → Report
standing b h clearance boxes = record {
  distance = h.hit.distance;
  step = 0;
  colliding_step = then_some (collides (judged_distance b h.hit.distance) clearance) 0;
  boxes = boxes;
}

module _ (b : Body) (h : CountedHit) (clearance : Float) (p : T (not (is_nan h.hit.distance))) where
  abbrev d : Float
  d = h.hit.distance

  abbrev hits : Bool
  hits = collides (judged_distance b d) clearance

  abbrev stands : ℕ → Report
  stands = standing b h clearance

  abbrev made : Float → ℕ → Option ℕ → ℕ → Report
  made x k c n = record { distance = x; step = k; colliding_step = c; boxes = n }

  first : with_step 0 b h clearance untried ≡ stands (0 + h.boxes)
  first = go (d ≺ ∞) (at_infinity d p)
    where
      go : (a : Bool) → ((T a → ⊥) → d ≡ ∞)
          → made (cond a d ∞) (cond a 0 0) (then_some hits 0) (0 + h.boxes) ≡ made d 0 (then_some hits 0) (0 + h.boxes)
      go true f = refl
      go false f = ap (λ (x : Float). made x 0 (then_some hits 0) (0 + h.boxes)) (sym (f (λ k. k)))

  again : (k n : ℕ) → with_step (suc k) b h clearance (stands n) ≡ stands (n + h.boxes)
  again k n = go (d ≺ d) (λ q. not_above d d q q) hits
    where
      go : (a : Bool) → (T a → ⊥) → (c : Bool)
          → made (cond a d d) (cond a (suc k) 0) (option_or (then_some c 0) (then_some c (suc k))) (n + h.boxes)
          ≡ made d 0 (then_some c 0) (n + h.boxes)
      go true f c = absurd (f tt)
      go false f true = refl
      go false f false = refl

  all_standing : (k : ℕ) → upto (λ i r. with_step i b h clearance r) untried (suc k) ≡ stands (suc k * h.boxes)
  unfolding upto
  all_standing zero = first ∙ ap stands (once h.boxes)
    where
      once : (n : ℕ) → 0 + n ≡ 1 * n
      once n = omega arith
  all_standing (suc k) =
      ap (with_step (suc k) b h clearance) (all_standing k) ∙ again k (suc k * h.boxes) ∙ ap stands (more k h.boxes)
    where
      more : (k n : ℕ) → suc k * n + n ≡ suc (suc k) * n
      more k n = omega arith

-- folds whose steps agree
upto_same : {A : Type 0} (f g : ℕ → A → A) (a : A) (k : ℕ) → ((i : ℕ) → i < k → (x : A) → f i x ≡ g i x) → upto f a k ≡ upto g a k
unfolding upto
upto_same f g a zero p = refl
upto_same f g a (suc k) p = p k (omega arith) (upto f a k) ∙ ap (g k) (upto_same f g a k (λ i h. p i (omega (arith, h))))

-- ---- the same placement at every step
offset_stood : (o : Vec3) → All NumberTaken (point_numbers o) → (n i : ℕ) → 0 < n → n ≤ 2 ^ 53 → i ≤ 2 ^ 53
    → vec (offset o.x o.x n i) (offset o.y o.y n i) (offset o.z o.z n i) ≡ stood o
offset_stood o (cons x (cons y (cons z nil))) n i N l k =
    rw (
      offset_still o.x (T_not-not (is_finite o.x) x.finite) n i N l k,
      offset_still o.y (T_not-not (is_finite o.y) y.finite) n i N l k,
      offset_still o.z (T_not-not (is_finite o.z) z.finite) n i N l k,
    )

module _ (s : List Float) (b : Body) (clearance : Float) (v : Travel) (t : Settings) (same : v.end ≡ v.start)
    (e : refusal (move_tests s b clearance v t) ≡ 0) where
  abbrev there : Body
  there = placed b (stood v.start)

  abbrev hit : CountedHit
  hit = body_distance s there t

  pub placed_still : (i : ℕ) → i ≤ v.steps → placed_at b v i ≡ placed b (stood v.start)
  placed_still i h =
      ap (λ (o : Vec3). placed b (vec (offset v.start.x o.x v.steps i) (offset v.start.y o.y v.steps i)
      (offset v.start.z o.z v.steps i))) same
      ∙ ap (placed b) (offset_stood v.start taken v.steps i given.0 few (le_trans h few))
    where
      before : refusal (before_placing s b clearance v t) ≡ 0
      before = (passes s b clearance v t e).0

      taken : All NumberTaken (point_numbers v.start)
      taken = all_first (point_numbers v.start) (point_numbers v.end) (offsets_taken s b clearance v t before)

      given : (1 ≤ v.steps) × (v.steps ≤ 4096)
      given = steps_given s b clearance v t before

      few : v.steps ≤ 2 ^ 53
      few = le_trans given.1 (lit≤ tt)

  -- the query of that placement gives its hit, and the report is that hit's
  pub still_query : body_answer s (placed b (stood v.start)) t ≡ value (body_distance s (placed b (stood v.start)) t)
  still_query =
      subst (λ (p : Body). body_answer s p t ≡ value (body_distance s p t)) (placed_still 0 (omega arith))
      (step_query s b clearance v t e 0 (omega arith))

  pub still : move_answer s b clearance v t
      ≡ value (standing (placed b (stood v.start)) (body_distance s (placed b (stood v.start)) t) clearance
      ((v.steps + 1) * (body_distance s (placed b (stood v.start)) t).boxes))
  still =
      answer s b clearance v t e
      ∙ ap value (rw (add-one v.steps) (folded ∙ all_standing there hit clearance number v.steps))
    where
      number : T (not (is_nan hit.hit.distance))
      number =
          subst (λ (p : Body). T (not (is_nan (body_distance s p t).hit.distance))) (placed_still 0 (omega arith))
          (step_number s b clearance v t e 0 (omega arith))

      folded : report_upto s b clearance v t (suc v.steps)
          ≡ upto (λ i r. with_step i there hit clearance r) untried (suc v.steps)
      folded =
          upto_same (λ (i : ℕ) (r : Report). with_step i (placed_at b v i) (step_hit s b v t i) clearance r)
          (λ (i : ℕ) (r : Report). with_step i there hit clearance r) untried (suc v.steps)
          (λ i h r. ap (λ (p : Body). with_step i p (body_distance s p t) clearance r) (placed_still i (omega (arith, h))))
