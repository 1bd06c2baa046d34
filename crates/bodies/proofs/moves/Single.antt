-- The answer and the single calls. Where a move is not turned down, the query of every step gives its hit, and the report is what
-- these come to: the first smallest distance, the first collision, the sum of the boxes. At the finest settings each step's
-- collision is its own verdict. Where a step's query is the first that is turned down, its number is the move's.
use Prim.Native.Nat.{ℕ, ◌+◌, ◌<◌, ◌≤◌}
use native.Mathlib.Numerals.{add-one}
use native.Mathlib.Omega.{arith}
use mathlib.Core.Bool.{Bool, true, false, not}
use mathlib.Core.List.{List, [], ◌∷◌, ◌++◌}
use mathlib.Core.Path.{◌≡◌, ap, sym, ◌∙◌}
use lib.Dec.{T}
use lib.Ieee.{Float, is_nan}
use Rattle.std.specs.Prelude.{Some, None}
use lib.Ieee.Bits.{is_true, is_false}
use Rattle.section.specs.profile.Refusals.{Test, refusal}
use Rattle.section.specs.profile.Replies.{value, turned_down, reply}
use Rattle.section.specs.profile.Steps.{numbered}
use Rattle.section.specs.profile.Vertices.{upto}
use Rattle.section.proofs.profile.Each.{all_first, all_rest}
use Rattle.section.proofs.profile.Refusals.Ordered.{none_applies, all_pass}
use Rattle.walk.specs.settings.Settings.{finest, settings_tests}
use Rattle.walk.specs.declared.settings.shapes.Settings.{Settings}
use Rattle.bodies.specs.Bodies.{alone_tests, body_tests, body_answer}
use Rattle.bodies.specs.declared.shapes.Body.{Body}
use Rattle.bodies.proofs.Alone.{alone_numbered}
use Rattle.bodies.proofs.Number.{body_number}
use Rattle.bodies.proofs.Replied.{refused_by_lem, valued_by}
use Rattle.bodies.specs.verdicts.Verdicts.{body_verdict}
use Rattle.bodies.specs.moves.Placement.{placed_at}
use Rattle.bodies.specs.moves.Moves.{before_placing, placed_tests, move_tests, step_hit, report_upto, move_answer}
use Rattle.bodies.specs.declared.moves.shapes.Travel.{Travel}
use Rattle.bodies.specs.declared.moves.shapes.Report.{Report}
use Rattle.bodies.proofs.moves.Fields.{Colliding, never, at, hits, colliding, boxes_total}
use Rattle.bodies.proofs.moves.Given.{before_numbered, tests_alone, query_alone, verdict_given}
use Rattle.bodies.proofs.moves.Ordered.{numbered_append, first_numbered, none_refused, none_yet}
use Rattle.bodies.proofs.moves.Smallest.{Smallest, smallest}
use Rattle.bodies.proofs.moves.Turns.{placed_refused}

module _ (s : List Float) (b : Body) (clearance : Float) (v : Travel) (t : Settings) where
  abbrev tests : ℕ → List Test
  tests i = alone_tests (placed_at b v i)

  numbers : (i : ℕ) → T (numbered (tests i))
  numbers i = alone_numbered (placed_at b v i)

  -- the first step whose query is turned down ends the move with its number
  pub first_refused_step : refusal (before_placing s b clearance v t) ≡ 0 → (i : ℕ) → i ≤ v.steps
      → ((j : ℕ) → j < i → body_answer s (placed_at b v j) t ≡ value (step_hit s b v t j))
      → {n : ℕ} → body_answer s (placed_at b v i) t ≡ turned_down n → turned_down n ≡ move_answer s b clearance v t
  first_refused_step e i h p f =
      let q = refused_by_lem (refusal (tests i)) (step_hit s b v t i) (sym f ∙ query_alone s b clearance v t e (placed_at b v i)) in
      placed_refused s b clearance v t e i h (none_yet tests numbers i each) q.0 q.1
    where
      each : (j : ℕ) → j < i → refusal (tests j) ≡ 0
      each j l =
          (valued_by (refusal (tests j)) (step_hit s b v t j)
          (sym (p j l) ∙ query_alone s b clearance v t e (placed_at b v j))).0

  module _ (e : refusal (move_tests s b clearance v t) ≡ 0) where
    pub passes : (refusal (before_placing s b clearance v t) ≡ 0) × (refusal (placed_tests b v (v.steps + 1)) ≡ 0)
    passes =
        let before = before_placing s b clearance v t in
        let placed = placed_tests b v (v.steps + 1) in
        let p = none_applies (before ++ placed)
        (numbered_append before placed (before_numbered b v.steps) (first_numbered tests numbers (v.steps + 1))) e in
        (all_pass (all_first before placed p), all_pass (all_rest before placed p))

    alone : (i : ℕ) → i ≤ v.steps → refusal (tests i) ≡ 0
    alone i h = none_refused tests numbers (v.steps + 1) passes.1 i (omega (arith, h))

    step_passes : (i : ℕ) → i ≤ v.steps → refusal (body_tests s (placed_at b v i) [] (settings_tests t)) ≡ 0
    step_passes i h = tests_alone s b clearance v t passes.0 (placed_at b v i) ∙ alone i h

    -- the query of every step gives its hit
    pub step_query : (i : ℕ) → i ≤ v.steps → body_answer s (placed_at b v i) t ≡ value (step_hit s b v t i)
    unfolding body_answer
    step_query i h = ap (λ (n : ℕ). reply n (step_hit s b v t i)) (step_passes i h)

    -- whose distance is no NaN
    pub step_number : (i : ℕ) → i ≤ v.steps → T (not (is_nan (step_hit s b v t i).hit.distance))
    step_number i h = body_number s (placed_at b v i) t (step_passes i h)

    pub answer : move_answer s b clearance v t ≡ value (report_upto s b clearance v t (v.steps + 1))
    unfolding move_answer
    answer = rw e

    -- nothing of a step's verdict is turned down
    pub step_judged : (i : ℕ) → i ≤ v.steps
        → refusal (body_tests s (placed_at b v i) (clearance ∷ []) []) ≡ 0
    step_judged i h = verdict_given s b clearance v t passes.0 (placed_at b v i) (alone i h)

-- ---- what the report of steps 0 to n is
pub record Reported (s : List Float) (b : Body) (clearance : Float) (v : Travel) (t : Settings) (r : Report) : Type 0 where
  pub smallest : Smallest (λ i. (step_hit s b v t i).hit.distance) (v.steps + 1) r.distance r.step
  pub colliding : Colliding (placed_at b v) (step_hit s b v t) clearance (v.steps + 1) r
  pub total : r.boxes ≡ upto (λ i n. n + (step_hit s b v t i).boxes) 0 (v.steps + 1)

module _ (s : List Float) (b : Body) (clearance : Float) (v : Travel) (t : Settings) where
  abbrev report : Report
  report = report_upto s b clearance v t (v.steps + 1)

  pub reported : refusal (move_tests s b clearance v t) ≡ 0 → Reported s b clearance v t report
  reported e = record {
    smallest = rw (add-one v.steps) (smallest (placed_at b v) (step_hit s b v t) clearance v.steps
        (λ i h. step_number s b clearance v t e i (omega (arith, h))));
    colliding = colliding (placed_at b v) (step_hit s b v t) clearance (v.steps + 1);
    total = boxes_total (placed_at b v) (step_hit s b v t) clearance (v.steps + 1);
  }

-- ---- at the finest settings: whether and where a step's own verdict is collision
pub data Judged (s : List Float) (b : Body) (clearance : Float) (v : Travel) (r : Report) : Type 0 where
  clear : r.colliding_step ≡ None → ((i : ℕ) → i ≤ v.steps → body_verdict s (placed_at b v i) clearance ≡ value false)
      → Judged s b clearance v r
  collision : {k : ℕ} → r.colliding_step ≡ Some k → k ≤ v.steps → body_verdict s (placed_at b v k) clearance ≡ value true
      → ((i : ℕ) → i < k → body_verdict s (placed_at b v i) clearance ≡ value false) → Judged s b clearance v r

module _ (s : List Float) (b : Body) (clearance : Float) (v : Travel) (e : refusal (move_tests s b clearance v finest) ≡ 0) where
  abbrev hit : ℕ → Bool
  hit i = hits (placed_at b v) (step_hit s b v finest) clearance i

  step_verdict : (i : ℕ) → i ≤ v.steps → body_verdict s (placed_at b v i) clearance ≡ value (hit i)
  unfolding body_verdict
  step_verdict i h = ap (λ (n : ℕ). reply n (hit i)) (step_judged s b clearance v finest e i h)

  pub judged : Judged s b clearance v (report_upto s b clearance v finest (v.steps + 1))
  judged = go (colliding (placed_at b v) (step_hit s b v finest) clearance (v.steps + 1))
    where
      go : {r : Report} → Colliding (placed_at b v) (step_hit s b v finest) clearance (v.steps + 1) r → Judged s b clearance v r
      go (never c none) = clear c (λ i h. step_verdict i h ∙ ap value (is_false (hit i) (none i (omega (arith, h)))))
      go (at {j = k} c f) =
          let l : k ≤ v.steps = omega (arith, f.below) in
          collision c l (step_verdict k l ∙ ap value (is_true (hit k) f.holds))
          (λ i h. step_verdict i (omega (arith, h, l)) ∙ ap value (is_false (hit i) (f.before i h)))
