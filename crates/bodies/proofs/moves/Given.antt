-- What a move that passes the tests before its placements was given; and beside it each placed body's query has the number of the
-- body alone. By the laws of tests in order: tests that pass, and numbers that are taken, change nothing.
use Prim.Native.Nat.{ℕ, ◌≤◌}
use mathlib.Core.Bool.{Bool, true, false, not, ◌||◌, cond}
use mathlib.Core.List.{List, [], ◌∷◌, ◌++◌}
use mathlib.Core.Path.{◌≡◌, refl, ap, sym, ◌∙◌}
use lib.Dec.{T, ltb, nltb→le}
use lib.Ieee.{Float}
use Rattle.std.specs.Prelude.{Result, Ok, Err}
use Rattle.std.specs.Bool.{⊤}
use Rattle.std.specs.Result.{result_and}
use Rattle.section.specs.declared.shapes.Refusal.{Refusal}
use Rattle.section.specs.profile.Numbers.{refused_by}
use Rattle.section.specs.profile.Refusals.{Test, refusal, any_of, odd, fewer, more, not_finite, over_limit}
use Rattle.section.specs.profile.Refusals.{shape_tests, number_tests, axis_tests, point_numbers}
use Rattle.section.specs.profile.Replies.{reply}
use Rattle.section.specs.profile.Steps.{numbered, or_else}
use Rattle.section.proofs.profile.Numbered.{above_zero}
use Rattle.section.proofs.profile.Each.{All, nil, cons, all_first, all_rest, all_append, all_map, found_none}
use Rattle.section.proofs.profile.Refusals.Ordered.{Passes, all_pass, refusal_append, by_first, by_rest, or_else_none}
use Rattle.section.proofs.profile.Refusals.Passed.{NumberTaken, ShapeTaken, Taken, taken, passed}
use Rattle.walk.specs.settings.Settings.{settings_tests, outside}
use Rattle.walk.specs.declared.settings.shapes.Settings.{Settings}
use Rattle.bodies.specs.Bodies.{body_numbers, body_own, alone_tests, body_tests, body_distance, body_answer}
use Rattle.bodies.specs.declared.shapes.Body.{Body}
use Rattle.bodies.specs.declared.shapes.Body.TheVariants.{Sphere, Box, Cylinder}
use Rattle.bodies.proofs.Alone.{own_numbered, alone_taken}
use Rattle.bodies.specs.moves.Moves.{given_move, steps_tests, before_placing}
use Rattle.bodies.specs.declared.moves.shapes.Travel.{Travel}

-- ---- tests and numbers that pass change nothing
passing_first : {a : List Test} (b : List Test) → All Passes a → refusal (a ++ b) ≡ refusal b
unfolding refusal
passing_first b nil = refl
passing_first b (cons {x = t} {xs = a} p h) = skip t.applies p (passing_first b h)
  where
    skip : (x : Bool) → T (not x) → refusal (a ++ b) ≡ refusal b → cond x t.number (refusal (a ++ b)) ≡ refusal b
    skip true q e = absurd q
    skip false q e = e

module _ (test : Float → Bool) where
  none_behind : (l : List Float) → any_of test (l ++ []) ≡ any_of test l
  unfolding any_of
  none_behind [] = refl
  none_behind (x ∷ l) = ap (λ (b : Bool). test x || b) (none_behind l)

  none_before : {a : List Float} (b : List Float) → All (λ (x : Float). T (not (test x))) a → any_of test (a ++ b) ≡ any_of test b
  unfolding any_of
  none_before b nil = refl
  none_before b (cons {x} {xs = a} p h) = skip (test x) p (none_before b h)
    where
      skip : (y : Bool) → T (not y) → any_of test (a ++ b) ≡ any_of test b → (y || any_of test (a ++ b)) ≡ any_of test b
      skip true q e = absurd q
      skip false q e = e

-- beside a section that is taken, with settings that are, a body has its own number
module _ (s : List Float) (shapes : All (ShapeTaken 3 256) (s ∷ [])) (numbers : All NumberTaken s)
    (axis : All Passes (axis_tests s)) where
  shape_passes : All Passes (shape_tests 3 256 (s ∷ []))
  shape_passes =
      cons (found_none odd (all_map (λ l h. h.even) shapes))
      (cons (found_none (fewer 3) (all_map (λ l h. h.long) shapes))
      (cons (found_none (more 256) (all_map (λ l h. h.short) shapes)) nil))

  same_numbers : (l : List Float) (rest : List Test)
      → refusal (number_tests (s ++ (l ++ [])) ++ rest) ≡ refusal (number_tests l ++ rest)
  same_numbers l rest =
      rw (
        none_before not_finite (l ++ []) (all_map (λ x n. n.finite) numbers),
        none_behind not_finite l,
        none_before over_limit (l ++ []) (all_map (λ x n. n.small) numbers),
        none_behind over_limit l,
      )

  pub beside_alone : (t : Settings) → All Passes (settings_tests t) → (b : Body)
      → refusal (body_tests s b [] (settings_tests t)) ≡ refusal (alone_tests b)
  beside_alone t p b =
      let rest = settings_tests t ++ (axis_tests s ++ body_own b) in
      passing_first (number_tests (s ++ (body_numbers b ++ [])) ++ rest) shape_passes
      ∙ same_numbers (body_numbers b) rest
      ∙ refusal_append (number_tests (body_numbers b)) rest tt
      ∙ ap (λ (n : ℕ). or_else (refusal (number_tests (body_numbers b))) n)
      (passing_first (axis_tests s ++ body_own b) p ∙ passing_first (body_own b) axis)
      ∙ sym (refusal_append (number_tests (body_numbers b)) (body_own b) tt)

-- ---- the move
pub before_numbered : (b : Body) (n : ℕ) → T (numbered (body_own b ++ steps_tests n))
before_numbered (Sphere b) n = tt
before_numbered (Box x) n = tt
before_numbered (Cylinder c) n = tt

within : (least greatest n : ℕ) → T (not (outside least greatest n)) → (least ≤ n) × (n ≤ greatest)
within least greatest n h = go (ltb n least) (ltb greatest n) (nltb→le n least) (nltb→le greatest n) h
  where
    go : (a b : Bool) → (T (not a) → least ≤ n) → (T (not b) → n ≤ greatest) → T (not (a || b)) → (least ≤ n) × (n ≤ greatest)
    go true b p q h = absurd h
    go false true p q h = absurd h
    go false false p q h = (p tt, q tt)

-- what is given first, then the step count
pub given_then_steps : (s : List Float) (b : Body) (clearance : Float) (v : Travel) (t : Settings) (given steps : Result ⊤ Refusal)
    → refused_by given ≡ refusal (given_move s b clearance v t) → refused_by steps ≡ refusal (steps_tests v.steps)
    → refused_by (result_and given steps) ≡ refusal (before_placing s b clearance v t)
given_then_steps s b clearance v t (Ok u) steps e f = by_rest (given_move s b clearance v t) (steps_tests v.steps) (own_numbered b) e refl f
given_then_steps s b clearance v t (Err r) steps e f =
    by_first (given_move s b clearance v t) (steps_tests v.steps) (own_numbered b) 0 e (above_zero r)
    ∙ or_else_none (refusal (before_placing s b clearance v t))

module _ (s : List Float) (b : Body) (clearance : Float) (v : Travel) (t : Settings)
    (e : refusal (before_placing s b clearance v t) ≡ 0) where
  abbrev extra : List Float
  extra = clearance ∷ (point_numbers v.start ++ point_numbers v.end)

  abbrev own : List Test
  own = body_own b ++ steps_tests v.steps

  abbrev after : List Test
  after = axis_tests s ++ own

  whole : Taken 3 256 (s ∷ []) (s ++ (body_numbers b ++ extra)) (settings_tests t ++ after)
  whole = taken 3 256 (s ∷ []) (s ++ (body_numbers b ++ extra)) (settings_tests t ++ after) (before_numbered b v.steps) e

  pub settings_pass : refusal (settings_tests t) ≡ 0
  settings_pass = all_pass (all_first (settings_tests t) after whole.rest_passes)

  pub steps_given : (1 ≤ v.steps) × (v.steps ≤ 4096)
  steps_given = go (all_rest (body_own b) (steps_tests v.steps) (all_rest (axis_tests s) own (all_rest (settings_tests t) after
      whole.rest_passes)))
    where
      go : All Passes (steps_tests v.steps) → (1 ≤ v.steps) × (v.steps ≤ 4096)
      go (cons p nil) = within 1 4096 v.steps p

  -- the offsets are finite
  pub offsets_taken : All NumberTaken (point_numbers v.start ++ point_numbers v.end)
  offsets_taken =
      all_rest (clearance ∷ []) (point_numbers v.start ++ point_numbers v.end)
      (all_rest (body_numbers b) extra (all_rest s (body_numbers b ++ extra) whole.numbers))

  -- the query of any body, beside this section, with these settings: its number, and its answer
  pub tests_alone : (p : Body) → refusal (body_tests s p [] (settings_tests t)) ≡ refusal (alone_tests p)
  tests_alone p =
      beside_alone s whole.shapes (all_first s (body_numbers b ++ extra) whole.numbers)
      (all_first (axis_tests s) own (all_rest (settings_tests t) after whole.rest_passes)) t
      (all_first (settings_tests t) after whole.rest_passes) p

  pub query_alone : (p : Body) → body_answer s p t ≡ reply (refusal (alone_tests p)) (body_distance s p t)
  unfolding body_answer
  query_alone p = ap (λ (n : ℕ). reply n (body_distance s p t)) (tests_alone p)

  -- its verdict is given too
  pub verdict_given : (p : Body) → refusal (alone_tests p) ≡ 0 → refusal (body_tests s p (clearance ∷ []) []) ≡ 0
  verdict_given p f =
      let a = alone_taken p f in
      let more = all_rest (body_numbers b) extra (all_rest s (body_numbers b ++ extra) whole.numbers) in
      passed 3 256 (s ∷ []) (s ++ (body_numbers p ++ (clearance ∷ []))) (axis_tests s ++ body_own p)
      (record {
        shapes = whole.shapes;
        numbers = all_append (all_first s (body_numbers b ++ extra) whole.numbers)
            (all_append a.numbers (all_first (clearance ∷ []) (point_numbers v.start ++ point_numbers v.end) more));
        rest_passes = all_append (all_first (axis_tests s) own (all_rest (settings_tests t) after whole.rest_passes))
            a.rest_passes;
      })
