-- The loop over the steps: what holds before each turn, that a turn keeps it, and the answer where the loop ends, at the first
-- step that is refused or behind the last. By the laws of tests in order, and by what each step's query gives.
use Prim.Native.Nat.{ℕ, ◌+◌, ◌*◌, ◌<◌, ◌≤◌}
use native.Mathlib.Nat.{eq-or-lt_of_le, le_trans}
use native.Mathlib.Omega.{arith}
use mathlib.Core.List.{List}
use mathlib.Core.Logic.{⊎_elim}
use mathlib.Core.Path.{◌≡◌, refl, ap, subst, sym, ◌∙◌}
use lib.Dec.{lit≤}
use lib.Ieee.{Float}
use Rattle.section.specs.profile.Refusals.{Test, refusal}
use Rattle.section.specs.profile.Replies.{Reply, value, turned_down, reply, OfValue, Answers}
use Rattle.section.specs.profile.Vertices.{upto}
use Rattle.section.proofs.profile.Fold.{upto_more}
use Rattle.section.proofs.profile.Refusals.Ordered.{by_first, by_rest, or_else_none}
use Rattle.section.proofs.profile.Replies.{refused}
use Rattle.walk.specs.declared.settings.shapes.Settings.{Settings}
use Rattle.walk.proofs.settings.Taken.{settings_taken}
use Rattle.walk.specs.declared.shapes.CountedHit.{CountedHit}
use Rattle.bodies.specs.Bodies.{alone_tests, body_distance, body_answer, BodyPromised}
use Rattle.bodies.specs.declared.shapes.Body.{Body}
use Rattle.bodies.specs.declared.shapes.Body.TheVariants.{Sphere, Box, Cylinder}
use Rattle.bodies.proofs.Alone.{alone_numbered}
use Rattle.bodies.proofs.Replied.{refused_by_lem, valued_by}
use Rattle.bodies.specs.moves.Placement.{placed_at}
use Rattle.bodies.specs.moves.Moves.{before_placing, placed_tests, move_tests, untried, with_step, step_hit, report_upto, move_answer}
use Rattle.bodies.specs.moves.Moves.{MovePromised}
use Rattle.bodies.specs.declared.moves.shapes.Travel.{Travel}
use Rattle.bodies.specs.declared.moves.shapes.Report.{Report}
use Rattle.bodies.proofs.moves.Fields.{boxes_few}
use Rattle.bodies.proofs.moves.Given.{before_numbered, settings_pass, steps_given, query_alone}
use Rattle.bodies.proofs.moves.Ordered.{one_more, first_refused_lem}

-- a sphere counts no box, a box one, a cylinder at most the setting
pub boxes_most : (s : List Float) (t : Settings) → t.most ≤ 8192 → (b : Body) → BodyPromised s b t (body_distance s b t)
    → (body_distance s b t).boxes ≤ 8192
boxes_most s t l (Sphere b) p = lit≤ tt
boxes_most s t l (Box x) p = lit≤ tt
boxes_most s t l (Cylinder c) p = le_trans p.few.boxes l

module _ (s : List Float) (b : Body) (clearance : Float) (v : Travel) (t : Settings) where
  abbrev tests : ℕ → List Test
  tests i = alone_tests (placed_at b v i)

  abbrev Kept : ℕ → Type 0
  Kept i = BodyPromised s (placed_at b v i) t (step_hit s b v t i)

  -- a number before the placements
  pub before_refused : {n : ℕ} → n ≡ refusal (before_placing s b clearance v t) → (n ≡ 0 → ⊥)
      → Answers (turned_down n) (move_answer s b clearance v t) (MovePromised s b v t)
  unfolding move_answer
  before_refused {n} e k = record {
    equal =
        refused n _ k ∙ ap (λ (i : ℕ). reply i (report_upto s b clearance v t (v.steps + 1)))
        (by_first (before_placing s b clearance v t) (placed_tests b v (v.steps + 1)) (before_numbered b v.steps) 0 e k
        ∙ or_else_none (refusal (move_tests s b clearance v t)));
    owed = tt;
  }

  -- a step's number, where none before it is refused
  pub placed_refused : refusal (before_placing s b clearance v t) ≡ 0 → (i : ℕ) → i ≤ v.steps → refusal (placed_tests b v i) ≡ 0
      → {n : ℕ} → n ≡ refusal (tests i) → (n ≡ 0 → ⊥) → turned_down n ≡ move_answer s b clearance v t
  unfolding move_answer
  placed_refused e i h f {n} g k =
      refused n _ k
      ∙ ap (λ (j : ℕ). reply j (report_upto s b clearance v t (v.steps + 1)))
      (by_rest (before_placing s b clearance v t) (placed_tests b v (v.steps + 1)) (before_numbered b v.steps) refl e
      (first_refused_lem tests (λ j. alone_numbered (placed_at b v j)) i (v.steps + 1) (omega (arith, h)) f g k))

  -- before the turn of step i
  pub record SoFar (r : Report) (i : ℕ) : Type 0 where
    pub given : refusal (before_placing s b clearance v t) ≡ 0
    pub inside : i ≤ v.steps + 1
    pub reported : r ≡ report_upto s b clearance v t i
    pub taken : refusal (placed_tests b v i) ≡ 0
    pub each : (j : ℕ) → j < i → Kept j

  pub start : refusal (before_placing s b clearance v t) ≡ 0 → {r : Report} → r ≡ untried → SoFar r 0
  unfolding upto refusal
  start e f = record {
    given = e;
    inside = omega arith;
    reported = f;
    taken = refl;
    each = λ j h. absurd (omega (arith, h));
  }

  module _ {r : Report} {i : ℕ} (F : SoFar r i) where
    pub few_steps : v.steps ≤ 4096
    few_steps = (steps_given s b clearance v t F.given).1

    few_boxes : r.boxes ≤ i * 8192
    few_boxes =
        subst (λ (x : Report). x.boxes ≤ i * 8192) (sym F.reported)
        (boxes_few (placed_at b v) (step_hit s b v t) clearance 8192 i (λ j l. boxes_most s t most (placed_at b v j) (F.each j l)))
      where
        most : t.most ≤ 8192
        most = (settings_taken t (settings_pass s b clearance v t F.given)).boxes

    -- the end
    pub ended : v.steps < i → Answers (value r) (move_answer s b clearance v t) (MovePromised s b v t)
    unfolding move_answer
    ended h =
        let last : i ≡ v.steps + 1 = omega (arith, h, F.inside) in
        let all : refusal (placed_tests b v (v.steps + 1)) ≡ 0 = rw last at F.taken in
        let none : 0 ≡ refusal (move_tests s b clearance v t) =
        by_rest (before_placing s b clearance v t) (placed_tests b v (v.steps + 1)) (before_numbered b v.steps) refl
        F.given (sym all) in
        record {
          equal = ap value (rw last at F.reported)
              ∙ ap (λ (k : ℕ). reply k (report_upto s b clearance v t (v.steps + 1))) none;
          owed = record {
            each = λ j l. F.each j (omega (arith, l, last));
            few = le_trans few_boxes (times F.inside few_steps);
          };
        }
      where
        times : i ≤ v.steps + 1 → v.steps ≤ 4096 → i * 8192 ≤ 4097 * 8192
        times p q = omega (arith, p, q)

    module _ (h : i ≤ v.steps) {p : Body} (at : p ≡ placed_at b v i) {a : Reply CountedHit}
        (A : Answers a (body_answer s p t) (BodyPromised s p t)) where
      step_answer : a ≡ reply (refusal (tests i)) (step_hit s b v t i)
      step_answer = A.equal ∙ ap (λ (q : Body). body_answer s q t) at ∙ query_alone s b clearance v t F.given (placed_at b v i)

      -- a step that is refused
      pub step_refused : {n : ℕ} → a ≡ turned_down n
          → Answers (turned_down n) (move_answer s b clearance v t) (MovePromised s b v t)
      step_refused {n} e =
          let q = refused_by_lem (refusal (tests i)) (step_hit s b v t i) (sym e ∙ step_answer) in
          record { equal = placed_refused F.given i h F.taken q.0 q.1; owed = tt }

      module _ {k : CountedHit} (e : a ≡ value k) where
        its_hit : (refusal (tests i) ≡ 0) × (k ≡ step_hit s b v t i)
        its_hit = valued_by (refusal (tests i)) (step_hit s b v t i) (sym e ∙ step_answer)

        kept : Kept i
        kept =
            subst (λ (z : CountedHit). BodyPromised s (placed_at b v i) t z) its_hit.1
            (subst (λ (q : Body). BodyPromised s q t k) at
            (subst (λ (z : Reply CountedHit). OfValue (BodyPromised s p t) z) e A.owed))

        all_kept : (j : ℕ) → j < i + 1 → Kept j
        all_kept j l =
            ⊎_elim (λ (q : j ≡ i). subst Kept (sym q) kept) (λ (q : j < i). F.each j q) (eq-or-lt_of_le (omega (arith, l)))

        -- the boxes fit
        pub step_fits : r.boxes + k.boxes ≤ 4294967295
        step_fits =
            let most = (settings_taken t (settings_pass s b clearance v t F.given)).boxes in
            let one = boxes_most s t most (placed_at b v i) kept in
            let few = few_boxes in
            let same = ap (λ (z : CountedHit). z.boxes) its_hit.1 in
            small few one same h few_steps
          where
            small : {m n l : ℕ} → m ≤ i * 8192 → n ≤ 8192 → l ≡ n → i ≤ v.steps → v.steps ≤ 4096 → m + l ≤ 4294967295
            small p q e l o = omega (arith, p, q, e, l, o)

        -- one step more
        pub step_more : {r' : Report} → r' ≡ with_step i p k clearance r → SoFar r' (i + 1)
        step_more {r'} f = record {
          given = F.given;
          inside = omega (arith, h);
          reported =
              upto_more (λ (j : ℕ) (x : Report). with_step j (placed_at b v j) (step_hit s b v t j) clearance x) untried i
              F.reported
              (f ∙ ap (λ (q : Body). with_step i q k clearance r) at
              ∙ ap (λ (z : CountedHit). with_step i (placed_at b v i) z clearance r) its_hit.1);
          taken = one_more tests (λ j. alone_numbered (placed_at b v j)) i F.taken its_hit.0;
          each = all_kept;
        }
