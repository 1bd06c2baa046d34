-- What two sections give together, where nothing is turned down. A body that passes its own tests beside a section that passes
-- its own passes that section's query; so both queries give values, and of these the nearer is the answer.
use Prim.Native.Nat.{ℕ}
use mathlib.Core.Bool.{Bool, true, false, cond}
use mathlib.Core.List.{List, [], ◌∷◌, ◌++◌}
use mathlib.Core.Path.{◌≡◌, sym, subst, ◌∙◌}
use lib.Dec.{T}
use lib.Ieee.{Float}
use Rattle.arith.specs.F64.{◌≺◌}
use Rattle.section.specs.profile.Refusals.{Test, refusal, any_below_axis, list_tests, axis_tests, convex_tests}
use Rattle.section.specs.profile.Replies.{Reply, value, turned_down, reply, mapped, Answers}
use Rattle.section.specs.profile.Steps.{numbered, or_else}
use Rattle.section.proofs.profile.Each.{nil, all_first, all_rest, all_append}
use Rattle.section.proofs.profile.Refusals.Ordered.{none_applies, all_pass, refusal_append}
use Rattle.section.proofs.profile.Refusals.Passed.{Taken, taken, passed}
use Rattle.section.proofs.profile.Replies.{mapped_answers, mapped_reply, value_answer}
use Rattle.section.specs.declared.profile.shapes.CollisionHit.{CollisionHit}
use Rattle.section.specs.convex.Convex.{convex_distance}
use Rattle.section.specs.Answers.{convex_answer}
use Rattle.section.specs.Demand.{Bounded}
use Rattle.walk.specs.settings.Settings.{finest, settings_tests}
use Rattle.walk.proofs.settings.Taken.{finest_taken}
use Rattle.walk.specs.declared.shapes.CountedHit.{CountedHit}
use Rattle.bodies.specs.Bodies.{alone_tests, body_numbers, body_own, body_tests, boxes_only}
use Rattle.bodies.specs.declared.shapes.Body.{Body}
use Rattle.bodies.proofs.Alone.{alone_taken}
use Rattle.bodies.proofs.Replied.{refused_by_lem, valued_by}
use Rattle.bodies.specs.pairs.Pairs.{Won, won, nearer, winner, one_section_tests, pair_tests}

-- ---- the order of the tests
pub below_axis_lem : (s : List Float) {b : Bool} → b ≡ any_below_axis s → b ≡ true → 6 ≡ refusal (axis_tests s)
unfolding refusal
below_axis_lem s e f = rw (← e, f)

pub not_below_axis : (s : List Float) {b : Bool} → b ≡ any_below_axis s → b ≡ false → 0 ≡ refusal (axis_tests s)
unfolding refusal
not_below_axis s e f = rw (← e, f)

pub both_then_own : (chuck work : List Float) (own : List Test) {r n : ℕ}
    → r ≡ or_else (refusal (one_section_tests chuck)) (or_else (refusal (one_section_tests work)) n) → n ≡ refusal own
    → r ≡ refusal (pair_tests chuck work own)
both_then_own chuck work own e f =
    rw (
      e,
      f,
      refusal_append (one_section_tests chuck) (one_section_tests work ++ own) tt,
      refusal_append (one_section_tests work) own tt,
    )

-- ---- what passes all tests passes each section's
pub record AllTaken (chuck work : List Float) (own : List Test) : Type 0 where
  pub chuck_taken : refusal (one_section_tests chuck) ≡ 0
  pub work_taken : refusal (one_section_tests work) ≡ 0
  pub own_taken : refusal own ≡ 0

pub all_taken : (chuck work : List Float) (own : List Test) → T (numbered own) → refusal (pair_tests chuck work own) ≡ 0
    → AllTaken chuck work own
all_taken chuck work own h e =
    let p = none_applies (pair_tests chuck work own) h e in
    let q = all_rest (one_section_tests chuck) (one_section_tests work ++ own) p in
    record {
      chuck_taken = all_pass (all_first (one_section_tests chuck) (one_section_tests work ++ own) p);
      work_taken = all_pass (all_first (one_section_tests work) own q);
      own_taken = all_pass (all_rest (one_section_tests work) own q);
    }

section_taken : (s : List Float) → refusal (one_section_tests s) ≡ 0 → Taken 3 256 (s ∷ []) s (axis_tests s)
section_taken s e = taken 3 256 (s ∷ []) s (axis_tests s) tt e

-- a body beside one of the sections, at the finest settings
pub body_passes : (s : List Float) (b : Body) → refusal (one_section_tests s) ≡ 0 → refusal (alone_tests b) ≡ 0
    → refusal (body_tests s b [] (settings_tests finest)) ≡ 0
body_passes s b e f =
    let t = section_taken s e in
    let u = alone_taken b f in
    passed 3 256 (s ∷ []) (s ++ (body_numbers b ++ [])) (settings_tests finest ++ (axis_tests s ++ body_own b))
    (record {
      shapes = t.shapes;
      numbers = all_append t.numbers (all_append u.numbers nil);
      rest_passes =
          all_append (none_applies (settings_tests finest) tt finest_taken) (all_append t.rest_passes u.rest_passes);
    })

-- a convex body beside one of the sections
pub convex_passes : (s c : List Float) → refusal (one_section_tests s) ≡ 0 → refusal (list_tests 3 256 c) ≡ 0
    → refusal (convex_tests c s []) ≡ 0
convex_passes s c e f =
    let t = section_taken s e in
    let u = taken 3 256 (c ∷ []) c [] tt f in
    passed 3 256 (c ∷ s ∷ []) (c ++ (s ++ [])) (axis_tests s)
    (record {
      shapes = all_append u.shapes t.shapes;
      numbers = all_append u.numbers (all_append t.numbers nil);
      rest_passes = t.rest_passes;
    })

-- which counts no box
pub counts_none : (c s : List Float) {a : Reply CollisionHit} {r : Reply CountedHit} → Answers a (convex_answer c s) (Bounded s)
    → r ≡ mapped (boxes_only 0) a
    → Answers r (reply (refusal (convex_tests c s [])) (boxes_only 0 (convex_distance c s))) (λ (k : CountedHit). Bounded s k.hit)
unfolding convex_answer
counts_none c s {r = r} A e =
    subst (λ (z : Reply CountedHit). Answers r z (λ (k : CountedHit). Bounded s k.hit))
    (mapped_reply (boxes_only 0) (refusal (convex_tests c s [])) (convex_distance c s))
    (mapped_answers (Bounded s) (λ (k : CountedHit). Bounded s k.hit) (boxes_only 0) (λ k p. p) A e)

-- ---- the nearer of two values
module _ (P : List Float → CountedHit → Type 0) (chuck work : List Float) where
  abbrev pub OfWinner : Won → Type 0
  OfWinner w = P (winner chuck work w) w.counted

  nearer_owed : (x y : CountedHit) → P chuck x → P work y → OfWinner (nearer x y)
  nearer_owed x y p q = go (y.hit.distance ≺ x.hit.distance)
    where
      go : (b : Bool) → OfWinner (cond b (won true y) (won false x))
      go true = q
      go false = p

  -- where neither section's query turns anything down, the nearer of their values
  pub together : (n i j : ℕ) (x y : CountedHit) {k l : CountedHit} {w : Won} → Answers (value k) (reply i x) (P chuck)
      → Answers (value l) (reply j y) (P work) → w ≡ nearer k l → n ≡ 0 → Answers (value w) (reply n (nearer x y)) OfWinner
  together n i j x y {k} {l} A B e z =
      record {
        equal = value_answer (sym z) (e ∙ rw ((valued_by i x A.equal).1, (valued_by j y B.equal).1));
        owed = subst OfWinner (sym e) (nearer_owed k l A.owed B.owed);
      }

-- and turns nothing down
pub turns_down : {A B : Type 0} {n : ℕ} (i : ℕ) (a : A) → turned_down n ≡ reply i a → i ≡ 0 → B
turns_down i a e z = let q = refused_by_lem i a e in absurd (q.1 (q.0 ∙ z))
