-- Of every call that is not turned down: the distance is the lesser of the two queries', the rest the winner's; and with the
-- sections in each other's place the same section wins, but at a tie. Said once of any tests and any two hits, then of a body and
-- of a convex one.
use Prim.Native.Nat.{ℕ}
use mathlib.Core.Bool.{false, not}
use mathlib.Core.List.{List, []}
use mathlib.Core.Logic.{◌⊎◌, inl, inr}
use mathlib.Core.Path.{◌≡◌}
use lib.Dec.{T}
use lib.Ieee.{Float, is_nan}
use Rattle.arith.specs.F64.{◌≺◌}
use Rattle.arith.proofs.Laws.Extended.{finite_not_nan}
use Rattle.section.specs.profile.Refusals.{Test, refusal, list_tests, convex_tests}
use Rattle.section.specs.profile.Replies.{Reply, value, reply, mapped, OfValue}
use Rattle.section.specs.profile.Steps.{numbered}
use Rattle.section.proofs.profile.Each.{all_append}
use Rattle.section.proofs.profile.Refusals.Ordered.{none_applies, all_pass}
use Rattle.section.proofs.profile.Replies.{of_reply}
use Rattle.section.specs.convex.Convex.{convex_distance}
use Rattle.section.specs.Answers.{convex_answer}
use Rattle.section.specs.Demand.{Bounded}
use Rattle.section.proofs.Demand.Queries.{convex_demand}
use Rattle.walk.specs.settings.Settings.{finest}
use Rattle.walk.specs.declared.shapes.CountedHit.{CountedHit}
use Rattle.bodies.specs.Bodies.{alone_tests, body_distance, boxes_only}
use Rattle.bodies.specs.declared.shapes.Body.{Body}
use Rattle.bodies.proofs.Alone.{alone_numbered}
use Rattle.bodies.proofs.Number.{body_number}
use Rattle.bodies.specs.pairs.Pairs.{Won, won, nearer, handed_back, one_section_tests, pair_tests, pair_answer, pair_convex_answer}
use Rattle.bodies.proofs.pairs.Together.{AllTaken, all_taken, body_passes, convex_passes}
use Rattle.bodies.proofs.pairs.Nearer.{Lesser, nearer_lesser, smaller_wins, tie_first}

-- the same hit, and the same list handed back
pub record SameWinner (chuck work : List Float) (a swapped : Reply Won) : Type 0 where
  pub hit : mapped (λ (w : Won). w.counted) swapped ≡ mapped (λ (w : Won). w.counted) a
  pub list : handed_back work chuck [] swapped ≡ handed_back chuck work [] a

-- one of the two distances is the smaller
abbrev pub Differ : CountedHit → CountedHit → Type 0
Differ x y = T (x.hit.distance ≺ y.hit.distance) ⊎ T (y.hit.distance ≺ x.hit.distance)

-- each call answers its first section's hit
pub record FirstWins (x y : CountedHit) (a swapped : Reply Won) : Type 0 where
  pub chuck_first : a ≡ value (won false x)
  pub work_first : swapped ≡ value (won false y)

module _ (chuck work : List Float) (own : List Test) (numbers : T (numbered own)) (x y : CountedHit) where
  abbrev a : Reply Won
  a = reply (refusal (pair_tests chuck work own)) (nearer x y)

  abbrev swapped : Reply Won
  swapped = reply (refusal (pair_tests work chuck own)) (nearer y x)

  -- what passes in one order passes in the other
  pub swapped_passes : refusal (pair_tests chuck work own) ≡ 0 → refusal (pair_tests work chuck own) ≡ 0
  swapped_passes e =
      let t = all_taken chuck work own numbers e in
      all_pass (all_append (none_applies (one_section_tests work) tt t.work_taken)
      (all_append (none_applies (one_section_tests chuck) tt t.chuck_taken) (none_applies own numbers t.own_taken)))

  module _ (e : refusal (pair_tests chuck work own) ≡ 0) where
    same_winner : (p : T (not (is_nan x.hit.distance))) (q : T (not (is_nan y.hit.distance))) → Differ x y
        → SameWinner chuck work a swapped
    same_winner p q (inl h) =
        let w = smaller_wins x y p q h in
        record { hit = rw (e, swapped_passes e, w.0, w.1); list = rw (e, swapped_passes e, w.0, w.1) }
    same_winner p q (inr h) =
        let w = smaller_wins y x q p h in
        record { hit = rw (e, swapped_passes e, w.0, w.1); list = rw (e, swapped_passes e, w.0, w.1) }

    first_wins : (Differ x y → ⊥) → FirstWins x y a swapped
    first_wins k = record {
      chuck_first = rw (e, tie_first x y (λ h. k (inr h)));
      work_first = rw (swapped_passes e, tie_first y x (λ h. k (inl h)));
    }

-- ---- no distance is NaN
convex_number : (c s : List Float) → refusal (convex_tests c s []) ≡ 0 → T (not (is_nan (convex_distance c s).distance))
unfolding convex_answer
convex_number c s e = finite_not_nan _ (go (refusal (convex_tests c s [])) e (convex_demand c s)).distance.ends
  where
    go : (n : ℕ) → n ≡ 0 → OfValue (Bounded s) (reply n (convex_distance c s)) → Bounded s (convex_distance c s)
    go n z p = rw z at p

-- ---- a body
module _ (chuck work : List Float) (b : Body) where
  abbrev tests : List Test
  tests = alone_tests b

  abbrev x : CountedHit
  x = body_distance chuck b finest

  abbrev y : CountedHit
  y = body_distance work b finest

  of_chuck : AllTaken chuck work tests → T (not (is_nan x.hit.distance))
  of_chuck t = body_number chuck b finest (body_passes chuck b t.chuck_taken t.own_taken)

  of_work : AllTaken chuck work tests → T (not (is_nan y.hit.distance))
  of_work t = body_number work b finest (body_passes work b t.work_taken t.own_taken)

  pub pair_lesser : OfValue (Lesser x y) (pair_answer chuck work b)
  unfolding pair_answer
  pair_lesser = of_reply (Lesser x y) (refusal (pair_tests chuck work tests)) (nearer x y)
      (λ e. let t = all_taken chuck work tests (alone_numbered b) e in nearer_lesser x y (of_chuck t) (of_work t))

  pub pair_swapped : refusal (pair_tests chuck work tests) ≡ 0 → Differ x y
      → SameWinner chuck work (pair_answer chuck work b) (pair_answer work chuck b)
  unfolding pair_answer
  pair_swapped e d =
      let t = all_taken chuck work tests (alone_numbered b) e in
      same_winner chuck work tests (alone_numbered b) x y e (of_chuck t) (of_work t) d

  pub pair_tie : refusal (pair_tests chuck work tests) ≡ 0 → (Differ x y → ⊥)
      → FirstWins x y (pair_answer chuck work b) (pair_answer work chuck b)
  unfolding pair_answer
  pair_tie e k = first_wins chuck work tests (alone_numbered b) x y e k

-- ---- a convex body
module _ (chuck work c : List Float) where
  abbrev convex_tests_lem : List Test
  convex_tests_lem = list_tests 3 256 c

  abbrev by_chuck : CountedHit
  by_chuck = boxes_only 0 (convex_distance c chuck)

  abbrev by_work : CountedHit
  by_work = boxes_only 0 (convex_distance c work)

  beside_chuck : AllTaken chuck work convex_tests_lem → T (not (is_nan by_chuck.hit.distance))
  beside_chuck t = convex_number c chuck (convex_passes chuck c t.chuck_taken t.own_taken)

  beside_work : AllTaken chuck work convex_tests_lem → T (not (is_nan by_work.hit.distance))
  beside_work t = convex_number c work (convex_passes work c t.work_taken t.own_taken)

  pub pair_convex_lesser : OfValue (Lesser by_chuck by_work) (pair_convex_answer chuck work c)
  unfolding pair_convex_answer
  pair_convex_lesser = of_reply (Lesser by_chuck by_work) (refusal (pair_tests chuck work convex_tests_lem)) (nearer by_chuck by_work)
      (λ e. let t = all_taken chuck work convex_tests_lem tt e in nearer_lesser by_chuck by_work (beside_chuck t) (beside_work t))

  pub pair_convex_swapped : refusal (pair_tests chuck work convex_tests_lem) ≡ 0 → Differ by_chuck by_work
      → SameWinner chuck work (pair_convex_answer chuck work c) (pair_convex_answer work chuck c)
  unfolding pair_convex_answer
  pair_convex_swapped e d =
      let t = all_taken chuck work convex_tests_lem tt e in
      same_winner chuck work convex_tests_lem tt by_chuck by_work e (beside_chuck t) (beside_work t) d

  pub pair_convex_tie : refusal (pair_tests chuck work convex_tests_lem) ≡ 0 → (Differ by_chuck by_work → ⊥)
      → FirstWins by_chuck by_work (pair_convex_answer chuck work c) (pair_convex_answer work chuck c)
  unfolding pair_convex_answer
  pair_convex_tie e k = first_wins chuck work convex_tests_lem tt by_chuck by_work e k
