-- What an answer puts into the lent places fits them: of a cylinder by what its query promises, of a pair by the answer's case.
use Prim.Native.Nat.{ℕ, zero, suc, ◌≤◌}
use mathlib.Core.List.{List}
use mathlib.Core.Path.{sym, subst}
use native.Mathlib.Nat.{le_trans}
use lib.Dec.{lit≤}
use lib.Ieee.{Float}
use Rattle.section.specs.profile.Refusals.{refusal, list_tests}
use Rattle.section.specs.profile.Replies.{Reply, reply, OfValue, Answers}
use Rattle.section.specs.convex.Convex.{convex_distance}
use Rattle.section.proofs.Demand.Queries.{bounded_few}
use Rattle.walk.specs.settings.Settings.{finest}
use Rattle.walk.specs.declared.settings.shapes.Settings.{Settings}
use Rattle.walk.specs.declared.bands.shapes.Cylinder.{Cylinder}
use Rattle.walk.specs.declared.shapes.CountedHit.{CountedHit}
use Rattle.walk.specs.cylinders.Promised.{Promised}
use Rattle.bodies.specs.Bodies.{alone_tests, body_distance, boxes_only}
use Rattle.bodies.specs.declared.shapes.Body.{Body}
use Rattle.bodies.specs.pairs.Pairs.{Won, nearer, pair_tests, pair_answer, pair_convex_answer, PairPromised, PairConvexPromised}
use Rattle.bodies.proofs.pairs.Counts.{Small, pair_small, pair_convex_small}
use Rattle.capi.specs.Calls.{pair_of}
use Rattle.capi.specs.lists.Lists.{one_body_tests, body_at}
use Rattle.capi.specs.handing.Interface.{FitsPlaces, or_else_reply}
use Rattle.capi.specs.handing.Pairs.{WonFits}

-- a cylinder's, at settings whose most boxes are a u32
pub promised_fits : {s : List Float} {c : Cylinder} {t : Settings} (h : CountedHit) → t.most ≤ 4294967295 → Promised s c t h
    → FitsPlaces h
promised_fits h l p =
    record {
      boxes = le_trans p.few.boxes l;
      waiting = le_trans p.few.waiting (lit≤ tt);
      edge = bounded_few h.hit p.bounded;
    }

small_fits : {h : CountedHit} → Small h → FitsPlaces h
small_fits s = record { boxes = le_trans s.boxes (lit≤ tt); waiting = le_trans s.waiting (lit≤ tt); edge = s.edge }

-- what is owed of a call's value, and fits, fits in its answer
module _ (P : Won → Type 0) (n : ℕ) (v : Won) (f : P v → Small v.counted) where
  fits_reply : OfValue P (reply n v) → OfValue WonFits (reply n v)
  fits_reply = go n
    where
      go : (k : ℕ) → OfValue P (reply k v) → OfValue WonFits (reply k v)
      go zero p = small_fits (f p)
      go (suc k) p = tt

  answer_fits : {a : Reply Won} → Answers a (reply n v) P → OfValue WonFits a
  answer_fits A =
      subst (λ (z : Reply Won). OfValue WonFits z) (sym A.equal)
      (fits_reply (subst (λ (z : Reply Won). OfValue P z) A.equal A.owed))

pub pair_fits : (chuck work : List Float) (b : Body) {a : Reply Won}
    → Answers a (pair_answer chuck work b) (PairPromised chuck work b) → OfValue WonFits a
unfolding pair_answer
pair_fits chuck work b A =
    answer_fits (PairPromised chuck work b) (refusal (pair_tests chuck work (alone_tests b)))
    (nearer (body_distance chuck b finest) (body_distance work b finest)) (pair_small chuck work b) A

pub pair_convex_fits : (chuck work c : List Float) {a : Reply Won}
    → Answers a (pair_convex_answer chuck work c) (PairConvexPromised chuck work) → OfValue WonFits a
unfolding pair_convex_answer
pair_convex_fits chuck work c A =
    answer_fits (PairConvexPromised chuck work) (refusal (pair_tests chuck work (list_tests 3 256 c)))
    (nearer (boxes_only 0 (convex_distance c chuck)) (boxes_only 0 (convex_distance c work)))
    (pair_convex_small chuck work (convex_distance c chuck) (convex_distance c work)) A

-- behind the body's own number
pub pair_of_fits : (chuck work : List Float) (kind : ℕ) (numbers : List Float) {a : Reply Won}
    → Answers a (pair_of chuck work kind numbers) (PairPromised chuck work (body_at kind numbers 0)) → OfValue WonFits a
unfolding pair_of
pair_of_fits chuck work kind numbers {a} A = go (refusal (one_body_tests kind numbers)) A
  where
    go : (n : ℕ) → Answers a (or_else_reply n (pair_answer chuck work (body_at kind numbers 0))) (PairPromised chuck work (body_at kind numbers 0))
        → OfValue WonFits a
    go zero B = pair_fits chuck work (body_at kind numbers 0) B
    go (suc n) B = subst (λ (z : Reply Won). OfValue WonFits z) (sym B.equal) tt
