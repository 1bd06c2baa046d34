-- A body of an accepted store is refused for its own numbers alone: the section beside it passes every test, 6 too.
use Prim.Native.Nat.{ℕ}
use mathlib.Core.Bool.{false, cond}
use mathlib.Core.List.{List, [], ◌∷◌, ◌++◌, append-nil}
use mathlib.Core.Path.{◌≡◌}
use lib.Ieee.{Float}
use lib.Ieee.Bits.{is_false}
use Rattle.section.specs.profile.Refusals.{Test, refusal, any_of, odd, fewer, more, not_finite, over_limit, any_below_axis, list_tests}
use Rattle.section.specs.profile.Refusals.{number_tests, beside_tests, radius_tests, bounds_tests, sphere_numbers, box_numbers}
use Rattle.section.specs.profile.Replies.{Reply, reply}
use Rattle.section.proofs.profile.Each.{All, nil, cons}
use Rattle.section.proofs.profile.Refusals.AnyOf.{any_of_append}
use Rattle.section.proofs.profile.Refusals.Ordered.{Passes, none_applies}
use Rattle.section.specs.declared.profile.shapes.CollisionHit.{CollisionHit}
use Rattle.section.specs.points.Points.{sphere_distance}
use Rattle.section.specs.boxes.Boxes.{box_distance}
use Rattle.section.specs.Answers.{sphere_answer, box_answer}
use Rattle.store.specs.Kinds.{is_sphere}
use Rattle.store.specs.Store.{vertices, store_answer, chained}
use Rattle.store.specs.Answers.{Accepted}
use Rattle.store.proofs.Axis.{accepted_above}
use Rattle.store.proofs.Reading.{accepted_sound, section_passes}
use Rattle.listings.specs.store_listing.Listing.{sphere_at, box_at, body_answer}

-- the answer of record k, tried by the body's 4, 5 and 9 or 10 alone
abbrev pub own_answer : List ℕ → List Float → ℕ → Reply CollisionHit
own_answer b s k =
    let x = sphere_at b k in
    let y = box_at b k in
    cond (is_sphere b k)
    (reply (refusal (number_tests (sphere_numbers x) ++ radius_tests x.radius)) (sphere_distance s x))
    (reply (refusal (number_tests (box_numbers y) ++ bounds_tests y)) (box_distance s y))

module _ (s : List Float) (taken : refusal (list_tests 3 256 s) ≡ 0) (above : any_below_axis s ≡ false) where
  own_alone :
      (numbers : List Float) (own : List Test) → refusal (beside_tests s numbers [] [] own) ≡ refusal (number_tests numbers ++ own)
  unfolding refusal
  own_alone numbers own = go (none_applies (list_tests 3 256 s) tt taken)
    where
      go : All Passes (list_tests 3 256 s) → refusal (beside_tests s numbers [] [] own) ≡ refusal (number_tests numbers ++ own)
      go (cons a (cons b (cons c (cons d (cons f nil))))) =
          rw (
            is_false (any_of odd (s ∷ [])) a,
            is_false (any_of (fewer 3) (s ∷ [])) b,
            is_false (any_of (more 256) (s ∷ [])) c,
            append-nil numbers,
            any_of_append not_finite s numbers,
            is_false (any_of not_finite s) d,
            any_of_append over_limit s numbers,
            is_false (any_of over_limit s) f,
            above,
          )

pub body_own_lem : (b : List ℕ) (k : ℕ) → store_answer b ≡ Accepted
    → body_answer b (vertices b (chained b)) k ≡ own_answer b (vertices b (chained b)) k
unfolding body_answer sphere_answer box_answer
body_own_lem b k good =
    let s = vertices b (chained b) in
    let taken = section_passes s (accepted_sound b good).section in
    let above = accepted_above b good in
    rw (own_alone s taken above (sphere_numbers (sphere_at b k)) _, own_alone s taken above (box_numbers (box_at b k)) _)
