-- What the records of every load hold, as the reader reads them: coordinates on the grid of sixty-fourths within 16,384, radii
-- not below 0, unused fields 0. So no sphere of a load is turned down: each line of its listing has a distance.
use Prim.Native.Nat.{ℕ, suc, ◌+◌, ◌<◌, ◌≤◌}
use mathlib.Core.Bool.{Bool, false}
use mathlib.Core.List.{List, ◌++◌}
use mathlib.Core.Path.{◌≡◌, ◌∙◌}
use lib.Ieee.{Float}
use Rattle.arith.specs.F64.{𝟘}
use Rattle.section.specs.profile.Refusals.{refusal, not_finite, over_limit, number_tests, radius_tests, sphere_numbers}
use Rattle.section.specs.profile.Replies.{value}
use Rattle.section.proofs.profile.Each.{All, nil, cons, all_map, found_none}
use Rattle.section.proofs.profile.Refusals.Ordered.{all_pass}
use Rattle.section.proofs.profile.Refusals.Passed.{NumberTaken}
use Rattle.section.specs.points.Points.{sphere_distance}
use Rattle.store.specs.Records.{number}
use Rattle.store.specs.Store.{vertices, chained}
use Rattle.listings.specs.store_listing.Listing.{sphere_at, body_answer}
use Rattle.listings.proofs.store_listing.Own.{body_own_lem}
use Rattle.loads.specs.Load.{load}
use Rattle.loads.proofs.Accepted.{load_accepted}
use Rattle.loads.proofs.Coordinates.{Sixtyfourths, coordinate_ranged, radius_ranged, number_taken, radius_above}
use Rattle.loads.proofs.Numbered.{vertex_read, sphere_read}

-- of either sign
pub record Ranged (x : Float) : Type 0 where
  pub negative : Bool
  pub ranged : Sixtyfourths negative x

pub record VertexRanged (b : List ℕ) (k : ℕ) : Type 0 where
  pub z : Ranged (number b k 0)
  pub radius : Sixtyfourths false (number b k 1)
  pub third : number b k 2 ≡ 𝟘
  pub fourth : number b k 3 ≡ 𝟘

pub record SphereRanged (b : List ℕ) (k : ℕ) : Type 0 where
  pub x : Ranged (number b k 0)
  pub y : Ranged (number b k 1)
  pub z : Ranged (number b k 2)
  pub radius : Sixtyfourths false (number b k 3)

module _ (seed n : ℕ) (few : n ≤ 256) where
  pub vertex_ranged : (i : ℕ) → i < n → VertexRanged (load seed n) (suc i)
  vertex_ranged i h =
      let f = vertex_read seed n few i h in
      record {
        z = rw f.first (record { negative = _; ranged = coordinate_ranged _ });
        radius = rw f.second (radius_ranged _);
        third = f.third;
        fourth = f.fourth;
      }

  pub sphere_ranged : (j : ℕ) → j < 32 → SphereRanged (load seed n) (suc (n + j))
  sphere_ranged j h =
      let f = sphere_read seed n few j h in
      record {
        x = rw f.first (record { negative = _; ranged = coordinate_ranged _ });
        y = rw f.second (record { negative = _; ranged = coordinate_ranged _ });
        z = rw f.third (record { negative = _; ranged = coordinate_ranged _ });
        radius = rw f.fourth (radius_ranged _);
      }

taken : {x : Float} → Ranged x → NumberTaken x
taken {x} X = number_taken X.negative x X.ranged

-- ---- no sphere is turned down
module _ (b : List ℕ) (k : ℕ) (S : SphereRanged b k) where
  numbers : All NumberTaken (sphere_numbers (sphere_at b k))
  numbers = cons (taken S.x) (cons (taken S.y) (cons (taken S.z) (cons (number_taken _ _ S.radius) nil)))

  no_number : refusal (number_tests (sphere_numbers (sphere_at b k)) ++ radius_tests (number b k 3)) ≡ 0
  no_number =
      all_pass (cons (found_none not_finite (all_map (λ x X. X.finite) numbers))
      (cons (found_none over_limit (all_map (λ x X. X.small) numbers))
      (cons (rw (radius_above (number b k 3) S.radius).0 tt) nil)))

module _ (seed n : ℕ) (enough : 3 ≤ n) (few : n ≤ 256) where
  pub sphere_answered :
      (j : ℕ) → j < 32
      → let b = load seed n in
      let s = vertices b (chained b) in
      body_answer b s (suc (n + j)) ≡ value (sphere_distance s (sphere_at b (suc (n + j))))
  sphere_answered j h =
      let b = load seed n in
      let k = suc (n + j) in
      body_own_lem b k (load_accepted seed n few enough)
      ∙ rw ((sphere_read seed n few j h).kind_is, no_number b k (sphere_ranged seed n few j h))
