-- CLEAR MEANS CLEAR OF THE SURFACE, whatever the section: a sphere that is judged clear has, in space and in exact numbers, its
-- clearance from every point of the turned surface, less 1e-9 and ε₂.
use Prim.Native.Nat.{◌*◌, ◌+◌, ◌-◌, ◌^◌, suc, zero, ℕ, ◌≤◌}
use mathlib.Core.Bool.{Bool, false, not, true}
use mathlib.Core.List.{List, [], ◌∷◌, ◌++◌}
use mathlib.Core.Path.{◌≡◌, refl, subst, sym}
use native.Mathlib.Omega.{arith}
use lib.Dec.{T}
use lib.Ieee.{binary64, fits, Float}
use Rattle.arith.proofs.roots.Rounding.Key.{number}
use Rattle.arith.specs.F64.{◌⊕◌, ◌≺◌, e_9}
use Rattle.section.specs.profile.Refusals.{axis_tests, radius_tests, refusal, sphere_numbers, sphere_tests}
use Rattle.section.specs.profile.Replies.{reply, Reply, turned_down, value}
use Rattle.section.specs.profile.Vertices.{end_at, vertex_at}
use Rattle.section.specs.declared.profile.shapes.Sphere.{Sphere}
use Rattle.section.proofs.profile.Each.{All, all_first, all_rest, cons, nil}
use Rattle.section.proofs.profile.Refusals.Passed.{NumberTaken, taken}
use Rattle.section.specs.points.Points.{meridian, sphere_distance}
use Rattle.bodies.specs.declared.shapes.Body.TheVariants.{Sphere as Ball}
use Rattle.section.proofs.Demand.Accepted.{taken_at_most}
use Rattle.bodies.specs.verdicts.Verdicts.{body_verdict}
use Rattle.truth.specs.Exact.{origin, place, size_of_sum}
use Rattle.truth.specs.Points.{ClearInSpace, full, Held, Reach, WithinReach, ε₂}
use Rattle.truth.proofs.Points.Accepted.{fine_of, in_bounded, in_number, nine_of, room_of, room_under, square_of, unit_of}
use Rattle.truth.proofs.Points.Accepted.{ε₂_of}
use Rattle.truth.proofs.Points.Answers.{sphere_ready, SphereReady}
use Rattle.truth.proofs.Points.Distance.{point_bounded}
use Rattle.truth.proofs.Points.Space.{space_less, space_true}
use Rattle.truth.proofs.Points.Spheres.{cleared, sphere_true, sum_less}

-- ---- a verdict that is clear was not turned down, and its comparison is false
abbrev Clear : Reply Bool → Type 0
Clear (value true) = ⊥
Clear (value false) = Unit {0}
Clear (turned_down n) = ⊥

pub judged_clear : (n : ℕ) (a : Bool) → reply n a ≡ value false → (n ≡ 0) × T (not a)
judged_clear n a e = go n a (subst Clear (sym e) tt)
  where
    go : (n : ℕ) (a : Bool) → Clear (reply n a) → (n ≡ 0) × T (not a)
    go zero true h = absurd h
    go zero false h = (refl, tt)
    go (suc n) a h = absurd h

-- ---- what it was given: the sphere's numbers and the clearance
pub record Judged (m : Reach) (s : List Float) (b : Sphere) (c : Float) : Type 0 where
  pub sphere : SphereReady m s b
  pub numbers : All NumberTaken s
  pub clearance : T (number binary64 c)
  pub clear : T (not ((sphere_distance s b).distance ⊕ e_9 ≺ c))

pub sphere_judged : (m : Reach) (s : List Float) (b : Sphere) (clearance : Float) → Held s → Held (sphere_numbers b)
    → T (fits binary64 clearance)
    → WithinReach m s → WithinReach m (sphere_numbers b) → body_verdict s (Ball b) clearance ≡ value false → Judged m s b clearance
unfolding body_verdict
sphere_judged m s b c S B C S' B' e =
    let h = judged_clear (refusal (sphere_tests s b (c ∷ []) [])) ((sphere_distance s b).distance ⊕ e_9 ≺ c) e in
    let t = taken 3 256 (s ∷ []) (s ++ (sphere_numbers b ++ (c ∷ []))) (axis_tests s ++ radius_tests b.radius) tt h.0 in
    let A = all_first s (sphere_numbers b ++ (c ∷ [])) t.numbers in
    let R = all_rest s (sphere_numbers b ++ (c ∷ [])) t.numbers in
    record {
      sphere = sphere_ready m s b S B S' B' A (all_first (sphere_numbers b) (c ∷ []) R);
      numbers = A;
      clearance = in_number full (record { held = C; most = taken_at_most c (last (all_rest (sphere_numbers b) (c ∷ []) R)) });
      clear = h.1;
    }
  where
    last : All NumberTaken (c ∷ []) → NumberTaken c
    last (cons x nil) = x

-- ---- the surface
pub sphere_verdict_surface : (m : Reach) (s : List Float) (b : Sphere) (clearance : Float) → Held s → Held (sphere_numbers b)
    → T (fits binary64 clearance) → WithinReach m s → WithinReach m (sphere_numbers b)
    → body_verdict s (Ball b) clearance ≡ value false
    → ClearInSpace (ε₂ m) (place clearance + place b.radius - (origin + place e_9)) s b.center
sphere_verdict_surface m s b c S B C S' B' e k l t =
    let J = sphere_judged m s b c S B C S' B' e in
    let N = J.sphere.center in
    let R = in_bounded m J.sphere.radius in
    let D = sphere_true (unit_of m) (square_of m) (fine_of m) (room_under m) s b N.within N.vertices R in
    let F = point_bounded (unit_of m) (square_of m) (fine_of m) s (meridian b.center) N.within N.vertices k l t in
    let W = cleared (unit_of m) (square_of m) (fine_of m) (room_under m) s b N.within N.vertices R c J.clearance J.clear
    (room_of m) (nine_of m) F in
    space_less (80 * 2 ^ unit_of m + 2 ^ unit_of m) (ε₂ m) (size_of_sum (sphere_distance s b).distance b.radius)
    (place c + place b.radius - (origin + place e_9)) b.center (vertex_at s k) (end_at s k)
    (less _ _ _ (2 ^ unit_of m) (ε₂ m) W (sum_less (sphere_distance s b).distance b.radius) (ε₂_of m))
    (space_true (unit_of m) (square_of m) (fine_of m) b.center N.x N.y (80 * 2 ^ unit_of m) _ (vertex_at s k) (end_at s k)
    (D.never_over k l t))
  where
    less : (w v z u d : ℕ) → w ≤ v + 32 * u → v ≤ z → 126 * u ≤ d → w - d ≤ z - (80 * u + u)
    less w v z u d h g l = omega arith
