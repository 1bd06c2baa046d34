-- WHAT THE QUERIES ANSWER IS TRUE OF THE SURFACE: of every section and every point or sphere that is not turned down, and both
-- reaches.
use Prim.Native.Nat.{◌*◌, ◌+◌, ◌-◌, ◌^◌, ℕ, ◌≤◌}
use mathlib.Core.List.{List, [], ◌∷◌, ◌++◌}
use mathlib.Core.Path.{◌≡◌}
use native.Mathlib.Nat.{le_trans}
use native.Mathlib.Omega.{arith}
use lib.Dec.{leb→le}
use lib.Ieee.{Float}
use Rattle.arith.specs.declared.vector.Vec3.{Vec3}
use Rattle.section.specs.profile.Refusals.{axis_tests, point_numbers, point_tests, radius_tests, refusal, sphere_numbers, sphere_tests}
use Rattle.section.specs.profile.Replies.{OfValue}
use Rattle.section.specs.profile.Vertices.{end_at, vertex_at}
use Rattle.section.specs.declared.profile.shapes.CollisionHit.{CollisionHit}
use Rattle.section.specs.declared.profile.shapes.Sphere.{Sphere}
use Rattle.section.proofs.profile.Each.{All, all_first, all_rest}
use Rattle.section.proofs.profile.Refusals.Passed.{NumberTaken, taken}
use Rattle.section.proofs.profile.Replies.{of_reply}
use Rattle.section.specs.points.Points.{meridian, point_distance, sphere_distance}
use Rattle.section.specs.Answers.{point_answer, sphere_answer}
use Rattle.truth.specs.Exact.{size, size_of_sum}
use Rattle.truth.specs.Points.{ClearInSpace, Held, Reach, TrueDistance, WithinReach, ε, ε₂}
use Rattle.truth.proofs.Points.Accepted.{fine_of, In, in_bounded, numbers_in, Ready, ready}
use Rattle.truth.proofs.Points.Accepted.{room_under, unit_of, square_of, ε_of, ε₂_of}
use Rattle.truth.proofs.Points.Distance.{point_true, true_wider}
use Rattle.truth.proofs.Points.Space.{space_less, space_true}
use Rattle.truth.proofs.Points.Spheres.{sphere_true}

-- ---- the whole surface
-- from the meridian to space
surface_in_space : (m : Reach) (s : List Float) (p : Vec3) → Ready m s p → (δ w n : ℕ) → TrueDistance δ w s (meridian p) n
    → ClearInSpace (δ + 2 ^ unit_of m) w s p
surface_in_space m s p N δ w n D k l t =
    space_true (unit_of m) (square_of m) (fine_of m) p N.x N.y δ w (vertex_at s k) (end_at s k) (D.never_over k l t)

-- a smaller distance, or a larger error
clear_less : (s : List Float) (p : Vec3) (δ η w v : ℕ) → v - η ≤ w - δ → ClearInSpace δ w s p → ClearInSpace η v s p
clear_less s p δ η w v h C k l t = space_less δ η w v p (vertex_at s k) (end_at s k) h (C k l t)

-- ---- 01's point distance, whenever it is not turned down
-- the reported magnitude is true in the section's plane within ε, and in space exceeds the distance to no point of the surface by
-- more than twice that
abbrev pub TruePoint : Reach → List Float → Vec3 → CollisionHit → Type 0
TruePoint m s p h = TrueDistance (ε m) (size h.distance) s (meridian p) h.witness.edge
    × ClearInSpace (ε₂ m) (size h.distance) s p

pub point_ready : (m : Reach) (s : List Float) (p : Vec3) → Held s → Held (point_numbers p) → WithinReach m s
    → WithinReach m (point_numbers p)
    → refusal (point_tests s p) ≡ 0 → Ready m s p
point_ready m s p S P S' P' e =
    let t = taken 3 256 (s ∷ []) (s ++ (point_numbers p ++ [])) (axis_tests s ++ []) tt e in
    let N = numbers_in m (point_numbers p) P P' (all_rest s (point_numbers p) t.numbers) in
    ready m s p (numbers_in m s S S' (all_first s (point_numbers p) t.numbers)) (N 0 (leb→le _ _ tt)) (N 1 (leb→le _ _ tt))
    (N 2 (leb→le _ _ tt))

pub point_answer_true : (m : Reach) (s : List Float) (p : Vec3) → Held s → Held (point_numbers p) → WithinReach m s
    → WithinReach m (point_numbers p)
    → OfValue (TruePoint m s p) (point_answer s p)
unfolding point_answer
point_answer_true m s p S P S' P' = of_reply (TruePoint m s p) (refusal (point_tests s p)) (point_distance s (meridian p)) holds
  where
    holds : refusal (point_tests s p) ≡ 0 → TruePoint m s p (point_distance s (meridian p))
    holds e =
        let N = point_ready m s p S P S' P' e in
        let D = point_true (unit_of m) (square_of m) (fine_of m) s (meridian p) N.within N.vertices in
        let w = size (point_distance s (meridian p)).distance in (
          true_wider (64 * 2 ^ unit_of m) (ε m) w s _ _ (ε_of m) D,
          clear_less s p (64 * 2 ^ unit_of m + 2 ^ unit_of m) (ε₂ m) w w (less w (2 ^ unit_of m) (ε₂ m) (ε₂_of m))
              (surface_in_space m s p N _ w _ D),
        )
      where
        less : (w u d : ℕ) → 126 * u ≤ d → w - d ≤ w - (64 * u + u)
        less w u d h = omega arith

-- ---- and 01's sphere distance, the radius added exactly
-- what is given with a sphere, and how far its numbers reach
pub record SphereReady (m : Reach) (s : List Float) (b : Sphere) : Type 0 where
  pub center : Ready m s b.center
  pub radius : In m b.radius

pub sphere_ready : (m : Reach) (s : List Float) (b : Sphere) → Held s → Held (sphere_numbers b) → WithinReach m s
    → WithinReach m (sphere_numbers b)
    → All NumberTaken s → All NumberTaken (sphere_numbers b) → SphereReady m s b
sphere_ready m s b S B S' B' A C =
    let N = numbers_in m (sphere_numbers b) B B' C in
    record {
      center = ready m s b.center (numbers_in m s S S' A) (N 0 (leb→le _ _ tt)) (N 1 (leb→le _ _ tt)) (N 2 (leb→le _ _ tt));
      radius = N 3 (leb→le _ _ tt);
    }

abbrev pub TrueSphere : Reach → List Float → Sphere → CollisionHit → Type 0
TrueSphere m s b h = TrueDistance (ε₂ m) (size_of_sum h.distance b.radius) s (meridian b.center) h.witness.edge
    × ClearInSpace (ε₂ m) (size_of_sum h.distance b.radius) s b.center

sphere_magnitude : (m : Reach) (s : List Float) (b : Sphere) → SphereReady m s b → TrueSphere m s b (sphere_distance s b)
sphere_magnitude m s b N =
    let u = 2 ^ unit_of m in
    let w = size_of_sum (sphere_distance s b).distance b.radius in
    let D = sphere_true (unit_of m) (square_of m) (fine_of m) (room_under m) s b N.center.within N.center.vertices
    (in_bounded m N.radius) in (
      true_wider (80 * u) (ε₂ m) w s _ _ (le_trans (few u) (ε₂_of m)) D,
      clear_less s b.center (80 * u + u) (ε₂ m) w w (less w u (ε₂ m) (ε₂_of m))
          (surface_in_space m s b.center N.center _ w _ D),
    )
  where
    few : (u : ℕ) → 80 * u ≤ 126 * u
    few u = omega arith

    less : (w u d : ℕ) → 126 * u ≤ d → w - d ≤ w - (80 * u + u)
    less w u d h = omega arith

pub sphere_answer_true : (m : Reach) (s : List Float) (b : Sphere) → Held s → Held (sphere_numbers b) → WithinReach m s
    → WithinReach m (sphere_numbers b)
    → OfValue (TrueSphere m s b) (sphere_answer s b)
unfolding sphere_answer
sphere_answer_true m s b S B S' B' = of_reply (TrueSphere m s b) (refusal (sphere_tests s b [] [])) (sphere_distance s b) holds
  where
    holds : refusal (sphere_tests s b [] []) ≡ 0 → TrueSphere m s b (sphere_distance s b)
    holds e =
        let t = taken 3 256 (s ∷ []) (s ++ (sphere_numbers b ++ [])) (axis_tests s ++ radius_tests b.radius) tt e in
        sphere_magnitude m s b
        (sphere_ready m s b S B S' B' (all_first s (sphere_numbers b) t.numbers)
        (all_rest s (sphere_numbers b) t.numbers))
