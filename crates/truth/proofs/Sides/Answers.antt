-- CLEAR MEANS CLEAR OF THE SOLID: of every sound section, and every point and sphere that is not turned down, at both reaches.
-- Sound is that every radius is 0 or at least 1/128 mm.
use Prim.Native.Nat.{◌*◌, ◌+◌, ◌-◌, ◌<◌, ◌^◌, ℕ, ◌≤◌}
use mathlib.Core.Bool.{◌&&◌, ◌||◌, Bool, false, true}
use mathlib.Core.List.{List, [], ◌∷◌, ◌++◌}
use mathlib.Core.Logic.{inl, inr, ◌⊎◌}
use mathlib.Core.Path.{◌≡◌, sym}
use native.Mathlib.Nat.{lt_of_lt_of_le, mul-le-mul_right}
use native.Mathlib.Omega.{arith}
use lib.Dec.{lit<, T}
use lib.Ieee.{Float}
use Rattle.arith.specs.F64.{◌≼◌, e_8}
use Rattle.arith.specs.declared.vector.Vec3.{Vec3}
use Rattle.arith.proofs.Laws.Sizes.{K, M}
use Rattle.section.specs.profile.Refusals.{axis_tests, point_numbers, point_tests, radius_tests, refusal, sphere_numbers, sphere_tests}
use Rattle.section.specs.profile.Replies.{OfValue}
use Rattle.section.specs.profile.Vertices.{any, count, end_at, vertex_at}
use Rattle.section.specs.declared.profile.shapes.CollisionHit.{CollisionHit}
use Rattle.section.specs.declared.profile.shapes.Sphere.{Sphere}
use Rattle.section.proofs.profile.Each.{All, all_first, all_rest}
use Rattle.section.proofs.profile.Refusals.Passed.{NumberTaken, taken}
use Rattle.section.proofs.profile.Replies.{of_reply}
use Rattle.section.specs.points.Points.{in_section, inside_axis_edge, meridian, point_distance, point_inside, sphere_distance}
use Rattle.section.specs.Answers.{point_answer, sphere_answer}
use Rattle.arith.specs.Whole.{apart}
use Rattle.truth.specs.Exact.{origin, place, size, units, units_of_sum}
use Rattle.truth.specs.Points.{full, Held, metre, Reach, WithinReach, ε₂}
use Rattle.truth.specs.Solid.{ClearOfSolid, ClearOfSolidInSpace, plain, SameSide, sound, vertex_inside}
use Rattle.truth.proofs.Places.{origin_is, place_is}
use Rattle.truth.proofs.Points.Accepted.{coarse_of, fine_of, in_bounded, nine_of, numbers_in, Ready, room_of, room_under}
use Rattle.truth.proofs.Points.Accepted.{square_of, unit_of, vertices_in, ε₂_of}
use Rattle.truth.proofs.Points.Answers.{point_ready, sphere_ready}
use Rattle.truth.proofs.Points.Verdicts.{sphere_judged}
use Rattle.truth.proofs.Sides.Clear.{inside_or_axis, point_solid}
use Rattle.truth.proofs.Sides.Inside.{inside_true, side_true}
use Rattle.truth.proofs.Sides.Judged.{SphereVerdictClear}
use Rattle.truth.proofs.Sides.Sound.{sound_plain}
use Rattle.truth.proofs.Sides.Space.{solid_in_space, solid_space_less}
use Rattle.truth.proofs.Sides.Spheres.{sphere_solid, verdict_solid}

-- a sound section that is accepted is plain
plain_of : (s : List Float) → Held s → All NumberTaken s → T (sound s) → T (plain s)
plain_of s S A h = sound_plain s (vertices_in full s (numbers_in full s S tt A)) h

-- from the section's plane to space, within ε₂
in_space_within : (m : Reach) (s : List Float) (p : Vec3) → Ready m s p → (n w : ℕ) → n ≤ 125
    → ClearOfSolid (n * 2 ^ unit_of m) w s (meridian p)
    → ClearOfSolidInSpace (ε₂ m) w s p
in_space_within m s p N n w h C =
    solid_space_less (n * 2 ^ unit_of m + 2 ^ unit_of m) (ε₂ m) w w s p (less (2 ^ unit_of m) (ε₂ m) (ε₂_of m))
    (solid_in_space (unit_of m) (square_of m) (fine_of m) p N.x N.y (n * 2 ^ unit_of m) w s C)
  where
    less : (u d : ℕ) → 126 * u ≤ d → w - d ≤ w - (n * u + u)
    less u d l = step (n * u) (let k : n * u ≤ 125 * u = mul-le-mul_right u h in k)
      where
        step : (x : ℕ) → x ≤ 125 * u → w - d ≤ w - (x + u)
        step x k = omega arith

-- ---- points
-- what is reported exceeds the distance to no point of the turned solid by more than ε₂
pub point_clear : (m : Reach) (s : List Float) (p : Vec3) → Held s → Held (point_numbers p) → WithinReach m s
    → WithinReach m (point_numbers p)
    → T (sound s) → OfValue (λ (h : CollisionHit). ClearOfSolidInSpace (ε₂ m) (units h.distance) s p) (point_answer s p)
unfolding point_answer
point_clear m s p S P S' P' h = of_reply _ (refusal (point_tests s p)) (point_distance s (meridian p)) holds
  where
    holds : refusal (point_tests s p) ≡ 0 → ClearOfSolidInSpace (ε₂ m) (units (point_distance s (meridian p)).distance) s p
    holds e =
        let N = point_ready m s p S P S' P' e in
        let t = taken 3 256 (s ∷ []) (s ++ (point_numbers p ++ [])) (axis_tests s ++ []) tt e in
        in_space_within m s p N 77 _ (omega arith)
        (point_solid (unit_of m) (square_of m) (fine_of m) (coarse_of m) s (meridian p) N.within
        N.above N.vertices (plain_of s S (all_first s (point_numbers p) t.numbers) h))

-- ---- spheres
pub sphere_clear : (m : Reach) (s : List Float) (b : Sphere) → Held s → Held (sphere_numbers b) → WithinReach m s
    → WithinReach m (sphere_numbers b)
    → T (sound s)
    → OfValue (λ (h : CollisionHit). ClearOfSolidInSpace (ε₂ m) (units_of_sum h.distance b.radius) s b.center)
    (sphere_answer s b)
unfolding sphere_answer
sphere_clear m s b S B S' B' h = of_reply _ (refusal (sphere_tests s b [] [])) (sphere_distance s b) holds
  where
    holds : refusal (sphere_tests s b [] []) ≡ 0
        → ClearOfSolidInSpace (ε₂ m) (units_of_sum (sphere_distance s b).distance b.radius) s b.center
    holds e =
        let t = taken 3 256 (s ∷ []) (s ++ (sphere_numbers b ++ [])) (axis_tests s ++ radius_tests b.radius) tt e in
        let A = all_first s (sphere_numbers b) t.numbers in
        let N = sphere_ready m s b S B S' B' A (all_rest s (sphere_numbers b) t.numbers) in
        in_space_within m s b.center N.center 112 _ (omega arith)
        (sphere_solid (unit_of m) (square_of m) (fine_of m) (coarse_of m)
        (room_under m) s b N.center.within N.center.above N.center.vertices (plain_of s S A h)
        (in_bounded m N.radius))

-- a sphere that is judged clear
pub sphere_verdict_clear : SphereVerdictClear
sphere_verdict_clear m s b c S B C S' B' h e =
    let J = sphere_judged m s b c S B C S' B' e in
    let N = J.sphere.center in
    in_space_within m s b.center N 125 _ (omega arith)
    (verdict_solid (unit_of m) (square_of m) (fine_of m) (coarse_of m) (room_under m) s b
    N.within N.above N.vertices (plain_of s S J.numbers h) (in_bounded m J.sphere.radius) c J.clearance
    J.clear
    (room_of m) (nine_of m))

-- ---- the sign, of every plain section
module _ (m : Reach) (s : List Float) (p : Vec3) (S : Held s) (P : Held (point_numbers p)) (S' : WithinReach m s)
    (P' : WithinReach m (point_numbers p))
    (accepted : refusal (point_tests s p) ≡ 0) (straight : T (plain s)) where
  abbrev reported : Float
  reported = (point_distance s (meridian p)).distance

  here : Ready m s p
  here = point_ready m s p S P S' P' accepted

  -- 01's even-odd rule is the exact one, wherever the reported distance is ε₂ or more either way
  pub sign_true : ε₂ m ≤ size reported → point_inside s (meridian p) ≡ vertex_inside s (meridian p)
  sign_true h =
      inside_true (unit_of m) (square_of m) (fine_of m) (coarse_of m) s (meridian p) here.within here.vertices straight
      (less m (size reported) h)
    where
      less : (m : Reach) (w : ℕ) → ε₂ m ≤ w → 77 * 2 ^ unit_of m < w
      less full w h = lt_of_lt_of_le (lit< tt) h
      less metre w h = lt_of_lt_of_le (lit< tt) h

  -- all points nearer than reported, less 64 u, are inside where p is
  pub point_side : SameSide (64 * 2 ^ unit_of m) (size reported) s (meridian p)
  point_side = side_true (unit_of m) (square_of m) (fine_of m) (coarse_of m) s (meridian p) here.within here.vertices straight
      here.above

  -- where -ε₂ or less is reported, the point is inside, or 01's axis rule has it so
  pub point_inside_lem : place reported + ε₂ m ≤ origin
      → (vertex_inside s (meridian p) ≡ true)
      ⊎ T (((meridian p).r ≼ e_8) && any (λ k. inside_axis_edge (meridian p).z (vertex_at s k) (end_at s k)) (count s))
  unfolding in_section
  point_inside_lem deep = go (point_inside s (meridian p)) _ (sign_true (large deep)) (inside_or_axis s (meridian p) (below deep))
    where
      go : (a b : Bool) → a ≡ vertex_inside s (meridian p) → T (a || b) → (vertex_inside s (meridian p) ≡ true) ⊎ T b
      go true b e h = inl (sym e)
      go false b e h = inr h

      some : (m : Reach) → 0 < ε₂ m
      some full = lit< tt
      some metre = lit< tt

      below : place reported + ε₂ m ≤ origin → K reported < M
      below h = step (place reported) (K reported) (ε₂ m) origin M (place_is reported) origin_is (some m) h
        where
          step : (q k y o m : ℕ) → q ≡ k → o ≡ m → 0 < y → q + y ≤ o → k < m
          step q k y o m e f l h = omega arith

      large : place reported + ε₂ m ≤ origin → ε₂ m ≤ size reported
      large h = unfold size in step (place reported) origin (ε₂ m) h
        where
          step : (q o y : ℕ) → q + y ≤ o → y ≤ apart q o
          step q o y h = unfold apart in omega arith
