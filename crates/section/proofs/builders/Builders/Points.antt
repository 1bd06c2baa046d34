-- What is kept of a list's points, one after the other, and of the loop that writes them. By the law of one point more.
use Prim.Native.Nat.{ℕ, zero, suc, ◌+◌, ◌*◌, ◌<◌, ◌≤◌}
use native.Mathlib.Numerals.{add-one}
use native.Mathlib.Omega.{arith}
use mathlib.Core.List.{List}
use mathlib.Core.Path.{◌≡◌, refl, ap, ◌∙◌}
use lib.ListN.{length, take, length-take}
use lib.Ieee.{Float}
use borrow.Author.Tests.{lt-ltb}
use Rattle.section.specs.profile.Vertices.{count, vertex_at, upto}
use Rattle.section.specs.builders.Builder.{last_of, keep, kept_points}
use Rattle.section.specs.builders.Steps.{point_at, run_of, pushed, pushed_space, front_kept}
use Rattle.section.specs.declared.builders.builder.Run.{Run}
use Rattle.section.specs.declared.profile.shapes.Vertex.{Vertex}
use Rattle.section.proofs.builders.Builders.Keep.{Whole, Next, next_keep, run_keep}
use Rattle.section.proofs.builders.Builders.Space.{filled_length, space_keep}

module _ (s : List Float) where
  pub points_whole : (k : ℕ) → Whole (kept_points s k)
  unfolding kept_points upto
  points_whole zero = refl
  points_whole (suc k) = (next_keep _ (point_at s k) (points_whole k)).whole

  step : (k : ℕ) → Next (kept_points s k) (kept_points s (suc k))
  unfolding kept_points upto
  step k = next_keep _ (point_at s k) (points_whole k)

  pub points_most : (k : ℕ) → count (kept_points s k) ≤ k
  unfolding kept_points upto
  points_most zero = omega arith
  points_most (suc k) = let i = points_most k in let n = step k in omega arith

  pub points_some : (k : ℕ) → 1 ≤ k → 0 < count (kept_points s k)
  unfolding kept_points upto keep
  points_some zero h = absurd (omega arith)
  points_some (suc zero) h = omega arith
  points_some (suc (suc k)) h = let i = points_some (suc k) (omega arith) in let n = step (suc k) in omega arith

  pub points_first : (k : ℕ) → 1 ≤ k → vertex_at (kept_points s k) 0 ≡ point_at s 0
  unfolding kept_points upto keep
  points_first zero h = absurd (omega arith)
  points_first (suc zero) h = refl
  points_first (suc (suc k)) h =
      (step (suc k)).first (points_some (suc k) (omega arith)) ∙ points_first (suc k) (omega arith)

  pub points_last : (k : ℕ) → 1 ≤ k → (run_of (kept_points s k)).last ≡ last_of (kept_points s k)
  points_last k h = rw (lt-ltb 0 (count (kept_points s k)) (points_some k h))

pub up_to_length : (limit : ℕ) (l space : List Float) → limit * 2 ≤ length space → length (front_kept limit l space) ≡ length space
up_to_length limit l space h = filled_length (take (limit * 2) l) space (simp length-take (omega arith))

-- the loop after k points: the run is that of what is kept of them
module _ (s : List Float) (k : ℕ) {b : Run} (e : b ≡ run_of (kept_points s k)) where
  pub count_most : b.count ≤ k
  count_most = rw e (points_most s k)

  pub run_turned : {v : Vertex} {b' : Run} → v ≡ point_at s k → b' ≡ pushed v b → b' ≡ run_of (kept_points s (k + 1))
  unfolding kept_points upto
  run_turned w p = rw (add-one k) (p ∙ rw (w, e) (run_keep _ (point_at s k) (points_whole s k)))

  -- and the space holds it, up to the limit
  module _ (limit : ℕ) (space₀ : List Float) {space : List Float} (h : limit * 2 ≤ length space₀)
      (q : space ≡ front_kept limit (kept_points s k) space₀) where
    pub same_long : length space ≡ length space₀
    same_long = ap length q ∙ up_to_length limit (kept_points s k) space₀ h

    pub space_turned : {v : Vertex} {space' : List Float} → v ≡ point_at s k → space' ≡ pushed_space limit v b space
        → space' ≡ front_kept limit (kept_points s (k + 1)) space₀
    unfolding kept_points upto
    space_turned w p =
        rw (add-one k) (p ∙ rw (w, e, q) (space_keep limit _ space₀ (point_at s k) (points_whole s k) h))
