-- IN SPACE: a point is as far from the turned solid as its meridian is from the section, but for the error of its radius.
use Prim.Native.Nat.{◌+◌, ◌-◌, ◌^◌, ℕ, ◌≤◌}
use mathlib.Core.List.{List}
use lib.Ieee.{binary64, Float, prec}
use Rattle.arith.specs.declared.vector.Vec3.{Vec3}
use Rattle.arith.proofs.Laws.Bounded.{Bounded}
use Rattle.section.specs.profile.Vertices.{end_at, vertex_at}
use Rattle.section.specs.points.Points.{meridian}
use Rattle.truth.specs.Solid.{ClearOfSolid, ClearOfSolidInSpace}
use Rattle.truth.proofs.Places.{not_over_less}
use Rattle.truth.proofs.Points.Closest.{Fine}
use Rattle.truth.proofs.Points.Space.{in_space, space_less, space_true}

pub solid_in_space : (e k : ℕ) → Fine e k → (p : Vec3) → Bounded binary64 (prec binary64 + e) p.x
    → Bounded binary64 (prec binary64 + e) p.y
    → (ε w : ℕ) (s : List Float) → ClearOfSolid ε w s (meridian p) → ClearOfSolidInSpace (ε + 2 ^ e) w s p
solid_in_space e k fine p X Y ε w s C = record {
  surface = λ m l t. space_true e k fine p X Y ε w (vertex_at s m) (end_at s m) (C.surface m l t);
  inside = λ n z r X' Y' t i. in_space e k fine p X Y w ε n z r X' Y' t (C.inside n z r t.above i);
}

-- a smaller distance, or a larger error
pub solid_space_less : (ε δ w v : ℕ) (s : List Float) (p : Vec3) → v - δ ≤ w - ε → ClearOfSolidInSpace ε w s p
    → ClearOfSolidInSpace δ v s p
solid_space_less ε δ w v s p h C = record {
  surface = λ k l t. space_less ε δ w v p (vertex_at s k) (end_at s k) h (C.surface k l t);
  inside = λ n z r X Y t i. not_over_less ε δ w v n h (C.inside n z r X Y t i);
}
