-- What functions below the entry points promise each other of five probes at once; no answer is defined by it.
use Rattle.std.specs.Prelude.{ℕ, Bool, false, List, ◌≡◌, Float}
use Rattle.std.specs.Float.Ieee.{unlike}
use Rattle.arith.specs.F64.{◌≼◌, e_8}
use Rattle.section.specs.profile.Vertices.{vertex_at, end_at, upto}
use Rattle.section.specs.declared.profile.shapes.Edge.{Edge}
use Rattle.section.specs.declared.profile.shapes.Vertex.{Vertex}
use Rattle.section.specs.points.Points.{crosses}
use Rattle.section.specs.declared.probes.shapes.Probes.{Probes}

-- the even-odd rule over the edges below n: `point_inside` is this over all
abbrev pub crossed : List Float → Vertex → ℕ → Bool
crossed s p n = upto (λ k odd. unlike odd (crosses p (vertex_at s k) (end_at s k))) false n

-- r is odd after one edge more, at each probe
pub record OddNext (at : Probes Vertex) (e : Edge) (odd r : Probes Bool) : Type 0 where
  pub centre : r.centre ≡ unlike odd.centre (crosses at.centre e.a e.b)
  pub c00 : r.c00 ≡ unlike odd.c00 (crosses at.c00 e.a e.b)
  pub c10 : r.c10 ≡ unlike odd.c10 (crosses at.c10 e.a e.b)
  pub c11 : r.c11 ≡ unlike odd.c11 (crosses at.c11 e.a e.b)
  pub c01 : r.c01 ≡ unlike odd.c01 (crosses at.c01 e.a e.b)

-- odd tells the rule over the edges below n, at each probe
pub record OddProbes (s : List Float) (at : Probes Vertex) (n : ℕ) (odd : Probes Bool) : Type 0 where
  pub centre : odd.centre ≡ crossed s at.centre n
  pub c00 : odd.c00 ≡ crossed s at.c00 n
  pub c10 : odd.c10 ≡ crossed s at.c10 n
  pub c11 : odd.c11 ≡ crossed s at.c11 n
  pub c01 : odd.c01 ≡ crossed s at.c01 n

-- no probe's radius is at most 1e-8
pub record OffAxis (at : Probes Vertex) : Type 0 where
  pub centre : (at.centre.r ≼ e_8) ≡ false
  pub c00 : (at.c00.r ≼ e_8) ≡ false
  pub c10 : (at.c10.r ≼ e_8) ≡ false
  pub c11 : (at.c11.r ≼ e_8) ≡ false
  pub c01 : (at.c01.r ≼ e_8) ≡ false

-- and none is odd
pub record AllOutside (at : Probes Vertex) (odd : Probes Bool) : Type 0 where
  pub off_axis : OffAxis at
  pub centre : odd.centre ≡ false
  pub c00 : odd.c00 ≡ false
  pub c10 : odd.c10 ≡ false
  pub c11 : odd.c11 ≡ false
  pub c01 : odd.c01 ≡ false
