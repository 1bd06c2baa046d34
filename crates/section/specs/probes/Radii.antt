-- What functions below the entry points promise each other of the radii that five probes have; no answer is defined by it.
use Rattle.std.specs.Prelude.{true, false, ◌≡◌, T, Float}
use Rattle.std.specs.Float.{binary64}
use Rattle.std.specs.Float.Ieee.{fits, unlike}
use Rattle.arith.specs.F64.{◌≺◌, ◌≼◌}
use Rattle.section.specs.declared.profile.shapes.Vertex.{Vertex}
use Rattle.section.specs.declared.probes.shapes.Probes.{Probes}
use Rattle.section.specs.declared.ranges.shapes.Range.{Range}

-- r lies from lo to hi: of the values of f64, what is at most lo is not above it, and what is above hi is
pub record Within (lo hi r : Float) : Type 0 where
  pub below : (x : Float) → T (fits binary64 x) → (x ≼ lo) ≡ true → (r ≺ x) ≡ false
  pub above : (x : Float) → T (fits binary64 x) → (hi ≺ x) ≡ true → (r ≺ x) ≡ true

-- lo, r and hi are in order
pub record Spans (lo r hi : Float) : Type 0 where
  pub low : Within lo hi lo
  pub mid : Within lo hi r
  pub high : Within lo hi hi

-- every probe's radius lies in reach
pub record Reaches (at : Probes Vertex) (reach : Range) : Type 0 where
  pub centre : Within reach.lo reach.hi at.centre.r
  pub c00 : Within reach.lo reach.hi at.c00.r
  pub c10 : Within reach.lo reach.hi at.c10.r
  pub c11 : Within reach.lo reach.hi at.c11.r
  pub c01 : Within reach.lo reach.hi at.c01.r

-- no value from lo to hi is below one of a and b only
abbrev pub Unparted : Float → Float → Float → Float → Type 0
Unparted lo hi a b = (r : Float) → Within lo hi r → unlike (r ≺ a) (r ≺ b) ≡ false
