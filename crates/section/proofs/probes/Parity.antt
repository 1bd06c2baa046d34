-- The even-odd rule at five probes: before the first edge, one edge more, and at the end; and what it tells of the section.
use Prim.Native.Nat.{ℕ, ◌+◌}
use mathlib.Core.Bool.{Bool, true, false}
use mathlib.Core.List.{List}
use mathlib.Core.Path.{◌≡◌, refl, subst, sym, ◌∙◌}
use lib.Ieee.{Float}
use Rattle.arith.specs.F64.{◌≼◌, e_8}
use Rattle.section.specs.profile.Vertices.{count, edge_at, upto}
use Rattle.section.specs.declared.profile.shapes.Vertex.{Vertex}
use Rattle.section.proofs.profile.Fold.{upto_more}
use Rattle.section.specs.points.Points.{in_section, point_inside}
use Rattle.section.specs.probes.Probes.{AllOutside, OddNext, OddProbes}
use Rattle.section.specs.declared.probes.shapes.Probes.{Probes}

module _ (s : List Float) (at : Probes Vertex) where
  pub at_first : OddProbes s at 0 (record { centre = false; c00 = false; c10 = false; c11 = false; c01 = false })
  unfolding upto
  at_first = record { centre = refl; c00 = refl; c10 = refl; c11 = refl; c01 = refl }

  pub one_more : {odd r : Probes Bool} (k : ℕ) → OddProbes s at k odd → OddNext at (edge_at s k) odd r → OddProbes s at (k + 1) r
  one_more k h e = record {
    centre = upto_more _ _ k h.centre e.centre;
    c00 = upto_more _ _ k h.c00 e.c00;
    c10 = upto_more _ _ k h.c10 e.c10;
    c11 = upto_more _ _ k h.c11 e.c11;
    c01 = upto_more _ _ k h.c01 e.c01;
  }

  pub at_last : {odd : Probes Bool} (k n : ℕ) → k ≡ n → OddProbes s at k odd → OddProbes s at n odd
  at_last {odd} k n e h = subst (λ (m : ℕ). OddProbes s at m odd) e h

pub odd_inside : (s : List Float) (p : Vertex) → point_inside s p ≡ true → in_section s p ≡ true
unfolding in_section
odd_inside s p e = rw e refl

pub off_axis_lem : (s : List Float) (p : Vertex) → point_inside s p ≡ false → (p.r ≼ e_8) ≡ false → in_section s p ≡ false
unfolding in_section
off_axis_lem s p e l = rw (e, l)

-- none of five probes lies inside
pub record NoneInside (s : List Float) (at : Probes Vertex) : Type 0 where
  pub centre : in_section s at.centre ≡ false
  pub c00 : in_section s at.c00 ≡ false
  pub c10 : in_section s at.c10 ≡ false
  pub c11 : in_section s at.c11 ≡ false
  pub c01 : in_section s at.c01 ≡ false

pub all_outside : {s : List Float} {at : Probes Vertex} {odd : Probes Bool} → OddProbes s at (count s) odd → AllOutside at odd → NoneInside s at
unfolding point_inside
all_outside h o = record {
  centre = off_axis_lem _ _ (sym h.centre ∙ o.centre) o.off_axis.centre;
  c00 = off_axis_lem _ _ (sym h.c00 ∙ o.c00) o.off_axis.c00;
  c10 = off_axis_lem _ _ (sym h.c10 ∙ o.c10) o.off_axis.c10;
  c11 = off_axis_lem _ _ (sym h.c11 ∙ o.c11) o.off_axis.c11;
  c01 = off_axis_lem _ _ (sym h.c01 ∙ o.c01) o.off_axis.c01;
}
