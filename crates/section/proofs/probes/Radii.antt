-- Values in order span what lies between them, anything lies from -infinity to +infinity, and an edge that no probe's radius
-- parts is crossed at none. By the order of keys, and by cases at the infinities.
use Prim.Native.Nat.{ℕ, ◌≤◌}
use native.Mathlib.Omega.{arith}
use mathlib.Core.Bool.{Bool, true, false}
use mathlib.Core.List.{List}
use mathlib.Core.Path.{◌≡◌, refl, subst, sym, ◌∙◌}
use borrow.Author.Tests.{le-ltb}
use lib.Dec.{T}
use lib.Ieee.{Float, nan, inf, fin, binary64, fits, le, lt, neg, unlike}
use Rattle.arith.proofs.roots.Pattern.Special.{greater}
use Rattle.arith.proofs.roots.Rounding.Key.{key}
use Rattle.arith.proofs.roots.Rounding.KeyOrder.{key→lt, le→key, lt_key, lt→key}
use Rattle.arith.specs.F64.{◌≺◌, ◌≼◌, ∞}
use Rattle.arith.proofs.Laws.OrderHeld.{T→true, true→T, held_number, inf_not_less, le_left, le_right, not_less_minus_inf}
use Rattle.arith.proofs.Laws.Sizes.{Number}
use Rattle.section.specs.profile.Vertices.{edge_at, end_at, vertex_at}
use Rattle.section.specs.declared.profile.shapes.Vertex.{Vertex}
use Rattle.section.specs.points.Points.{crosses}
use Rattle.section.specs.probes.Probes.{OddNext}
use Rattle.section.specs.probes.Radii.{Reaches, Spans, Unparted, Within}
use Rattle.section.specs.declared.probes.shapes.Probes.{Probes}
use Rattle.section.specs.declared.ranges.shapes.Range.{Range}

module _ (lo hi r : Float) (L : Number lo) (H : Number hi) (R : Number r) where
  -- at numbers, the order of keys
  in_order_lem : key binary64 lo ≤ key binary64 r → key binary64 r ≤ key binary64 hi → Within lo hi r
  in_order_lem p q = record {
    below = λ x X e.
        let N : Number x = held_number binary64 x X (le_left x lo e) in
        lt_key binary64 r x R N
        ∙ le-ltb (key binary64 r) (key binary64 x) (omega (arith, le→key binary64 x lo N L (true→T e)));
    above = λ x X e.
        let N : Number x = held_number binary64 x X (greater hi x e) in
        T→true (r ≺ x) (key→lt binary64 r x R N (omega (arith, lt→key binary64 hi x H N (true→T e))));
  }

pub spans : (lo r hi : Float) → T (fits binary64 lo) → T (fits binary64 r) → T (fits binary64 hi)
    → (lo ≼ r) ≡ true → (r ≼ hi) ≡ true → Spans lo r hi
spans lo r hi L R H p q =
    let l : Number lo = held_number binary64 lo L (le_left lo r p) in
    let n : Number r = held_number binary64 r R (le_right lo r p) in
    let h : Number hi = held_number binary64 hi H (le_right r hi q) in
    let f = le→key binary64 lo r l n (true→T p) in
    let g = le→key binary64 r hi n h (true→T q) in
    record {
      low = in_order_lem lo hi lo l h l (omega arith) (omega (arith, f, g));
      mid = in_order_lem lo hi r l h n f g;
      high = in_order_lem lo hi hi l h h (omega (arith, f, g)) (omega arith);
    }

none_below : (x r : Float) → (x ≼ neg ∞) ≡ true → (r ≺ x) ≡ false
unfolding le lt neg
none_below nan r e = absurd (true→T e)
none_below (inf true) r e = not_less_minus_inf r
none_below (inf false) r e = absurd (true→T e)
none_below (fin s m i) r e = absurd (true→T e)

-- from -infinity to +infinity
anywhere : (r : Float) → Within (neg ∞) ∞ r
anywhere r = record {
  below = λ x X e. none_below x r e;
  above = λ x X e. absurd (true→T (sym (inf_not_less x) ∙ e));
}

pub everywhere : (at : Probes Vertex) (t : Float) → t ≡ ∞ → Reaches at (record { lo = neg t; hi = t })
everywhere at t e =
    subst (λ (x : Float). Reaches at (record { lo = neg x; hi = x })) (sym e)
    (record { centre = anywhere _; c00 = anywhere _; c10 = anywhere _; c11 = anywhere _; c01 = anywhere _ })

alike : (s t u : Bool) → s ≡ u → t ≡ u → unlike s t ≡ false
alike s t true e f = rw (e, f) refl
alike s t false e f = rw (e, f) refl

module _ (lo hi a b : Float) (A : T (fits binary64 a)) (B : T (fits binary64 b)) where
  pub both_below : (a ≼ lo) ≡ true → (b ≼ lo) ≡ true → Unparted lo hi a b
  both_below p q = λ r w. alike _ _ false (w.below a A p) (w.below b B q)

  pub both_above : (hi ≺ a) ≡ true → (hi ≺ b) ≡ true → Unparted lo hi a b
  both_above p q = λ r w. alike _ _ true (w.above a A p) (w.above b B q)

kept : (odd : Bool) → odd ≡ unlike odd false
kept true = refl
kept false = refl

not_crossed : (p a b : Vertex) (odd : Bool) → unlike (p.r ≺ a.r) (p.r ≺ b.r) ≡ false → odd ≡ unlike odd (crosses p a b)
unfolding crosses
not_crossed p a b odd e = rw e (kept odd)

module _ (at : Probes Vertex) (reach : Range) (w : Reaches at reach) (odd : Probes Bool) where
  kept_at : (a b : Vertex) (k : ℕ) → Unparted reach.lo reach.hi a.r b.r
      → OddNext at (record { a = a; b = b; number = k }) odd odd
  kept_at a b k u = record {
    centre = not_crossed at.centre a b odd.centre (u _ w.centre);
    c00 = not_crossed at.c00 a b odd.c00 (u _ w.c00);
    c10 = not_crossed at.c10 a b odd.c10 (u _ w.c10);
    c11 = not_crossed at.c11 a b odd.c11 (u _ w.c11);
    c01 = not_crossed at.c01 a b odd.c01 (u _ w.c01);
  }

  -- edge k, from a to b
  pub odd_kept : (s : List Float) (k : ℕ) {a b : Vertex} → a ≡ vertex_at s k → b ≡ end_at s k
      → Unparted reach.lo reach.hi a.r b.r → OddNext at (edge_at s k) odd odd
  odd_kept s k {a} {b} i j u =
      subst (λ (y : Vertex). OddNext at (record { a = vertex_at s k; b = y; number = k }) odd odd) j
      (subst (λ (x : Vertex). OddNext at (record { a = x; b = b; number = k }) odd odd) i (kept_at a b k u))
