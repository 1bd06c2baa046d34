-- WHAT A CALL THAT IS NOT TURNED DOWN IS GIVEN, in the words of the laws: bounds on every number, at both reaches.
use Prim.Native.Nat.{◌*◌, ◌+◌, ◌<◌, ◌^◌, suc, ℕ, ◌≤◌}
use mathlib.Core.List.{List}
use native.Mathlib.Omega.{arith}
use lib.Dec.{leb→le, lit<, T}
use lib.Ieee.{binary64, fits, Float, nan, prec}
use lib.ListN.{get_or, length}
use Rattle.arith.proofs.roots.Rounding.Key.{number, unit}
use Rattle.arith.specs.F64.{e_9}
use Rattle.arith.specs.declared.vector.Vec3.{Vec3}
use Rattle.arith.proofs.Laws.Bounded.{Bounded, overflow}
use Rattle.arith.proofs.Laws.SizedOrder.{hypot_not_negative}
use Rattle.arith.proofs.Laws.Sizes.{e_9_finite, finite_number_lem, finite_raise, held_finite, K, M}
use Rattle.section.specs.profile.Vertices.{count, vertex_at}
use Rattle.section.proofs.profile.Each.{All, all_at}
use Rattle.section.proofs.profile.Refusals.Passed.{NumberTaken}
use Rattle.section.specs.points.Points.{meridian}
use Rattle.section.specs.Demand.{AtMost}
use Rattle.section.proofs.Demand.Accepted.{taken_at_most}
use Rattle.section.proofs.Demand.AtMost.{at_most_given}
use Rattle.section.proofs.Demand.Bounds.{hypot_at_most}
use Rattle.truth.specs.Points.{bits, full, Held, metre, Reach, WithinReach, ε, ε₂}
use Rattle.truth.proofs.Points.Closest.{Fine, fine_limit, fine_metre, Within}

-- ---- the constants of a reach: u is 2 ^ (unit_of m) units, and every number is within 2 ^ 53 u
abbrev pub unit_of : Reach → ℕ
unit_of full = 1041
unit_of metre = 1031

abbrev pub square_of : Reach → ℕ
square_of full = 1117
square_of metre = 1097

pub fine_of : (m : Reach) → Fine (unit_of m) (square_of m)
fine_of full = fine_limit
fine_of metre = fine_metre

pub coarse_of : (m : Reach) → unit binary64 ≤ 2 ^ unit_of m * 2 ^ 1014
unfolding unit
coarse_of full = leb→le _ _ tt
coarse_of metre = leb→le _ _ tt

pub room_of : (m : Reach) → suc (suc (suc (suc (suc (suc (prec binary64 + unit_of m)))))) < overflow binary64
room_of full = lit< tt
room_of metre = lit< tt

pub room_under : (m : Reach) → suc (suc (suc (suc (suc (prec binary64 + unit_of m))))) < overflow binary64
room_under full = lit< tt
room_under metre = lit< tt

pub nine_of : (m : Reach) → Bounded binary64 (prec binary64 + unit_of m) e_9
nine_of full = (finite_raise e_9_finite {m = 20} tt).bounded
nine_of metre = (finite_raise e_9_finite {m = 10} tt).bounded

-- 64 u are ε, and 128 u twice that
pub ε_of : (m : Reach) → 64 * 2 ^ unit_of m ≤ ε m
ε_of full = leb→le _ _ tt
ε_of metre = leb→le _ _ tt

pub ε₂_of : (m : Reach) → 126 * 2 ^ unit_of m ≤ ε₂ m
ε₂_of full = leb→le _ _ tt
ε₂_of metre = leb→le _ _ tt

-- ---- numbers
-- one that f64 holds, within the reach
pub record In (m : Reach) (x : Float) : Type 0 where
  pub held : T (fits binary64 x)
  pub most : AtMost (bits m) x

pub numbers_in : (m : Reach) (l : List Float) → Held l → WithinReach m l → All NumberTaken l → (k : ℕ) → k < length l
    → In m (get_or l k nan)
numbers_in full l H R A k w = record { held = H k w; most = taken_at_most _ (all_at A nan k w) }
numbers_in metre l H R A k w = record { held = H k w; most = R k w }

pub in_bounded : (m : Reach) {x : Float} → In m x → Bounded binary64 (prec binary64 + unit_of m) x
in_bounded full X = (held_finite (at_most_given X.most) X.held).bounded
in_bounded metre X = (held_finite (at_most_given X.most) X.held).bounded

pub in_number : (m : Reach) {x : Float} → In m x → T (number binary64 x)
in_number full X = finite_number_lem (held_finite (at_most_given X.most) X.held)
in_number metre X = finite_number_lem (held_finite (at_most_given X.most) X.held)

-- ---- a section and a point
pub record Ready (m : Reach) (s : List Float) (p : Vec3) : Type 0 where
  pub vertices : (k : ℕ) → k < count s → Within (unit_of m) (vertex_at s k)
  pub x : Bounded binary64 (prec binary64 + unit_of m) p.x
  pub y : Bounded binary64 (prec binary64 + unit_of m) p.y
  pub within : Within (suc (unit_of m)) (meridian p)
  pub above : M ≤ K (meridian p).r

pub vertices_in : (m : Reach) (s : List Float) → ((k : ℕ) → k < length s → In m (get_or s k nan)) → (k : ℕ) → k < count s
    → Within (unit_of m) (vertex_at s k)
vertices_in m s S k l = record { z = in_bounded m (S (k * 2) (omega arith)); r = in_bounded m (S (k * 2 + 1) (omega arith)) }

meridian_in : (m : Reach) (p : Vec3) → In m p.x → In m p.y → In m p.z → Within (suc (unit_of m)) (meridian p)
meridian_in full p X Y Z = record {
  z = (finite_raise (held_finite (at_most_given Z.most) Z.held) {m = 21} tt).bounded;
  r = (hypot_at_most X.most Y.most tt).bounded;
}
meridian_in metre p X Y Z = record {
  z = (finite_raise (held_finite (at_most_given Z.most) Z.held) {m = 11} tt).bounded;
  r = (hypot_at_most X.most Y.most tt).bounded;
}

pub ready : (m : Reach) (s : List Float) (p : Vec3) → ((k : ℕ) → k < length s → In m (get_or s k nan)) → In m p.x → In m p.y
    → In m p.z
    → Ready m s p
ready m s p S X Y Z = record {
  vertices = vertices_in m s S;
  x = in_bounded m X;
  y = in_bounded m Y;
  within = meridian_in m p X Y Z;
  above = hypot_not_negative (at_most_given X.most) (at_most_given Y.most);
}
