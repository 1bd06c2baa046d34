-- EVERY PLAIN SECTION AND EVERY BOX within the scale: box distance exceeds the exact distance between no point of the box and no
-- point of the solid by more than it may exceed the edges': what the solid asks, 2 ^ -24 mm, is small beside that.
use Prim.Native.Nat.{◌*◌, ◌+◌, ◌-◌, ◌^◌, suc, ℕ, ◌≤◌}
use mathlib.Core.List.{List}
use native.Mathlib.Omega.{arith}
use lib.Dec.{leb→le, T}
use lib.Ieee.{binary64, Float, of_bits, prec}
use Rattle.arith.proofs.roots.Rounding.Key.{key, magnitude, mid, unit}
use Rattle.arith.specs.F64.{e_9}
use Rattle.arith.proofs.Laws.OperationErrors.{half}
use Rattle.arith.proofs.Laws.Sizes.{K, M}
use Rattle.section.specs.declared.profile.shapes.Aabb.{Aabb}
use Rattle.section.specs.boxes.Boxes.{box_distance}
use Rattle.truth.specs.Exact.{units}
use Rattle.truth.specs.Points.{full, metre, Reach}
use Rattle.truth.specs.Solid.{plain, sound}
use Rattle.truth.specs.Boxes.{box_loss, BoxTrue, BoxWithin, ClearOfBox, InSolid}
use Rattle.truth.specs.Cylinders.{walk_box_loss}
use Rattle.truth.proofs.Places.{not_over_less}
use Rattle.truth.proofs.Points.Accepted.{unit_of}
use Rattle.truth.proofs.Points.Closest.{Fine, fine_limit, fine_metre}
use Rattle.truth.proofs.Sides.Sound.{sound_plain}
use Rattle.truth.proofs.Boxes.Centre.{solid_too}
use Rattle.truth.proofs.Boxes.Scaled.{scale_limit, scale_limit_walk, scale_metre, scale_metre_walk}
use Rattle.truth.proofs.Boxes.Scales.{thin_limit, thin_limit_walk, thin_metre, thin_metre_walk, ε_limit, ε_limit_walk}
use Rattle.truth.proofs.Boxes.Scales.{ε_metre, ε_metre_walk}
use Rattle.truth.proofs.Boxes.Sections.{box_clear, NeverOver, Placed, placed_limit, placed_metre, raised, raised_vertices}
use Rattle.truth.proofs.Boxes.Sections.{Vertices}

-- box distance exceeds the exact distance between no point of the box and no point of the solid by more than ε
abbrev pub NeverOverSolid : ℕ → List Float → Aabb → Type 0
NeverOverSolid ε s x = ClearOfBox ε (units (box_distance s x).distance) x (InSolid s)

-- what the solid asks
abbrev pub small : ℕ
small = 2 ^ 1050

record Enough (e k : ℕ) : Type 0 where
  pub fine : Fine e k
  pub coarse : unit binary64 ≤ 2 ^ e * 2 ^ 1014
  pub room : 141 * 2 ^ e ≤ small
  pub nine : 64 * 2 ^ e + (K e_9 - M) ≤ small

-- a smaller distance, or a larger error
pub box_less : (ε δ w v : ℕ) (x : Aabb) (Counts : ℕ → ℕ → ℕ → Type 0) → v - δ ≤ w - ε → ClearOfBox ε w x Counts
    → ClearOfBox δ v x Counts
box_less ε δ w v x Counts h N = record {
  proof = λ n Z R q z r I t. not_over_less ε δ w v (n * q) h (N.proof n Z R q z r I t);
}

wider : (δ ε : ℕ) (s : List Float) (x : Aabb) → δ ≤ ε → NeverOverSolid δ s x → NeverOverSolid ε s x
wider δ ε s x l N = box_less δ ε _ _ x (InSolid s) (less (units (box_distance s x).distance)) N
  where
    less : (w : ℕ) → w - ε ≤ w - δ
    less w = omega arith

solid_within : (e k : ℕ) → Enough e k → (s : List Float) → Vertices e s → T (plain s) → (x : Aabb) → Placed (suc e) x → (ε : ℕ)
    → NeverOver ε s x → NeverOverSolid (ε + small) s x
solid_within e k E s S p x X ε N = solid_too e k E.fine E.coarse s S p x X ε N small E.room E.nine

-- ---- the scales of boxes, and of a walk's, of which the middle reaches twice as far
enough_metre : Enough 1031 1097
unfolding mid key magnitude unit of_bits
enough_metre = record { fine = fine_metre; coarse = leb→le _ _ tt; room = leb→le _ _ tt; nine = leb→le _ _ tt }

enough_limit : Enough 1041 1117
unfolding mid key magnitude unit of_bits
enough_limit = record { fine = fine_limit; coarse = leb→le _ _ tt; room = leb→le _ _ tt; nine = leb→le _ _ tt }

enough_metre_walk : Enough 1032 1099
unfolding half unit mid key magnitude of_bits
enough_metre_walk = record {
  fine = record {
    scale = record {
      digits = leb→le _ _ tt;
      one = leb→le _ _ tt;
      one_lt = leb→le _ _ tt;
      range = leb→le _ _ tt;
      products = leb→le _ _ tt;
      sums = leb→le _ _ tt;
      wide = leb→le _ _ tt;
    };
    big = leb→le _ _ tt;
    little = leb→le _ _ tt;
    twelve = leb→le _ _ tt;
  };
  coarse = leb→le _ _ tt;
  room = leb→le _ _ tt;
  nine = leb→le _ _ tt;
}

enough_limit_walk : Enough 1042 1119
unfolding half unit mid key magnitude of_bits
enough_limit_walk = record {
  fine = record {
    scale = record {
      digits = leb→le _ _ tt;
      one = leb→le _ _ tt;
      one_lt = leb→le _ _ tt;
      range = leb→le _ _ tt;
      products = leb→le _ _ tt;
      sums = leb→le _ _ tt;
      wide = leb→le _ _ tt;
    };
    big = leb→le _ _ tt;
    little = leb→le _ _ tt;
    twelve = leb→le _ _ tt;
  };
  coarse = leb→le _ _ tt;
  room = leb→le _ _ tt;
  nine = leb→le _ _ tt;
}

-- a sound section within either is plain
pub plain_within : (m : Reach) (s : List Float) → Vertices (unit_of m) s → T (sound s) → T (plain s)
plain_within full s S h = sound_plain s S h
plain_within metre s S h = sound_plain s (raised_vertices 1031 1041 (leb→le _ _ tt) s S) h

-- ---- within 1,024 mm and within 01's limit
placed_up : (e d : ℕ) → prec binary64 + e ≤ prec binary64 + d → (x : Aabb) → Placed e x → Placed d x
placed_up e d l x X = record {
  boxed = record {
    z0 = raised e d l X.boxed.z0;
    z1 = raised e d l X.boxed.z1;
    r0 = raised e d l X.boxed.r0;
    r1 = raised e d l X.boxed.r1;
  };
  z_order = X.z_order;
  r_order = X.r_order;
}

-- what box distance exceeds at most, of the edges: what specs/Boxes names is more by over 2 ^ 1052
abbrev pub tight : Reach → ℕ
tight full = 2 ^ 1072 + 365 * 2 ^ 1041 + 2 * thin_limit
tight metre = 2 ^ 1062 + 365 * 2 ^ 1031 + 2 * thin_metre

pub tight_spares : (m : Reach) → tight m + small + 2 ^ 1051 ≤ box_loss m
tight_spares full = leb→le _ _ tt
tight_spares metre = leb→le _ _ tt

module _ (m : Reach) (s : List Float) (S : Vertices (unit_of m) s) (x : Aabb) (X : Placed (unit_of m) x) where
  pub edges_tight : NeverOver (tight m) s x
  edges_tight = at m S X
    where
      at : (m : Reach) → Vertices (unit_of m) s → Placed (unit_of m) x → NeverOver (tight m) s x
      at full S X = box_clear 1041 thin_limit scale_limit s S (2 ^ 1072) ε_limit x X
      at metre S X = box_clear 1031 thin_metre scale_metre s S (2 ^ 1062) ε_metre x X

  module _ (p : T (plain s)) where
    pub solid_tight : NeverOverSolid (tight m + small) s x
    solid_tight = at m S X edges_tight
      where
        at : (m : Reach) → Vertices (unit_of m) s → Placed (unit_of m) x → NeverOver (tight m) s x
            → NeverOverSolid (tight m + small) s x
        at full S X N = solid_within 1041 1117 enough_limit s S p x (placed_up 1041 1042 (leb→le _ _ tt) x X) _ N
        at metre S X N = solid_within 1031 1097 enough_metre s S p x (placed_up 1031 1032 (leb→le _ _ tt) x X) _ N

    pub solid_reach : NeverOverSolid (box_loss m) s x
    solid_reach = wider (tight m + small) (box_loss m) s x (less (tight m + small) (2 ^ 1051) (box_loss m) (tight_spares m))
        solid_tight
      where
        less : (a b c : ℕ) → a + b ≤ c → a ≤ c
        less a b c h = omega arith

-- ---- the boxes of a walk
pub walk_solid_limit : (s : List Float) → Vertices 1041 s → T (plain s) → (x : Aabb) → BoxWithin 1041 x
    → NeverOverSolid (9 * 2 ^ 1071) s x
walk_solid_limit s S p x X = wider _ _ s x (leb→le _ _ tt)
    (solid_within 1042 1119 enough_limit_walk s (raised_vertices 1041 1042 (leb→le _ _ tt) s S) p x (placed_limit x X) _
    (box_clear 1043 thin_limit_walk scale_limit_walk s (raised_vertices 1041 1043 (leb→le _ _ tt) s S) (2 ^ 1074) ε_limit_walk x
    (placed_limit x X)))

pub walk_solid_metre : (s : List Float) → Vertices 1031 s → T (plain s) → (x : Aabb) → BoxWithin 1031 x
    → NeverOverSolid (9 * 2 ^ 1061) s x
walk_solid_metre s S p x X = wider _ _ s x (leb→le _ _ tt)
    (solid_within 1032 1099 enough_metre_walk s (raised_vertices 1031 1032 (leb→le _ _ tt) s S) p x (placed_metre x X) _
    (box_clear 1033 thin_metre_walk scale_metre_walk s (raised_vertices 1031 1033 (leb→le _ _ tt) s S) (2 ^ 1064) ε_metre_walk x
    (placed_metre x X)))

-- WHAT THE WALK ASKS OF BOX DISTANCE IS SO, of the solid
pub box_true_solid : (m : Reach) (s : List Float) → Vertices (unit_of m) s → T (plain s)
    → BoxTrue (walk_box_loss m) (unit_of m) s (InSolid s)
box_true_solid full s S p = record { never_over = λ x X. (walk_solid_limit s S p x X).proof }
box_true_solid metre s S p = record { never_over = λ x X. (walk_solid_metre s S p x X).proof }
