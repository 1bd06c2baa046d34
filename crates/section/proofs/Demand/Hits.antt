-- Bounds of vertices, lists of coordinates and hits; a hit's edge is one of the section's. The first strictly smallest of several
-- hits keeps them.
use Prim.Native.Nat.{ℕ, zero, suc, ◌+◌, ◌*◌, ◌<◌, ◌≤◌}
use mathlib.Core.Bool.{Bool, true, false, not, cond}
use mathlib.Core.List.{List}
use mathlib.Core.Path.{◌≡◌}
use native.Mathlib.Omega.{arith}
use lib.Arith.{lt_of_le-ne}
use lib.Dec.{T, T_not, eqb, leb, leb→le, lit≤}
use lib.Ieee.{Float, is_nan, nan}
use lib.Ieee.Fits.{eq→eqb}
use lib.ListN.{get_or, length}
use Rattle.arith.specs.F64.{◌≺◌, ◌≼◌, ∞}
use Rattle.arith.specs.Num.{min}
use Rattle.arith.proofs.Laws.OrderHeld.{none_above_inf}
use Rattle.arith.proofs.Laws.Extended.{below_infinity, finite_not_nan, infinity_not_le}
use Rattle.arith.proofs.Laws.Sizes.{Finite, finite_ends, finite_raise}
use Rattle.section.proofs.profile.Steps.{pick, upto_keeps, upto_makes}
use Rattle.section.specs.boxes.Boxes.{corners}
use Rattle.section.specs.Demand.{AtMost}
use Rattle.section.specs.profile.Vertices.{count, edge_at, end_at, nearer, nearest_of, next, on, vertex_at}
use Rattle.section.specs.declared.profile.shapes.Aabb.{Aabb}
use Rattle.section.specs.declared.profile.shapes.CollisionHit.{CollisionHit}
use Rattle.section.specs.declared.profile.shapes.Edge.{Edge}
use Rattle.section.specs.declared.profile.shapes.Vertex.{Vertex}
use Rattle.section.specs.declared.profile.shapes.Witness.{Witness}
use Rattle.section.proofs.Demand.AtMost.{at_most_raise}

pub record VertexAtMost (n : ℕ) (v : Vertex) : Type 0 where
  pub z : AtMost n v.z
  pub r : AtMost n v.r

pub vertex_raise : {i j : ℕ} {v : Vertex} → VertexAtMost i v → T (leb i j) → VertexAtMost j v
vertex_raise h t = record { z = at_most_raise h.z t; r = at_most_raise h.r t }

pub next_below : (n k : ℕ) → k < n → next n k < n
next_below n k l = go (eqb (k + 1) n) eq→eqb
  where
    go : (b : Bool) → (k + 1 ≡ n → T b) → cond b 0 (k + 1) < n
    go true f = omega arith
    go false f = lt_of_le-ne (omega arith) f

-- an edge, and it is one of m
pub record EdgeAtMost (n m : ℕ) (e : Edge) : Type 0 where
  pub a : VertexAtMost n e.a
  pub b : VertexAtMost n e.b
  pub number : e.number < m

-- ---- lists of coordinates: 1 to 256 vertices, and every coordinate at most 2 ^ n
pub record VerticesAtMost (n : ℕ) (s : List Float) : Type 0 where
  pub some : 0 < count s
  pub few : count s ≤ 256
  pub each : (k : ℕ) → k < length s → AtMost n (get_or s k nan)

module _ {n : ℕ} {s : List Float} (S : VerticesAtMost n s) where
  pub vertex_at_at_most : (k : ℕ) → k < count s → VertexAtMost n (vertex_at s k)
  vertex_at_at_most k l = record { z = S.each (k * 2) (omega arith); r = S.each (k * 2 + 1) (omega arith) }

  pub end_at_at_most : (k : ℕ) → k < count s → VertexAtMost n (end_at s k)
  end_at_at_most k l = vertex_at_at_most (next (count s) k) (next_below (count s) k l)

  pub edge_at_at_most : (k : ℕ) → k < count s → EdgeAtMost n (count s) (edge_at s k)
  edge_at_at_most k l = record { a = vertex_at_at_most k l; b = end_at_at_most k l; number = l }

-- ---- boxes, and their corners as a list
pub record BoxAtMost (n : ℕ) (x : Aabb) : Type 0 where
  pub z0 : AtMost n x.z0
  pub z1 : AtMost n x.z1
  pub r0 : AtMost n x.r0
  pub r1 : AtMost n x.r1

pub corners_at_most : {n : ℕ} {x : Aabb} → BoxAtMost n x → VerticesAtMost n (corners x)
corners_at_most {n} {x} X = record { some = leb→le 1 4 tt; few = lit≤ tt; each = go }
  where
    go : (k : ℕ) → k < 8 → AtMost n (get_or (corners x) k nan)
    go zero l = X.z0
    go (suc zero) l = X.r0
    go (suc (suc zero)) l = X.z1
    go (suc (suc (suc zero))) l = X.r0
    go (suc (suc (suc (suc zero)))) l = X.z1
    go (suc (suc (suc (suc (suc zero))))) l = X.r1
    go (suc (suc (suc (suc (suc (suc zero)))))) l = X.z0
    go (suc (suc (suc (suc (suc (suc (suc zero))))))) l = X.r1
    go (suc (suc (suc (suc (suc (suc (suc (suc k)))))))) l = let c : ⊥ = omega arith in absurd c

-- ---- witnesses: at most 2 ^ 25, on one of m edges
pub record WitnessAtMost (m : ℕ) (w : Witness) : Type 0 where
  pub z : AtMost 25 w.z
  pub r : AtMost 25 w.r
  pub edge : w.edge < m

pub on_at_most : {m k : ℕ} {v : Vertex} → k < m → VertexAtMost 25 v → WitnessAtMost m (on k v)
on_at_most l A = record { z = A.z; r = A.r; edge = l }

pub vertex_witness : {n : ℕ} {s : List Float} → VerticesAtMost n s → T (leb n 25) → (k : ℕ) → k < count s
    → WitnessAtMost (count s) (on k (vertex_at s k))
vertex_witness S t k l = on_at_most l (vertex_raise (vertex_at_at_most S k l) t)

-- ---- hits: the distance is a finite f64 of at most 2 ^ n, the witness on one of m edges
pub record HitAtMost (n m : ℕ) (h : CollisionHit) : Type 0 where
  pub distance : Finite n h.distance
  pub witness : WitnessAtMost m h.witness

-- the best so far: such a hit, or infinity as long as there is none
pub data BestAtMost (n m : ℕ) (h : CollisionHit) : Type 0 where
  found : HitAtMost n m h → BestAtMost n m h
  none_yet : h.distance ≡ ∞ → WitnessAtMost m h.witness → BestAtMost n m h

pub hit_raise : {i j m : ℕ} {h : CollisionHit} → HitAtMost i m h → T (leb i j) → HitAtMost j m h
hit_raise H t = record { distance = finite_raise H.distance t; witness = H.witness }

pub best_raise : {i j m : ℕ} {h : CollisionHit} → BestAtMost i m h → T (leb i j) → BestAtMost j m h
best_raise (found H) t = found (hit_raise H t)
best_raise (none_yet e w) t = none_yet e w

pub best_number : {n m : ℕ} {h : CollisionHit} → BestAtMost n m h → T (not (is_nan h.distance))
unfolding is_nan
best_number (found H) = finite_not_nan _ (finite_ends H.distance)
best_number (none_yet e w) = rw e tt

pub best_witness : {n m : ℕ} {h : CollisionHit} → BestAtMost n m h → WitnessAtMost m h.witness
best_witness (found H) = H.witness
best_witness (none_yet e w) = w

module _ {n m : ℕ} {a b : CollisionHit} where
  pub nearer_new : BestAtMost n m a → HitAtMost n m b → HitAtMost n m (nearer a b)
  nearer_new (found A) C = pick (HitAtMost n m) (b.distance ≺ a.distance) (λ h. C) (λ h. A)
  nearer_new (none_yet e A) C =
      pick (HitAtMost n m) (b.distance ≺ a.distance) (λ h. C) (λ h. absurd (T_not (b.distance ≺ a.distance) h less))
    where
      less : T (b.distance ≺ a.distance)
      less = rw e (below_infinity _ (finite_ends C.distance))

  nearer_old : HitAtMost n m a → BestAtMost n m b → HitAtMost n m (nearer a b)
  nearer_old A (found C) = pick (HitAtMost n m) (b.distance ≺ a.distance) (λ h. C) (λ h. A)
  nearer_old A (none_yet e C) =
      pick (HitAtMost n m) (b.distance ≺ a.distance)
      (λ h. absurd (none_above_inf a.distance (rw e at h))) (λ h. A)

  pub nearer_best : BestAtMost n m a → BestAtMost n m b → BestAtMost n m (nearer a b)
  nearer_best A C = pick (BestAtMost n m) (b.distance ≺ a.distance) (λ h. C) (λ h. A)

-- of one hit or more
pub nearest_hit : {n m : ℕ} (f : ℕ → CollisionHit) (a : CollisionHit) (j : ℕ) → 0 < j
    → ((k : ℕ) → k < j → HitAtMost n m (f k)) → BestAtMost n m a → HitAtMost n m (nearest_of f a j)
nearest_hit {n} {m} f a j l F A =
    upto_makes (BestAtMost n m) (HitAtMost n m) (λ b B. found B) (λ k best. nearer best (f k)) a j l A
    (λ k w b B. nearer_new B (F k w))

-- beside a hit
pub nearest_beside : {n m : ℕ} (f : ℕ → CollisionHit) (a : CollisionHit) (j : ℕ)
    → ((k : ℕ) → k < j → BestAtMost n m (f k)) → HitAtMost n m a → HitAtMost n m (nearest_of f a j)
nearest_beside {n} {m} f a j F A =
    upto_keeps (HitAtMost n m) (λ k best. nearer best (f k)) a j A (λ k w b B. nearer_old B (F k w))

-- ---- the least distance so far: infinity as long as there is none
pub data LeastAtMost (n : ℕ) (x : Float) : Type 0 where
  some_distance : Finite n x → LeastAtMost n x
  no_distance : x ≡ ∞ → LeastAtMost n x

pub min_new : {n : ℕ} {x y : Float} → LeastAtMost n x → Finite n y → Finite n (min x y)
min_new {n} {x} {y} (some_distance X) Y = pick (Finite n) (x ≼ y) (λ h. X) (λ h. Y)
min_new {n} {x} {y} (no_distance e) Y =
    pick (Finite n) (x ≼ y) (λ h. absurd (infinity_not_le _ (finite_ends Y) (rw e at h))) (λ h. Y)
