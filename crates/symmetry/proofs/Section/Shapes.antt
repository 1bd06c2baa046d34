-- Vertices, hits and lists that are like part by part, and what a definition's shape keeps of any relation: one of two by a test,
-- a repeated step, a search.
use Prim.Native.Nat.{suc, zero, ℕ}
use mathlib.Core.Bool.{◌||◌, Bool, cond, false, not, true}
use mathlib.Core.List.{List, [], ◌∷◌}
use mathlib.Core.Path.{ap, refl, subst, ◌∙◌, ◌≡◌}
use lib.Dec.{T}
use lib.Ieee.{Float, nan}
use lib.ListN.{get_or}
use Rattle.section.specs.profile.Vertices.{any, nearer, nearest_of, on, upto}
use Rattle.section.specs.declared.profile.shapes.CollisionHit.{CollisionHit}
use Rattle.section.specs.declared.profile.shapes.Vertex.{Vertex}
use Rattle.section.specs.declared.profile.shapes.Witness.{Witness}
use Rattle.symmetry.specs.Alike.{Like, LikeHit, LikeWitness, same}
use Rattle.symmetry.proofs.Floats.Like.{like_lt}
use Rattle.symmetry.proofs.Floats.Written.{Equal, one}

pub record LikeVertex (v w : Vertex) : Type 0 where
  pub z : Like v.z w.z
  pub r : Like v.r w.r

pub same_vertex : {v : Vertex} → LikeVertex v v
same_vertex = record { z = same; r = same }

-- on one edge
pub on_like : (k : ℕ) {v w : Vertex} → LikeVertex v w → LikeWitness (on k v) (on k w)
on_like k l = record { z = l.z; r = l.r; edge = refl }

pub same_witness : {w : Witness} → LikeWitness w w
same_witness = record { z = same; r = same; edge = refl }

pub same_hit : {h : CollisionHit} → LikeHit h h
same_hit = record { distance = same; witness = same_witness }

-- a point that is given
pub record EqualVertex (v w : Vertex) : Type 0 where
  pub z : Equal v.z w.z
  pub r : Equal v.r w.r

pub same_point_lem : {v : Vertex} → EqualVertex v v
same_point_lem = record { z = one same; r = one same }

pub point_of_lem : {v w : Vertex} → LikeVertex v w → EqualVertex v w
point_of_lem l = record { z = one l.z; r = one l.r }

-- ---- one of two by a test
module _ {A : Type 0} (R : A → A → Type 0) where
  pub branch : (b : Bool) {x x' y y' : A} → (T b → R x x') → (T (not b) → R y y') → R (cond b x y) (cond b x' y')
  branch true p q = p tt
  branch false p q = q tt

  -- by a test that comes out the same
  pub either : {b b' : Bool} {x x' y y' : A} → b ≡ b' → (T b → R x x') → (T (not b) → R y y')
      → R (cond b x y) (cond b' x' y')
  either {b} {b'} {x} {x'} {y} {y'} e p q = subst (λ (t : Bool). R (cond b x y) (cond t x' y')) e (branch b p q)

  -- ---- a repeated step
  pub upto_like : {f g : ℕ → A → A} {a a' : A} → R a a' → ((k : ℕ) (x x' : A) → R x x' → R (f k x) (g k x')) → (n : ℕ)
      → R (upto f a n) (upto g a' n)
  unfolding upto
  upto_like p h zero = p
  upto_like {f} {g} {a} {a'} p h (suc n) = h n (upto f a n) (upto g a' n) (upto_like p h n)

-- ---- a search
pub any_same : {f g : ℕ → Bool} → ((k : ℕ) → f k ≡ g k) → (n : ℕ) → any f n ≡ any g n
unfolding any
any_same h zero = refl
any_same {f} {g} h (suc n) =
    ap (λ (b : Bool). b || f n) (any_same h n) ∙ ap (λ (b : Bool). any g n || b) (h n)

-- ---- the first strictly smallest
pub nearer_like : {a a' b b' : CollisionHit} → LikeHit a a' → LikeHit b b' → LikeHit (nearer a b) (nearer a' b')
nearer_like A B = either LikeHit (like_lt B.distance A.distance) (λ h. B) (λ h. A)

pub nearest_like : {f g : ℕ → CollisionHit} {a a' : CollisionHit} → LikeHit a a' → ((k : ℕ) → LikeHit (f k) (g k)) → (n : ℕ)
    → LikeHit (nearest_of f a n) (nearest_of g a' n)
nearest_like A F n = upto_like LikeHit A (λ k x x' X. nearer_like X (F k)) n

-- ---- lists
pub data EqualList : List Float → List Float → Type 0 where
  nil : EqualList [] []
  cons : {x y : Float} {xs ys : List Float} → Equal x y → EqualList xs ys → EqualList (x ∷ xs) (y ∷ ys)

pub list_at : {l k : List Float} → EqualList l k → (i : ℕ) → Equal (get_or l i nan) (get_or k i nan)
list_at nil i = one same
list_at (cons l h) zero = l
list_at (cons l h) (suc i) = list_at h i
