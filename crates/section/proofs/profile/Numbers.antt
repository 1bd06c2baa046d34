-- The first strictly smallest of distances that f64 holds is a number where the search starts with one: a NaN is never strictly
-- smaller. It is no farther than what it is the nearer of.
use Prim.Native.Nat.{ℕ, ◌≤◌}
use native.Mathlib.Nat.{le_of_lt, le_refl}
use mathlib.Core.Bool.{false}
use lib.Dec.{T}
use lib.Ieee.{binary64, fits}
use Rattle.arith.proofs.roots.Rounding.KeyOrder.{lt→key, nlt→key}
use Rattle.arith.specs.F64.{◌≺◌, ∞}
use Rattle.arith.proofs.Laws.Hypot.{inf_number}
use Rattle.arith.proofs.Laws.OrderHeld.{T→true, below_number}
use Rattle.arith.proofs.Laws.Sizes.{K, Number}
use Rattle.section.specs.profile.Vertices.{nearer, nearest_of}
use Rattle.section.specs.declared.profile.shapes.CollisionHit.{CollisionHit}
use Rattle.section.proofs.profile.Steps.{pick, upto_keeps}

abbrev pub NumberHit : CollisionHit → Type 0
NumberHit h = Number h.distance

abbrev pub Held : CollisionHit → Type 0
Held h = T (fits binary64 h.distance)

pub infinite : Number ∞
infinite = inf_number binary64 false

pub nearer_number : (a b : CollisionHit) → NumberHit a → Held b → NumberHit (nearer a b)
nearer_number a b p q =
    pick NumberHit (b.distance ≺ a.distance) (λ h. below_number binary64 b.distance a.distance q (T→true _ h)) (λ h. p)

-- the nearer of two is no farther than each
pub nearer_low : (a b : CollisionHit) → NumberHit a → NumberHit b
    → (K (nearer a b).distance ≤ K a.distance) × (K (nearer a b).distance ≤ K b.distance)
nearer_low a b p q =
    pick (λ (h : CollisionHit). (K h.distance ≤ K a.distance) × (K h.distance ≤ K b.distance))
    (b.distance ≺ a.distance) (λ h. (le_of_lt (lt→key binary64 b.distance a.distance q p h), le_refl _))
    (λ h. (le_refl _, nlt→key binary64 b.distance a.distance q p h))

pub nearest_number : (f : ℕ → CollisionHit) (a : CollisionHit) (n : ℕ) → NumberHit a → ((k : ℕ) → Held (f k))
    → NumberHit (nearest_of f a n)
nearest_number f a n p h =
    upto_keeps NumberHit (λ k best. nearer best (f k)) a n p (λ k l x q. nearer_number x (f k) q (h k))
