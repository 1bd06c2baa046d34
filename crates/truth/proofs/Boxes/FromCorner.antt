-- A POINT THAT IS MOVED loses no more than its way: what an edge keeps of a corner of the box it keeps of every point of the box,
-- less the box's two lengths.
use Prim.Native.Nat.{◌*◌, ◌+◌, ◌-◌, ◌<◌, ℕ, ◌≤◌}
use mathlib.Core.Logic.{inl, inr, ◌⊎◌}
use mathlib.Core.Path.{◌≡◌}
use native.Mathlib.Nat.{le_of_eq, le_of_lt, le_trans, mul-le-mul, mul-le-mul_left, mul-le-mul_right}
use native.Mathlib.Omega.{arith}
use Rattle.arith.proofs.roots.Numbers.{decide}
use Rattle.arith.proofs.Laws.Sizes.{K}
use Rattle.section.specs.declared.profile.shapes.Aabb.{Aabb}
use Rattle.section.specs.declared.profile.shapes.Edge.{Edge}
use Rattle.arith.specs.Whole.{apart}
use Rattle.truth.specs.Exact.{sqd}
use Rattle.arith.proofs.Laws.OperationErrors.{apart_most, apart_over, apart_under}
use Rattle.truth.proofs.Boxes.EdgeBox.{BoxFar, far_turned}
use Rattle.truth.proofs.Boxes.Outline.{Far, OnEdge}

-- ---- a point moved by h
-- a leg that is longer by c makes the hypotenuse longer by no more
pub leg_longer : (x a b c : ℕ) → x * x ≤ (a + c) * (a + c) + b * b → (x - c) * (x - c) ≤ a * a + b * b
leg_longer x a b c h = elim (decide (x - c) a) [
  | inl l ↦ le_trans (mul-le-mul l l) (more (a * a) (b * b))
  | inr l ↦ go (x - c) (longer l) l
]
  where
    more : (y z : ℕ) → y ≤ y + z
    more y z = omega arith

    longer : a < x - c → x ≡ x - c + c
    longer l = omega arith

    go : (y : ℕ) → x ≡ y + c → a < y → y * y ≤ a * a + b * b
    go y e l = omega (arith, rw e at h, mul-le-mul_right c (le_of_lt l))

pub far_moved : (v h n E F m z z' r : ℕ) → apart z' z ≤ m * h → Far v n E F m z' r → Far (v - h) n E F m z r
unfolding sqd
far_moved v h n E F m z z' r l f =
    le_trans (square (n * m * (v - h)) (n * m * v - n * m * h) (under (n * m) v h))
    (leg_longer (n * m * v) (apart (m * E) (n * z)) (apart (m * F) (n * r)) (n * m * h)
    (le_trans f (add (apart (m * F) (n * r) * apart (m * F) (n * r))
    (square (apart (m * E) (n * z')) (apart (m * E) (n * z) + n * m * h) longer))))
  where
    square : (x y : ℕ) → x ≤ y → x * x ≤ y * y
    square x y h = mul-le-mul h h

    add : (y : ℕ) {x w : ℕ} → x ≤ w → x + y ≤ w + y
    add y h = omega arith

    under : (k v h : ℕ) → k * (v - h) ≤ k * v - k * h
    under k v h = elim (decide h v) [
      | inl l ↦ go (v - h) (let e : v ≡ v - h + h = omega arith in e)
      | inr l ↦ let e : v - h ≡ 0 = omega arith in rw e (let o : k * 0 ≤ k * v - k * h = omega arith in o)
    ]
      where
        go : (d : ℕ) → v ≡ d + h → k * d ≤ k * v - k * h
        go d e = rw e (let q : k * (d + h) ≡ k * d + k * h = omega arith in rw q (omega arith))

    longer : apart (m * E) (n * z') ≤ apart (m * E) (n * z) + n * m * h
    longer = apart_most (m * E) (n * z') _ (over (apart (m * E) (n * z)) (apart_over (m * E) (n * z))
        (le_trans (apart_under z' z) (sum z' l)))
        (over' (apart (m * E) (n * z)) (apart_under (m * E) (n * z)) (le_trans (apart_over z' z) (sum z l)))
      where
        sum : (y : ℕ) {x w : ℕ} → x ≤ w → y + x ≤ y + w
        sum y h = omega arith

        over : (g : ℕ) → m * E ≤ n * z + g → z ≤ z' + m * h → m * E ≤ n * z' + (g + n * m * h)
        over g a b = omega (arith, mul-le-mul_left n b)

        over' : (g : ℕ) → n * z ≤ m * E + g → z' ≤ z + m * h → n * z' ≤ m * E + (g + n * m * h)
        over' g a b = omega (arith, mul-le-mul_left n b)

pub far_moved_r : (v h n E F m z r r' : ℕ) → apart r' r ≤ m * h → Far v n E F m z r' → Far (v - h) n E F m z r
far_moved_r v h n E F m z r r' l f = far_turned _ n F E m r z (far_moved v h n F E m r r' z l (far_turned v n E F m z r' f))

-- between two bounds
pub within_length : (m q q' x g : ℕ) → m * q ≤ x → x ≤ m * q' → (g ≡ q) ⊎ (g ≡ q') → apart (m * g) x ≤ m * apart q' q
within_length m q q' x g a b e = apart_most (m * g) x _ (first e) (second e)
  where
    long : m * q' ≤ m * q + m * apart q' q
    long = le_trans (mul-le-mul_left m (apart_over q' q)) (le_of_eq (sums m q (apart q' q)))
      where
        sums : (m x y : ℕ) → m * (x + y) ≡ m * x + m * y
        sums m x y = omega arith

    first : (g ≡ q) ⊎ (g ≡ q') → m * g ≤ x + m * apart q' q
    first (inl e) = rw e (go (m * q) (m * apart q' q) a)
      where
        go : (y h : ℕ) → y ≤ x → y ≤ x + h
        go y h l = omega arith
    first (inr e) = rw e (go (m * q) (m * q') (m * apart q' q) long a)
      where
        go : (y y' h : ℕ) → y' ≤ y + h → y ≤ x → y' ≤ x + h
        go y y' h k l = omega arith

    second : (g ≡ q) ⊎ (g ≡ q') → x ≤ m * g + m * apart q' q
    second (inl e) = rw e (le_trans b long)
    second (inr e) = rw e (go (m * q') (m * apart q' q) b)
      where
        go : (y h : ℕ) → x ≤ y → x ≤ y + h
        go y h l = omega arith

module _ (edge : Edge) (x : Aabb) where
  abbrev hz : ℕ
  hz = apart (K x.z1) (K x.z0)

  abbrev hr : ℕ
  hr = apart (K x.r1) (K x.r0)

  abbrev Point : ℕ → ℕ → ℕ → Type 0
  Point = OnEdge (K edge.a.z) (K edge.b.z) (K edge.a.r) (K edge.b.r)

  pub from_corner_of : (v gz gr : ℕ) → (gz ≡ K x.z0) ⊎ (gz ≡ K x.z1) → (gr ≡ K x.r0) ⊎ (gr ≡ K x.r1)
      → ((n E F m : ℕ) → Point n E F → Far v n E F m (m * gz) (m * gr)) → BoxFar (v - hz - hr) edge x
  from_corner_of v gz gr a b f = record {
    proof = λ n E F p m z r z0 z1 r0 r1. far_moved_r (v - hz) hr n E F m z r (m * gr) (within_length m _ _ r gr r0 r1 b)
        (far_moved v hz n E F m z (m * gz) (m * gr) (within_length m _ _ z gz z0 z1 a) (f n E F m p));
  }
