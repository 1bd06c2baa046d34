-- FROM THE FOUR SIDES, EVERY POINT OF THE BOX, in whole numbers: a point of the edge outside the box lies as near to a point of a
-- side; one inside it is joined to an end that is outside by a part of the edge that meets a side, and the side's distance there
-- is 0. An edge with both ends inside is left to the clip.
use Prim.Native.Nat.{◌*◌, ◌+◌, ◌-◌, ◌<◌, zero-le, ℕ, ◌≤◌}
use mathlib.Core.Logic.{inl, inr, ◌⊎◌}
use mathlib.Core.Path.{◌≡◌, ap, subst, sym}
use native.Mathlib.Nat.{le_of_eq, le_of_lt, le_trans, mul-le-mul_left, mul-pos}
use native.Mathlib.Omega.{arith}
use Rattle.arith.proofs.roots.Numbers.{decide}
use Rattle.truth.specs.Exact.{sqd}
use Rattle.truth.proofs.Points.Foot.{sqd_farther, sqd_farther_down}
use Rattle.truth.proofs.Boxes.Beside.{same_zero}

-- E / n and F / n are the coordinates of a point of the edge, which runs from A to B in the first and from a to b in the second
pub record OnEdge (A B a b n E F : ℕ) : Type 0 where
  pub i : ℕ
  pub j : ℕ
  pub parts : n ≡ i + j
  pub first : E ≡ j * A + i * B
  pub second : F ≡ j * a + i * b

turned : {A B a b n E F : ℕ} → OnEdge A B a b n E F → OnEdge a b A B n F E
turned x = record { i = x.i; j = x.j; parts = x.parts; first = x.second; second = x.first }

mixed : {A B a b n E F n' E' F' : ℕ} → OnEdge A B a b n E F → OnEdge A B a b n' E' F' → (α β : ℕ)
    → OnEdge A B a b (α * n + β * n') (α * E + β * E') (α * F + β * F')
mixed {A} {B} {a} {b} {n} {E} {F} {n'} {E'} {F'} x y α β = record {
  i = α * x.i + β * y.i;
  j = α * x.j + β * y.j;
  parts = omega (arith, ap (λ z. α * z) x.parts, ap (λ z. β * z) y.parts);
  first = line A B E E' x.first y.first;
  second = line a b F F' x.second y.second;
}
  where
    line : (A B E E' : ℕ) → E ≡ x.j * A + x.i * B → E' ≡ y.j * A + y.i * B
        → α * E + β * E' ≡ (α * x.j + β * y.j) * A + (α * x.i + β * y.i) * B
    line A B E E' h k = omega (arith, ap (λ z. α * z) h, ap (λ z. β * z) k)

-- ---- between two points of the edge, one that lies at L
pub record Crossing (A B a b L n F n' F' : ℕ) : Type 0 where
  pub α : ℕ
  pub β : ℕ
  pub some : 0 < α * n + β * n'
  pub point : OnEdge A B a b (α * n + β * n') ((α * n + β * n') * L) (α * F + β * F')

-- the first point lies off L, the second at L or beyond
crossing : {A B a b n E F n' E' F' : ℕ} (L : ℕ) → OnEdge A B a b n E F → OnEdge A B a b n' E' F' → 0 < n'
    → ((n * L < E) × (E' ≤ n' * L)) ⊎ ((E < n * L) × (n' * L ≤ E')) → Crossing A B a b L n F n' F'
crossing {A} {B} {a} {b} {n} {E} {F} {n'} {E'} {F'} L x y p (inl h) =
    at (n' * L - E') (E - n * L) (positive (n * L) E h.0)
    (level (n' * L - E') (E - n * L) (parts _ _ (le_of_lt h.0)) (parts _ _ h.1))
  where
    positive : (x y : ℕ) → x < y → 0 < y - x
    positive x y h = omega arith

    parts : (x y : ℕ) → x ≤ y → y ≡ x + (y - x)
    parts x y h = omega arith

    level : (α β : ℕ) → E ≡ n * L + β → n' * L ≡ E' + α → α * E + β * E' ≡ (α * n + β * n') * L
    level α β f g = omega (arith, ap (λ z. α * z) f, ap (λ z. β * z) g)

    at : (α β : ℕ) → 0 < β → α * E + β * E' ≡ (α * n + β * n') * L → Crossing A B a b L n F n' F'
    at α β q l = record {
      α = α;
      β = β;
      some = let h = mul-pos q p in omega arith;
      point = subst (λ (z : ℕ). OnEdge A B a b (α * n + β * n') z (α * F + β * F')) l (mixed x y α β);
    }
crossing {A} {B} {a} {b} {n} {E} {F} {n'} {E'} {F'} L x y p (inr h) =
    at (E' - n' * L) (n * L - E) (positive E (n * L) h.0)
    (level (E' - n' * L) (n * L - E) (parts _ _ (le_of_lt h.0)) (parts _ _ h.1))
  where
    positive : (x y : ℕ) → x < y → 0 < y - x
    positive x y h = omega arith

    parts : (x y : ℕ) → x ≤ y → y ≡ x + (y - x)
    parts x y h = omega arith

    level : (α β : ℕ) → n * L ≡ E + β → E' ≡ n' * L + α → α * E + β * E' ≡ (α * n + β * n') * L
    level α β f g = omega (arith, ap (λ z. α * z) f, ap (λ z. β * z) g)

    at : (α β : ℕ) → 0 < β → α * E + β * E' ≡ (α * n + β * n') * L → Crossing A B a b L n F n' F'
    at α β q l = record {
      α = α;
      β = β;
      some = let h = mul-pos q p in omega arith;
      point = subst (λ (z : ℕ). OnEdge A B a b (α * n + β * n') z (α * F + β * F')) l (mixed x y α β);
    }

-- between the bounds stays what lies between two points that do
above : (α β n F n' F' L : ℕ) → n * L ≤ F → n' * L ≤ F' → (α * n + β * n') * L ≤ α * F + β * F'
above α β n F n' F' L h k = omega (arith, mul-le-mul_left α h, mul-le-mul_left β k)

below : (α β n F n' F' L : ℕ) → F ≤ n * L → F' ≤ n' * L → α * F + β * F' ≤ (α * n + β * n') * L
below α β n F n' F' L h k = omega (arith, mul-le-mul_left α h, mul-le-mul_left β k)

-- ---- v units are no more than the distance from the edge's point to the point z / m, r / m
abbrev pub Far : ℕ → ℕ → ℕ → ℕ → ℕ → ℕ → ℕ → Type 0
Far v n E F m z r = n * m * v * (n * m * v) ≤ sqd (m * E) (n * z) + sqd (m * F) (n * r)

-- so it is for the points of the four sides
pub record Around (A B a b Z0 Z1 R0 R1 v : ℕ) : Type 0 where
  pub low_r : (n E F m z : ℕ) → OnEdge A B a b n E F → m * Z0 ≤ z → z ≤ m * Z1 → Far v n E F m z (m * R0)
  pub high_r : (n E F m z : ℕ) → OnEdge A B a b n E F → m * Z0 ≤ z → z ≤ m * Z1 → Far v n E F m z (m * R1)
  pub low_z : (n E F m r : ℕ) → OnEdge A B a b n E F → m * R0 ≤ r → r ≤ m * R1 → Far v n E F m (m * Z0) r
  pub high_z : (n E F m r : ℕ) → OnEdge A B a b n E F → m * R0 ≤ r → r ≤ m * R1 → Far v n E F m (m * Z1) r

-- a point of the edge that lies on a side
touching : (v n E F : ℕ) → 0 < n → Far v n E F n E F → v ≡ 0
touching v n E F p h = elim (decide v 0) [
  | inl l ↦ let e : v ≡ 0 = omega arith in e
  | inr l ↦ absurd (clash (n * n * v) (mul-pos (mul-pos p p) l)
      (le_trans h (le_of_eq (both (same_zero (n * E)) (same_zero (n * F))))))
]
  where
    clash : (x : ℕ) → 0 < x → x * x ≤ 0 → ⊥
    clash x p h = let q = mul-pos p p in omega arith

    both : {x y : ℕ} → x ≡ 0 → y ≡ 0 → x + y ≡ 0
    both e f = omega arith

module _ (A B a b Z0 Z1 R0 R1 v : ℕ) (sides : Around A B a b Z0 Z1 R0 R1 v) where
  abbrev Point : ℕ → ℕ → ℕ → Type 0
  Point = OnEdge A B a b

  -- two points within the box's z, the first strictly within its r, the second not
  through_r : (n E F n' E' F' : ℕ) → Point n E F → Point n' E' F' → 0 < n' → n * Z0 ≤ E → E ≤ n * Z1 → n' * Z0 ≤ E' → E' ≤ n' * Z1
      → n * R0 < F → F < n * R1 → (F' ≤ n' * R0) ⊎ (n' * R1 ≤ F') → v ≡ 0
  through_r n E F n' E' F' x y p a b c d l h (inl o) =
      let k = crossing R0 (turned x) (turned y) p (inl (l, o)) in
      touching v _ _ _ k.some (sides.low_r _ _ _ _ _ (turned k.point) (above k.α k.β n E n' E' Z0 a c)
      (below k.α k.β n E n' E' Z1 b d))
  through_r n E F n' E' F' x y p a b c d l h (inr o) =
      let k = crossing R1 (turned x) (turned y) p (inr (h, o)) in
      touching v _ _ _ k.some (sides.high_r _ _ _ _ _ (turned k.point) (above k.α k.β n E n' E' Z0 a c)
      (below k.α k.β n E n' E' Z1 b d))

  -- a point strictly inside the box
  module _ (n E F : ℕ) (x : Point n E F) (l : n * Z0 < E) (h : E < n * Z1) (l' : n * R0 < F) (h' : F < n * R1) where
    -- a point at Z0 or Z1
    at_z : (N G L : ℕ) → Point N (N * L) G → 0 < N → Z0 ≤ L → L ≤ Z1
        → (N * R0 ≤ G → G ≤ N * R1 → Far v N (N * L) G N (N * L) G) → v ≡ 0
    at_z N G L y p f g side = elim (decide (N * R0) G) [
      | inl k ↦ elim (decide G (N * R1)) [
        | inl o ↦ touching v N (N * L) G p (side k o)
        | inr o ↦ through_r n E F N (N * L) G x y p (le_of_lt l) (le_of_lt h) (mul-le-mul_left N f) (mul-le-mul_left N g) l' h'
            (inr (le_of_lt o))
      ]
      | inr k ↦ through_r n E F N (N * L) G x y p (le_of_lt l) (le_of_lt h) (mul-le-mul_left N f) (mul-le-mul_left N g) l' h'
          (inl (le_of_lt k))
    ]

    ordered : Z0 ≤ Z1
    ordered = elim (decide Z0 Z1) [ inl k ↦ k | inr k ↦ absurd (clash (mul-le-mul_left n (le_of_lt k))) ]
      where
        clash : n * Z1 ≤ n * Z0 → ⊥
        clash k = omega (arith, l, h)

    -- a point beside the box
    through_z : (n' E' F' : ℕ) → Point n' E' F' → 0 < n' → (E' ≤ n' * Z0) ⊎ (n' * Z1 ≤ E') → v ≡ 0
    through_z n' E' F' y p (inl o) =
        let k = crossing Z0 x y p (inl (l, o)) in
        at_z (k.α * n + k.β * n') (k.α * F + k.β * F') Z0 k.point k.some (le_of_eq (same Z0)) ordered
        (λ q r. sides.low_z _ _ _ _ _ k.point q r)
      where
        same : (x : ℕ) → x ≡ x
        same x = omega arith
    through_z n' E' F' y p (inr o) =
        let k = crossing Z1 x y p (inr (h, o)) in
        at_z (k.α * n + k.β * n') (k.α * F + k.β * F') Z1 k.point k.some ordered (le_of_eq (same Z1))
        (λ q r. sides.high_z _ _ _ _ _ k.point q r)
      where
        same : (x : ℕ) → x ≡ x
        same x = omega arith

    abbrev Inside : ℕ → ℕ → Type 0
    Inside E' F' = (Z0 ≤ E') × (E' ≤ Z1) × (R0 ≤ F') × (F' ≤ R1)

    one : (x : ℕ) → 1 * x ≡ x
    one x = omega arith

    -- an end that is not inside
    end_inside : (E' F' : ℕ) → Point 1 E' F' → (v ≡ 0) ⊎ Inside E' F'
    end_inside E' F' y = elim (decide Z0 E') [
      | inr k ↦ inl (through_z 1 E' F' y p (inl (le_trans (le_of_lt k) (le_of_eq (sym (one Z0))))))
      | inl k ↦ elim (decide E' Z1) [
        | inr o ↦ inl (through_z 1 E' F' y p (inr (le_trans (le_of_eq (one Z1)) (le_of_lt o))))
        | inl o ↦ elim (decide R0 F') [
          | inr q ↦ inl (beside k o (inl (le_trans (le_of_lt q) (le_of_eq (sym (one R0))))))
          | inl q ↦ elim (decide F' R1) [
            | inr r ↦ inl (beside k o (inr (le_trans (le_of_eq (one R1)) (le_of_lt r))))
            | inl r ↦ inr (k, o, q, r)
          ]
        ]
      ]
    ]
      where
        p : 0 < 1
        p = omega arith

        beside : Z0 ≤ E' → E' ≤ Z1 → (F' ≤ 1 * R0) ⊎ (1 * R1 ≤ F') → v ≡ 0
        beside k o s = through_r n E F 1 E' F' x y p (le_of_lt l) (le_of_lt h) (le_trans (le_of_eq (one Z0)) k)
            (le_trans o (le_of_eq (sym (one Z1)))) l' h' s

  -- EVERY POINT OF THE BOX, given that an edge with both ends inside has v ≡ 0
  pub every_point : ((Z0 ≤ A) × (A ≤ Z1) × (R0 ≤ a) × (a ≤ R1) → (Z0 ≤ B) × (B ≤ Z1) × (R0 ≤ b) × (b ≤ R1) → v ≡ 0)
      → (n E F : ℕ) → Point n E F → (m z r : ℕ) → m * Z0 ≤ z → z ≤ m * Z1 → m * R0 ≤ r → r ≤ m * R1 → Far v n E F m z r
  every_point held n E F x m z r z0 z1 r0 r1 = elim (decide E (n * Z0)) [
    | inl k ↦ le_trans (sides.low_z n E F m r x r0 r1)
        (add_left _ (sqd_farther (m * E) (n * (m * Z0)) (n * z) (scaled E Z0 k) (mul-le-mul_left n z0)))
    | inr l ↦ elim (decide (n * Z1) E) [
      | inl k ↦ le_trans (sides.high_z n E F m r x r0 r1)
          (add_left _ (sqd_farther_down (m * E) (n * (m * Z1)) (n * z) (scaled_down E Z1 k) (mul-le-mul_left n z1)))
      | inr h ↦ elim (decide F (n * R0)) [
        | inl k ↦ le_trans (sides.low_r n E F m z x z0 z1)
            (add_right _ (sqd_farther (m * F) (n * (m * R0)) (n * r) (scaled F R0 k) (mul-le-mul_left n r0)))
        | inr l' ↦ elim (decide (n * R1) F) [
          | inl k ↦ le_trans (sides.high_r n E F m z x z0 z1)
              (add_right _ (sqd_farther_down (m * F) (n * (m * R1)) (n * r) (scaled_down F R1 k) (mul-le-mul_left n r1)))
          | inr h' ↦ none (inner l h l' h')
        ]
      ]
    ]
  ]
    where
      swap : (m n L : ℕ) → m * (n * L) ≡ n * (m * L)
      swap m n L = omega arith

      scaled : (E L : ℕ) → E ≤ n * L → m * E ≤ n * (m * L)
      scaled E L k = le_trans (mul-le-mul_left m k) (le_of_eq (swap m n L))

      scaled_down : (E L : ℕ) → n * L ≤ E → n * (m * L) ≤ m * E
      scaled_down E L k = le_trans (le_of_eq (swap n m L)) (mul-le-mul_left m k)

      add_left : (y : ℕ) {x w : ℕ} → x ≤ w → x + y ≤ w + y
      add_left y h = omega arith

      add_right : (y : ℕ) {x w : ℕ} → x ≤ w → y + x ≤ y + w
      add_right y h = omega arith

      none : v ≡ 0 → Far v n E F m z r
      none e = le_trans (le_of_eq (gone (n * m) v e)) zero-le
        where
          gone : (k v : ℕ) → v ≡ 0 → k * v * (k * v) ≡ 0
          gone k v e = rw e (omega arith)

      first_end : Point 1 A a
      first_end = record { i = 0; j = 1; parts = omega arith; first = omega arith; second = omega arith }

      last_end : Point 1 B b
      last_end = record { i = 1; j = 0; parts = omega arith; first = omega arith; second = omega arith }

      inner : n * Z0 < E → E < n * Z1 → n * R0 < F → F < n * R1 → v ≡ 0
      inner l h l' h' = elim (end_inside n E F x l h l' h' A a first_end) [
        | inl e ↦ e
        | inr p ↦ elim (end_inside n E F x l h l' h' B b last_end) [ inl e ↦ e | inr q ↦ held p q ]
      ]
