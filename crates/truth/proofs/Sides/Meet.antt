-- WHERE AN EDGE MEETS A SEGMENT, in whole numbers. The segment runs from p to q, r no more than r'; the edge from a to b.
use Prim.Native.Nat.{ℕ, ◌+◌, ◌-◌, ◌*◌, ◌<◌, ◌≤◌}
use mathlib.Core.Logic.{inl, inr}
use mathlib.Core.Path.{◌≡◌, ap}
use native.Mathlib.Nat.{le_antisymm, le_of_lt, le_trans, lt_of_lt_of_le, mul-pos}
use native.Mathlib.Omega.{arith}
use Rattle.arith.proofs.roots.Numbers.{decide}
use Rattle.truth.specs.Solid.{area}

-- the edge from a to b has a point on the segment from p to q: the edge's at i / (i + j) is the segment's at k / (i + j)
pub record Meets (pz pr qz qr az ar bz br : ℕ) : Type 0 where
  pub i : ℕ
  pub j : ℕ
  pub k : ℕ
  pub some : 0 < i + j
  pub most : k ≤ i + j
  pub same_z : j * az + i * bz + k * pz ≡ (i + j) * pz + k * qz
  pub same_r : j * ar + i * br + k * pr ≡ (i + j) * pr + k * qr

-- a lies on one side of the line through p and q, or on it, and b on the other; p lies on one side of the line through a and b,
-- and q on the other
pub record Signs (z r z' r' az ar bz br : ℕ) : Type 0 where
  pub a_side : area z' r' az ar z r ≤ area az ar z' r' z r
  pub b_side : area bz br z' r' z r ≤ area z' r' bz br z r
  pub p_side : area bz br az ar z r ≤ area az ar bz br z r
  pub q_side : area az ar bz br z' r' ≤ area bz br az ar z' r'
  pub some : area z' r' az ar z r + area bz br z' r' z r < area az ar z' r' z r + area z' r' bz br z r

balance : (i j k I I' J J' K K' a b c d : ℕ) → i + I ≡ I' → j + J ≡ J' → k + K ≡ K'
    → J' * a + I' * b + K' * c + I * c + J * c + K * d ≡ J * a + I * b + K * c + I' * c + J' * c + K' * d
    → j * a + i * b + k * c ≡ (i + j) * c + k * d
balance i j k I I' J J' K K' a b c d p q r h =
    omega (
      arith,
      ap (λ t. t * a) q,
      ap (λ t. t * b) p,
      ap (λ t. t * c) r,
      ap (λ t. t * c) p,
      ap (λ t. t * c) q,
      ap (λ t. t * d) r,
    )

module _ (z r z' r' az ar bz br : ℕ) where
  module _ (i j k : ℕ) (I : i + area z' r' az ar z r ≡ area az ar z' r' z r) (J : j + area bz br z' r' z r ≡ area z' r' bz br z r)
      (K : k + area bz br az ar z r ≡ area az ar bz br z r) where
    most_of : area az ar bz br z' r' ≤ area bz br az ar z' r' → k ≤ i + j
    unfolding area
    most_of h = omega arith

    same_z_of : j * az + i * bz + k * z ≡ (i + j) * z + k * z'
    same_z_of = balance i j k _ _ _ _ _ _ az bz z z' I J K identity
      where
        identity : area z' r' bz br z r * az + area az ar z' r' z r * bz + area az ar bz br z r * z + area z' r' az ar z r * z +
            area bz br z' r' z r * z + area bz br az ar z r * z'
            ≡ area bz br z' r' z r * az + area z' r' az ar z r * bz + area bz br az ar z r * z + area az ar z' r' z r * z + area
            z' r' bz br z r * z + area az ar bz br z r * z'
        identity = unfold area in omega arith

    same_r_of : j * ar + i * br + k * r ≡ (i + j) * r + k * r'
    same_r_of = balance i j k _ _ _ _ _ _ ar br r r' I J K identity
      where
        identity : area z' r' bz br z r * ar + area az ar z' r' z r * br + area az ar bz br z r * r + area z' r' az ar z r * r +
            area bz br z' r' z r * r + area bz br az ar z r * r'
            ≡ area bz br z' r' z r * ar + area z' r' az ar z r * br + area bz br az ar z r * r + area az ar z' r' z r * r + area
            z' r' bz br z r * r + area az ar bz br z r * r'
        identity = unfold area in omega arith

  pub meet : Signs z r z' r' az ar bz br → Meets z r z' r' az ar bz br
  meet s =
      let i = area az ar z' r' z r - area z' r' az ar z r in
      let j = area z' r' bz br z r - area bz br z' r' z r in
      let k = area az ar bz br z r - area bz br az ar z r in
      let I : i + area z' r' az ar z r ≡ area az ar z' r' z r = omega (arith, s.a_side) in
      let J : j + area bz br z' r' z r ≡ area z' r' bz br z r = omega (arith, s.b_side) in
      let K : k + area bz br az ar z r ≡ area az ar bz br z r = omega (arith, s.p_side) in
      record {
        i = i;
        j = j;
        k = k;
        some = omega (arith, s.some, s.a_side, s.b_side);
        most = most_of i j k I J K s.q_side;
        same_z = same_z_of i j k I J K;
        same_r = same_r_of i j k I J K;
      }

  pub turned : Meets z r z' r' bz br az ar → Meets z r z' r' az ar bz br
  turned m = record {
    i = m.j;
    j = m.i;
    k = m.k;
    some = omega (arith, m.some);
    most = omega (arith, m.most);
    same_z = omega (arith, m.same_z);
    same_r = omega (arith, m.same_r);
  }

-- ---- products of differences, none negative: (u - v) (a - a')
share : (u v a a' : ℕ) → v ≤ u → a' ≤ a → u * a' + v * a ≤ u * a + v * a'
share u v a a' h k = go (u - v) (a - a') (omega arith) (omega arith)
  where
    go : (d e : ℕ) → u ≡ v + d → a ≡ a' + e → u * a' + v * a ≤ u * a + v * a'
    go d e p q = omega (arith, ap (λ t. t * a') p, ap (λ t. t * a) p, ap (λ t. d * t) q)

share_strict : (u v a a' : ℕ) → v < u → a' < a → u * a' + v * a < u * a + v * a'
share_strict u v a a' h k = go (u - v) (a - a') (omega arith) (omega arith) (mul-pos (omega arith) (omega arith))
  where
    go : (d e : ℕ) → u ≡ v + d → a ≡ a' + e → 0 < d * e → u * a' + v * a < u * a + v * a'
    go d e p q l = omega (arith, ap (λ t. t * a') p, ap (λ t. t * a) p, ap (λ t. d * t) q)

unless : (a b : ℕ) → (b < a → ⊥) → a ≤ b
unless a b h = elim (decide a b) [ inl m ↦ m | inr m ↦ absurd (h m) ]

module _ (z r z' r' az ar bz br : ℕ) where
  -- a and b against the line through p and q, p and q against the line through a and b: each has a first part and a second one
  abbrev A : ℕ
  A = area az ar z' r' z r

  abbrev A' : ℕ
  A' = area z' r' az ar z r

  abbrev B : ℕ
  B = area bz br z' r' z r

  abbrev B' : ℕ
  B' = area z' r' bz br z r

  abbrev P : ℕ
  P = area az ar bz br z r

  abbrev P' : ℕ
  P' = area bz br az ar z r

  abbrev Q : ℕ
  Q = area az ar bz br z' r'

  abbrev Q' : ℕ
  Q' = area bz br az ar z' r'

  -- (r' - r) p = (br - r) a - (ar - r) b
  for_p : r' * P + r * P' + (br * A' + r * A + (ar * B + r * B')) ≡ r' * P' + r * P + (br * A + r * A' + (ar * B' + r * B))
  unfolding area
  for_p = omega arith

  -- (br - ar) a = (r' - ar) p - (r - ar) q
  for_a : br * A + ar * A' + (r' * P' + ar * P + (r * Q + ar * Q')) ≡ br * A' + ar * A + (r' * P + ar * P' + (r * Q' + ar * Q))
  unfolding area
  for_a = omega arith

  -- (br - ar) b = (r' - br) p - (r - br) q
  for_b : br * B + ar * B' + (r' * P' + br * P + (r * Q + br * Q')) ≡ br * B' + ar * B + (r' * P + br * P' + (r * Q' + br * Q))
  unfolding area
  for_b = omega arith

  -- a - b = p - q
  for_all : A + B' + (P' + Q) ≡ A' + B + (P + Q')
  unfolding area
  for_all = omega arith

  -- (r' - r) q = (br - r') a - (ar - r') b
  for_q : r' * Q + r * Q' + (br * A' + r' * A + (ar * B + r' * B')) ≡ r' * Q' + r * Q + (br * A + r' * A' + (ar * B' + r' * B))
  for_q = go A A' B B' P P' Q Q' for_p for_all
    where
      go : (a a' b b' p p' q q' : ℕ)
          → r' * p + r * p' + (br * a' + r * a + (ar * b + r * b')) ≡ r' * p' + r * p + (br * a + r * a' + (ar * b' + r * b))
          → a + b' + (p' + q) ≡ a' + b + (p + q')
          → r' * q + r * q' + (br * a' + r' * a + (ar * b + r' * b')) ≡ r' * q' + r * q + (br * a + r' * a' + (ar * b' + r' * b))
      go a a' b b' p p' q q' h k = omega (arith, ap (λ t. r * t) k, ap (λ t. r' * t) k)

  -- ---- both ends between p and q in height
  pub between : r < ar → ar ≤ r' → r < br → br ≤ r' → A' < A → B ≤ B' → Signs z r z' r' az ar bz br
  between ra ar' rb br' h k =
      let D : r < r' = omega arith in
      record {
        a_side = le_of_lt h;
        b_side = k;
        p_side = unless P' P
            (λ m. omega (
              arith,
              for_p,
              share_strict r' r P' P D m,
              share br r A A' (le_of_lt rb) (le_of_lt h),
              share ar r B' B (le_of_lt ra) k,
            ));
        q_side = unless Q Q'
            (λ m. omega (arith, for_q, share_strict r' r Q Q' D m, share r' br A A' br' (le_of_lt h), share r' ar B' B ar' k));
        some = omega arith;
      }

  -- ---- a not above p, b between
  pub low_between : ar ≤ r → r < br → br ≤ r' → P' < P → B ≤ B' → Signs z r z' r' az ar bz br
  low_between ra rb br' h k =
      let D : r < r' = omega arith in
      let a : A' ≤ A =
      unless A' A
      (λ m. omega
      (arith, for_p, share_strict br r A' A rb m, share r' r P P' (le_of_lt D) (le_of_lt h), share r ar B' B ra k)) in
      let q : Q ≤ Q' =
      unless Q Q'
      (λ m. omega
      (arith, for_q, share_strict r' r Q Q' D m, share r' br A A' br' a, share r' ar B' B (le_trans ra (le_of_lt D)) k)) in
      record { a_side = a; b_side = k; p_side = le_of_lt h; q_side = q; some = omega (arith, for_all) }

  pub low_between' : ar ≤ r → r < br → br ≤ r' → P ≤ P' → B' < B → Signs z r z' r' bz br az ar
  low_between' ra rb br' h k =
      let D : r < r' = omega arith in
      let a : A ≤ A' =
      unless A A'
      (λ m. omega
      (arith, for_p, share_strict br r A A' rb m, share r' r P' P (le_of_lt D) h, share r ar B B' ra (le_of_lt k))) in
      record {
        a_side = le_of_lt k;
        b_side = a;
        p_side = h;
        q_side = unless Q' Q
            (λ m. omega (
              arith,
              for_q,
              share_strict r' r Q' Q D m,
              share r' br A' A br' a,
              share r' ar B B' (le_trans ra (le_of_lt D))
                  (le_of_lt k),
            ));
        some = omega arith;
      }

  -- ---- a not above p, b above q
  pub low_high : ar ≤ r → r ≤ r' → r' < br → P' < P → Q ≤ Q' → Signs z r z' r' az ar bz br
  low_high ra D br' h k =
      let L : ar < br = omega arith in
      record {
        a_side = unless A' A
            (λ m. omega
            (arith, for_a, share_strict br ar A' A L m, share r' ar P P' (le_trans ra D) (le_of_lt h), share r ar Q' Q ra k));
        b_side = unless B B'
            (λ m. omega (
              arith,
              for_b,
              share_strict br ar B B' L m,
              share br r' P P' (le_of_lt br') (le_of_lt h),
              share br r Q' Q (le_trans D (le_of_lt br')) k,
            ));
        p_side = le_of_lt h;
        q_side = k;
        some = omega (arith, for_all);
      }

  pub low_high' : ar ≤ r → r ≤ r' → r' < br → P ≤ P' → Q' < Q → Signs z r z' r' bz br az ar
  low_high' ra D br' h k =
      let L : ar < br = omega arith in
      record {
        a_side = unless B' B
            (λ m. omega (
              arith,
              for_b,
              share_strict br ar B' B L m,
              share br r' P' P (le_of_lt br') h,
              share br r Q Q' (le_trans D (le_of_lt br')) (le_of_lt k),
            ));
        b_side = unless A A'
            (λ m. omega
            (arith, for_a, share_strict br ar A A' L m, share r' ar P' P (le_trans ra D) h, share r ar Q Q' ra (le_of_lt k)));
        p_side = h;
        q_side = le_of_lt k;
        some = omega (arith, for_all);
      }

  -- ---- a between, b above q
  pub between_high : r < ar → ar ≤ r' → r' < br → Q ≤ Q' → A' < A → Signs z r z' r' az ar bz br
  between_high ra ar' br' h k = elim (decide r' ar) [
    | inl l ↦ absurd (level (le_antisymm ar' l))
    | inr l ↦
        let b : B ≤ B' =
        unless B B'
        (λ m. omega (
          arith,
          for_q,
          share_strict r' ar B B' l m,
          share r' r Q' Q (le_trans (le_of_lt ra) ar') h,
          share br r' A A' (le_of_lt br') (le_of_lt k),
        )) in
        record {
          a_side = le_of_lt k;
          b_side = b;
          p_side = unless P' P
              (λ m. omega (
                arith,
                for_p,
                share_strict r' r P' P (lt_of_lt_of_le ra ar') m,
                share br r A A' (le_trans (le_of_lt ra) (le_trans ar' (le_of_lt br'))) (le_of_lt k),
                share ar r B' B (le_of_lt ra) b,
              ));
          q_side = h;
          some = omega arith;
        }
  ]
    where
      level : ar ≡ r' → ⊥
      level e =
          omega (
            arith,
            for_q,
            ap (λ t. t * B) e,
            ap (λ t. t * B') e,
            share r' r Q' Q (le_trans (le_of_lt ra) ar') h,
            share_strict br r' A A' br' k,
          )

  pub between_high' : r < ar → ar ≤ r' → r' < br → Q' < Q → A ≤ A' → Signs z r z' r' bz br az ar
  between_high' ra ar' br' h k = elim (decide r' ar) [
    | inl l ↦ absurd (level (le_antisymm ar' l))
    | inr l ↦
        let b : B' ≤ B =
        unless B' B
        (λ m. omega (
          arith,
          for_q,
          share_strict r' ar B' B l m,
          share r' r Q Q' (le_trans (le_of_lt ra) ar') (le_of_lt h),
          share br r' A' A (le_of_lt br') k,
        )) in
        let p : P ≤ P' =
        unless P P'
        (λ m. omega (
          arith,
          for_p,
          share_strict r' r P P' (lt_of_lt_of_le ra ar') m,
          share br r A' A (le_trans (le_of_lt ra) (le_trans ar' (le_of_lt br'))) k,
          share ar r B B' (le_of_lt ra) b,
        )) in
        record {
          a_side = b;
          b_side = k;
          p_side = p;
          q_side = le_of_lt h;
          some = omega (arith, for_all);
        }
  ]
    where
      level : ar ≡ r' → ⊥
      level e =
          omega (
            arith,
            for_q,
            ap (λ t. t * B) e,
            ap (λ t. t * B') e,
            share_strict r' r Q Q' (lt_of_lt_of_le ra ar') h,
            share br r' A' A (le_of_lt br') k,
          )
