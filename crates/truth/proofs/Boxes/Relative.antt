-- DOT PRODUCTS WITH THE EDGE'S DIRECTION, each error a share of the edge's extents: D and d are its sizes in the two coordinates.
use Prim.Native.Nat.{◌*◌, ◌+◌, ◌<◌, ℕ, ◌≤◌}
use native.Mathlib.Nat.{le_trans, mul-le-mul_left, mul-le-mul_right}
use native.Mathlib.Omega.{arith}
use Rattle.arith.proofs.Laws.RoundingError.{Close}
use Rattle.truth.proofs.Boxes.Signed.{Difference, Near, near_add, near_mul, near_size, near_sub, Product, reduce}
use Rattle.truth.proofs.Boxes.Signed.{sized_product, Sum, wider}

module _ (M U u K : ℕ) (digits : 1024 ≤ K) where
  k⁺ : 0 < 2 * K
  k⁺ = omega arith

  many : (c x : ℕ) → c ≤ 1024 → c * x ≤ K * x
  many c x l = mul-le-mul_right x (le_trans l digits)

  -- the edge's extent in one coordinate, as rounded
  pub record Span (k P N D : ℕ) : Type 0 where
    pub near : Near M (2 * K) k (2 * K * P) (2 * K * N) D
    pub exact : Close P N D

  -- what it is multiplied by
  pub record Reach (k P N : ℕ) : Type 0 where
    pub near : Near M 1 k P N u
    pub exact : Close P N (4 * K * u)

  module _ (kd P N D kr R S : ℕ) (d : Span kd P N D) (r : Reach kr R S) where
    span_size : Close (kd * (2 * K)) (M * (2 * K)) (3 * K * D)
    span_size = wider _ _ _ _ (let l = many 1 D (let o : 1 ≤ 1024 = omega arith in o) in omega arith)
        (near_size M U K k⁺ kd (2 * K) (2 * K * P) (2 * K * N) D (2 * K * D) d.near (double d.exact))
      where
        double : Close P N D → Close (2 * K * P) (2 * K * N) (2 * K * D)
        double c = record {
          over = omega (arith, mul-le-mul_left K c.over);
          under = omega (arith, mul-le-mul_left K c.under);
        }

    reach_size : Close (kr * 1) (M * 1) (5 * K * u)
    reach_size = wider _ _ _ _ (let l = many 1 u (let o : 1 ≤ 1024 = omega arith in o) in omega arith)
        (near_size M U K k⁺ kr 1 R S u (4 * K * u) r.near r.exact)

    product : (kz : ℕ) → Product M U K kz kd kr → Near M U kz (P * R + N * S) (P * S + N * R) (8 * (u * D) + U)
    product kz s = reduce M (2 * K) U kz _ _ _ k⁺
        (shape (near_mul M U K k⁺ kz kd kr (2 * K) 1 (2 * K * P) (2 * K * N) R S D u (3 * K * D) (5 * K * u) (4 * K * u)
        (8 * K * (u * D) + K * U)
        s d.near r.near span_size reach_size r.exact
        (let z : 3 * K * D * (5 * K * u) + K * (U * (2 * K * 1)) ≤ 2 * K * (8 * K * (u * D) + K * U) = omega arith in z)))
      where
        shape : Near M (U * (2 * K * 1)) kz (2 * K * P * R + 2 * K * N * S) (2 * K * P * S + 2 * K * N * R)
            (3 * K * D * u + 4 * K * u * D + (8 * K * (u * D) + K * U))
            → Near M (2 * K * U) kz (2 * K * (P * R + N * S)) (2 * K * (P * S + N * R)) (2 * K * (8 * (u * D) + U))
        shape x = record { over = omega (arith, x.over); under = omega (arith, x.under) }

    exact : Close (P * R + N * S) (P * S + N * R) (4 * K * (u * D))
    exact = wider _ _ _ _ (let z : D * (4 * K * u) ≤ 4 * K * (u * D) = omega arith in z)
        (sized_product P N R S D (4 * K * u) d.exact r.exact)

    size : (kz : ℕ) → Product M U K kz kd kr → Close (kz * U) (M * U) (5 * K * (u * D) + U)
    size kz s = wider _ _ _ _ (let l = many 8 (u * D) (let o : 8 ≤ 1024 = omega arith in o) in omega arith)
        (near_size M U K k⁺ kz U _ _ (8 * (u * D) + U) (4 * K * (u * D)) (product kz s) exact)

  -- a dot product, E the sum of the extents times u
  pub record Dotted (k P N E : ℕ) : Type 0 where
    pub near : Near M U k P N (11 * E + 3 * U)
    pub exact : Close P N (4 * K * E)

  module _ (kd P N D kr R S : ℕ) (d : Span kd P N D) (r : Reach kr R S) (kd' P' N' D' kr' R' S' : ℕ) (d' : Span kd' P' N' D')
      (r' : Reach kr' R' S') where
    pub dotted : (k k₁ k₂ : ℕ) → Product M U K k₁ kd kr → Product M U K k₂ kd' kr' → Sum M U K k k₁ k₂
        → Dotted k (P * R + N * S + (P' * R' + N' * S')) (P * S + N * R + (P' * S' + N' * R')) (u * D + u * D')
    dotted k k₁ k₂ p q s = record {
      near = wider _ _ _ _ (let z : 8 * (u * D) + U + (8 * (u * D') + U) + (3 * (u * D) + 3 * (u * D') + U)
          ≤ 11 * (u * D + u * D') + 3 * U = omega arith in z)
          (near_add M U K k⁺ k k₁ k₂ U _ _ _ _ (8 * (u * D) + U) (8 * (u * D') + U) (5 * K * (u * D) + U) (5 * K * (u * D') + U)
          (3 * (u * D) + 3 * (u * D') + U) s
          (product kd P N D kr R S d r k₁ p) (product kd' P' N' D' kr' R' S' d' r' k₂ q) (size kd P N D kr R S d r k₁ p)
          (size kd' P' N' D' kr' R' S' d' r' k₂ q)
          (room (u * D) (u * D') (many 2 U (let o : 2 ≤ 1024 = omega arith in o))));
      exact = both _ _ _ _ (exact kd P N D kr R S d r) (exact kd' P' N' D' kr' R' S' d' r');
    }
      where
        room : (v w : ℕ) → 2 * U ≤ K * U → 5 * K * v + U + (5 * K * w + U) ≤ 2 * K * (3 * v + 3 * w + U)
        room v w l = omega arith

        both : (a b c e : ℕ) → Close a b (4 * K * (u * D)) → Close c e (4 * K * (u * D'))
            → Close (a + c) (b + e) (4 * K * (u * D + u * D'))
        both a b c e f g = record { over = omega (arith, f.over, g.over); under = omega (arith, f.under, g.under) }

  -- the difference of two
  pub dotted_less : (k kx ky P N R S E : ℕ) → Dotted kx P N E → Dotted ky R S E → Difference M U K k kx ky
      → Near M U k (P + S) (N + R) (27 * E + 7 * U)
  dotted_less k kx ky P N R S E x y s = wider _ _ _ _
      (let z : 11 * E + 3 * U + (11 * E + 3 * U) + (5 * E + U) ≤ 27 * E + 7 * U = omega arith in z)
      (near_sub M U K k⁺ k kx ky U P N R S (11 * E + 3 * U) (11 * E + 3 * U) (5 * K * E + 3 * U) (5 * K * E + 3 * U) (5 * E + U) s
      x.near y.near (sizes kx P N x) (sizes ky R S y)
      (room (many 6 U (let o : 6 ≤ 1024 = omega arith in o))))
    where
      room : 6 * U ≤ K * U → 5 * K * E + 3 * U + (5 * K * E + 3 * U) ≤ 2 * K * (5 * E + U)
      room l = omega arith

      sizes : (k P N : ℕ) → Dotted k P N E → Close (k * U) (M * U) (5 * K * E + 3 * U)
      sizes k P N x = wider _ _ _ _ (let l = many 11 E (let o : 11 ≤ 1024 = omega arith in o) in omega arith)
          (near_size M U K k⁺ k U P N (11 * E + 3 * U) (4 * K * E) x.near x.exact)
