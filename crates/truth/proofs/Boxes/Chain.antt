-- NUMERATOR AND DENOMINATOR of the place s, for a side parallel to an axis, in whole numbers. M is the key of zero, U that of one
-- less M, 2 K u bounds the coordinates, u is half a last place of a number twice as large. h is the side's length: every error of
-- what is multiplied by it is a share of it, however short it is. A value is a difference P - N (Signed).
use Prim.Native.Nat.{◌*◌, ◌+◌, ◌<◌, ℕ, ◌≤◌}
use mathlib.Core.Logic.{inl, inr, ◌⊎◌}
use mathlib.Core.Path.{◌≡◌}
use native.Mathlib.Nat.{le_refl, le_trans, mul-le-mul_left, mul-le-mul_right}
use native.Mathlib.Omega.{arith}
use Rattle.arith.proofs.Laws.RoundingError.{Close}
use Rattle.truth.proofs.Boxes.Signed.{Difference, Near, near_add, near_mul, near_size, near_sub, Product, reduce, refit}
use Rattle.truth.proofs.Boxes.Signed.{sized_product, Sum, wider}

-- what is small beside what
pub record Small (U u K h : ℕ) : Type 0 where
  pub digits : 1024 ≤ K
  pub first : U ≤ u * h
  pub second : 2 * (K * U) ≤ h * h
  pub third : U ≤ K * u * u
  pub last : U * (U * U) ≤ K * u * u * (h * h)

module _ (M U u K h : ℕ) (small : Small U u K h) where
  k⁺ : 0 < 2 * K
  k⁺ = let l = small.digits in omega arith

  -- a difference of coordinates
  pub record Way (k P N : ℕ) : Type 0 where
    pub near : Near M 1 k P N u
    pub exact : Close P N (4 * K * u)

  -- the side's
  pub record Length (k P N : ℕ) : Type 0 where
    pub near : Near M (2 * K) k (2 * K * P) (2 * K * N) h
    pub exact : Close P N h
    pub turn : ((P ≡ h) × (N ≡ 0)) ⊎ ((P ≡ 0) × (N ≡ h))

  many : (c x : ℕ) → c ≤ 1024 → c * x ≤ K * x
  many c x l = mul-le-mul_right x (le_trans l small.digits)

  way_size : (k P N : ℕ) → Way k P N → Close (k * 1) (M * 1) (5 * K * u)
  way_size k P N w = wider _ _ _ _ (let l = many 1 u (let o : 1 ≤ 1024 = omega arith in o) in omega arith)
      (near_size M U K k⁺ k 1 P N u (4 * K * u) w.near w.exact)

  length_size : (k P N : ℕ) → Length k P N → Close (k * (2 * K)) (M * (2 * K)) (3 * K * h)
  length_size k P N w = wider _ _ _ _ (let l = many 1 h (let o : 1 ≤ 1024 = omega arith in o) in omega arith)
      (near_size M U K k⁺ k (2 * K) (2 * K * P) (2 * K * N) h (2 * K * h) w.near (double w.exact))
    where
      double : Close P N h → Close (2 * K * P) (2 * K * N) (2 * K * h)
      double c = record { over = omega (arith, mul-le-mul_left K c.over); under = omega (arith, mul-le-mul_left K c.under) }

  -- nothing
  none : (c : ℕ) → Near M c M 0 0 0
  none c = record { over = omega arith; under = omega arith }

  none_size : (c : ℕ) → Close (M * c) (M * c) 0
  none_size c = record { over = omega arith; under = omega arith }

  -- ---- a way times the length: b and f
  pub record Times (k P N : ℕ) : Type 0 where
    pub near : Near M U k P N (11 * (u * h))
    pub exact : Close P N (4 * K * (u * h))

  times_size : (k P N : ℕ) → Times k P N → Close (k * U) (M * U) (5 * K * (u * h))
  times_size k P N w = wider _ _ _ _ (let l = many 11 (u * h) (let o : 11 ≤ 1024 = omega arith in o) in omega arith)
      (near_size M U K k⁺ k U P N (11 * (u * h)) (4 * K * (u * h)) w.near w.exact)

  module _ (kd P N kh R S : ℕ) (d : Way kd P N) (l : Length kh R S) where
    product_exact : Close (P * R + N * S) (P * S + N * R) (4 * K * (u * h))
    product_exact = go R S l.turn d.exact
      where
        go : (R S : ℕ) → ((R ≡ h) × (S ≡ 0)) ⊎ ((R ≡ 0) × (S ≡ h)) → Close P N (4 * K * u)
            → Close (P * R + N * S) (P * S + N * R) (4 * K * (u * h))
        go R S (inl e) c = rw (e.0, e.1) (record {
          over = omega (arith, mul-le-mul_right h c.over);
          under = omega (arith, mul-le-mul_right h c.under);
        })
        go R S (inr e) c = rw (e.0, e.1) (record {
          over = omega (arith, mul-le-mul_right h c.under);
          under = omega (arith, mul-le-mul_right h c.over);
        })

    product : (kb : ℕ) → Product M U K kb kd kh → Near M U kb (P * R + N * S) (P * S + N * R) (8 * (u * h))
    product kb s = reduce M (2 * K) U kb _ _ _ k⁺
        (shape (near_mul M U K k⁺ kb kd kh 1 (2 * K) P N (2 * K * R) (2 * K * S) u h (5 * K * u) (3 * K * h) (2 * K * h)
        (8 * K * (u * h) + K * U)
        s d.near l.near (way_size kd P N d) (length_size kh R S l) (double l.exact)
        (let z : 5 * K * u * (3 * K * h) + K * (U * (1 * (2 * K))) ≤ 2 * K * (8 * K * (u * h) + K * U) = omega arith in z)))
      where
        double : Close R S h → Close (2 * K * R) (2 * K * S) (2 * K * h)
        double c = record {
          over = omega (arith, mul-le-mul_left K c.over);
          under = omega (arith, mul-le-mul_left K c.under);
        }

        shape : Near M (U * (1 * (2 * K))) kb (P * (2 * K * R) + N * (2 * K * S)) (P * (2 * K * S) + N * (2 * K * R))
            (5 * K * u * h + 2 * K * h * u + (8 * K * (u * h) + K * U))
            → Near M (2 * K * U) kb (2 * K * (P * R + N * S)) (2 * K * (P * S + N * R)) (2 * K * (8 * (u * h)))
        shape x = let f = mul-le-mul_left K small.first in record {
          over = omega (arith, x.over);
          under = omega (arith, x.under);
        }

    -- and the other coordinate's product, which is zero
    pub times : (kb kb0 : ℕ) → Product M U K kb0 kd kh → Sum M U K kb kb0 M → Times kb (P * R + N * S) (P * S + N * R)
    times kb kb0 s t = record {
      near = refit M U kb _ _ _ _ _ _ (let z : P * R + N * S + 0 + (P * S + N * R)
          ≡ P * R + N * S + (P * S + N * R + 0) = omega arith in z)
          (let z : 8 * (u * h) + 0 + 3 * (u * h) ≤ 11 * (u * h) = omega arith in z)
          (near_add M U K k⁺ kb kb0 M U _ _ 0 0 (8 * (u * h)) 0 (5 * K * (u * h)) 0 (3 * (u * h)) t (product kb0 s) (none U) size
          (none_size U)
          (let z : 5 * K * (u * h) + 0 ≤ 2 * K * (3 * (u * h)) = omega arith in z));
      exact = product_exact;
    }
      where
        size : Close (kb0 * U) (M * U) (5 * K * (u * h))
        size = wider _ _ _ _ (let l = many 8 (u * h) (let o : 8 ≤ 1024 = omega arith in o) in omega arith)
            (near_size M U K k⁺ kb0 U _ _ (8 * (u * h)) (4 * K * (u * h)) (product kb0 s) product_exact)

  -- ---- the length's square: e
  pub record Square (k : ℕ) : Type 0 where
    pub near : Near M (K * U) k (K * (h * h)) 0 (4 * (h * h))

  square_exact : Close (K * (h * h)) 0 (K * (h * h))
  square_exact = record { over = omega arith; under = omega arith }

  square_size : (k : ℕ) → Square k → Close (k * (K * U)) (M * (K * U)) (2 * K * (h * h))
  square_size k w = wider _ _ _ _ (let l = many 4 (h * h) (let o : 4 ≤ 1024 = omega arith in o) in omega arith)
      (near_size M U K k⁺ k (K * U) (K * (h * h)) 0 (4 * (h * h)) (K * (h * h)) w.near square_exact)

  module _ (kh R S : ℕ) (l : Length kh R S) where
    product_square : (ke : ℕ) → Product M U K ke kh kh → Near M (K * U) ke (K * (h * h)) 0 (3 * (h * h))
    product_square ke s = reduce M (4 * K) (K * U) ke _ _ _ (let o = k⁺ in omega arith)
        (shape R S l.turn (near_mul M U K k⁺ ke kh kh (2 * K) (2 * K) (2 * K * R) (2 * K * S) (2 * K * R) (2 * K * S) h h
        (3 * K * h) (3 * K * h) (2 * K * h) (5 * K * (h * h) + 2 * K * K * U) s l.near l.near (length_size kh R S l)
        (length_size kh R S l) (double l.exact)
        (let z : 3 * K * h * (3 * K * h) + K * (U * (2 * K * (2 * K)))
        ≤ 2 * K * (5 * K * (h * h) + 2 * K * K * U) = omega arith in z)))
      where
        double : Close R S h → Close (2 * K * R) (2 * K * S) (2 * K * h)
        double c = record {
          over = omega (arith, mul-le-mul_left K c.over);
          under = omega (arith, mul-le-mul_left K c.under);
        }

        shape : (R S : ℕ) → ((R ≡ h) × (S ≡ 0)) ⊎ ((R ≡ 0) × (S ≡ h))
            → Near M (U * (2 * K * (2 * K))) ke (2 * K * R * (2 * K * R) + 2 * K * S * (2 * K * S))
            (2 * K * R * (2 * K * S) + 2 * K * S * (2 * K * R))
            (3 * K * h * h + 2 * K * h * h + (5 * K * (h * h) + 2 * K * K * U))
            → Near M (4 * K * (K * U)) ke (4 * K * (K * (h * h))) (4 * K * 0) (4 * K * (3 * (h * h)))
        shape R S (inl e) = rw (e.0, e.1) (λ x. let f = mul-le-mul_left K small.second in record
            { over = omega (arith, x.over); under = omega (arith, x.under) })
        shape R S (inr e) = rw (e.0, e.1) (λ x. let f = mul-le-mul_left K small.second in record
            { over = omega (arith, x.over); under = omega (arith, x.under) })

    pub square : (ke ke0 : ℕ) → Product M U K ke0 kh kh → Sum M U K ke ke0 M → Square ke
    square ke ke0 s t = record {
      near = refit M (K * U) ke _ _ _ _ _ _ (let z : K * (h * h) + 0 + 0 ≡ K * (h * h) + (0 + 0) = omega arith in z)
          (let z : 3 * (h * h) + 0 + h * h ≤ 4 * (h * h) = omega arith in z)
          (near_add M U K k⁺ ke ke0 M (K * U) _ _ 0 0 (3 * (h * h)) 0 (2 * K * (h * h)) 0 (h * h) t (product_square ke0 s)
          (none (K * U)) size (none_size (K * U))
          (let z : 2 * K * (h * h) + 0 ≤ 2 * K * (h * h) = omega arith in z));
    }
      where
        size : Close (ke0 * (K * U)) (M * (K * U)) (2 * K * (h * h))
        size = wider _ _ _ _ (let l = many 3 (h * h) (let o : 3 ≤ 1024 = omega arith in o) in omega arith)
            (near_size M U K k⁺ ke0 (K * U) (K * (h * h)) 0 (3 * (h * h)) (K * (h * h)) (product_square ke0 s) square_exact)

  -- ---- products of two ways: a and c
  module _ (kx P N ky R S : ℕ) (x : Way kx P N) (y : Way ky R S) where
    ways_exact : Close (P * R + N * S) (P * S + N * R) (16 * (K * u * (K * u)))
    ways_exact = wider _ _ _ _ (let z : 4 * K * u * (4 * K * u) ≤ 16 * (K * u * (K * u)) = omega arith in z)
        (sized_product P N R S (4 * K * u) (4 * K * u) x.exact y.exact)

    ways : (kz : ℕ) → Product M U K kz kx ky → Near M U kz (P * R + N * S) (P * S + N * R) (23 * (K * u * u))
    ways kz s = shape (near_mul M U K k⁺ kz kx ky 1 1 P N R S u u (5 * K * u) (5 * K * u) (4 * K * u) (13 * (K * u * u) + U) s
        x.near y.near (way_size kx P N x) (way_size ky R S y) y.exact
        (let z : 5 * K * u * (5 * K * u) + K * (U * (1 * 1)) ≤ 2 * K * (13 * (K * u * u) + U) = omega arith in z))
      where
        shape : Near M (U * (1 * 1)) kz (P * R + N * S) (P * S + N * R) (5 * K * u * u + 4 * K * u * u + (13 * (K * u * u) + U))
            → Near M U kz (P * R + N * S) (P * S + N * R) (23 * (K * u * u))
        shape c = let f = small.third in record { over = omega (arith, c.over); under = omega (arith, c.under) }

    ways_size : (kz : ℕ) → Product M U K kz kx ky → Close (kz * U) (M * U) (17 * (K * u * (K * u)))
    ways_size kz s = wider _ _ _ _ (go (many 23 (K * u * u) (let o : 23 ≤ 1024 = omega arith in o)))
        (near_size M U K k⁺ kz U _ _ (23 * (K * u * u)) (16 * (K * u * (K * u))) (ways kz s) ways_exact)
      where
        go : 23 * (K * u * u) ≤ K * (K * u * u) → 16 * (K * u * (K * u)) + 23 * (K * u * u) ≤ 17 * (K * u * (K * u))
        go l = omega arith

  pub record Dot (k P N : ℕ) : Type 0 where
    pub near : Near M U k P N (63 * (K * u * u))
    pub exact : Close P N (32 * (K * u * (K * u)))

  dot_size : (k P N : ℕ) → Dot k P N → Close (k * U) (M * U) (33 * (K * u * (K * u)))
  dot_size k P N w = wider _ _ _ _ (go (many 63 (K * u * u) (let o : 63 ≤ 1024 = omega arith in o)))
      (near_size M U K k⁺ k U P N (63 * (K * u * u)) (32 * (K * u * (K * u))) w.near w.exact)
    where
      go : 63 * (K * u * u) ≤ K * (K * u * u) → 32 * (K * u * (K * u)) + 63 * (K * u * u) ≤ 33 * (K * u * (K * u))
      go l = omega arith

  module _ (kx P N ky R S kx' P' N' ky' R' S' : ℕ) (x : Way kx P N) (y : Way ky R S) (x' : Way kx' P' N')
      (y' : Way ky' R' S') where
    pub dot : (k k₁ k₂ : ℕ) → Product M U K k₁ kx ky → Product M U K k₂ kx' ky' → Sum M U K k k₁ k₂
        → Dot k (P * R + N * S + (P' * R' + N' * S')) (P * S + N * R + (P' * S' + N' * R'))
    dot k k₁ k₂ p q s = record {
      near = wider _ _ _ _ (let z : 23 * (K * u * u) + 23 * (K * u * u) + 17 * (K * u * u) ≤ 63 * (K * u * u) = omega arith in z)
          (near_add M U K k⁺ k k₁ k₂ U _ _ _ _ (23 * (K * u * u)) (23 * (K * u * u)) (17 * (K * u * (K * u)))
          (17 * (K * u * (K * u))) (17 * (K * u * u)) s
          (ways kx P N ky R S x y k₁ p) (ways kx' P' N' ky' R' S' x' y' k₂ q) (ways_size kx P N ky R S x y k₁ p)
          (ways_size kx' P' N' ky' R' S' x' y' k₂ q)
          (let z : 17 * (K * u * (K * u)) + 17 * (K * u * (K * u)) ≤ 2 * K * (17 * (K * u * u)) = omega arith in z));
      exact = both _ _ _ _ (ways_exact kx P N ky R S x y) (ways_exact kx' P' N' ky' R' S' x' y');
    }
      where
        both : (a b c d : ℕ) → Close a b (16 * (K * u * (K * u))) → Close c d (16 * (K * u * (K * u)))
            → Close (a + c) (b + d) (32 * (K * u * (K * u)))
        both a b c d f g = record { over = omega (arith, f.over, g.over); under = omega (arith, f.under, g.under) }

  -- ---- the products of the second kind: b f and b b, c e and a e
  abbrev U³ : ℕ
  U³ = U * (U * U)

  module _ (kb P N kf P' N' R S : ℕ) (turn : ((R ≡ h) × (S ≡ 0)) ⊎ ((R ≡ 0) × (S ≡ h)))
      (b : Times kb (P * R + N * S) (P * S + N * R)) (f : Times kf (P' * R + N' * S) (P' * S + N' * R)) where
    pub times_times : (k : ℕ) → Product M U K k kb kf
        → Near M U³ k ((P * P' + N * N') * (h * h)) ((P * N' + N * P') * (h * h)) (113 * (K * u * u * (h * h)))
    times_times k s = shape R S turn (near_mul M U K k⁺ k kb kf U U (P * R + N * S) (P * S + N * R) (P' * R + N' * S)
        (P' * S + N' * R) (11 * (u * h)) (11 * (u * h)) (5 * K * (u * h)) (5 * K * (u * h))
        (4 * K * (u * h)) (13 * (K * u * u * (h * h)) + U³) s b.near f.near (times_size kb _ _ b) (times_size kf _ _ f)
        f.exact
        (let z : 5 * K * (u * h) * (5 * K * (u * h)) + K * (U * (U * U))
        ≤ 2 * K * (13 * (K * u * u * (h * h)) + U * (U * U)) = omega arith in z))
      where
        shape : (R S : ℕ) → ((R ≡ h) × (S ≡ 0)) ⊎ ((R ≡ 0) × (S ≡ h))
            → Near M U³ k ((P * R + N * S) * (P' * R + N' * S) + (P * S + N * R) * (P' * S + N' * R))
            ((P * R + N * S) * (P' * S + N' * R) + (P * S + N * R) * (P' * R + N' * S))
            (5 * K * (u * h) * (11 * (u * h)) + 4 * K * (u * h) * (11 * (u * h)) + (13 * (K * u * u * (h * h)) + U³))
            → Near M U³ k ((P * P' + N * N') * (h * h)) ((P * N' + N * P') * (h * h)) (113 * (K * u * u * (h * h)))
        shape R S (inl e) = rw (e.0, e.1) (λ x. refit M U³ k _ _ _ _ _ _ (omega arith) (omega (arith, small.last)) x)
        shape R S (inr e) = rw (e.0, e.1) (λ x. refit M U³ k _ _ _ _ _ _ (omega arith) (omega (arith, small.last)) x)

    pub times_exact : Close P N (4 * K * u) → Close P' N' (4 * K * u)
        → Close ((P * P' + N * N') * (h * h)) ((P * N' + N * P') * (h * h)) (16 * (K * u * (K * u) * (h * h)))
    times_exact x y = go _ _ (sized_product P N P' N' (4 * K * u) (4 * K * u) x y)
      where
        go : (a b : ℕ) → Close a b (4 * K * u * (4 * K * u))
            → Close (a * (h * h)) (b * (h * h)) (16 * (K * u * (K * u) * (h * h)))
        go a b c = record {
          over = omega (arith, mul-le-mul_right (h * h) c.over);
          under = omega (arith, mul-le-mul_right (h * h) c.under);
        }

  module _ (kc P N ke : ℕ) (c : Dot kc P N) (e : Square ke) where
    pub dot_square : (k : ℕ) → Product M U K k kc ke → Near M U³ k (P * (h * h)) (N * (h * h)) (229 * (K * u * u * (h * h)))
    dot_square k s = reduce M K U³ k _ _ _ (let l = small.digits in omega arith)
        (shape (near_mul M U K k⁺ k kc ke U (K * U) P N (K * (h * h)) 0 (63 * (K * u * u)) (4 * (h * h)) (33 * (K * u * (K * u)))
        (2 * K * (h * h))
        (K * (h * h)) (33 * (K * u * (K * u) * (h * h)) + K * U³) s c.near e.near (dot_size kc P N c) (square_size ke e)
        square_exact
        (let z : 33 * (K * u * (K * u)) * (2 * K * (h * h)) + K * (U * (U * (K * U)))
        ≤ 2 * K * (33 * (K * u * (K * u) * (h * h)) + K * (U * (U * U))) = omega arith in z)))
      where
        shape : Near M (U * (U * (K * U))) k (P * (K * (h * h)) + N * 0) (P * 0 + N * (K * (h * h)))
            (33 * (K * u * (K * u)) * (4 * (h * h)) + K * (h * h) * (63 * (K * u * u)) +
            (33 * (K * u * (K * u) * (h * h)) + K * U³))
            → Near M (K * U³) k (K * (P * (h * h))) (K * (N * (h * h))) (K * (229 * (K * u * u * (h * h))))
        shape x = let f = mul-le-mul_left K small.last in record {
          over = omega (arith, x.over);
          under = omega (arith, x.under);
        }

    pub dot_exact : Close (P * (h * h)) (N * (h * h)) (32 * (K * u * (K * u) * (h * h)))
    dot_exact = record {
      over = omega (arith, mul-le-mul_right (h * h) c.exact.over);
      under = omega (arith, mul-le-mul_right (h * h) c.exact.under);
    }

  -- ---- numerator and denominator
  difference : (kz kx ky P N R S : ℕ) → Difference M U K kz kx ky → Near M U³ kx P N (229 * (K * u * u * (h * h)))
      → Near M U³ ky R S (229 * (K * u * u * (h * h)))
      → Close P N (32 * (K * u * (K * u) * (h * h))) → Close R S (32 * (K * u * (K * u) * (h * h)))
      → Near M U³ kz (P + S) (N + R) (491 * (K * u * u * (h * h)))
  difference kz kx ky P N R S s x y a b =
      wider _ _ _ _ (sums (K * u * u * (h * h)))
      (near_sub M U K k⁺ kz kx ky U³ P N R S (229 * (K * u * u * (h * h))) (229 * (K * u * u * (h * h)))
      (33 * (K * u * (K * u) * (h * h))) (33 * (K * u * (K * u) * (h * h))) (33 * (K * u * u * (h * h))) s x y
      (size kx P N x a) (size ky R S y b) (let z : 33 * (K * u * (K * u) * (h * h)) + 33 * (K * u * (K * u) * (h * h))
      ≤ 2 * K * (33 * (K * u * u * (h * h))) = omega arith in z))
    where
      sums : (v : ℕ) → 229 * v + 229 * v + 33 * v ≤ 491 * v
      sums v = omega arith

      size : (k P N : ℕ) → Near M U³ k P N (229 * (K * u * u * (h * h))) → Close P N (32 * (K * u * (K * u) * (h * h)))
          → Close (k * U³) (M * U³) (33 * (K * u * (K * u) * (h * h)))
      size k P N x a = wider _ _ _ _ (go (many 229 (K * u * u * (h * h)) (let o : 229 ≤ 1024 = omega arith in o)))
          (near_size M U K k⁺ k U³ P N (229 * (K * u * u * (h * h))) (32 * (K * u * (K * u) * (h * h))) x a)
        where
          go : 229 * (K * u * u * (h * h)) ≤ K * (K * u * u * (h * h))
              → 32 * (K * u * (K * u) * (h * h)) + 229 * (K * u * u * (h * h)) ≤ 33 * (K * u * (K * u) * (h * h))
          go l = omega arith

  narrow : (k P N : ℕ) → Near M U³ k P N (113 * (K * u * u * (h * h))) → Near M U³ k P N (229 * (K * u * u * (h * h)))
  narrow k P N x = wider _ _ _ _ (go (K * u * u * (h * h))) x
    where
      go : (v : ℕ) → 113 * v ≤ 229 * v
      go v = omega arith

  narrow_exact : (P N : ℕ) → Close P N (16 * (K * u * (K * u) * (h * h))) → Close P N (32 * (K * u * (K * u) * (h * h)))
  narrow_exact P N x = wider _ _ _ _ (go (K * u * (K * u) * (h * h))) x
    where
      go : (v : ℕ) → 16 * v ≤ 32 * v
      go v = omega arith

  -- b is d H, f is H p; c is d p + D g and a is d d + D D: b f - c e is - D g H H, and a e - b b is D D H H
  module _ (kb dP dN kf pP pN R S : ℕ) (turn : ((R ≡ h) × (S ≡ 0)) ⊎ ((R ≡ 0) × (S ≡ h)))
      (b : Times kb (dP * R + dN * S) (dP * S + dN * R))
      (f : Times kf (pP * R + pN * S) (pP * S + pN * R)) (d : Close dP dN (4 * K * u)) (p : Close pP pN (4 * K * u)) (g_p g_n : ℕ)
      (kc cP cN ke : ℕ) (c : Dot kc cP cN) (e : Square ke) where
    abbrev small³ : ℕ
    small³ = 491 * (K * u * u * (h * h))

    pub first_less : (k k₁ k₂ : ℕ) → Product M U K k₁ kb kf → Product M U K k₂ kc ke → Difference M U K k k₁ k₂
        → cP ≡ dP * pP + dN * pN + g_p → cN ≡ dP * pN + dN * pP + g_n → Near M U³ k (g_n * (h * h)) (g_p * (h * h)) small³
    first_less k k₁ k₂ p₁ p₂ s eP eN = refit M U³ k _ _ _ _ _ _ (rw (eP, eN) (go (dP * pP + dN * pN) (dP * pN + dN * pP) (h * h)))
        (le_refl _)
        (difference k k₁ k₂ _ _ _ _ s (narrow k₁ _ _ (times_times kb dP dN kf pP pN R S turn b f k₁ p₁))
        (dot_square kc cP cN ke c e k₂ p₂)
        (narrow_exact _ _ (times_exact kb dP dN kf pP pN R S turn b f d p)) (dot_exact kc cP cN ke c e))
      where
        go : (x y q : ℕ) → x * q + (y + g_n) * q + g_p * q ≡ g_n * q + (y * q + (x + g_p) * q)
        go x y q = omega arith

    pub last_less : (k k₁ k₂ : ℕ) → Product M U K k₁ kb kf → Product M U K k₂ kc ke → Difference M U K k k₂ k₁
        → cP ≡ dP * pP + dN * pN + g_p → cN ≡ dP * pN + dN * pP + g_n → Near M U³ k (g_p * (h * h)) (g_n * (h * h)) small³
    last_less k k₁ k₂ p₁ p₂ s eP eN = refit M U³ k _ _ _ _ _ _ (rw (eP, eN) (go (dP * pP + dN * pN) (dP * pN + dN * pP) (h * h)))
        (le_refl _)
        (difference k k₂ k₁ _ _ _ _ s (dot_square kc cP cN ke c e k₂ p₂)
        (narrow k₁ _ _ (times_times kb dP dN kf pP pN R S turn b f k₁ p₁))
        (dot_exact kc cP cN ke c e) (narrow_exact _ _ (times_exact kb dP dN kf pP pN R S turn b f d p)))
      where
        go : (x y q : ℕ) → (x + g_p) * q + y * q + g_n * q ≡ g_p * q + ((y + g_n) * q + x * q)
        go x y q = omega arith
