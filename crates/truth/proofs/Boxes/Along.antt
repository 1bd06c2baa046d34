-- THE PLACE t ALONG A SIDE, in whole numbers as in Chain: t is (b s + f) / e, s being T / U. Along the side the two points then
-- lie 51 u apart at most; and where b s + f is not positive, or not below e, the edge's point lies before the side's first
-- corner, or after its last, but for as much.
use Prim.Native.Nat.{◌*◌, ◌+◌, ◌<◌, ℕ, ◌≤◌}
use mathlib.Core.Path.{◌≡◌, ap, sym}
use native.Mathlib.Nat.{le_of_eq, le_of_mul-le-mul_left, le_trans, mul-le-mul_left, mul-le-mul_right}
use native.Mathlib.Omega.{arith}
use Rattle.arith.proofs.Laws.RoundingError.{Close}
use Rattle.arith.proofs.Laws.OperationErrors.{cancel}
use Rattle.truth.proofs.Boxes.Chain.{Small, Square, Times}
use Rattle.truth.proofs.Boxes.Signed.{Near, near_add, near_mul, near_size, Product, Sum, wider}

-- ---- the sums, each product a number of its own
beyond_core : (K x y w v_p v_n : ℕ) → 0 < K → y + v_n ≤ v_p + 31 * w → K * x ≤ K * y + 4 * x → x ≤ 4 * (K * w) → x + v_n ≤ v_p + 51 * w
beyond_core K x y w v_p v_n p a b c = le_of_mul-le-mul_left
    (let z : K * (x + v_n) ≤ K * (v_p + 51 * w) = omega (arith, mul-le-mul_left K a) in z) p

meet_core : (K g m n φ y x w v_p v_n : ℕ) → 0 < K → Close (2 * K * (g + m)) (2 * K * n) φ → Close (K * g) (K * y) (4 * x)
    → K * φ ≤ K * (2 * x) → Close (n + v_n) (m + v_p) (31 * w)
    → x ≤ 4 * (K * w) → Close (y + v_n) v_p (51 * w)
meet_core K g m n φ y x w v_p v_n p d l f t c =
    let o : φ ≤ 2 * x = le_of_mul-le-mul_left f p in
    cancel (2 * K) _ _ _ (let z : 0 < 2 * K = omega arith in z) (record {
      over = omega (arith, d.over, l.under, mul-le-mul_left K t.over);
      under = omega (arith, d.under, l.over, mul-le-mul_left K t.under);
    })

module _ (M U u K h : ℕ) (small : Small U u K h) (short : h ≤ 4 * K * u) (h⁺ : 0 < h) (U⁺ : 0 < U) where
  k⁺ : 0 < 2 * K
  k⁺ = let l = small.digits in omega arith

  positive : 0 < 2 * K → 0 < K
  positive l = omega arith

  many : (c x : ℕ) → c ≤ 1024 → c * x ≤ K * x
  many c x l = mul-le-mul_right x (le_trans l small.digits)

  module _ (kb b_p b_n kf f_p f_n T : ℕ) (T⁺ : T ≤ U) (b : Times M U u K h small kb b_p b_n) (f : Times M U u K h small kf f_p f_n) where
    times_size : (k P N : ℕ) → Times M U u K h small k P N → Close (k * U) (M * U) (5 * K * (u * h))
    times_size k P N w = wider _ _ _ _ (let l = many 11 (u * h) (let o : 11 ≤ 1024 = omega arith in o) in omega arith)
        (near_size M U K k⁺ k U P N (11 * (u * h)) (4 * K * (u * h)) w.near w.exact)

    -- b s
    bs : (km : ℕ) → Product M U K km kb (M + T) → Near M (U * U) km (b_p * T) (b_n * T) (15 * (u * h * U))
    bs km s = shape (near_mul M U K k⁺ km kb (M + T) U 1 b_p b_n T 0 (11 * (u * h)) 0 (5 * K * (u * h)) U U
        (3 * (u * h * U) + U * U) s b.near
        (record { over = omega arith; under = omega arith }) (times_size kb b_p b_n b) (record {
          over = omega arith;
          under = omega arith;
        }) (record { over = omega arith; under = omega arith })
        (let z : 5 * K * (u * h) * U + K * (U * (U * 1)) ≤ 2 * K * (3 * (u * h * U) + U * U) = omega arith in z))
      where
        shape : Near M (U * (U * 1)) km (b_p * T + b_n * 0) (b_p * 0 + b_n * T)
            (5 * K * (u * h) * 0 + U * (11 * (u * h)) + (3 * (u * h * U) + U * U))
            → Near M (U * U) km (b_p * T) (b_n * T) (15 * (u * h * U))
        shape x = let l = mul-le-mul_right U small.first in record {
          over = omega (arith, x.over);
          under = omega (arith, x.under);
        }

    bs_size : (km : ℕ) → Product M U K km kb (M + T) → Close (km * (U * U)) (M * (U * U)) (5 * K * (u * h * U))
    bs_size km s = wider _ _ _ _ (let l = many 15 (u * h * U) (let o : 15 ≤ 1024 = omega arith in o) in omega arith)
        (near_size M U K k⁺ km (U * U) _ _ (15 * (u * h * U)) (4 * K * (u * h * U)) (bs km s) exact)
      where
        exact : Close (b_p * T) (b_n * T) (4 * K * (u * h * U))
        exact = let l = mul-le-mul_left (4 * K * (u * h)) T⁺ in record {
          over = omega (arith, mul-le-mul_right T b.exact.over);
          under = omega (arith, mul-le-mul_right T b.exact.under);
        }

    f_near : Near M (U * U) kf (U * f_p) (U * f_n) (11 * (u * h * U))
    f_near = record {
      over = omega (arith, mul-le-mul_right U f.near.over);
      under = omega (arith, mul-le-mul_right U f.near.under);
    }

    f_size : Close (kf * (U * U)) (M * (U * U)) (5 * K * (u * h * U))
    f_size = let s = times_size kf f_p f_n f in record {
      over = omega (arith, mul-le-mul_right U s.over);
      under = omega (arith, mul-le-mul_right U s.under);
    }

    module _ (kn km : ℕ) (s : Product M U K km kb (M + T)) (a : Sum M U K kn km kf) where
      -- b s + f
      pub top : Near M (U * U) kn (b_p * T + U * f_p) (b_n * T + U * f_n) (31 * (u * h * U))
      top = wider _ _ _ _ (let z : 15 * (u * h * U) + 11 * (u * h * U) + 5 * (u * h * U) ≤ 31 * (u * h * U) = omega arith in z)
          (near_add M U K k⁺ kn km kf (U * U) _ _ _ _ (15 * (u * h * U)) (11 * (u * h * U)) (5 * K * (u * h * U))
          (5 * K * (u * h * U)) (5 * (u * h * U)) a (bs km s) f_near (bs_size km s) f_size
          (let z : 5 * K * (u * h * U) + 5 * K * (u * h * U) ≤ 2 * K * (5 * (u * h * U)) = omega arith in z))

      abbrev v_p : ℕ
      v_p = b_p * T + U * f_p

      abbrev v_n : ℕ
      v_n = b_n * T + U * f_n

      pub not_above : kn ≤ M → v_p ≤ v_n + 31 * (u * h * U)
      not_above l = let m = mul-le-mul_right (U * U) l in omega (arith, top.under)

      module _ (ke F : ℕ) (e : Square M U u K h small ke) (is : ke ≡ M + F) where
        length² : Close (F * (K * U)) (K * (h * h)) (4 * (h * h))
        length² = let q = ap (λ z. z * (K * U)) is in record {
          over = omega (arith, e.near.over);
          under = omega (arith, e.near.under);
        }

        room : U * (h * h) ≤ 4 * (K * (u * h * U))
        room = go h K u U (mul-le-mul_left (U * h) short)
          where
            go : (h K u U : ℕ) → U * h * h ≤ U * h * (4 * K * u) → U * (h * h) ≤ 4 * (K * (u * h * U))
            go h K u U l = omega arith

        pub not_below : ke ≤ kn → U * (h * h) + v_n ≤ v_p + 51 * (u * h * U)
        not_below l = beyond_core K (U * (h * h)) (F * (U * U)) (u * h * U) v_p v_n (positive k⁺)
            (first kn M F (U * U) v_n v_p (31 * (u * h * U)) (le_trans (le_of_eq (sym is)) l) top.over)
            (second h K U F (mul-le-mul_left U length².under)) room
          where
            first : (kn M F w a b c : ℕ) → M + F ≤ kn → kn * w + a ≤ M * w + b + c → F * w + a ≤ b + c
            first kn M F w a b c h k = omega (arith, mul-le-mul_right w h)

            second : (h K U F : ℕ) → U * (K * (h * h)) ≤ U * (F * (K * U) + 4 * (h * h))
                → K * (U * (h * h)) ≤ K * (F * (U * U)) + 4 * (U * (h * h))
            second h K U F l = omega arith

        module _ (Tt : ℕ) (Tt⁺ : Tt ≤ U) (div : Close (2 * K * (Tt * F + M * U)) (2 * K * (kn * U)) (U * F)) where
          pub meets : Close (Tt * (h * h) + v_n) v_p (51 * (u * h * U))
          meets = meet_core K (Tt * (F * U)) (M * (U * U)) (kn * (U * U)) (U * (F * U)) (Tt * (h * h)) (U * (h * h)) (u * h * U)
              v_p v_n (positive k⁺)
              (first K Tt F M U kn (mul-le-mul_right U div.over) (mul-le-mul_right U div.under))
              (second K Tt F U (h * h) (mul-le-mul_left Tt length².over) (mul-le-mul_left Tt length².under)
              (mul-le-mul_right (4 * (h * h)) Tt⁺))
              (third K F U (h * h) (mul-le-mul_left U length².over) (many 4 (h * h) (let o : 4 ≤ 1024 = omega arith in o))) top
              room
            where
              first : (K t F M U kn : ℕ) → 2 * K * (t * F + M * U) * U ≤ (2 * K * (kn * U) + U * F) * U
                  → 2 * K * (kn * U) * U ≤ (2 * K * (t * F + M * U) + U * F) * U
                  → Close (2 * K * (t * (F * U) + M * (U * U))) (2 * K * (kn * (U * U))) (U * (F * U))
              first K t F M U kn a b = record { over = omega arith; under = omega arith }

              second : (K t F U q : ℕ) → t * (F * (K * U)) ≤ t * (K * q + 4 * q) → t * (K * q) ≤ t * (F * (K * U) + 4 * q)
                  → t * (4 * q) ≤ U * (4 * q)
                  → Close (K * (t * (F * U))) (K * (t * q)) (4 * (U * q))
              second K t F U q a b c = record { over = omega arith; under = omega arith }

              third : (K F U q : ℕ) → U * (F * (K * U)) ≤ U * (K * q + 4 * q) → 4 * q ≤ K * q
                  → K * (U * (F * U)) ≤ K * (2 * (U * q))
              third K F U q a b = omega (arith, mul-le-mul_left U b)
