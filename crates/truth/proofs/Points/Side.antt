-- ONE COORDINATE of the closest point of a segment, in whole numbers: what the errors of its operations make of the exact ones. M
-- is the key of zero, U that of one less M, u half the last place of a number twice as large as the ends of the segment, 2 K u of
-- which are their bound. A and B are the ends, P the point; kd, kw, kl, kn, km, kq, kx are the keys of d = b - a, w = p - a, d d,
-- w d, d t, q = a + d t and p - q, and T is t.
use Prim.Native.Nat.{◌*◌, ◌+◌, ◌-◌, ◌<◌, ℕ, ◌≤◌}
use mathlib.Core.Logic.{inl, inr, ◌⊎◌}
use mathlib.Core.Path.{◌≡◌, ap, refl, sym, ◌∙◌}
use native.Mathlib.Nat.{le_of_eq, le_of_lt, le_of_mul-le-mul_left, le_trans, mul-le-mul, mul-le-mul_left, mul-le-mul_right}
use native.Mathlib.Nat.{mul-pos}
use native.Mathlib.Omega.{arith}
use Rattle.arith.proofs.roots.Numbers.{decide}
use Rattle.arith.proofs.Laws.RoundingError.{Close}
use Rattle.arith.specs.Whole.{apart}
use Rattle.truth.specs.Exact.{sqd}
use Rattle.truth.proofs.Points.Lagrange.{apart_split}
use Rattle.arith.proofs.Laws.OperationErrors.{cancel, moved}

pub record Rounded (M U u K T A B P kd kw kl kn km kq kx : ℕ) : Type 0 where
  pub span : Close A B (4 * K * u)
  pub reach : Close P A (6 * K * u)
  pub d_share : Close (2 * K * (kd + A)) (2 * K * (M + B)) (apart B A)
  pub d_close : Close (kd + A) (M + B) u
  pub w_close : Close (kw + A) (M + P) (2 * u)
  pub n_share : Close (2 * K * (kn * U + (M * kw + M * kd))) (2 * K * (M * U + (kw * kd + M * M)))
      (apart kd M * (8 * K * u) + K * U)
  pub l_share : Close (2 * K * (kl * U + (M * kd + M * kd))) (2 * K * (M * U + (kd * kd + M * M)))
      (apart kd M * (4 * K * u) + K * U)
  pub m_close : Close (km * U + M * T) (M * U + kd * T) (u * U)
  pub q_close : Close (kq + M) (A + km) (2 * u)
  pub x_close : Close (kx + kq) (M + P) (4 * u)

-- the same with the segment running upwards: D is its length, E that of d
pub record Upwards (M U u K T A D P E kw kl kn kx : ℕ) : Type 0 where
  pub span : D ≤ 4 * K * u
  pub reach : Close P A (6 * K * u)
  pub d_share : Close (2 * K * E) (2 * K * D) D
  pub w_close : Close (kw + A) (M + P) (2 * u)
  pub n_share : Close (2 * K * (kn * U + M * E)) (2 * K * (M * U + kw * E)) (E * (8 * K * u) + K * U)
  pub l_share : Close (2 * K * (kl * U)) (2 * K * (M * U + E * E)) (E * (4 * K * u) + K * U)
  pub x_close : Close (kx * U + (U * A + T * D)) (M * U + U * P) (8 * u * U)

apart_more : (a k : ℕ) → apart (a + k) a ≡ k
unfolding apart
apart_more a k = omega arith

times : (k x y h : ℕ) → Close x y h → Close (x * k) (y * k) (h * k)
times k x y h c = record {
  over = le_trans (mul-le-mul_right k c.over) (le_of_eq (sums y));
  under = le_trans (mul-le-mul_right k c.under) (le_of_eq (sums x));
}
  where
    sums : (z : ℕ) → (z + h) * k ≡ z * k + h * k
    sums z = omega arith

-- ---- a segment that runs upwards
module _ (M U u K T A D P E kw kl kn km kq kx : ℕ) (T⁺ : T ≤ U) where
  exact_x : Close (km * U + M * T) (M * U + (M + E) * T) (u * U) → Close (M + E + A) (M + (A + D)) u
      → Close (kq + M) (A + km) (2 * u)
      → Close (kx + kq) (M + P) (4 * u) → Close (kx * U + (U * A + T * D)) (M * U + U * P) (8 * u * U)
  exact_x m d q x =
      let e : Close (E * T) (D * T) (u * T) =
      times T E D u (record { over = omega (arith, d.over); under = omega (arith, d.under) }) in
      let t : u * T ≤ u * U = mul-le-mul_left u T⁺ in
      let f : Close (km * U) (M * U + D * T) (2 * (u * U)) = record
      { over = omega (arith, e.over, m.over); under = omega (arith, e.under, m.under) } in
      let y = times U (kq + M) (A + km) (2 * u) q in
      let z = times U (kx + kq) (M + P) (4 * u) x in
      turned (last (kx * U) (kq * U) (km * U) (M * U) (A * U) (P * U) (D * T) (u * U) f (sum2 y) (sum3 z))
    where
      sum2 : Close ((kq + M) * U) ((A + km) * U) (2 * u * U) → Close (kq * U + M * U) (A * U + km * U) (2 * (u * U))
      sum2 c = record { over = omega (arith, c.over); under = omega (arith, c.under) }

      sum3 : Close ((kx + kq) * U) ((M + P) * U) (4 * u * U) → Close (kx * U + kq * U) (M * U + P * U) (4 * (u * U))
      sum3 c = record { over = omega (arith, c.over); under = omega (arith, c.under) }

      last : (X Q N O a p t v : ℕ) → Close N (O + t) (2 * v) → Close (Q + O) (a + N) (2 * v) → Close (X + Q) (O + p) (4 * v)
          → Close (X + (a + t)) (O + p) (8 * v)
      last X Q N O a p t v f y z = record {
        over = omega (arith, f.under, y.under, z.over);
        under = omega (arith, f.over, y.over, z.under);
      }

      turned : Close (kx * U + (A * U + D * T)) (M * U + P * U) (8 * (u * U))
          → Close (kx * U + (U * A + T * D)) (M * U + U * P) (8 * u * U)
      turned c = record { over = omega (arith, c.over); under = omega (arith, c.under) }

  ascending : Rounded M U u K T A (A + D) P (M + E) kw kl kn km kq kx → Upwards M U u K T A D P E kw kl kn kx
  ascending r =
      let s = apart_more A D in
      let t = apart_more M E in
      record {
        span = omega (arith, r.span.under);
        reach = r.reach;
        d_share = shared (rw s at r.d_share);
        w_close = r.w_close;
        n_share = product (rw t at r.n_share);
        l_share = square (rw t at r.l_share);
        x_close = exact_x r.m_close r.d_close r.q_close r.x_close;
      }
    where
      shared : Close (2 * K * (M + E + A)) (2 * K * (M + (A + D))) D → Close (2 * K * E) (2 * K * D) D
      shared c = record { over = omega (arith, c.over); under = omega (arith, c.under) }

      product : {H : ℕ} → Close (2 * K * (kn * U + (M * kw + M * (M + E)))) (2 * K * (M * U + (kw * (M + E) + M * M))) H
          → Close (2 * K * (kn * U + M * E)) (2 * K * (M * U + kw * E)) H
      product c = record { over = omega (arith, c.over); under = omega (arith, c.under) }

      square : {H : ℕ} → Close (2 * K * (kl * U + (M * (M + E) + M * (M + E)))) (2 * K * (M * U + ((M + E) * (M + E) + M * M))) H
          → Close (2 * K * (kl * U)) (2 * K * (M * U + E * E)) H
      square c = record { over = omega (arith, c.over); under = omega (arith, c.under) }

-- ---- the product of two differences
pub product_close : (k a b c d x y : ℕ) → Close a b x → Close (k * c) (k * d) y
    → Close (k * (a * c + b * d)) (k * (a * d + b * c)) (x * y)
product_close k a b c d x y h l = go a b c d (apart a b) (apart c d) (apart_split a b) (apart_split c d) h l
  where
    go : (a b c d s r : ℕ) → (b ≡ a + s) ⊎ (a ≡ b + s) → (d ≡ c + r) ⊎ (c ≡ d + r) → Close a b x → Close (k * c) (k * d) y
        → Close (k * (a * c + b * d)) (k * (a * d + b * c)) (x * y)
    go a b c d s r (inl e) (inl f) h l =
        let p : s ≤ x = omega (arith, h.under) in
        let q : k * r ≤ y = omega (arith, l.under, ap (λ z. k * z) f) in
        let m : s * (k * r) ≤ x * y = mul-le-mul p q in
        rw (e, f) (record { over = omega arith; under = omega arith })
    go a b c d s r (inl e) (inr f) h l =
        let p : s ≤ x = omega (arith, h.under) in
        let q : k * r ≤ y = omega (arith, l.over, ap (λ z. k * z) f) in
        let m : s * (k * r) ≤ x * y = mul-le-mul p q in
        rw (e, f) (record { over = omega arith; under = omega arith })
    go a b c d s r (inr e) (inl f) h l =
        let p : s ≤ x = omega (arith, h.over) in
        let q : k * r ≤ y = omega (arith, l.under, ap (λ z. k * z) f) in
        let m : s * (k * r) ≤ x * y = mul-le-mul p q in
        rw (e, f) (record { over = omega arith; under = omega arith })
    go a b c d s r (inr e) (inr f) h l =
        let p : s ≤ x = omega (arith, h.over) in
        let q : k * r ≤ y = omega (arith, l.over, ap (λ z. k * z) f) in
        let m : s * (k * r) ≤ x * y = mul-le-mul p q in
        rw (e, f) (record { over = omega arith; under = omega arith })

-- ---- one coordinate: N and L are its parts of the dot products, exact and as rounded
pub record Side (M U u K T A D P kl kn kx : ℕ) : Type 0 where
  pub span : D ≤ 4 * K * u
  pub reach : Close P A (6 * K * u)
  pub n_close : Close (2 * (kn * U + A * D)) (2 * (M * U + P * D)) (19 * (u * D) + U)
  pub l_close : Close (2 * (kl * U)) (2 * (M * U + D * D)) (13 * (u * D) + U)
  pub x_close : Close (kx * U + (U * A + T * D)) (M * U + U * P) (8 * u * U)

module _ (M U u K T A D P E kw kl kn kx : ℕ) (K⁺ : 8 ≤ K) (r : Upwards M U u K T A D P E kw kl kn kx) where
  k⁺ : 0 < K
  k⁺ = omega arith

  -- d is no more than a 16th longer than exact
  longer : 16 * E ≤ 17 * D
  longer = le_of_mul-le-mul_left (step (2 * K) (let h : 16 ≤ 2 * K = omega arith in h) r.d_share.over) (mul-pos two k⁺)
    where
      two : 0 < 2
      two = omega arith

      step : (k : ℕ) → 16 ≤ k → k * E ≤ k * D + D → k * (16 * E) ≤ k * (17 * D)
      step k h l = omega (arith, mul-le-mul_right D h)

  u_e : 16 * (u * E) ≤ 17 * (u * D)
  u_e = go (mul-le-mul_left u longer)
    where
      go : u * (16 * E) ≤ u * (17 * D) → 16 * (u * E) ≤ 17 * (u * D)
      go h = omega arith

  n_of : Close (2 * (kn * U + A * D)) (2 * (M * U + P * D)) (19 * (u * D) + U)
  n_of =
      let a : Close (2 * (kn * U + M * E)) (2 * (M * U + kw * E)) (8 * (u * E) + U) = cancel K _ _ _ k⁺ (by_K r.n_share) in
      let b = times E (kw + A) (M + P) (2 * u) r.w_close in
      let c : Close (2 * (P * E + A * D)) (2 * (P * D + A * E)) (6 * (u * D)) =
      cancel K _ _ _ k⁺ (by_K2 (product_close (2 * K) P A E D (6 * K * u) D r.reach r.d_share)) in
      last (kn * U) (M * U) (M * E) (kw * E) (A * E) (P * E) (A * D) (P * D) (u * E) (u * D) u_e a (sums b) c
    where
      by_K : Close (2 * K * (kn * U + M * E)) (2 * K * (M * U + kw * E)) (E * (8 * K * u) + K * U)
          → Close (K * (2 * (kn * U + M * E))) (K * (2 * (M * U + kw * E))) (K * (8 * (u * E) + U))
      by_K c = record { over = omega (arith, c.over); under = omega (arith, c.under) }

      by_K2 : Close (2 * K * (P * E + A * D)) (2 * K * (P * D + A * E)) (6 * K * u * D)
          → Close (K * (2 * (P * E + A * D))) (K * (2 * (P * D + A * E))) (K * (6 * (u * D)))
      by_K2 c = record { over = omega (arith, c.over); under = omega (arith, c.under) }

      sums : Close ((kw + A) * E) ((M + P) * E) (2 * u * E) → Close (kw * E + A * E) (M * E + P * E) (2 * (u * E))
      sums c = record { over = omega (arith, c.over); under = omega (arith, c.under) }

      last : (N O m w a p a' p' e d : ℕ) → 16 * e ≤ 17 * d → Close (2 * (N + m)) (2 * (O + w)) (8 * e + U)
          → Close (w + a) (m + p) (2 * e)
          → Close (2 * (p + a')) (2 * (p' + a)) (6 * d) → Close (2 * (N + a')) (2 * (O + p')) (19 * d + U)
      last N O m w a p a' p' e d h x y z = record {
        over = omega (arith, x.over, y.over, z.over);
        under = omega (arith, x.under, y.under, z.under);
      }

  l_of : Close (2 * (kl * U)) (2 * (M * U + D * D)) (13 * (u * D) + U)
  l_of =
      let a : Close (2 * (kl * U)) (2 * (M * U + E * E)) (4 * (u * E) + U) = cancel K _ _ _ k⁺ (by_K r.l_share) in
      let s = times (E + D) (2 * K * E) (2 * K * D) D r.d_share in
      let q : D * (E + D) ≤ 4 * K * u * (E + D) = mul-le-mul_right (E + D) r.span in
      let b : Close (2 * (E * E)) (2 * (D * D)) (4 * (u * E) + 4 * (u * D)) = cancel K _ _ _ k⁺ (by_K2 s q) in
      last (kl * U) (M * U) (E * E) (D * D) (u * E) (u * D) u_e a b
    where
      by_K : Close (2 * K * (kl * U)) (2 * K * (M * U + E * E)) (E * (4 * K * u) + K * U)
          → Close (K * (2 * (kl * U))) (K * (2 * (M * U + E * E))) (K * (4 * (u * E) + U))
      by_K c = record { over = omega (arith, c.over); under = omega (arith, c.under) }

      by_K2 : Close (2 * K * E * (E + D)) (2 * K * D * (E + D)) (D * (E + D)) → D * (E + D) ≤ 4 * K * u * (E + D)
          → Close (K * (2 * (E * E))) (K * (2 * (D * D))) (K * (4 * (u * E) + 4 * (u * D)))
      by_K2 c q = record { over = omega (arith, c.over); under = omega (arith, c.under) }

      last : (N O e d x y : ℕ) → 16 * x ≤ 17 * y → Close (2 * N) (2 * (O + e)) (4 * x + U) → Close (2 * e) (2 * d) (4 * x + 4 * y)
          → Close (2 * N) (2 * (O + d)) (13 * y + U)
      last N O e d x y h a b = record { over = omega (arith, a.over, b.over); under = omega (arith, a.under, b.under) }

  pub side_of : Side M U u K T A D P kl kn kx
  side_of = record { span = r.span; reach = r.reach; n_close = n_of; l_close = l_of; x_close = r.x_close }

-- ---- a segment that runs downwards is one that runs upwards, seen from the other side
pub apart_mirror : (x x' y y' : ℕ) → x + x' ≡ y + y' → apart x y ≡ apart x' y'
unfolding apart
apart_mirror x x' y y' e = omega arith

pub sqd_mirror : (x x' y y' : ℕ) → x + x' ≡ y + y' → sqd x y ≡ sqd x' y'
unfolding sqd
sqd_mirror x x' y y' e = ap (λ z. z * z) (apart_mirror x x' y y' e)

module _ (M : ℕ) where
  abbrev Mirror : ℕ → ℕ → Type 0
  Mirror x x' = x + x' ≡ M + M

  mirror_product : (x x' y y' : ℕ) → Mirror x x' → Mirror y y'
      → x * y + M * M + (M * x' + M * y') ≡ M * x + M * y + (x' * y' + M * M)
  mirror_product x x' y y' e f =
      omega (arith, ap (λ z. z * y) e, ap (λ z. x' * z) f, ap (λ z. M * z) e, ap (λ z. M * z) f)

  module _ (U u K T A A' B B' P P' kd kd' kw kw' kl kn km km' kq kq' kx kx' : ℕ) (a : Mirror A A') (b : Mirror B B')
      (p : Mirror P P')
      (d : Mirror kd kd') (w : Mirror kw kw') (m : Mirror km km') (q : Mirror kq kq') (x : Mirror kx kx') where
    mirrored : Rounded M U u K T A B P kd kw kl kn km kq kx → Rounded M U u K T A' B' P' kd' kw' kl kn km' kq' kx'
    mirrored r =
        let s : apart B A ≡ apart B' A' = apart_mirror B B' A A' (b ∙ sym a) in
        let t : apart kd M ≡ apart kd' M = apart_mirror kd kd' M M d in
        record {
          span = record { over = omega (arith, r.span.under); under = omega (arith, r.span.over) };
          reach = record { over = omega (arith, r.reach.under); under = omega (arith, r.reach.over) };
          d_share = rw (← s) (share r.d_share);
          d_close = record { over = omega (arith, r.d_close.under); under = omega (arith, r.d_close.over) };
          w_close = record { over = omega (arith, r.w_close.under); under = omega (arith, r.w_close.over) };
          n_share =
              rw (← t) (moved (2 * K) (kn * U) (M * U) (kw * kd + M * M) (M * kw + M * kd) (kw' * kd' + M * M) (M * kw' + M * kd')
              (apart kd M * (8 * K * u) + K * U) (mirror_product kw kw' kd kd' w d) r.n_share);
          l_share =
              rw (← t) (moved (2 * K) (kl * U) (M * U) (kd * kd + M * M) (M * kd + M * kd) (kd' * kd' + M * M) (M * kd' + M * kd')
              (apart kd M * (4 * K * u) + K * U) (mirror_product kd kd' kd kd' d d) r.l_share);
          m_close = along r.m_close;
          q_close = record { over = omega (arith, r.q_close.under); under = omega (arith, r.q_close.over) };
          x_close = record { over = omega (arith, r.x_close.under); under = omega (arith, r.x_close.over) };
        }
      where
        share : {H : ℕ} → Close (2 * K * (kd + A)) (2 * K * (M + B)) H → Close (2 * K * (kd' + A')) (2 * K * (M + B')) H
        share c =
            let x = ap (λ z. K * z) d in
            let y = ap (λ z. K * z) a in
            let z = ap (λ z. K * z) b in
            record { over = omega (arith, c.under); under = omega (arith, c.over) }

        along : {H : ℕ} → Close (km * U + M * T) (M * U + kd * T) H → Close (km' * U + M * T) (M * U + kd' * T) H
        along c =
            let x = ap (λ z. z * U) m in
            let y = ap (λ z. z * T) d in
            record { over = omega (arith, c.under); under = omega (arith, c.over) }

-- ---- either way
pub record Laid (M U u K T A B P kl kn kx : ℕ) : Type 0 where
  pub start : ℕ
  pub length : ℕ
  pub point : ℕ
  pub rest : ℕ
  pub side : Side M U u K T start length point kl kn rest
  pub same : (i j : ℕ) → sqd ((i + j) * P) (j * A + i * B) ≡ sqd ((i + j) * point) ((i + j) * start + i * length)
  pub size : apart rest M ≡ apart kx M

-- what is no more than the key of infinity
pub record Keys (M A B P kd kw km kq kx : ℕ) : Type 0 where
  pub a : A ≤ M + M
  pub b : B ≤ M + M
  pub p : P ≤ M + M
  pub d : kd ≤ M + M
  pub w : kw ≤ M + M
  pub m : km ≤ M + M
  pub q : kq ≤ M + M
  pub x : kx ≤ M + M

module _ (M U u K T : ℕ) (K⁺ : 8 ≤ K) (T⁺ : T ≤ U) (kl kn : ℕ) where
  -- A ≤ B
  rising : (A B P kd kw km kq kx : ℕ) → A ≤ B → Rounded M U u K T A B P kd kw kl kn km kq kx
      → (D : ℕ) × (B ≡ A + D) × Side M U u K T A D P kl kn kx
  rising A B P kd kw km kq kx l r = (
    B - A,
    e,
    side_of M U u K T A (B - A) P (kd - M) kw kl kn kx K⁺
        (ascending M U u K T A (B - A) P (kd - M) kw kl kn km kq kx T⁺ (rw (f) at (rw e at r))),
  )
    where
      e : B ≡ A + (B - A)
      e = omega arith

      gap : apart B A ≡ B - A
      gap = unfold apart in omega arith

      climb : (k D : ℕ) → 0 < k → B ≡ A + D → k * (M + B) ≤ k * (kd + A) + D → k * M ≤ k * kd
      climb k D h g c = omega (arith, mul-le-mul_right D h, ap (λ z. k * z) g)

      up : M ≤ kd
      up =
          let k : 0 < 2 * K = omega arith in
          le_of_mul-le-mul_left (climb (2 * K) (B - A) k e (rw gap at r.d_share.under)) k

      f : kd ≡ M + (kd - M)
      f = omega (arith, up)

  pub laid : (A B P kd kw km kq kx : ℕ) → Keys M A B P kd kw km kq kx → Rounded M U u K T A B P kd kw kl kn km kq kx
      → Laid M U u K T A B P kl kn kx
  laid A B P kd kw km kq kx k r = elim (decide A B) [ inl l ↦ up l | inr l ↦ down (le_of_lt l) ]
    where
      up : A ≤ B → Laid M U u K T A B P kl kn kx
      up l =
          let s = rising A B P kd kw km kq kx l r in
          record {
            start = A;
            length = s.0;
            point = P;
            rest = kx;
            side = s.2;
            same = λ i j. ap (sqd ((i + j) * P)) (line i j s.0 s.1);
            size = refl;
          }
        where
          line : (i j D : ℕ) → B ≡ A + D → j * A + i * B ≡ (i + j) * A + i * D
          line i j D e = omega (arith, ap (λ z. i * z) e)

      down : B ≤ A → Laid M U u K T A B P kl kn kx
      down l =
          let back : (z : ℕ) → z ≤ M + M → z + (M + M - z) ≡ M + M = λ z h. omega arith in
          let a = back A k.a in
          let b = back B k.b in
          let p = back P k.p in
          let x = back kx k.x in
          let s = rising (M + M - A) (M + M - B) (M + M - P) (M + M - kd) (M + M - kw) (M + M - km) (M + M - kq) (M + M - kx)
          (omega arith)
          (mirrored M U u K T A (M + M - A) B (M + M - B) P (M + M - P) kd (M + M - kd) kw (M + M - kw) kl kn km (M + M - km) kq
          (M + M - kq) kx (M + M - kx) a b p (back kd k.d) (back kw k.w) (back km k.m) (back kq k.q) x r) in
          record {
            start = M + M - A;
            length = s.0;
            point = M + M - P;
            rest = M + M - kx;
            side = s.2;
            same = λ i j. sqd_mirror ((i + j) * P) ((i + j) * (M + M - P)) (j * A + i * B) ((i + j) * (M + M - A) + i * s.0)
                (line i j A B P (M + M - A) (M + M - B) (M + M - P) s.0 a b p s.1);
            size = apart_mirror (M + M - kx) kx M M (let y : M + M - kx + kx ≡ M + M = omega arith in y);
          }
        where
          line : (i j A B P A' B' P' D : ℕ) → A + A' ≡ M + M → B + B' ≡ M + M → P + P' ≡ M + M → B' ≡ A' + D
              → (i + j) * P + (i + j) * P' ≡ j * A + i * B + ((i + j) * A' + i * D)
          line i j A B P A' B' P' D a b p e =
              omega (arith, ap (λ z. i * z) p, ap (λ z. j * z) p, ap (λ z. j * z) a, ap (λ z. i * z) b, ap (λ z. i * z) e)
