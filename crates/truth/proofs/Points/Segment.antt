-- THE CLOSEST POINT OF A SEGMENT in floats of a format, of two coordinates z and r.
use Prim.Native.Nat.{◌*◌, ◌+◌, ◌-◌, ◌<◌, ◌^◌, suc, ℕ, ◌≤◌}
use mathlib.Core.Bool.{false}
use mathlib.Core.Logic.{inl, inr, ◌⊎◌}
use mathlib.Core.Path.{◌≡◌, ap, ap₂, refl, sym, ◌∙◌}
use native.Mathlib.Nat.{le_of_eq, le_of_lt, le_refl, le_trans, mul-le-mul, mul-le-mul_left, mul-le-mul_right, one-mul}
use native.Mathlib.Omega.{arith}
use lib.Dec.{T}
use lib.Ieee.{add, div, Float, Format, low, mul, prec, sub}
use lib.Pow.{pow_pos}
use Rattle.arith.specs.roots.Roots.{hypot}
use Rattle.arith.proofs.roots.Numbers.{decide}
use Rattle.arith.proofs.roots.Rounding.Key.{finite_number, key, mid, unit, unit_pos}
use Rattle.arith.proofs.roots.Rounding.Product.{negative_part, positive_part}
use Rattle.arith.proofs.roots.Rounding.Quotient.{div_key}
use Rattle.arith.proofs.roots.Rounding.RoundKey.{round_key, round_key_mono, round_key_side}
use Rattle.arith.proofs.Laws.Bounded.{Bounded, mid_lt, one_lt, overflow}
use Rattle.arith.proofs.Laws.Bounds.{round_key_within}
use Rattle.arith.proofs.Laws.BoundedValue.{add_value, bounded→value, mul_value, sub_value}
use Rattle.truth.proofs.Points.Coordinate.{power_3, power_4, Scale, sized}
use Rattle.truth.proofs.Points.Dots.{dot_close, length_close}
use Rattle.arith.proofs.Laws.RoundingError.{Close}
use Rattle.truth.proofs.Points.Foot.{before, between, beyond, Loss, nearly}
use Rattle.arith.specs.Whole.{apart}
use Rattle.truth.specs.Exact.{sqd}
use Rattle.truth.proofs.Points.Lagrange.{apart², apart_split, sqd_is}
use Rattle.arith.proofs.Laws.OperationErrors.{add_share, apart_most, apart_over, apart_under, div_share, half, hypot_close}
use Rattle.arith.proofs.Laws.OperationErrors.{RootClose}
use Rattle.truth.proofs.Points.Reported.{never_less, never_more, never_more_short}
use Rattle.truth.proofs.Points.Residual.{high_miss, inner_miss, low_miss}
use Rattle.truth.proofs.Points.Side.{Laid, Side}

-- n n times the square of the exact distance from p to the point of the segment from a to b at i / n, n = i + j
abbrev pub keys² : Format → Float → Float → Float → Float → Float → Float → ℕ → ℕ → ℕ
keys² f az ar bz br pz pr i j =
    sqd ((i + j) * key f pz) (j * key f az + i * key f bz) + sqd ((i + j) * key f pr) (j * key f ar + i * key f br)

-- T' / U is the quotient N / L as rounded, clamped to the part from 0 to 1
pub data Placed (f : Format) (N L : Float) (T' : ℕ) : Type 0 where
  placed_between : key f (div f N L) ≡ mid f + T' → Placed f N L T'
  placed_before : T' ≡ 0 → key f (div f N L) < mid f → Placed f N L T'
  placed_beyond : T' ≡ unit f → mid f + unit f < key f (div f N L) → Placed f N L T'

-- ---- a leg, from what its coordinate says
module _ (M U u K T A D P kl kn kx : ℕ) (s : Side M U u K T A D P kl kn kx) where
  leg_most : U * apart kx M ≤ apart (U * P) (U * A + T * D) + 8 * (u * U)
  leg_most = go kx (apart kx M) (apart_split kx M) (U * P) (U * A + T * D) (apart (U * P) (U * A + T * D)) (apart_over _ _)
      (apart_under _ _) s.x_close
    where
      go : (k z : ℕ) → (M ≡ k + z) ⊎ (k ≡ M + z) → (a b X : ℕ) → a ≤ b + X → b ≤ a + X → Close (k * U + b) (M * U + a) (8 * u * U)
          → U * z ≤ X + 8 * (u * U)
      go k z (inl e) a b X h l c = omega (arith, c.under, ap (λ y. y * U) e)
      go k z (inr e) a b X h l c = omega (arith, c.over, ap (λ y. y * U) e)

  leg_least : apart (U * P) (U * A + T * D) ≤ U * apart kx M + 8 * (u * U)
  leg_least = apart_most (U * P) (U * A + T * D) (U * apart kx M + 8 * (u * U))
      (omega (arith, s.x_close.under, mul-le-mul_right U (apart_over kx M)))
      (omega (arith, s.x_close.over, mul-le-mul_right U (apart_under kx M)))

-- ---- sums of products
module _ (f : Format) (k : ℕ) (x y : Float) (X : Bounded f k x) (Y : Bounded f k y) (over : suc (suc k) < overflow f) where
  pub sum_bounded : Bounded f (suc k) (add f x y)
  sum_bounded = add_value f k k (suc k) (omega arith) (omega arith) (omega arith) (bounded→value f k x X) (bounded→value f k y Y)

  pub sum_share : Close (2 * half f * (key f (add f x y) + mid f)) (2 * half f * (key f x + key f y))
      (apart (key f x) (mid f) + apart (key f y) (mid f))
  sum_share = add_share f x y X.sure Y.sure (apart (key f x) (mid f) + apart (key f y) (mid f))
      (record {
        over = omega (arith, apart_over (key f x) (mid f), apart_over (key f y) (mid f));
        under =
            omega (arith, apart_under (key f x) (mid f), apart_under (key f y) (mid f));
      })
      (le_trans (sizes (apart_most _ _ _ X.upper X.lower) (apart_most _ _ _ Y.upper Y.lower))
      (le_of_lt (mid_lt f (suc k) (omega arith))))
    where
      sizes : {a b : ℕ} → a ≤ 2 ^ k → b ≤ 2 ^ k → a + b ≤ 2 ^ suc k
      sizes h l = omega arith

module _ (f : Format) (e k : ℕ) (S : Scale f e k) (az ar bz br pz pr : Float)
    (Az : Bounded f (prec f + e) az) (Ar : Bounded f (prec f + e) ar) (Bz : Bounded f (prec f + e) bz)
    (Br : Bounded f (prec f + e) br)
    (Pz : Bounded f (prec f + suc e) pz) (Pr : Bounded f (prec f + suc e) pr) where
  abbrev dz : Float
  dz = sub f bz az

  abbrev dr : Float
  dr = sub f br ar

  abbrev wz : Float
  wz = sub f pz az

  abbrev wr : Float
  wr = sub f pr ar

  abbrev dots : Float
  dots = add f (mul f wz dz) (mul f wr dr)

  abbrev squares : Float
  squares = add f (mul f dz dz) (mul f dr dr)

  over : (j : ℕ) → j ≤ suc (suc (suc (suc (prec f + e)))) → j < overflow f
  over j h = let l = S.range in let m : j < overflow f = omega arith in m

  difference : (a b : Float) → Bounded f (prec f + e) a → Bounded f (prec f + suc e) b
      → Bounded f (prec f + suc (suc e)) (sub f b a)
  difference a b A B =
      sub_value f (prec f + suc e) (prec f + e) (prec f + suc (suc e)) (over _ (omega arith)) (omega arith) (omega arith)
      (bounded→value f _ b B) (bounded→value f _ a A)

  direction : (a b : Float) → Bounded f (prec f + e) a → Bounded f (prec f + e) b → Bounded f (prec f + suc e) (sub f b a)
  direction a b A B = sub_value f (prec f + e) (prec f + e) (prec f + suc e) (over _ (omega arith)) (omega arith) (omega arith)
      (bounded→value f _ b B) (bounded→value f _ a A)

  product : (x y : Float) → Bounded f (prec f + suc (suc e)) x → Bounded f (prec f + suc e) y → Bounded f k (mul f x y)
  product x y X Y =
      mul_value f (prec f + suc (suc e)) (prec f + suc e) k (let l = S.sums in omega arith) (let l = S.products in omega arith)
      (bounded→value f _ x X) (bounded→value f _ y Y)

  square : (y : Float) → Bounded f (prec f + suc e) y → Bounded f k (mul f y y)
  square y Y =
      mul_value f (prec f + suc e) (prec f + suc e) k (let l = S.sums in omega arith) (let l = S.products in omega arith)
      (bounded→value f _ y Y) (bounded→value f _ y Y)

  pub dots_bounded : Bounded f (suc k) dots
  dots_bounded = sum_bounded f k (mul f wz dz) (mul f wr dr) (product wz dz (difference az pz Az Pz) (direction az bz Az Bz))
      (product wr dr (difference ar pr Ar Pr) (direction ar br Ar Br)) S.sums

  pub squares_bounded : Bounded f (suc k) squares
  squares_bounded =
      sum_bounded f k (mul f dz dz) (mul f dr dr) (square dz (direction az bz Az Bz)) (square dr (direction ar br Ar Br))
      S.sums

  -- ---- a point of the segment: at T' / U, with the legs xz and xr that were rounded from the point to it
  module _ (T' : ℕ) (foot-place : T' ≤ unit f) (xz xr : Float) (Xz : Bounded f (prec f + suc (suc (suc e))) xz)
      (Xr : Bounded f (prec f + suc (suc (suc e))) xr)
      (laid-z : Laid (mid f) (unit f) (2 ^ e) (half f) T' (key f az) (key f bz) (key f pz) (key f (mul f dz dz))
      (key f (mul f wz dz)) (key f xz))
      (laid-r : Laid (mid f) (unit f) (2 ^ e) (half f) T' (key f ar) (key f br) (key f pr) (key f (mul f dr dr))
      (key f (mul f wr dr)) (key f xr)) where
    abbrev M : ℕ
    M = mid f

    abbrev U : ℕ
    U = unit f

    abbrev u : ℕ
    u = 2 ^ e

    abbrev reported : ℕ
    reported = key f (hypot f xz xr) - mid f

    abbrev exact² : ℕ → ℕ → ℕ
    exact² = keys² f az ar bz br pz pr

    abbrev laid² : ℕ → ℕ → ℕ
    laid² = apart² laid-z.start laid-z.length laid-z.point laid-r.start laid-r.length laid-r.point

    exact_laid : (i j : ℕ) → exact² i j ≡ laid² (i + j) i
    unfolding apart²
    exact_laid i j = ap₂ ◌+◌ (laid-z.same i j) (laid-r.same i j)

    abbrev Z : ℕ
    Z = apart (U * laid-z.point) (U * laid-z.start + T' * laid-z.length)

    abbrev R : ℕ
    R = apart (U * laid-r.point) (U * laid-r.start + T' * laid-r.length)

    at_foot : laid² U T' ≡ Z * Z + R * R
    unfolding apart² sqd
    at_foot = refl

    root : RootClose (apart (key f xz) M * apart (key f xz) M + apart (key f xr) M * apart (key f xr) M) reported (8 * u)
    root = rw (← eight)
        (hypot_close f xz xr (suc (suc (suc e))) Xz.sure Xr.sure (le_of_lt (mid_lt f _ (over _ (omega arith))))
        (sizes (half f) (2 ^ e) (2 ^ (prec f + suc (suc (suc (suc e))))) (power_4 f e)
        (apart (key f xz) M) (apart (key f xr) M) (size (sized f _ 16 (2 ^ e) xz (power_3 f e) Xz))
        (size (sized f _ 16 (2 ^ e) xr (power_3 f e) Xr))))
      where
        eight : 2 ^ suc (suc (suc e)) ≡ 8 * 2 ^ e
        eight = omega arith

        size : {x y g : ℕ} → Close x y g → apart x y ≤ g
        size {x} {y} {g} c = apart_most x y g c.over c.under

        sizes : (K u B : ℕ) → B ≡ 32 * K * u → (x y : ℕ) → x ≤ 16 * K * u → y ≤ 16 * K * u → x * x + y * y ≤ B * B
        sizes K u B e x y h l = rw e (let a = mul-le-mul h h in let b = mul-le-mul l l in omega arith)

    z_most : U * apart (key f xz) M ≤ Z + 8 * (u * U)
    z_most = le_trans (le_of_eq (ap (λ y. U * y) (sym laid-z.size))) (leg_most M U u (half f) T' _ _ _ _ _ _ laid-z.side)

    r_most : U * apart (key f xr) M ≤ R + 8 * (u * U)
    r_most = le_trans (le_of_eq (ap (λ y. U * y) (sym laid-r.size))) (leg_most M U u (half f) T' _ _ _ _ _ _ laid-r.side)

    z_least : Z ≤ U * apart (key f xz) M + 8 * (u * U)
    z_least =
        le_trans (leg_least M U u (half f) T' _ _ _ _ _ _ laid-z.side)
        (le_of_eq (ap (λ y. U * y + 8 * (u * U)) laid-z.size))

    r_least : R ≤ U * apart (key f xr) M + 8 * (u * U)
    r_least =
        le_trans (leg_least M U u (half f) T' _ _ _ _ _ _ laid-r.side)
        (le_of_eq (ap (λ y. U * y + 8 * (u * U)) laid-r.size))

    -- ---- the reported distance is at least that to the foot, which is a point of the segment: never too short by more than 24 u
    pub at_least : exact² T' (U - T') ≤ U * (reported + 24 * u) * (U * (reported + 24 * u))
    at_least =
        le_trans (le_of_eq
        (exact_laid T' (U - T') ∙ ap (λ n. laid² n T') (let q : T' + (U - T') ≡ U = omega (arith, foot-place) in q)
        ∙ at_foot))
        (never_less U u reported (apart (key f xz) M) (apart (key f xr) M) Z R root z_least r_least)

    -- ---- the dot products
    product_z : Bounded f k (mul f wz dz)
    product_z = product wz dz (difference az pz Az Pz) (direction az bz Az Bz)

    product_r : Bounded f k (mul f wr dr)
    product_r = product wr dr (difference ar pr Ar Pr) (direction ar br Ar Br)

    square_z : Bounded f k (mul f dz dz)
    square_z = square dz (direction az bz Az Bz)

    square_r : Bounded f k (mul f dr dr)
    square_r = square dr (direction ar br Ar Br)

    abbrev sizes : ℕ
    sizes = laid-z.length + laid-r.length

    abbrev right : ℕ
    right = laid-z.point * laid-z.length + laid-r.point * laid-r.length

    abbrev left : ℕ
    left = laid-z.start * laid-z.length + laid-r.start * laid-r.length

    abbrev long : ℕ
    long = laid-z.length * laid-z.length + laid-r.length * laid-r.length

    dot : Close (2 * (key f dots * U + left)) (2 * (M * U + right)) (27 * (u * sizes) + 4 * U)
    dot = dot_close M U u (half f) T' S.digits _ _ _ _ _ _ laid-z.side _ _ _ _ _ _ laid-r.side (key f dots)
        (sum_share f k (mul f wz dz) (mul f wr dr) product_z product_r S.sums)

    len : Close (2 * (key f squares * U)) (2 * (M * U + long)) (18 * (u * sizes) + 4 * U)
    len = length_close M U u (half f) T' S.digits _ _ _ _ _ _ laid-z.side _ _ _ _ _ _ laid-r.side (key f squares)
        (sum_share f k (mul f dz dz) (mul f dr dr) square_z square_r S.sums)

    span : long ≤ 4 * half f * (u * sizes)
    span = go _ _ (mul-le-mul_right laid-z.length laid-z.side.span)
        (mul-le-mul_right laid-r.length laid-r.side.span)
      where
        go : (D d : ℕ) → D * D ≤ 4 * half f * u * D → d * d ≤ 4 * half f * u * d → D * D + d * d ≤ 4 * half f * (u * (D + d))
        go D d h l = omega arith

    -- ---- the segment is longer than the threshold, and T' its place as 01 computes it
    module _ (tiny : ℕ) (tiny⁺ : 12 * half f + 30 ≤ tiny) (longer : mid f + tiny < key f squares) where
      small : 3 * U ≤ u * sizes
      small = elim (decide (3 * U) (u * sizes)) [
        | inl l ↦ l
        | inr l ↦ let c : ⊥ =
            clash (half f) (u * sizes) (key f squares) long tiny⁺ (mul-le-mul_right U (le_of_lt longer)) len.over span
            (mul-le-mul_left (half f) (le_of_lt l)) l (unit_pos f) in absurd c
      ]
        where
          clash : (K v L l : ℕ) → 12 * K + 30 ≤ tiny → (M + tiny) * U ≤ L * U → 2 * (L * U) ≤ 2 * (M * U + l) + (18 * v + 4 * U)
              → l ≤ 4 * K * v
              → K * v ≤ K * (3 * U) → v < 3 * U → 0 < U → ⊥
          clash K v L l a b c d e g h = omega (arith, mul-le-mul_right U a)

      positive : 0 < sizes
      positive = elim (decide sizes 0) [
        | inl l ↦
            let z : u * sizes ≤ u * 0 = mul-le-mul_left u l in
            let c : ⊥ = none (u * sizes) u U z small (unit_pos f) in
            absurd c
        | inr l ↦ l
      ]
        where
          none : (s u U : ℕ) → s ≤ u * 0 → 3 * U ≤ s → 0 < U → ⊥
          none s u U h k l = omega arith

      abbrev F : ℕ
      F = key f squares - mid f

      F_is : key f squares ≡ M + F
      F_is = omega (arith, longer)

      F⁺ : 0 < F
      F⁺ = omega (arith, longer)

      squares⁺ : M < key f squares
      squares⁺ = omega (arith, longer)

      dots_sure : T (finite_number f dots)
      dots_sure = dots_bounded.sure

      squares_sure : T (finite_number f squares)
      squares_sure = squares_bounded.sure

      quotient : key f (div f dots squares) ≡ round_key f (positive_part f dots * U) (negative_part f dots * U) F
      quotient = div_key f dots squares dots_sure squares_sure squares⁺

      len' : Close (2 * ((M + F) * U)) (2 * (M * U + long)) (18 * (u * sizes) + 4 * U)
      len' = rw F_is at len

      -- 27 U u for each of the sizes
      bound : 27 * (U * (u * sizes)) ≡ 27 * (U * u) * sizes
      bound = go U (2 ^ e) sizes
        where
          go : (a b c : ℕ) → 27 * (a * (b * c)) ≡ 27 * (a * b) * c
          go a b c = omega arith

      dots_before : key f (div f dots squares) < M → key f dots ≤ M
      dots_before h = elim (decide (key f dots) M) [ inl l ↦ l | inr l ↦ absurd (clash l) ]
        where
          clash : M < key f dots → ⊥
          clash l =
              let z : negative_part f dots ≡ 0 = omega arith in
              let m = round_key_mono f 0 0 F (positive_part f dots * U) (negative_part f dots * U) F F⁺ F⁺
              (rw z (go (positive_part f dots * U) F U)) in
              let n = round_key_side f false 0 0 0 F F⁺ refl in
              omega (arith, quotient)
            where
              go : (a c v : ℕ) → 0 * c + 0 * v * c ≤ a * c + 0 * c
              go a c v = omega arith

      dots_beyond : M + U < key f (div f dots squares) → M + F ≤ key f dots
      dots_beyond h = elim (decide (M + F) (key f dots)) [ inl l ↦ l | inr l ↦ absurd (clash l) ]
        where
          clash : key f dots < M + F → ⊥
          clash l =
              let z : positive_part f dots ≤ F = omega arith in
              let m = round_key_mono f (positive_part f dots * U) (negative_part f dots * U) F (1 * 2 ^ low f * F) 0 F F⁺ F⁺
              (go _ _ z) in
              let n = (round_key_within f (1 * 2 ^ low f * F) 0 F 1 (low f) F⁺ (one_lt f) (omega arith) (omega arith)).1 in
              omega (arith, quotient, one)
            where
              one : 1 * 2 ^ low f ≡ U
              one = unfold unit in one-mul (2 ^ low f)

              go : (a b : ℕ) → a ≤ F → a * U * F + 0 * F ≤ 1 * 2 ^ low f * F * F + b * U * F
              go a b h = rw one (step (mul-le-mul_right (U * F) h))
                where
                  step : a * (U * F) ≤ F * (U * F) → a * U * F + 0 * F ≤ U * F * F + b * U * F
                  step h = omega arith

      inside : key f (div f dots squares) ≡ M + T' → Close (2 * half f * (T' * F + M * U)) (2 * half f * (key f dots * U)) (U * F)
      inside q =
          let c = div_share f dots squares dots_sure squares_sure U (U * F) squares⁺ (omega arith) (omega (arith, foot-place))
          S.one_lt
          (le_refl (U * F)) (mul-le-mul_right F S.one) in
          go (key f (div f dots squares)) q c
        where
          go : (z : ℕ) → z ≡ M + T' → Close (2 * half f * (z * F + M * U)) (2 * half f * (M * F + key f dots * U)) (U * F)
              → Close (2 * half f * (T' * F + M * U)) (2 * half f * (key f dots * U)) (U * F)
          go z e c = step (T') (M) (F) U (half f) (key f dots) (rw e at c)
            where
              step : (t M F U K N : ℕ) → Close (2 * K * ((M + t) * F + M * U)) (2 * K * (M * F + N * U)) (U * F)
                  → Close (2 * K * (t * F + M * U)) (2 * K * (N * U)) (U * F)
              step t M F U K N c = record { over = omega (arith, c.over); under = omega (arith, c.under) }

      loss : Placed f dots squares T' → (n i : ℕ) → i ≤ n → Loss U T' right left long (27 * (U * u) * sizes) n i
      loss (placed_between q) n i h = between U T' right left long (27 * (U * u) * sizes)
          (rw bound at
          (inner_miss M U (u * sizes) (half f) right left long (key f dots) S.digits dot small span F len' T' foot-place
          (inside q))) n i
      loss (placed_before q b) n i h = rw q (before U right left long (27 * (U * u) * sizes)
          (rw bound at
          (low_miss M U (u * sizes) (half f) right left long (key f dots) S.digits dot small span (dots_before b))) n i)
      loss (placed_beyond q b) n i h = rw q (beyond U right left long (27 * (U * u) * sizes)
          (rw bound at
          (high_miss M U (u * sizes) (half f) right left long (key f dots) S.digits dot small span F len' (dots_beyond b)))
          n i h)

      -- ---- the reported distance is at most that to every point of the segment and 64 u more
      pub at_most : Placed f dots squares T' → (i j : ℕ)
          → (i + j) * (reported - 64 * u) * ((i + j) * (reported - 64 * u)) ≤ exact² i j
      at_most place i j =
          let n = i + j in
          let h = nearly laid-z.start laid-z.length laid-z.point laid-r.start laid-r.length laid-r.point U T'
          (27 * (U * u)) positive n i
          (loss place n i (let l : i ≤ i + j = omega arith in l)) in
          le_trans
          (never_more U u n reported (apart (key f xz) M) (apart (key f xr) M) Z R (laid² n i) root z_most r_most (unit_pos f)
          (rw at_foot at h))
          (le_of_eq (sym (exact_laid i j)))

    -- ---- the segment is no longer than the threshold: its first end stands for it
    module _ (tiny : ℕ) (tiny⁻ : 2 * (tiny * unit f) + 4 * unit f ≤ 403 * (2 ^ e * 2 ^ e))
        (shorter : key f squares ≤ mid f + tiny) (start : T' ≡ 0) where
      short : sizes ≤ 31 * u
      short = elim (decide sizes (31 * u)) [
        | inl l ↦ l
        | inr l ↦ absurd (clash u sizes long (pow_pos e) l
            (lengths long laid-z.length laid-r.length (sqd laid-z.length laid-r.length)
            (sqd_is laid-z.length laid-r.length) refl)
            (within (key f squares) long (u * sizes) (mul-le-mul_right U shorter) len.under))
      ]
        where
          within : (k l v : ℕ) → k * U ≤ (M + tiny) * U → 2 * (M * U + l) ≤ 2 * (k * U) + (18 * v + 4 * U)
              → 2 * l ≤ 403 * (2 ^ e * 2 ^ e) + 18 * v
          within k l v h o = omega (arith, tiny⁻)

          lengths : (l D d s : ℕ) → s + 2 * (D * d) ≡ D * D + d * d → l ≡ D * D + d * d → (D + d) * (D + d) ≤ 2 * l
          lengths l D d s h o = omega arith

          clash : (u s l : ℕ) → 0 < u → 31 * u < s → s * s ≤ 2 * l → 2 * l ≤ 403 * (u * u) + 18 * (u * s) → ⊥
          clash u s l h k a b = omega (arith, mul-le-mul_right s (le_of_lt k), mul-le-mul_left u k)

      leg : (A D P n i : ℕ) → i ≤ n → D ≤ sizes
          → n * apart (U * P) (U * A + T' * D) ≤ U * apart (n * P) (n * A + i * D) + 31 * (n * U * u)
      leg A D P n i o l =
          go (U * P) (U * A + T' * D) (apart (U * P) (U * A + T' * D)) (apart_split _ _) refl (rw start (first (U * A) D))
          (n * P) (n * A + i * D) (apart (n * P) (n * A + i * D)) (apart_over _ _) (apart_under _ _) refl refl
          (mul-le-mul o (le_trans l short))
        where
          first : (a D : ℕ) → a + 0 * D ≡ a
          first a D = omega arith

          go : (x y s : ℕ) → (y ≡ x + s) ⊎ (x ≡ y + s) → x ≡ U * P → y ≡ U * A → (p q v : ℕ) → p ≤ q + v → q ≤ p + v → p ≡ n * P
              → q ≡ n * A + i * D
              → i * D ≤ n * (31 * u) → n * s ≤ U * v + 31 * (n * U * u)
          go x y s (inl e) a b p q v h k c d m = omega (
            arith,
            ap (λ z. n * z) e,
            ap (λ z. n * z) a,
            ap (λ z. n * z) b,
            mul-le-mul_left U k,
            mul-le-mul_left U m,
            ap (λ z. U * z) c,
            ap (λ z. U * z) d,
          )
          go x y s (inr e) a b p q v h k c d m = omega (
            arith,
            ap (λ z. n * z) e,
            ap (λ z. n * z) a,
            ap (λ z. n * z) b,
            mul-le-mul_left U h,
            mul-le-mul_left U m,
            ap (λ z. U * z) c,
            ap (λ z. U * z) d,
          )

      pub at_most_short : (i j : ℕ) → (i + j) * (reported - 64 * u) * ((i + j) * (reported - 64 * u)) ≤ exact² i j
      at_most_short i j =
          let n = i + j in
          let l : i ≤ i + j = omega arith in
          le_trans
          (never_more_short U u n reported (apart (key f xz) M) (apart (key f xr) M) Z R (laid² n i) root z_most r_most
          (unit_pos f)
          (apart (n * laid-z.point) (n * laid-z.start + i * laid-z.length))
          (apart (n * laid-r.point) (n * laid-r.start + i * laid-r.length))
          (unfold apart² sqd in refl)
          (leg laid-z.start laid-z.length laid-z.point n i l (first laid-z.length laid-r.length))
          (leg laid-r.start laid-r.length laid-r.point n i l (second laid-z.length laid-r.length)))
          (le_of_eq (sym (exact_laid i j)))
        where
          first : (a b : ℕ) → a ≤ a + b
          first a b = omega arith

          second : (a b : ℕ) → b ≤ a + b
          second a b = omega arith
