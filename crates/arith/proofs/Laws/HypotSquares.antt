-- A hypot is no less than b where the sum of its legs' squares, as rounded, exceeds b's square with a margin for the roundings. By the
-- share that a rounding errs by: if the exact sum were below b's square, the rounded one could not exceed it so far.
use Rattle.std.proofs.Common.{◌≡◌, ℕ, ◌+◌, ◌-◌, ◌*◌, ◌^◌, ◌<◌, ◌≤◌, min, Bool, true, false, T, sym, refl, ap, ◌∙◌, subst, inl, inr, le_trans, le_of_eq, lt_of_lt_of_le, lt_of_le_of_lt, le_of_lt, zero-lt-suc, mul-le-mul_left, zero-add, zero-mul, not-le_of_lt, arith, leb→le, le-ltb}
use native.Mathlib.Nat.{mul-sub}
use lib.Ieee.{add, binary64, fin, fits, Float, Format, inf, lt, mul, nan, of_bits, prec}
use lib.Ieee.Fits.{and_i}
use Rattle.arith.specs.roots.Roots.{hypot}
use Rattle.arith.proofs.roots.Numbers.{decide}
use Rattle.arith.proofs.roots.Root.Sticky.{square_lt}
use Rattle.arith.proofs.roots.Rounding.Fraction.{rounded}
use Rattle.arith.proofs.roots.Rounding.Key.{finite_inside, finite_number, key, key_is, magnitude, mid, mid_pos, negative}
use Rattle.arith.proofs.roots.Rounding.Key.{inf_key, number_of, prec_pos, representable_of, side, unit, unit_pos}
use Rattle.arith.proofs.roots.Rounding.KeyOrder.{lt_key, lt→key}
use Rattle.arith.proofs.roots.Rounding.Product.{mul_number, positive_part, negative_part}
use Rattle.arith.proofs.roots.Rounding.RoundKey.{round_key, round_key_side}
use Rattle.arith.proofs.roots.Rounding.Sum.{add_key, add_number}
use Rattle.arith.proofs.Laws.Hypot.{hypot_comm, hypot_infinite, hypot_number, infinite, Kind, kind, usual}
use Rattle.arith.proofs.Laws.HypotKey.{hypot_is, key_size_magnitude}
use Rattle.arith.proofs.Laws.HypotReach.{at_most, no_number_less}
use Rattle.arith.proofs.Laws.Monotone.{key_size, square_key, square_key_mono, times_key}
use Rattle.arith.proofs.Laws.OrderHeld.{inf_not_less, none_above_inf, not_less_minus_inf, not_less_nan, true→T}
use Rattle.arith.proofs.Laws.RootKey.{root_ge}
use Rattle.arith.proofs.Laws.Share.{rounded_least, rounded_most, sums_ordered}

-- ---- v is finite, and a smallest values of the format
record Size (f : Format) (v : Float) (a : ℕ) : Type 0 where
  pub sure : T (finite_number f v)
  pub place : key f v ≡ mid f + a

module _ (f : Format) where
  pub key_below : (v : Float) → T (finite_number f v) → key f v < mid f + mid f
  key_below v p = rw (key_is f v) (go (negative v) (representable_of f v p).small)
    where
      go : (s : Bool) → magnitude f v < mid f → side (mid f) s (magnitude f v) < mid f + mid f
      go false h = omega arith
      go true h = omega arith

  -- the rounding of n / c, where it is finite
  plain : (n c : ℕ) → 0 < c → round_key f n 0 c ≡ mid f + min (mid f) (rounded (prec f) n c)
  plain n c C = round_key_side f false n n 0 c C (sym (zero-add n))

  plain_ge : (v : Float) (n c : ℕ) → 0 < c → key f v ≡ round_key f n 0 c → mid f ≤ key f v
  plain_ge v n c C e = rw (e, plain n c C) (omega arith)

  size_of : (v : Float) (n c : ℕ) → 0 < c → T (finite_number f v) → key f v ≡ round_key f n 0 c
      → Size f v (rounded (prec f) n c)
  size_of v n c C p e =
      let k = e ∙ plain n c C in
      let l = key_below v p in
      record { sure = p; place = omega arith }

  square_size : (x : Float) → T (finite_number f x) → T (finite_number f (mul f x x))
      → Size f (mul f x x) (rounded (prec f) (key_size f x * key_size f x) (unit f))
  square_size x p q = size_of (mul f x x) (key_size f x * key_size f x) (unit f) (unit_pos f) q (square_key f x p)

  times_key_size : (v c : Float) (a b : ℕ) → Size f v a → Size f c b → key f (mul f v c) ≡ round_key f (a * b) 0 (unit f)
  times_key_size v c a b h k =
      let x : positive_part f v ≡ a = omega (arith, h.place) in
      let y : positive_part f c ≡ b = omega (arith, k.place) in
      let z : negative_part f v ≡ 0 = omega (arith, h.place) in
      times_key f v c h.sure k.sure (omega (arith, k.place)) ∙ rw (x, y, z, zero-mul b)

  sum_key : (v w : Float) (a b : ℕ) → Size f v a → Size f w b
      → key f (add f v w) ≡ mid f + min (mid f) (rounded (prec f) (a + b) 1)
  sum_key v w a b h k = add_key f v w h.sure k.sure ∙ round_key_side f false (a + b) (key f v + key f w)
      (mid f + mid f) 1 (zero-lt-suc 0) (omega (arith, h.place, k.place))

cut_mono : (M s r : ℕ) → s ≤ r → M + min M s ≤ M + min M r
cut_mono M s r h = omega arith

-- ---- the margin: c is at least 1 + 10 / K, for a K that the format's digits tell apart, e at least 4096 smallest values
pub record Margin (f : Format) (c e : Float) : Type 0 where
  pub K : ℕ
  pub least : 16 ≤ K
  pub digits : K ≤ 2 ^ (prec f - 1)
  pub factor : T (finite_number f c)
  pub factor_ge : (K + 10) * unit f + K * mid f ≤ K * key f c
  pub factor_pos : mid f ≤ key f c
  pub factor_inf : mul f (inf false) c ≡ inf false
  pub rest : T (finite_number f e)
  pub rest_ge : mid f + 4096 ≤ key f e
  pub rest_inf : add f (inf false) e ≡ inf false

-- b² c + e, and x² + y², as rounded
abbrev pub bound : Format → Float → Float → Float → Float
bound f c e b = add f (mul f (mul f b b) c) e

abbrev pub total : Format → Float → Float → Float
total f x y = add f (mul f x x) (mul f y y)

module _ (f : Format) (c e : Float) (m : Margin f c e) where
  -- nothing exceeds an infinite bound
  over_inf : (v w : Float) → v ≡ inf false → T (lt v w) → ⊥
  over_inf v w q h = none_above_inf w (subst (λ (z : Float). T (lt z w)) q h)

  plus_inf : (v : Float) (s : Bool) → v ≡ inf s → mid f ≤ key f v → v ≡ inf false
  plus_inf v false q h = q
  plus_inf v true q h = absurd (not-le_of_lt (mid_pos f) (le_trans (subst (λ (z : Float). mid f ≤ key f z) q h)
      (le_of_eq (inf_key f true ∙ gone (mid f)))))
    where
      gone : (M : ℕ) → M - M ≡ 0
      gone M = omega arith

  module _ (x y b : Float) (X : T (finite_number f x)) (Y : T (finite_number f y)) (B : T (finite_number f b))
      (less : key_size f x * key_size f x + key_size f y * key_size f y < key_size f b * key_size f b) where
    square_ge : (z : Float) → T (finite_number f z) → mid f ≤ key f (mul f z z)
    square_ge z Z = plain_ge f (mul f z z) (key_size f z * key_size f z) (unit f) (unit_pos f) (square_key f z Z)

    -- the squares of x and y are no more than b's, so finite where that is
    part : (z : Float) → T (finite_number f z) → key_size f z * key_size f z < key_size f b * key_size f b
        → T (finite_number f (mul f b b)) → T (finite_number f (mul f z z))
    part z Z l p = finite_inside f (mul f z z) (mul_number f z z Z Z)
        (lt_of_lt_of_le (mid_pos f) (square_ge z Z))
        (lt_of_le_of_lt (square_key_mono f z b Z B (le_of_lt (square_lt (key_size f z) (key_size f b) l))) (key_below f (mul f b b) p))

    factor : Size f c (key f c - mid f)
    factor = record { sure = m.factor; place = omega (arith, m.factor_pos) }

    scaled_key : (p : T (finite_number f (mul f b b))) → key f (mul f (mul f b b) c)
        ≡ round_key f (rounded (prec f) (key_size f b * key_size f b) (unit f) * (key f c - mid f)) 0 (unit f)
    scaled_key p = times_key_size f (mul f b b) c (rounded (prec f) (key_size f b * key_size f b) (unit f))
        (key f c - mid f) (square_size f b B p) factor

    scaled_ge : T (finite_number f (mul f b b)) → mid f ≤ key f (mul f (mul f b b) c)
    scaled_ge p = plain_ge f (mul f (mul f b b) c)
        (rounded (prec f) (key_size f b * key_size f b) (unit f) * (key f c - mid f)) (unit f) (unit_pos f) (scaled_key p)

    -- both sides are finite up to the last sum
    ordered : T (finite_number f (mul f b b)) → T (finite_number f (mul f (mul f b b) c))
        → key f (total f x y) ≤ key f (bound f c e b)
    ordered p q =
        let n = prec f in
        let U = unit f in
        let xx = key_size f x * key_size f x in
        let yy = key_size f y * key_size f y in
        let bb = key_size f b * key_size f b in
        let C = key f c - mid f in
        let E = key f e - mid f in
        let P = rounded n bb U in
        let Q = rounded n (P * C) U in
        let A₁ = rounded n xx U in
        let A₂ = rounded n yy U in
        let rest : Size f e E = record { sure = m.rest; place = omega (arith, m.rest_ge) } in
        let scaled = size_of f (mul f (mul f b b) c) (P * C) U (unit_pos f) q (scaled_key p) in
        let first = square_size f x X (part x X (omega arith) p) in
        let second = square_size f y Y (part y Y (omega arith) p) in
        rw (
          sum_key f (mul f x x) (mul f y y) A₁ A₂ first second,
          sum_key f (mul f (mul f b b) c) e Q E scaled rest,
        )
        (cut_mono (mid f) (rounded n (A₁ + A₂) 1) (rounded n (Q + E) 1)
        (sums_ordered m.K U xx yy bb A₁ A₂ (rounded n (A₁ + A₂) 1) P (P * C) Q (rounded n (Q + E) 1) E m.least
        (unit_pos f) less (most xx U (unit_pos f)) (most yy U (unit_pos f)) (most (A₁ + A₂) 1 (zero-lt-suc 0))
        (least bb U (unit_pos f)) (scale m.K P U C (share m.K m.factor_ge)) (least (P * C) U (unit_pos f))
        (least (Q + E) 1 (zero-lt-suc 0)) (omega (arith, m.rest_ge))))
      where
        most : (a u : ℕ) → 0 < u
            → 2 * (m.K * (rounded (prec f) a u * u)) ≤ 2 * (m.K * a) + rounded (prec f) a u * u + m.K * u
        most a u h = rounded_most m.K (prec f) a u (prec_pos f) m.digits h

        least : (a u : ℕ) → 0 < u
            → 2 * (m.K * a) ≤ 2 * (m.K * (rounded (prec f) a u * u)) + rounded (prec f) a u * u + m.K * u
        least a u h = rounded_least m.K (prec f) a u (prec_pos f) m.digits h

        scale : (K P U C : ℕ) → (K + 10) * U ≤ K * C → (K + 10) * (P * U) ≤ K * (P * C)
        scale K P U C h = let k = mul-le-mul_left P h in omega arith

        share : (K : ℕ) → (K + 10) * unit f + K * mid f ≤ K * key f c → (K + 10) * unit f ≤ K * (key f c - mid f)
        share K h = rw (mul-sub K (key f c) (mid f)) (omega arith)

    -- so the sum does not exceed the bound
    not_over : T (lt (bound f c e b) (total f x y)) → ⊥
    not_over h = squared (kind f (mul f b b) (mul_number f b b B B))
      where
        scaled : T (finite_number f (mul f b b)) → Kind f (mul f (mul f b b) c) → ⊥
        scaled p (infinite s q) = over_inf (bound f c e b) (total f x y)
            (ap (λ (v : Float). add f v e) (plus_inf (mul f (mul f b b) c) s q (scaled_ge p)) ∙ m.rest_inf) h
        scaled p (usual r q) = not-le_of_lt
            (lt→key f (bound f c e b) (total f x y) (add_number f (mul f (mul f b b) c) e q m.rest)
            (add_number f (mul f x x) (mul f y y) (part x X (omega arith) p) (part y Y (omega arith) p)) h)
            (ordered p q)

        squared : Kind f (mul f b b) → ⊥
        squared (infinite s q) = over_inf (bound f c e b) (total f x y)
            (ap (λ (v : Float). add f (mul f v c) e) (plus_inf (mul f b b) s q (square_ge b B))
            ∙ ap (λ (v : Float). add f v e) m.factor_inf ∙ m.rest_inf) h
        squared (usual r p) = scaled p (kind f (mul f (mul f b b) c) (mul_number f (mul f b b) c p m.factor))

  -- either b's square is no more than the sum of squares, or the test fails
  of_finite : (x y b : Float) → T (finite_number f x) → T (finite_number f y) → T (finite_number f b)
      → T (lt (bound f c e b) (total f x y)) → lt (hypot f x y) b ≡ false
  of_finite x y b X Y B h =
      elim (decide (key_size f b * key_size f b) (key_size f x * key_size f x + key_size f y * key_size f y)) [
        | inl k ↦ lt_key f (hypot f x y) b (hypot_number f x y (number_of f x X) (number_of f y Y)) (number_of f b B)
            ∙ le-ltb (key f (hypot f x y)) (key f b) (reaches k)
        | inr k ↦ absurd (not_over x y b X Y B k h)
      ]
    where
      reaches : key_size f b * key_size f b ≤ key_size f x * key_size f x + key_size f y * key_size f y
          → key f b ≤ key f (hypot f x y)
      reaches k =
          let r = representable_of f b B in
          let w = key_size_magnitude f b B ∙ r.whole in
          rw (hypot_is f x y X Y, key_is f b)
          (le_trans (at_most (mid f) (magnitude f b) (negative b))
          (le_trans (le_of_eq (ap (λ (z : ℕ). mid f + z) r.whole))
          (root_ge f (key_size f x * key_size f x + key_size f y * key_size f y) r.q r.j r.short
          (le_trans (le_of_eq (sym r.whole)) (le_of_lt r.small))
          (le_trans (le_of_eq (ap (λ (z : ℕ). z * z) (sym w))) k))))

  -- of any values that the format holds
  pub squares_not_less : (b x y : Float) → fits f b ≡ true → T (fits f x) → T (fits f y)
      → lt (bound f c e b) (total f x y) ≡ true → lt (hypot f x y) b ≡ false
  squares_not_less b x nan p q r h = no_number_less f b x
  squares_not_less b x (inf t) p q r h = rw (hypot_comm f x (inf t), hypot_infinite f t x) (inf_not_less b)
  squares_not_less b nan (fin t n j) p q r h = rw (hypot_comm f nan (fin t n j)) (no_number_less f b (fin t n j))
  squares_not_less b (inf s) (fin t n j) p q r h = rw (hypot_infinite f s (fin t n j)) (inf_not_less b)
  squares_not_less nan (fin s u i) (fin t n j) p q r h = not_less_nan (hypot f (fin s u i) (fin t n j))
  squares_not_less (inf true) (fin s u i) (fin t n j) p q r h = not_less_minus_inf (hypot f (fin s u i) (fin t n j))
  squares_not_less (inf false) (fin s u i) (fin t n j) p q r h = absurd (over_inf (bound f c e (inf false))
      (total f (fin s u i) (fin t n j)) (unfold mul in (ap (λ (v : Float). add f v e) m.factor_inf ∙ m.rest_inf)) (true→T h))
  squares_not_less (fin a v k) (fin s u i) (fin t n j) p q r h =
      of_finite (fin s u i) (fin t n j) (fin a v k) (and_i (fits f (fin s u i)) true q tt)
      (and_i (fits f (fin t n j)) true r tt) (and_i (fits f (fin a v k)) true (true→T p) tt) (true→T h)

-- the margin of 1.0000000000001 and 1e-300
pub margin : Margin binary64 (of_bits binary64 0x3ff00000000001c2) (of_bits binary64 0x1a56e1fc2f8f359)
unfolding unit mid key magnitude fits of_bits mul add
margin = record {
  K = 2 ^ 48;
  least = leb→le _ _ tt;
  digits = leb→le _ _ tt;
  factor = tt;
  factor_ge = leb→le _ _ tt;
  factor_pos = leb→le _ _ tt;
  factor_inf = refl;
  rest = tt;
  rest_ge = leb→le _ _ tt;
  rest_inf = refl;
}
