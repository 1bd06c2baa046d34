-- A SECTION WHOSE RADII ARE 0 OR AT LEAST 1/128 mm IS PLAIN: from 1/128 mm on, f64s are whole multiples of 2 ^ -59 mm, which is
-- more than 1e-18.
use Prim.Native.Nat.{◌*◌, ◌+◌, ◌-◌, ◌<◌, ◌^◌, suc, ℕ, ◌≤◌}
use mathlib.Core.Bool.{◌&&◌, ◌||◌, Bool, false, not, true}
use mathlib.Core.List.{List}
use mathlib.Core.Logic.{inl, inr, ◌⊎◌}
use mathlib.Core.Path.{◌≡◌, ap, refl, subst, sym, ◌∙◌}
use native.Mathlib.Nat.{eq-or-lt_of_le, le_of_eq, le_of_mul-le-mul_left, le_trans, lt_irrefl, lt_of_lt_of_le, mul_assoc}
use native.Mathlib.Nat.{mul-le-mul_left, mul-le-mul_right}
use native.Mathlib.Omega.{arith}
use lib.Dec.{eqb, eqb→eq, eqb_refl, leb→le, not_T, T, T_not}
use lib.Ieee.{binary64, eq, fits, Float, is_nan, neg, of_bits, prec}
use lib.Pow.{pow-add, pow_mono, pow_pos}
use Rattle.arith.proofs.roots.Numbers.{decide}
use Rattle.arith.proofs.roots.Rounding.Key.{finite_number, key, key_is, magnitude, mid, negative, number, number_of, representable_of}
use Rattle.arith.proofs.roots.Rounding.Key.{side, unit}
use Rattle.arith.proofs.roots.Rounding.KeyOrder.{eq_key, key→lt, le→key, lt→key, nlt→key}
use Rattle.arith.proofs.roots.Rounding.Sum.{neg_key, sub_number}
use Rattle.arith.specs.F64.{◌⊖◌, ◌≺◌, ◌≼◌, 𝟘, e_9, e_18}
use Rattle.arith.specs.Num.{abs}
use Rattle.arith.proofs.Laws.Sizes.{e_9_finite, e_18_finite, finite_number_lem, K, M, zero_finite, zero_key}
use Rattle.arith.proofs.Laws.Bounded.{Bounded}
use Rattle.arith.proofs.Laws.Extended.{neg_number}
use Rattle.arith.specs.Whole.{apart}
use Rattle.truth.specs.Solid.{plain, plain_edge, sound, sound_radius, ¹⁄₁₂₈}
use Rattle.arith.proofs.Laws.RoundingError.{Close}
use Rattle.arith.proofs.Laws.OperationErrors.{apart_most, half, sub_share}
use Rattle.truth.proofs.Sides.Sight.{ahead, back, down_most, down_share, up_least, up_share}
use Rattle.section.specs.profile.Vertices.{any, count, end_at, next, vertex_at}
use Rattle.section.specs.declared.profile.shapes.Vertex.{Vertex}
use Rattle.section.specs.points.Points.{edge_is_surface}
use Rattle.section.proofs.Demand.Hits.{next_below}
use Rattle.truth.proofs.Points.Closest.{Within}
use Rattle.section.proofs.profile.Steps.{any_found, any_not, pick}

-- a key not below that of 2 ^ -7 is zero's and a multiple of 2 ^ 1015
record Grid (x : Float) : Type 0 where
  pub times : ℕ
  pub is : K x ≡ M + times * 2 ^ 1015

-- what has no more than P digits and is 2 ^ (P + g) or more
multiple : (P g q j : ℕ) → q < 2 ^ P → 2 ^ (P + g) ≤ q * 2 ^ j → (m : ℕ) × (q * 2 ^ j ≡ m * 2 ^ suc g)
multiple P g q j h l = go (decide j g)
  where
    go : (j ≤ g) ⊎ (g < j) → (m : ℕ) × (q * 2 ^ j ≡ m * 2 ^ suc g)
    go (inl k) = absurd (never (2 ^ P) (2 ^ j) (2 ^ g) (pow_pos j) h (le_trans (le_of_eq (sym (pow-add 2 P g))) l) (pow_mono k))
      where
        never : (p x y : ℕ) → 0 < x → q < p → p * y ≤ q * x → x ≤ y → ⊥
        never p x y x⁺ h l k = omega (arith, mul-le-mul_right x h, mul-le-mul_left p k)
    go (inr k) = (
      q * 2 ^ (j - suc g),
      ap (λ z. q * 2 ^ z) (split k) ∙ ap (λ z. q * z) (pow-add 2 (j - suc g) (suc g))
          ∙ sym (mul_assoc q (2 ^ (j - suc g)) (2 ^ suc g)),
    )
      where
        split : g < j → j ≡ j - suc g + suc g
        split h = omega arith

positive_key : (x : Float) → M < K x → K x ≡ M + magnitude binary64 x
positive_key x h = key_is binary64 x ∙ go (negative x) (subst (λ z. M < z) (key_is binary64 x) h)
  where
    go : (s : Bool) → M < side M s (magnitude binary64 x) → side M s (magnitude binary64 x) ≡ M + magnitude binary64 x
    go false h = refl
    go true h = let c : ⊥ = omega arith in absurd c

least : M + 2 ^ (prec binary64 + 1014) ≤ K ¹⁄₁₂₈
unfolding mid key magnitude unit of_bits
least = leb→le _ _ tt

part_number : T (number binary64 ¹⁄₁₂₈)
unfolding of_bits fits is_nan
part_number = tt

sound_grid : (x : Float) → T (finite_number binary64 x) → T (sound_radius x) → Grid x
sound_grid x X h = go (eq x 𝟘) (¹⁄₁₂₈ ≼ x) zero big h
  where
    none : (m g : ℕ) → m ≡ m + 0 * g
    none m g = omega arith

    zero : T (eq x 𝟘) → Grid x
    zero t = record {
      times = 0;
      is =
          eqb→eq (K x) (K 𝟘) (subst T (eq_key binary64 x 𝟘 (number_of binary64 x X) (finite_number_lem (zero_finite 0))) t) ∙ zero_key
          ∙ none M (2 ^ 1015);
    }

    big : T (¹⁄₁₂₈ ≼ x) → Grid x
    big t =
        let l = le_trans least (le→key binary64 ¹⁄₁₂₈ x part_number (number_of binary64 x X) t) in
        let R = representable_of binary64 x X in
        let e = positive_key x (above M (2 ^ (prec binary64 + 1014)) (K x) (pow_pos (prec binary64 + 1014)) l) in
        let m = multiple (prec binary64) 1014 R.q R.j R.short
        (le_trans (reach M (2 ^ (prec binary64 + 1014)) (K x) (magnitude binary64 x) l e) (le_of_eq R.whole)) in
        record { times = m.0; is = e ∙ ap (λ z. M + z) (R.whole ∙ m.1) }
      where
        above : (m c k : ℕ) → 0 < c → m + c ≤ k → m < k
        above m c k p l = omega arith

        reach : (m c k n : ℕ) → m + c ≤ k → k ≡ m + n → c ≤ n
        reach m c k n l e = omega arith

    go : (a b : Bool) → (T a → Grid x) → (T b → Grid x) → T (a || b) → Grid x
    go true b f g h = f tt
    go false b f g h = g h

-- ---- two of them are the same, or 2 ^ 1015 apart
differ : (m g a b x y : ℕ) → x ≡ m + a * g → y ≡ m + b * g → (x ≡ y) ⊎ ((x + g ≤ y) ⊎ (y + g ≤ x))
differ m g a b x y p q = elim (decide a b) [
  | inl l ↦ elim (eq-or-lt_of_le l)
      [ inl e ↦ inl (p ∙ ap (λ t. m + t * g) e ∙ sym q) | inr l ↦ inr (inl (omega (arith, mul-le-mul_right g l))) ]
  | inr l ↦ inr (inr (omega (arith, mul-le-mul_right g l)))
]

-- the rounded difference is hardly less
hardly : (H X o g : ℕ) → 8 ≤ H → Close (2 * H * o) (2 * H * X) X → 16 * g ≤ X → 15 * g ≤ o
hardly H X o g h c l =
    le_of_mul-le-mul_left (step (2 * H) (let k : 16 ≤ 2 * H = omega arith in k) c.under) (let k : 0 < 2 * H = omega arith in k)
  where
    step : (k : ℕ) → 16 ≤ k → k * X ≤ k * o + X → k * (15 * g) ≤ k * o
    step k h e = omega (arith, mul-le-mul_left k l, mul-le-mul_right X h)

abs_over : (x : Float) → T (number binary64 x) → (c : ℕ) → (M + c ≤ K x) ⊎ (K x + c ≤ M) → M + c ≤ K (abs x)
abs_over x X c h =
    pick (λ y. M + c ≤ K y) (x ≺ 𝟘) (λ t. low (lt→key binary64 x 𝟘 X (finite_number_lem (zero_finite 0)) t) h)
    (λ t. high (nlt→key binary64 x 𝟘 X (finite_number_lem (zero_finite 0)) t) h)
  where
    low : K x < K 𝟘 → (M + c ≤ K x) ⊎ (K x + c ≤ M) → M + c ≤ K (neg x)
    low l (inl h) = let z : K x < M = lt_of_lt_of_le l (le_of_eq zero_key) in let q : ⊥ = omega arith in absurd q
    low l (inr h) = omega (arith, neg_key binary64 x X)

    high : K 𝟘 ≤ K x → (M + c ≤ K x) ⊎ (K x + c ≤ M) → M + c ≤ K x
    high l (inl h) = h
    high l (inr h) = let z : M ≤ K x = le_trans (le_of_eq (sym zero_key)) l in omega arith

abs_number : (x : Float) → T (number binary64 x) → T (number binary64 (abs x))
abs_number x X = pick (λ y. T (number binary64 y)) (x ≺ 𝟘) (λ t. neg_number binary64 x X) (λ t. X)

e_18_less : K e_18 < M + 15 * 2 ^ 1011
unfolding mid key magnitude unit of_bits
e_18_less = leb→le _ _ tt

module _ (a b : Float) (A : Bounded binary64 1094 a) (B : Bounded binary64 1094 b) (G : Grid a) (L : Grid b) where
  abbrev den : Float
  den = b ⊖ a

  range : 2 ^ 1094 ≤ M
  range = unfold mid in leb→le _ _ tt

  share : Close (2 * half binary64 * (K den + K a)) (2 * half binary64 * (M + K b)) (apart (K b) (K a))
  share = sub_share binary64 b a B.sure A.sure (le_trans (apart_most (K b) (K a) (2 ^ 1094)
      (within (K b) (K a) M (2 ^ 1094) (L.times * 2 ^ 1015) (G.times * 2 ^ 1015) B.upper G.is)
      (within (K a) (K b) M (2 ^ 1094) (G.times * 2 ^ 1015) (L.times * 2 ^ 1015) A.upper L.is)) range)
    where
      within : (x y m h i j : ℕ) → x ≤ m + h → y ≡ m + j → x ≤ y + h
      within x y m h i j l e = omega arith

  digits : 8 ≤ half binary64
  digits = unfold half in leb→le _ _ tt

  den_number : T (number binary64 den)
  den_number = sub_number binary64 b a B.sure A.sure

  apart_up : K a + 2 ^ 1015 ≤ K b → M + 15 * 2 ^ 1011 ≤ K den
  apart_up l =
      let X = K b - K a in
      let e : K b ≡ K a + X = whole (K a) (K b) (2 ^ 1015) l in
      let c = ahead (half binary64) M (K a) (K den) X digits (K b) e share in
      let o = up_least (half binary64) M (K a) (K den) X digits c in
      let f = up_share (half binary64) M (K a) (K den) X digits (K den - M) (there (K den) M o) c in
      back_up (K den) M (15 * 2 ^ 1011) o
      (hardly (half binary64) X (K den - M) (2 ^ 1011) digits f (sixteen (K a) (K b) (2 ^ 1011) (2 ^ 1015) l refl))
    where
      whole : (x y g : ℕ) → x + g ≤ y → y ≡ x + (y - x)
      whole x y g l = omega arith

      there : (k m : ℕ) → m ≤ k → k ≡ m + (k - m)
      there k m l = omega arith

      back_up : (k m c : ℕ) → m ≤ k → c ≤ k - m → m + c ≤ k
      back_up k m c l h = omega arith

      sixteen : (x y g h : ℕ) → x + h ≤ y → h ≡ 16 * g → 16 * g ≤ y - x
      sixteen x y g h l e = omega arith

  apart_down : K b + 2 ^ 1015 ≤ K a → K den + 15 * 2 ^ 1011 ≤ M
  apart_down l =
      let X = K a - K b in
      let e : K a ≡ K b + X = whole (K b) (K a) (2 ^ 1015) l in
      let c = back (half binary64) M (K b) (K den) X digits (K a) e share in
      let o = down_most (half binary64) M (K b) (K den) X digits c in
      let f = down_share (half binary64) M (K b) (K den) X digits (M - K den) (there (K den) M o) c in
      back_down (K den) M (15 * 2 ^ 1011) o
      (hardly (half binary64) X (M - K den) (2 ^ 1011) digits f (sixteen (K b) (K a) (2 ^ 1011) (2 ^ 1015) l refl))
    where
      whole : (x y g : ℕ) → x + g ≤ y → y ≡ x + (y - x)
      whole x y g l = omega arith

      there : (k m : ℕ) → k ≤ m → k + (m - k) ≡ m
      there k m l = omega arith

      back_down : (k m c : ℕ) → k ≤ m → c ≤ m - k → k + c ≤ m
      back_down k m c l h = omega arith

      sixteen : (x y g h : ℕ) → x + h ≤ y → h ≡ 16 * g → 16 * g ≤ y - x
      sixteen x y g h l e = omega arith

  -- the radii are the same, or not too near
  steep_or_same : (K a ≡ K b) ⊎ T (not (abs den ≼ e_18))
  steep_or_same = elim (differ M (2 ^ 1015) G.times L.times (K a) (K b) G.is L.is) [
    | inl e ↦ inl e
    | inr (inl l) ↦ inr (over (inl (apart_up l)))
    | inr (inr l) ↦ inr (over (inr (apart_down l)))
  ]
    where
      over : (M + 15 * 2 ^ 1011 ≤ K den) ⊎ (K den + 15 * 2 ^ 1011 ≤ M) → T (not (abs den ≼ e_18))
      over h = not_T (abs den ≼ e_18) (λ t. lt_irrefl (K e_18) (lt_of_lt_of_le e_18_less
          (le_trans (abs_over den den_number (15 * 2 ^ 1011) h)
          (le→key binary64 (abs den) e_18 (abs_number den den_number) (finite_number_lem e_18_finite) t))))

-- ---- an edge, and a section
either : (a b : Bool) → T a ⊎ T b → T (a || b)
either true b h = tt
either false b (inl h) = absurd h
either false b (inr h) = h

neither : (a b : Bool) → T (not (a || b)) → (T a → ⊥) × (T b → ⊥)
neither true b h = absurd h
neither false true h = absurd h
neither false false h = ((λ t. t), (λ t. t))

both : (a b : Bool) → T a → T b → T (a && b)
both true true h k = tt
both true false h k = k
both false b h k = h

or_split : (a b : Bool) → T (a || b) → T a ⊎ T b
or_split true b h = inl tt
or_split false b h = inr h

e_9_less : K e_9 < M + 2 ^ (prec binary64 + 1014)
unfolding mid key magnitude unit of_bits
e_9_less = leb→le _ _ tt

-- a radius that is sound and within 1e-9 is 0
on_axis : (x : Float) → T (finite_number binary64 x) → T (sound_radius x) → (T (e_9 ≺ abs x) → ⊥) → T (eq x 𝟘)
on_axis x X h f = elim (or_split (eq x 𝟘) (¹⁄₁₂₈ ≼ x) h) [
  | inl t ↦ t
  | inr t ↦ absurd
      (f (key→lt binary64 e_9 (abs x) (finite_number_lem e_9_finite) (abs_number x (number_of binary64 x X)) (lt_of_lt_of_le e_9_less
      (abs_over x (number_of binary64 x X) (2 ^ (prec binary64 + 1014))
      (inl (le_trans least (le→key binary64 ¹⁄₁₂₈ x part_number (number_of binary64 x X) t)))))))
]

sound_edge : (a b : Vertex) → Bounded binary64 1094 a.r → Bounded binary64 1094 b.r → T (sound_radius a.r)
    → T (sound_radius b.r) → T (plain_edge a b)
sound_edge a b A B g h = pick T (edge_is_surface a b)
    (λ t. either (eq a.r b.r) (not (abs (b.r ⊖ a.r) ≼ e_18))
    (elim (steep_or_same a.r b.r A B (sound_grid a.r A.sure g) (sound_grid b.r B.sure h)) [
      | inl e ↦ inl
          (subst T (sym
          (eq_key binary64 a.r b.r (number_of binary64 a.r A.sure) (number_of binary64 b.r B.sure)))
          (subst (λ z. T (eqb (K a.r) z)) e (eqb_refl (K a.r))))
      | inr n ↦ inr n
    ]))
    (λ t. let n = neither (e_9 ≺ abs a.r) (e_9 ≺ abs b.r) t in
    both (eq a.r 𝟘) (eq b.r 𝟘) (on_axis a.r A.sure g n.0) (on_axis b.r B.sure h n.1))

pub sound_plain : (s : List Float) → ((m : ℕ) → m < count s → Within 1041 (vertex_at s m)) → T (sound s) → T (plain s)
unfolding sound plain
sound_plain s S h = not_T (any (λ k. not (plain_edge (vertex_at s k) (end_at s k))) (count s)) (λ t.
    let z = any_found (λ k. not (plain_edge (vertex_at s k) (end_at s k))) (count s) t in
    T_not (plain_edge (vertex_at s z.0) (end_at s z.0)) z.2 (at z.0 z.1))
  where
    is_sound : (m : ℕ) → m < count s → T (sound_radius (vertex_at s m).r)
    is_sound m l = go (sound_radius (vertex_at s m).r) (any_not (λ k. not (sound_radius (vertex_at s k).r)) (count s) h m l)
      where
        go : (b : Bool) → (T (not b) → ⊥) → T b
        go true f = tt
        go false f = absurd (f tt)

    at : (m : ℕ) → m < count s → T (plain_edge (vertex_at s m) (end_at s m))
    at m l = sound_edge (vertex_at s m) (end_at s m) (S m l).r (S (next (count s) m) (next_below (count s) m l)).r (is_sound m l)
        (is_sound (next (count s) m) (next_below (count s) m l))
