-- 01'S TWO SEGMENTS, the second a side of a box: what closest_places takes is true across the side, and the distance reported
-- exceeds the exact one by at most ε and 109 u where the places are not at a corner; where they are, if the corner's own distance
-- to the edge is true. x is the coordinate along the side, y the one across: Segments has the side along z and the side along r.
use Prim.Native.Nat.{◌*◌, ◌+◌, ◌-◌, ◌<◌, ◌^◌, ℕ, ◌≤◌}
use mathlib.Core.Bool.{Bool, cond, false, not, true}
use mathlib.Core.Logic.{inl, inr, ◌⊎◌}
use mathlib.Core.Path.{◌≡◌, refl, subst, sym, ◌∙◌}
use native.Mathlib.Nat.{le_of_mul-le-mul_left, le_trans, mul-le-mul, mul-le-mul_left, mul-le-mul_right}
use native.Mathlib.Omega.{arith}
use lib.Dec.{T, T_not}
use lib.Ieee.{add, binary64, div, Float, Format, neg}
use lib.Pow.{pow_pos}
use Rattle.arith.specs.roots.Roots.{hypot}
use Rattle.arith.proofs.roots.Rounding.Key.{finite_number, key, mid, unit, unit_pos}
use Rattle.arith.proofs.roots.Rounding.KeyOrder.{lt→key}
use Rattle.arith.proofs.roots.Rounding.Quotient.{div_key}
use Rattle.arith.proofs.roots.Rounding.RoundKey.{round_key_same}
use Rattle.arith.proofs.roots.Rounding.Sum.{add_key}
use Rattle.arith.proofs.Laws.Exact.{round_key_self}
use Rattle.arith.specs.F64.{◌⊕◌, ◌⊖◌, ◌⊗◌, ◌⊘◌, ◌≺◌, ◌≼◌, 𝟘, 𝟙, e_18, e_24}
use Rattle.arith.specs.Num.{abs}
use Rattle.arith.proofs.Laws.Quotients.{div_finite, inside, InUnit, over_e_24, zero_in_unit}
use Rattle.arith.proofs.Laws.Sizes.{add_finite, Finite, finite_number_lem, finite_raise, K, M, mul_finite, one_finite, zero_finite}
use Rattle.arith.proofs.Laws.Sizes.{zero_key}
use Rattle.arith.proofs.Laws.Sizes.{zero_number}
use Rattle.section.proofs.profile.Steps.{pick}
use Rattle.section.specs.segments.Segments.{closest_places, places, unit_clamp}
use Rattle.section.specs.declared.segments.shapes.Places.{Places}
use Rattle.arith.specs.Whole.{apart}
use Rattle.truth.proofs.Points.Lagrange.{apart_split}
use Rattle.arith.proofs.Laws.RoundingError.{Close}
use Rattle.arith.proofs.Laws.OperationErrors.{apart_most, apart_over, apart_under}
use Rattle.truth.proofs.Boxes.Axis.{axis_good, axis_over, clear_first, clear_last, e_positive}
use Rattle.truth.proofs.Boxes.Lengths.{Dots}
use Rattle.truth.proofs.Boxes.Axis.{together}
use Rattle.truth.proofs.Boxes.Lengths.{Side}
use Rattle.truth.proofs.Boxes.OnSide.{facing_of, measured_xy, measured_yx}
use Rattle.truth.proofs.Boxes.Beside.{beside², clear_facing, Facing, FromCorner}
use Rattle.truth.proofs.Boxes.Floats.{H, no_product, U}
use Rattle.truth.proofs.Boxes.Taken.{Good, one_key}
use Rattle.truth.proofs.Boxes.Turns.{Between}

-- one coordinate's difference at the places s and t
abbrev pub leg : Float → Float → Float → Float → Float → Float → Float
leg p p'' q q' s t = (p ⊕ (p'' ⊖ p) ⊗ s) ⊖ (q ⊕ (q' ⊖ q) ⊗ t)

-- what is reported for two places is the hypotenuse of the two, in either order
pub record Legs (ax bx ay by qx q'x qy q'y : Float) (report : Places → Float) : Type 0 where
  pub either : (s t : Float) → (report (places s t) ≡ hypot binary64 (leg ax bx qx q'x s t) (leg ay by qy q'y s t))
      ⊎ (report (places s t) ≡ hypot binary64 (leg ay by qy q'y s t) (leg ax bx qx q'x s t))

-- w units exceed the exact distance from no point of the edge, i / (i + j) along it, to a point of the side, x / m along it, by
-- more than η. A, B and Q are the edge's ends and the side across it, a, b, q and q' along it
pub record Clear (η w A B Q a b q q' : ℕ) : Type 0 where
  pub proof : (i j m x : ℕ) → Between m q q' x
      → (i + j) * m * (w - η) * ((i + j) * m * (w - η)) ≤ beside² A B Q a b i j m x

pub clear_wider : (η θ w A B Q a b q q' : ℕ) → η ≤ θ → Clear η w A B Q a b q q' → Clear θ w A B Q a b q q'
clear_wider η θ w A B Q a b q q' h c = record { proof = λ i j m x o. le_trans (narrower (i + j) m) (c.proof i j m x o) }
  where
    narrower : (n m : ℕ) → n * m * (w - θ) * (n * m * (w - θ)) ≤ n * m * (w - η) * (n * m * (w - η))
    narrower n m = let l = mul-le-mul_left (n * m) (let o : w - θ ≤ w - η = omega arith in o) in mul-le-mul l l

-- ---- WHATEVER THE SIDE'S LENGTH, of what is reported, w: it is clear of the side; or true of one of the side's ends; or it was
-- measured from the edge's first end, which lies beside the side, and is no more than how far that is from the side's line
pub data Seen (η δ u w A B Q a b q q' : ℕ) : Type 0 where
  of_side : Clear η w A B Q a b q q' → Seen η δ u w A B Q a b q q'
  of_first : FromCorner δ w A B Q a b q → Seen η δ u w A B Q a b q q'
  of_last : FromCorner δ w A B Q a b q' → Seen η δ u w A B Q a b q q'
  of_end : apart a q ≤ apart q' q + 51 * u → w ≤ apart A Q + 109 * u → Seen η δ u w A B Q a b q q'

-- the place 0 and what was computed from it
along_end : (U u a b q q' k W : ℕ) → 0 < U → k ≡ 0 → W ≤ U → Close (U * a + b * k + q * W) (a * k + U * q + q' * W) (51 * (u * U))
    → apart a q ≤ apart q' q + 51 * u
along_end U u a b q q' k W p e l c = apart_most a q _
    (le_of_mul-le-mul_left (over (apart q' q) (apart_over q' q) c.over) p)
    (le_of_mul-le-mul_left (under (apart q' q) (apart_under q' q) c.under) p)
  where
    over : (h : ℕ) → q' ≤ q + h → U * a + b * k + q * W ≤ a * k + U * q + q' * W + 51 * (u * U) → U * a ≤ U * (q + (h + 51 * u))
    over h m = rw e (λ n. omega (arith, mul-le-mul_right W m, mul-le-mul_left h l))

    under : (h : ℕ) → q ≤ q' + h → a * k + U * q + q' * W ≤ U * a + b * k + q * W + 51 * (u * U) → U * q ≤ U * (a + (h + 51 * u))
    under h m = rw e (λ n. omega (arith, mul-le-mul_right W m, mul-le-mul_left h l))

across_end : (U A B Q k w d : ℕ) → 0 < U → k ≡ 0 → U * w ≤ apart ((U - k) * A + k * B) ((U - k + k) * Q) + U * d
    → w ≤ apart A Q + d
across_end U A B Q k w d p e = rw (e, first, second) (λ h. go (apart_split (U * A) (U * Q)) h)
  where
    first : (U - 0) * A + 0 * B ≡ U * A
    first = let g : U - 0 ≡ U = omega arith in rw g (omega arith)

    second : U - 0 + 0 ≡ U
    second = omega arith

    go : (U * Q ≡ U * A + apart (U * A) (U * Q)) ⊎ (U * A ≡ U * Q + apart (U * A) (U * Q)) → U * w ≤ apart (U * A) (U * Q) + U * d
        → w ≤ apart A Q + d
    go (inl f) h = le_of_mul-le-mul_left (step (apart (U * A) (U * Q)) (apart A Q) f h (apart_under A Q)) p
      where
        step : (x y : ℕ) → U * Q ≡ U * A + x → U * w ≤ x + U * d → Q ≤ A + y → U * w ≤ U * (y + d)
        step x y f h l = omega (arith, mul-le-mul_left U l)
    go (inr f) h = le_of_mul-le-mul_left (step (apart (U * A) (U * Q)) (apart A Q) f h (apart_over A Q)) p
      where
        step : (x y : ℕ) → U * A ≡ U * Q + x → U * w ≤ x + U * d → A ≤ Q + y → U * w ≤ U * (y + d)
        step x y f h l = omega (arith, mul-le-mul_left U l)

-- ---- nothing added, and what equal numbers are divided by
add_nothing : (f : Format) (x y : Float) → T (finite_number f x) → T (finite_number f y) → key f x ≡ mid f
    → key f (add f x y) ≡ key f y
add_nothing f x y X Y h = add_key f x y X Y ∙ round_key_same f (key f x + key f y) (mid f + mid f) 1 (key f y) (mid f) 1
    (pow_pos 0) (pow_pos 0)
    (go (key f x) (key f y) (mid f) h) ∙ round_key_self f y Y
  where
    go : (x y m : ℕ) → x ≡ m → (x + y) * 1 + m * 1 ≡ y * 1 + (m + m) * 1
    go x y m e = omega arith

same_quotient : (f : Format) (x y d : Float) → T (finite_number f x) → T (finite_number f y) → T (finite_number f d)
    → mid f < key f d
    → key f x ≡ key f y → key f (div f x d) ≡ key f (div f y d)
same_quotient f x y d X Y D d⁺ h = rw (div_key f x d X D d⁺, div_key f y d Y D d⁺, h) refl

module _ (e : ℕ) (ax bx ay by qx q'x qy q'y : Float) (side : Side e ax bx ay by qx q'x qy q'y) (a b c e' f : Float)
    (dots : Dots ax bx ay by qx q'x qy q'y a b c e' f) (report : Places → Float) (legs : Legs ax bx ay by qx q'x qy q'y report)
    (ε : ℕ) (ε⁺ : 1024 * (H * 2 ^ e * 2 ^ e) ≤ ε * ε) (δ : ℕ) (wide : T (not (e' ≼ e_24))) where
  abbrev Reported : ℕ → Places → Type 0
  Reported η at = Clear η (K (report at) - M) (K ay) (K by) (K qy) (K ax) (K bx) (K qx) (K q'x)

  abbrev η : ℕ
  η = ε + (δ + 109 * 2 ^ e)

  wider : (θ : ℕ) (at : Places) → θ ≤ η → Reported θ at → Reported η at
  wider θ at = clear_wider θ η (K (report at) - M) (K ay) (K by) (K qy) (K ax) (K bx) (K qx) (K q'x)

  less : (γ : ℕ) → γ ≤ 109 → ε + (δ + γ * 2 ^ e) ≤ η
  less γ l = go ε δ (2 ^ e)
    where
      go : (ε δ u : ℕ) → ε + (δ + γ * u) ≤ ε + (δ + 109 * u)
      go ε δ u = omega (arith, mul-le-mul_right u l)

  abbrev AtFirst : Float → Type 0
  AtFirst d = FromCorner δ (K d - M) (K ay) (K by) (K qy) (K ax) (K bx) (K qx)

  abbrev AtLast : Float → Type 0
  AtLast d = FromCorner δ (K d - M) (K ay) (K by) (K qy) (K ax) (K bx) (K q'x)

  -- ---- s, a place on the edge, and t, the place on the side that is computed from it
  module _ (s t : Float) (s⁺ : InUnit s) (t_is : K ((b ⊗ s ⊕ f) ⊘ e') ≡ K t) (t⁺ : InUnit t) where
    abbrev Measured : Float → Type 0
    Measured d = U * (K d - M) ≤ apart ((U - (K s - M)) * K ay + (K s - M) * K by)
        ((U - (K s - M) + (K s - M)) * K qy) + U * (109 * 2 ^ e)

    measured : Measured (report (places s t))
    measured = go (legs.either s t)
      where
        go : (report (places s t) ≡ hypot binary64 (leg ax bx qx q'x s t) (leg ay by qy q'y s t))
            ⊎ (report (places s t) ≡ hypot binary64 (leg ay by qy q'y s t) (leg ax bx qx q'x s t))
            → Measured (report (places s t))
        go (inl h) = subst (λ (d : Float). Measured d) (sym h)
            (measured_xy e ax bx ay by qx q'x qy q'y side s t s⁺ t⁺
            (together e ax bx ay by qx q'x qy q'y side a b c e' f dots s s⁺ t t⁺ t_is))
        go (inr h) = subst (λ (d : Float). Measured d) (sym h)
            (measured_yx e ax bx ay by qx q'x qy q'y side s t s⁺ t⁺
            (together e ax bx ay by qx q'x qy q'y side a b c e' f dots s s⁺ t t⁺ t_is))

    abbrev Here : Places → Type 0
    Here at = Seen η δ (2 ^ e) (K (report at) - M) (K ay) (K by) (K qy) (K ax) (K bx) (K qx) (K q'x)

    -- measured from the edge's first end
    from_end : K s ≡ M → Here (places s t)
    from_end h = of_end
        (along_end U (2 ^ e) (K ax) (K bx) (K qx) (K q'x) (K s - M) (K t - M) (unit_pos binary64) (none (K s) M h) most
        (together e ax bx ay by qx q'x qy q'y side a b c e' f dots s s⁺ t t⁺ t_is))
        (across_end U (K ay) (K by) (K qy) (K s - M) _ (109 * 2 ^ e) (unit_pos binary64) (none (K s) M h) measured)
      where
        none : (k m : ℕ) → k ≡ m → k - m ≡ 0
        none k m e = omega arith

        most : K t - M ≤ U
        most = go (K t) M U (unfold unit in t⁺.most.bounded.upper)
          where
            go : (k m c : ℕ) → k ≤ m + c → k - m ≤ c
            go k m c h = omega arith

  -- ---- where s loses at most ε across the side
  module _ (s t : Float) (good : Good ε (K ay) (K by) (K qy) s) (t_is : K ((b ⊗ s ⊕ f) ⊘ e') ≡ K t)
      (t_finite : Finite 180 t) where
    facing_at : InUnit t → Facing (ε + 109 * 2 ^ e) (K (report (places s t)) - M) (K ay) (K by) (K qy)
    facing_at i = facing_of e ax bx ay by qx q'x qy q'y side s t good.in_unit i
        (together e ax bx ay by qx q'x qy q'y side a b c e' f dots s good.in_unit t i t_is) ε _ good.best
        (measured s t good.in_unit t_is i)

    -- THE NEAR-PARALLEL CASE, in which something is lost: neither place is moved to a corner. Nothing is asked of the corners
    on_side : T (not (t ≺ 𝟘)) → T (not (𝟙 ≺ t)) → Reported η (places s t)
    on_side l h = wider (ε + 109 * 2 ^ e) (places s t) (more ε δ (109 * 2 ^ e)) (record {
      proof = λ k j m x o. clear_facing (ε + 109 * 2 ^ e) _ (K ay) (K by) (K qy) (facing_at (inside t_finite l h)) (K ax) (K bx) k
          j m x;
    })
      where
        more : (ε δ u : ℕ) → ε + u ≤ ε + (δ + u)
        more ε δ u = omega arith

    -- whatever is reported of a corner that t lies beyond, if it is true of the corner
    before : (at : Places) → AtFirst (report at) → T (t ≺ 𝟘) → Reported η at
    before at corner l = wider (ε + (δ + 31 * 2 ^ e)) at (less 31 (let z : 31 ≤ 109 = omega arith in z)) (record {
      proof = clear_first e ax bx ay by qx q'x qy q'y side a b c e' f dots s good.in_unit ε δ _ good.best corner
          (rw (t_is) (rw zero_key at (lt→key binary64 t 𝟘 (finite_number_lem t_finite) zero_number l)));
    })

    after : (at : Places) → AtLast (report at) → T (𝟙 ≺ t) → Reported η at
    after at corner l = wider (ε + (δ + 51 * 2 ^ e)) at (less 51 (let z : 51 ≤ 109 = omega arith in z)) (record {
      proof = clear_last e ax bx ay by qx q'x qy q'y side a b c e' f dots s good.in_unit ε δ _ good.best corner
          (rw (t_is) (rw one_key at (lt→key binary64 𝟙 t (finite_number_lem one_finite) (finite_number_lem t_finite) l)));
    })

  -- ---- THE DISTANCE OF THE TWO SEGMENTS. Of the corners' own distances it is asked that they be true within δ
  -- where the edge is not so short that 1e-24 counts
  module _ (long : T (not (a ≼ e_24))) where
    abbrev den : Float
    den = a ⊗ e' ⊖ b ⊗ b

    -- the place on the edge
    abbrev s : Float
    s = cond (e_18 ≺ abs den) (unit_clamp ((b ⊗ f ⊖ c ⊗ e') ⊘ den)) 𝟘

    -- the place on the side
    abbrev t : Float
    t = (b ⊗ s ⊕ f) ⊘ e'

    t_finite : InUnit s → Finite 180 t
    t_finite i = finite_raise (div_finite top dots.e_dots.finite (over_e_24 dots.e_dots.finite wide) tt tt) {m = 180} tt
      where
        top : Finite 60 (b ⊗ s ⊕ f)
        top = finite_raise (add_finite (mul_finite dots.b_dots.finite i.most tt) dots.f_dots.finite tt) {m = 60} tt

    module _ (first : AtFirst (report (places (unit_clamp (neg c ⊘ a)) 𝟘)))
        (last : AtLast (report (places (unit_clamp ((b ⊖ c) ⊘ a)) 𝟙))) where
      -- ACROSS THE SIDE THE PLACE ON THE EDGE LOSES AT MOST ε
      by_good : Good ε (K ay) (K by) (K qy) s → Reported η (closest_places a b c e' f)
      unfolding closest_places
      by_good good =
          pick (Reported η) (a ≼ e_24) (λ h. absurd (T_not (a ≼ e_24) long h))
          (λ h. pick (Reported η) (e' ≼ e_24) (λ k. absurd (T_not (e' ≼ e_24) wide k))
          (λ k. pick (Reported η) (t ≺ 𝟘) (before s t good refl (t_finite good.in_unit) _ first)
          (λ l. pick (Reported η) (𝟙 ≺ t) (after s t good refl (t_finite good.in_unit) _ last)
          (on_side s t good refl (t_finite good.in_unit) l))))

      pub clear : (K e_18 - M) * (U * (U * U)) ≤ 500 * (H * 2 ^ e * 2 ^ e * (apart (K q'x) (K qx) * apart (K q'x) (K qx)))
          → Reported η (closest_places a b c e' f)
      clear tiny = by_good (axis_good e ax bx ay by qx q'x qy q'y side a b c e' f dots tiny ε ε⁺)

      abbrev Any : Places → Type 0
      Any at = Seen η δ (2 ^ e) (K (report at) - M) (K ay) (K by) (K qy) (K ax) (K bx) (K qx) (K q'x)

      -- the first end
      by_zero : K s ≡ M → InUnit s → Any (closest_places a b c e' f)
      unfolding closest_places
      by_zero z i =
          pick Any (a ≼ e_24) (λ h. absurd (T_not (a ≼ e_24) long h))
          (λ h. pick Any (e' ≼ e_24) (λ k. absurd (T_not (e' ≼ e_24) wide k))
          (λ k. pick Any (t ≺ 𝟘) (λ l. of_first first)
          (λ l. pick Any (𝟙 ≺ t) (λ o. of_last last) (λ o. from_end s t i refl (inside (t_finite i) l o) z))))

      pub seen : Any (closest_places a b c e' f)
      seen = go (e_18 ≺ abs den) (axis_over e ax bx ay by qx q'x qy q'y side a b c e' f dots ε ε⁺) by_good by_zero
        where
          go : (n : Bool) {x : Float} → (T n → Good ε (K ay) (K by) (K qy) x)
              → (Good ε (K ay) (K by) (K qy) (cond n x 𝟘) → Reported η (closest_places a b c e' f))
              → (K (cond n x 𝟘) ≡ M → InUnit (cond n x 𝟘) → Any (closest_places a b c e' f)) → Any (closest_places a b c e' f)
          go true g f z = of_side (f (g tt))
          go false g f z = z zero_key zero_in_unit

  -- where it is: its first end stands for it
  module _ (short : T (a ≼ e_24)) (good : Good ε (K ay) (K by) (K qy) 𝟘) where
    abbrev place : Float
    place = f ⊘ e'

    place_finite : Finite 180 place
    place_finite = finite_raise (div_finite dots.f_dots.finite dots.e_dots.finite (over_e_24 dots.e_dots.finite wide)
        tt tt)
        {m = 180} tt

    place_is : K ((b ⊗ 𝟘 ⊕ f) ⊘ e') ≡ K place
    place_is = same_quotient binary64 (b ⊗ 𝟘 ⊕ f) f e'
        (add_finite (mul_finite dots.b_dots.finite (zero_finite 0) tt) dots.f_dots.finite tt).bounded.sure
        dots.f_dots.finite.bounded.sure dots.e_dots.finite.bounded.sure
        (e_positive e ax bx ay by qx q'x qy q'y side a b c e' f dots 𝟘 zero_in_unit)
        (add_nothing binary64 (b ⊗ 𝟘) f (mul_finite dots.b_dots.finite (zero_finite 0) tt).bounded.sure
        dots.f_dots.finite.bounded.sure (no_product b 𝟘 (finite_raise dots.b_dots.finite {m = 200} tt) (zero_finite 200)
        zero_key))

    pub clear_short : AtFirst (report (places 𝟘 𝟘)) → AtLast (report (places 𝟘 𝟙)) → Reported η (closest_places a b c e' f)
    unfolding closest_places
    clear_short first last =
        pick (Reported η) (a ≼ e_24)
        (λ h. pick (Reported η) (e' ≼ e_24) (λ k. absurd (T_not (e' ≼ e_24) wide k))
        (λ k. pick (λ (t : Float). Reported η (places 𝟘 t)) (place ≺ 𝟘) (before 𝟘 place good place_is place_finite _ first)
        (λ l. pick (λ (t : Float). Reported η (places 𝟘 t)) (𝟙 ≺ place) (after 𝟘 place good place_is place_finite _ last)
        (on_side 𝟘 place good place_is place_finite l))))
        (λ h. absurd (T_not (a ≼ e_24) h short))
