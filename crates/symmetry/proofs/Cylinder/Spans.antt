-- The least and the greatest radius of a rectangle see neither the sign of a zero nor a mirror: hypot is blind to signs, and the
-- greatest of four values of one sign does not depend on their order. By keys.
use Prim.Native.Nat.{◌+◌, ◌^◌}
use mathlib.Core.Bool.{Bool, cond, false, not, true}
use mathlib.Core.Path.{ap, refl, sym, ◌∙◌, ◌≡◌}
use native.Mathlib.Omega.{arith}
use lib.Dec.{T}
use lib.Ieee.{binary64, fin, Float, inf, is_nan, nan, neg}
use Rattle.arith.specs.F64.{◌≺◌, ◌≼◌, 𝟘}
use Rattle.arith.specs.Num.{max as greater}
use Rattle.arith.specs.roots.Roots.{hypot, ticks}
use Rattle.arith.proofs.roots.Rounding.Key.{negative, number}
use Rattle.arith.proofs.Laws.Exact.{key_unique}
use Rattle.arith.proofs.Laws.Order.{max_key}
use Rattle.arith.proofs.Laws.Hypot.{hypot_plus, inf_number}
use Rattle.arith.proofs.Laws.RootKey.{root_number}
use lib.Ieee.Scale.{finite}
use Rattle.walk.specs.bands.Band.{radius_span, span, closest_to_zero}
use Rattle.walk.specs.declared.bands.shapes.Span.{Span}
use Rattle.symmetry.specs.Alike.{Like, same, zeros}
use Rattle.symmetry.proofs.Floats.Written.{Equal, equal_cond, equal_hypot, equal_lt, one}
use Rattle.symmetry.proofs.Floats.Like.{like_cond, like_lt, like_trans}
use Rattle.symmetry.proofs.Floats.Signs.{kept, lt_neg, Sized, sized_hypot, turned, zero_is}

abbrev h : Float → Float → Float
h = hypot binary64

-- ---- the closest to 0
closest_to_zero_like : {lo lo' hi hi' : Float} → Like lo lo' → Like hi hi' → Like (closest_to_zero lo hi) (closest_to_zero lo' hi')
closest_to_zero_like {lo} {lo'} {hi} {hi'} l k =
    rw (like_lt (same {x = 𝟘}) l, like_lt k (same {x = 𝟘}))
    (like_cond (𝟘 ≺ lo') l (like_cond (hi' ≺ 𝟘) k same))

closest_to_zero_equal : {lo lo' hi hi' : Float} → Equal lo lo' → Equal hi hi' → Equal (closest_to_zero lo hi) (closest_to_zero lo' hi')
closest_to_zero_equal {lo} {lo'} {hi} {hi'} l k =
    rw (equal_lt (one (same {x = 𝟘})) l, equal_lt k (one (same {x = 𝟘})))
    (equal_cond (𝟘 ≺ lo') l (equal_cond (hi' ≺ 𝟘) k (one same)))

zero_like_neg : Like 𝟘 (neg 𝟘)
zero_like_neg = rw zero_is (unfold neg in zeros)

above_neg : (x : Float) → (𝟘 ≺ neg x) ≡ (x ≺ 𝟘)
above_neg x = like_lt zero_like_neg (same {x = neg x}) ∙ lt_neg 𝟘 x

below_neg : (x : Float) → (neg x ≺ 𝟘) ≡ (𝟘 ≺ x)
below_neg x = like_lt (same {x = neg x}) zero_like_neg ∙ lt_neg x 𝟘

-- not both above and below 0
abbrev pub Ordered : Float → Float → Type 0
Ordered lo hi = T (𝟘 ≺ lo) → T (hi ≺ 𝟘) → ⊥

closest_to_zero_neg : (lo hi : Float) → Ordered lo hi → Like (closest_to_zero (neg hi) (neg lo)) (neg (closest_to_zero lo hi))
closest_to_zero_neg lo hi o = rw (above_neg hi, below_neg lo) (go (𝟘 ≺ lo) (hi ≺ 𝟘) o)
  where
    go : (p q : Bool) → (T p → T q → ⊥)
        → Like (cond q (neg hi) (cond p (neg lo) 𝟘)) (neg (cond p lo (cond q hi 𝟘)))
    go true true o = absurd (o tt tt)
    go true false o = same
    go false true o = same
    go false false o = zero_like_neg

closest_to_zero_turned : {lo' hi' : Float} (lo hi : Float) → Ordered lo hi → Like lo' (neg hi) → Like hi' (neg lo)
    → Sized (closest_to_zero lo' hi') (closest_to_zero lo hi)
closest_to_zero_turned lo hi o l k = turned (like_trans (closest_to_zero_like l k) (closest_to_zero_neg lo hi o))

-- ---- the greatest of four numbers of one sign
record Plain (x : Float) : Type 0 where
  pub sure : T (number binary64 x)
  pub plus : negative x ≡ false

plain_max : {a b : Float} → Plain a → Plain b → Plain (greater a b)
plain_max {a} {b} A B = go (b ≼ a)
  where
    go : (t : Bool) → Plain (cond t a b)
    go true = A
    go false = B

max_comm : {a b : Float} → Plain a → Plain b → greater a b ≡ greater b a
max_comm {a} {b} A B =
    key_unique binary64 (greater a b) (greater b a) (plain_max A B).sure (plain_max B A).sure
    ((plain_max A B).plus ∙ sym (plain_max B A).plus)
    (omega (arith, max_key binary64 a b A.sure B.sure, max_key binary64 b a B.sure A.sure))

max_assoc : {a b c : Float} → Plain a → Plain b → Plain c → greater (greater a b) c ≡ greater a (greater b c)
max_assoc {a} {b} {c} A B C =
    let L = plain_max (plain_max A B) C in
    let R = plain_max A (plain_max B C) in
    key_unique binary64 _ _ L.sure R.sure (L.plus ∙ sym R.plus)
    (omega (
      arith,
      max_key binary64 a b A.sure B.sure,
      max_key binary64 b c B.sure C.sure,
      max_key binary64 (greater a b) c (plain_max A B).sure C.sure,
      max_key binary64 a (greater b c) A.sure (plain_max B C).sure,
    ))

greatest : Float → Float → Float → Float → Float
greatest a b c d = greater (greater (greater a b) c) d

-- four of one sign, or four NaN
data Four (a b c d : Float) : Type 0 where
  plain : Plain a → Plain b → Plain c → Plain d → Four a b c d
  none : a ≡ nan → b ≡ nan → c ≡ nan → d ≡ nan → Four a b c d

pairs_swapped : {a b c d : Float} → Four a b c d → greatest c d a b ≡ greatest a b c d
unfolding greatest
pairs_swapped (plain A B C D) =
    max_assoc (plain_max C D) A B ∙ max_comm (plain_max C D) (plain_max A B) ∙ sym (max_assoc (plain_max A B) C D)
pairs_swapped (none p q r s) = rw (p, q, r, s)

each_swapped : {a b c d : Float} → Four a b c d → greatest b a d c ≡ greatest a b c d
unfolding greatest
each_swapped {a} {b} {c} {d} (plain A B C D) =
    ap (λ (z : Float). greater (greater z d) c) (max_comm B A)
    ∙ max_assoc (plain_max A B) D C ∙ ap (λ (z : Float). greater (greater a b) z) (max_comm D C)
    ∙ sym (max_assoc (plain_max A B) C D)
each_swapped (none p q r s) = rw (p, q, r, s)

-- two heights: both NaN, or neither
pub data Heights (y0 y1 : Float) : Type 0 where
  numbers : T (not (is_nan y0)) → T (not (is_nan y1)) → Heights y0 y1
  nans : y0 ≡ nan → y1 ≡ nan → Heights y0 y1

hypot_plain : (x y : Float) → T (finite x) → T (not (is_nan y)) → Plain (h x y)
unfolding hypot is_nan
hypot_plain x y p q = record { sure = go x y p q; plus = hypot_plus binary64 x y }
  where
    go : (x y : Float) → T (finite x) → T (not (is_nan y)) → T (number binary64 (h x y))
    go nan y p q = absurd p
    go (inf s) y p q = absurd p
    go (fin s m e) nan p q = absurd q
    go (fin s m e) (inf t) p q = inf_number binary64 false
    go (fin s m e) (fin t n d) p q =
        root_number binary64 (ticks binary64 (fin s m e) ^ 2 + ticks binary64 (fin t n d) ^ 2)

hypot_nan : (x y : Float) → T (finite x) → y ≡ nan → h x y ≡ nan
unfolding hypot
hypot_nan x y p e = ap (h x) e ∙ go x p
  where
    go : (x : Float) → T (finite x) → h x nan ≡ nan
    go nan p = refl
    go (inf s) p = absurd p
    go (fin s m e) p = refl

module _ (x0 x1 y0 y1 : Float) (p : T (finite x0)) (q : T (finite x1)) (k : Heights y0 y1) where
  four : Four (h x0 y0) (h x0 y1) (h x1 y0) (h x1 y1)
  four = by k
    where
      by : Heights y0 y1 → Four (h x0 y0) (h x0 y1) (h x1 y0) (h x1 y1)
      by (numbers u v) = plain (hypot_plain x0 y0 p u) (hypot_plain x0 y1 p v) (hypot_plain x1 y0 q u) (hypot_plain x1 y1 q v)
      by (nans u v) = none (hypot_nan x0 y0 p u) (hypot_nan x0 y1 p v) (hypot_nan x1 y0 q u) (hypot_nan x1 y1 q v)

-- ---- the span of a rectangle
abbrev span_by : Float → Float → Float → Float → Float → Span
span_by lo a b c d = span lo (greater (greater (greater a b) c) d)

span_by_lem : {l l' a a' b b' c c' d d' : Float} → l ≡ l' → a ≡ a' → b ≡ b' → c ≡ c' → d ≡ d'
    → span_by l a b c d ≡ span_by l' a' b' c' d'
span_by_lem i p q r s = rw (i, p, q, r, s)

pub rectangle_like : {x0 x0' x1 x1' y0 y0' y1 y1' : Float} → Equal x0 x0' → Equal x1 x1' → Like y0 y0' → Like y1 y1'
    → radius_span x0 x1 y0 y1 ≡ radius_span x0' x1' y0' y1'
rectangle_like a b c d =
    span_by_lem (equal_hypot binary64 (closest_to_zero_equal a b) (one (closest_to_zero_like c d))) (equal_hypot binary64 a (one c))
    (equal_hypot binary64 a (one d)) (equal_hypot binary64 b (one c)) (equal_hypot binary64 b (one d))

module _ (x0 x1 y0 y1 : Float) (p : T (finite x0)) (q : T (finite x1)) (k : Heights y0 y1) where
  -- x0' .. x1' is x0 .. x1 mirrored
  pub rectangle_turned_x : {x0' x1' : Float} → Ordered x0 x1 → Like x0' (neg x1) → Like x1' (neg x0)
      → radius_span x0' x1' y0 y1 ≡ radius_span x0 x1 y0 y1
  unfolding greatest
  rectangle_turned_x o l r =
      span_by_lem (sized_hypot binary64 (closest_to_zero_turned x0 x1 o l r) (kept same))
      (sized_hypot binary64 (turned l) (kept (same {x = y0}))) (sized_hypot binary64 (turned l) (kept (same {x = y1})))
      (sized_hypot binary64 (turned r) (kept (same {x = y0}))) (sized_hypot binary64 (turned r) (kept (same {x = y1})))
      ∙ ap (span (h (closest_to_zero x0 x1) (closest_to_zero y0 y1))) (pairs_swapped (four x0 x1 y0 y1 p q k))

  pub rectangle_turned_y : {y0' y1' : Float} → Ordered y0 y1 → Like y0' (neg y1) → Like y1' (neg y0)
      → radius_span x0 x1 y0' y1' ≡ radius_span x0 x1 y0 y1
  unfolding greatest
  rectangle_turned_y o l r =
      span_by_lem (sized_hypot binary64 (kept same) (closest_to_zero_turned y0 y1 o l r))
      (sized_hypot binary64 (kept (same {x = x0})) (turned l)) (sized_hypot binary64 (kept (same {x = x0})) (turned r))
      (sized_hypot binary64 (kept (same {x = x1})) (turned l)) (sized_hypot binary64 (kept (same {x = x1})) (turned r))
      ∙ ap (span (h (closest_to_zero x0 x1) (closest_to_zero y0 y1))) (each_swapped (four x0 x1 y0 y1 p q k))
