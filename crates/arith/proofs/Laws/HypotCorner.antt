-- The greatest hypot of a rectangle's four corners is that of the corner which lies farther from 0 along both axes, so that one root
-- stands for four.
use Rattle.std.proofs.Common.{◌≡◌, ℕ, ◌+◌, ◌<◌, ◌≤◌, Bool, true, false, cond, not, T, sym, refl, ap, ◌∙◌, le_refl, le_antisymm, arith}
use lib.Ieee.{fits, Float, Format, le, neg}
use Rattle.arith.proofs.roots.Rounding.Key.{key, key_is, magnitude, magnitude_le, mid, negative, number, side}
use Rattle.arith.proofs.roots.Rounding.KeyOrder.{key→le, le→key}
use Rattle.arith.proofs.roots.Rounding.Sum.{neg_key}
use Rattle.arith.specs.roots.Roots.{hypot}
use Rattle.arith.specs.Num.{max}
use Rattle.arith.proofs.Laws.Exact.{key_unique}
use Rattle.arith.proofs.Laws.Extended.{neg_number}
use Rattle.arith.proofs.Laws.Hypot.{hypot_mono, hypot_number, hypot_plus, unsigned, unsigned_key, unsigned_number}
use Rattle.arith.proofs.Laws.Order.{nle→key}
use Rattle.arith.proofs.Laws.OrderHeld.{T→true, true→T, held_number, le_left, le_right}

-- of the ends lo and hi the one farther from 0
abbrev farther : Float → Float → Float
farther lo hi = cond (le hi (neg lo)) lo hi

-- ---- its size is no less than either end's
module _ (M t u k l : ℕ) (x : t ≤ M) (y : u ≤ M) where
  first_larger : (s v : Bool) → k ≡ side M s t → l ≡ side M v u → k ≤ l → l + k ≤ M + M → u ≤ t
  first_larger false false p q h z = omega arith
  first_larger false true p q h z = omega arith
  first_larger true false p q h z = omega arith
  first_larger true true p q h z = omega arith

  second_larger : (s v : Bool) → k ≡ side M s t → l ≡ side M v u → k ≤ l → M + M < l + k → t ≤ u
  second_larger false false p q h z = omega arith
  second_larger false true p q h z = omega arith
  second_larger true false p q h z = omega arith
  second_larger true true p q h z = omega arith

-- of lo and hi, the first where s is true, has at least the size of both
record Farther (f : Format) (lo hi : Float) (s : Bool) : Type 0 where
  pub sure : T (number f (cond s lo hi))
  pub first : T (le (unsigned lo) (unsigned (cond s lo hi)))
  pub second : T (le (unsigned hi) (unsigned (cond s lo hi)))

module _ (f : Format) (lo hi : Float) (L : T (number f lo)) (H : T (number f hi)) (e : T (le lo hi)) where
  by_size : (x y : Float) → T (number f x) → T (number f y) → magnitude f x ≤ magnitude f y
      → T (le (unsigned x) (unsigned y))
  by_size x y p q h = key→le f (unsigned x) (unsigned y) (unsigned_number f x p) (unsigned_number f y q)
      (omega (arith, unsigned_key f x p, unsigned_key f y q))

  farther_is : Farther f lo hi (le hi (neg lo))
  farther_is = go (le hi (neg lo)) (le→key f hi (neg lo) H (neg_number f lo L)) (nle→key f hi (neg lo) H (neg_number f lo L))
    where
      go : (s : Bool) → (T s → key f hi ≤ key f (neg lo)) → (T (not s) → key f (neg lo) < key f hi) → Farther f lo hi s
      go true h k = record {
        sure = L;
        first = by_size lo lo L L (le_refl (magnitude f lo));
        second = by_size hi lo H L (first_larger (mid f) (magnitude f lo) (magnitude f hi) (key f lo) (key f hi)
            (magnitude_le f lo L) (magnitude_le f hi H) (negative lo) (negative hi) (key_is f lo) (key_is f hi)
            (le→key f lo hi L H e) (omega (arith, h tt, neg_key f lo L)));
      }
      go false h k = record {
        sure = H;
        first = by_size lo hi L H (second_larger (mid f) (magnitude f lo) (magnitude f hi) (key f lo) (key f hi)
            (magnitude_le f lo L) (magnitude_le f hi H) (negative lo) (negative hi) (key_is f lo) (key_is f hi)
            (le→key f lo hi L H e) (omega (arith, k tt, neg_key f lo L)));
        second = by_size hi hi H H (le_refl (magnitude f hi));
      }

-- ---- what is at most h, and of its sign
record Under (f : Format) (h z : Float) : Type 0 where
  pub sure : T (number f z)
  pub plus : negative z ≡ false
  pub most : T (le z h)

module _ (f : Format) (h : Float) (N : T (number f h)) (P : negative h ≡ false) where
  max_under : (a b : Float) → Under f h a → Under f h b → Under f h (max a b)
  max_under a b u v = go (le b a)
    where
      go : (t : Bool) → Under f h (cond t a b)
      go true = u
      go false = v

  max_first : (a b : Float) → a ≡ h → Under f h b → max a b ≡ h
  max_first a b e v = ap (λ (z : Float). max z b) e ∙ ap (λ (t : Bool). cond t h b) (T→true (le b h) v.most)

  max_second : (a b : Float) → Under f h a → b ≡ h → max a b ≡ h
  max_second a b u e = ap (λ (z : Float). max a z) e ∙ go (le h a) (λ k. key_unique f a h u.sure N (u.plus ∙ sym P)
      (le_antisymm (le→key f a h u.sure N u.most) (le→key f h a N u.sure k)))
    where
      go : (t : Bool) → (T t → a ≡ h) → cond t a h ≡ h
      go true k = k tt
      go false k = refl

  -- one of the four is h
  max_four : (a b c d : Float) → Under f h a → Under f h b → Under f h c → Under f h d → (s t : Bool)
      → cond s (cond t a b) (cond t c d) ≡ h → max (max (max a b) c) d ≡ h
  max_four a b c d u v w x true true e = max_first (max (max a b) c) d (max_first (max a b) c (max_first a b e v) w) x
  max_four a b c d u v w x true false e = max_first (max (max a b) c) d (max_first (max a b) c (max_second a b u e) w) x
  max_four a b c d u v w x false true e =
      max_first (max (max a b) c) d (max_second (max a b) c (max_under a b u v) e) x
  max_four a b c d u v w x false false e =
      max_second (max (max a b) c) d (max_under (max a b) c (max_under a b u v) w) e

module _ (f : Format) (x0 x1 y0 y1 : Float)
    (X0 : T (number f x0)) (X1 : T (number f x1)) (Y0 : T (number f y0)) (Y1 : T (number f y1)) where
  one_corner : (s t : Bool)
      → cond s (cond t (hypot f x0 y0) (hypot f x0 y1)) (cond t (hypot f x1 y0) (hypot f x1 y1))
      ≡ hypot f (cond s x0 x1) (cond t y0 y1)
  one_corner true true = refl
  one_corner true false = refl
  one_corner false true = refl
  one_corner false false = refl

  greatest : (s t : Bool) → Farther f x0 x1 s → Farther f y0 y1 t
      → max (max (max (hypot f x0 y0) (hypot f x0 y1)) (hypot f x1 y0)) (hypot f x1 y1)
      ≡ hypot f (cond s x0 x1) (cond t y0 y1)
  greatest s t p q =
      max_four f (hypot f (cond s x0 x1) (cond t y0 y1))
      (hypot_number f (cond s x0 x1) (cond t y0 y1) p.sure q.sure) (hypot_plus f (cond s x0 x1) (cond t y0 y1))
      (hypot f x0 y0) (hypot f x0 y1) (hypot f x1 y0) (hypot f x1 y1)
      (under x0 y0 X0 Y0 p.first q.first) (under x0 y1 X0 Y1 p.first q.second)
      (under x1 y0 X1 Y0 p.second q.first) (under x1 y1 X1 Y1 p.second q.second) s t (one_corner s t)
    where
      under : (x y : Float) → T (number f x) → T (number f y) → T (le (unsigned x) (unsigned (cond s x0 x1)))
          → T (le (unsigned y) (unsigned (cond t y0 y1)))
          → Under f (hypot f (cond s x0 x1) (cond t y0 y1)) (hypot f x y)
      under x y X Y h k = record {
        sure = hypot_number f x y X Y;
        plus = hypot_plus f x y;
        most = hypot_mono f x (cond s x0 x1) y (cond t y0 y1) X p.sure Y q.sure h k;
      }

-- all that the machine says of the ends is that the format holds them; that they are in order makes them numbers
pub farthest_corner : (f : Format) (x0 x1 y0 y1 : Float) → fits f x0 ≡ true → fits f x1 ≡ true → fits f y0 ≡ true
    → fits f y1 ≡ true → le x0 x1 ≡ true → le y0 y1 ≡ true
    → max (max (max (hypot f x0 y0) (hypot f x0 y1)) (hypot f x1 y0)) (hypot f x1 y1)
    ≡ hypot f (farther x0 x1) (farther y0 y1)
farthest_corner f x0 x1 y0 y1 a b c d ex ey =
    let X0 = held_number f x0 (true→T a) (le_left x0 x1 ex) in
    let X1 = held_number f x1 (true→T b) (le_right x0 x1 ex) in
    let Y0 = held_number f y0 (true→T c) (le_left y0 y1 ey) in
    let Y1 = held_number f y1 (true→T d) (le_right y0 y1 ey) in
    greatest f x0 x1 y0 y1 X0 X1 Y0 Y1 (le x1 (neg x0)) (le y1 (neg y0))
    (farther_is f x0 x1 X0 X1 (true→T ex)) (farther_is f y0 y1 Y0 Y1 (true→T ey))
