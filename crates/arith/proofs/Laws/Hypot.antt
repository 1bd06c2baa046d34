-- hypot: symmetric, blind to signs, a number for numbers, monotone in each magnitude, at least each magnitude. Of finite values it is
-- the root of a sum of squares; an infinity is a case of its own.
use Rattle.std.proofs.Common.{◌≡◌, ℕ, zero, suc, ◌+◌, ◌*◌, ◌^◌, ◌≤◌, Bool, true, false, T, ℤ, sym, refl, ap, ◌∙◌, subst, le_trans, le_of_eq, le_refl, le_of_lt, add-le-add, mul-le-mul, add_comm, not-le_of_lt, arith}
use lib.Ieee.{fin, fits, Float, Format, inf, is_nan, le, nan, neg}
use lib.Ieee.Fits.{and_i, and_l, and_r, inf-fits, nan-fits}
use lib.Ieee.Scale.{finite}
use Rattle.arith.proofs.Laws.RootKey.{root_fits, root_ge, root_mono, root_number}
use Rattle.arith.proofs.roots.Rounding.Key.{finite_number, key, key_is, magnitude, mid, negative, number, finite_of}
use Rattle.arith.proofs.roots.Rounding.Key.{representable_of, side, unit}
use Rattle.arith.proofs.roots.Rounding.KeyOrder.{key→le, le→key}
use Rattle.arith.proofs.roots.Squares.{square}
use Rattle.arith.specs.roots.Roots.{hypot, root, sqrt, ticks}
use Rattle.arith.proofs.Laws.NearestRoot.{NearestRoot, root_nearest, root_plus}

-- IEEE 754's abs: the sign is cleared
abbrev pub unsigned : Float → Float
unsigned nan = nan
unsigned (inf s) = inf false
unsigned (fin s m e) = fin false m e

-- ---- symmetric, and blind to signs: of any two values
pub hypot_comm : (f : Format) (x y : Float) → hypot f x y ≡ hypot f y x
unfolding hypot
hypot_comm f nan nan = refl
hypot_comm f nan (inf t) = refl
hypot_comm f nan (fin t n d) = refl
hypot_comm f (inf s) nan = refl
hypot_comm f (inf s) (inf t) = refl
hypot_comm f (inf s) (fin t n d) = refl
hypot_comm f (fin s m e) nan = refl
hypot_comm f (fin s m e) (inf t) = refl
hypot_comm f (fin s m e) (fin t n d) = ap (λ (z : ℕ). root f z) (add_comm (ticks f (fin s m e) ^ 2)
    (ticks f (fin t n d) ^ 2))

pub hypot_neg : (f : Format) (x y : Float) → hypot f (neg x) y ≡ hypot f x y
unfolding hypot neg
hypot_neg f nan y = refl
hypot_neg f (inf s) y = refl
hypot_neg f (fin s m e) nan = refl
hypot_neg f (fin s m e) (inf t) = refl
hypot_neg f (fin s m e) (fin t n d) = refl

pub hypot_unsigned : (f : Format) (x y : Float) → hypot f (unsigned x) y ≡ hypot f x y
unfolding hypot
hypot_unsigned f nan y = refl
hypot_unsigned f (inf s) y = refl
hypot_unsigned f (fin s m e) nan = refl
hypot_unsigned f (fin s m e) (inf t) = refl
hypot_unsigned f (fin s m e) (fin t n d) = refl

pub hypot_neg_right : (f : Format) (x y : Float) → hypot f x (neg y) ≡ hypot f x y
hypot_neg_right f x y = hypot_comm f x (neg y) ∙ hypot_neg f y x ∙ hypot_comm f y x

-- ---- of two finite values
pub hypot_root : (f : Format) (x y : Float) → T (finite x) → T (finite y)
    → hypot f x y ≡ root f (magnitude f x * magnitude f x + magnitude f y * magnitude f y)
unfolding hypot magnitude unit
hypot_root f nan y p q = absurd p
hypot_root f (inf s) y p q = absurd p
hypot_root f (fin s m e) nan p q = absurd q
hypot_root f (fin s m e) (inf t) p q = absurd q
hypot_root f (fin s m e) (fin t n d) p q =
    let a = ticks f (fin s m e) in
    let b = ticks f (fin t n d) in
    ap (λ (z : ℕ). root f (z + b ^ 2)) (square a) ∙ ap (λ (z : ℕ). root f (a * a + z)) (square b)

pub sqrt_root : (f : Format) (m : ℕ) (e : ℤ) → sqrt f (fin false m e) ≡ root f (magnitude f (fin false m e) * unit f)
unfolding sqrt magnitude unit
sqrt_root f m e = refl

-- ---- never a NaN, and of the format
pub inf_number : (f : Format) (s : Bool) → T (number f (inf s))
unfolding fits is_nan
inf_number f s = tt

pub data Kind (f : Format) (x : Float) : Type 0 where
  infinite : (s : Bool) → x ≡ inf s → Kind f x
  usual : T (finite x) → T (finite_number f x) → Kind f x

pub kind : (f : Format) (x : Float) → T (number f x) → Kind f x
unfolding is_nan
kind f nan h = absurd (and_r (fits f nan) false h)
kind f (inf s) h = infinite s refl
kind f (fin s m e) h = usual tt (and_i (fits f (fin s m e)) true (and_l (fits f (fin s m e)) true h) tt)

pub hypot_infinite : (f : Format) (s : Bool) (y : Float) → hypot f (inf s) y ≡ inf false
unfolding hypot
hypot_infinite f s y = refl

hypot_inf : (f : Format) (x y : Float) (s : Bool) → x ≡ inf s → hypot f x y ≡ inf false
hypot_inf f x y s e = ap (λ (z : Float). hypot f z y) e ∙ hypot_infinite f s y

pub hypot_number : (f : Format) (x y : Float) → T (number f x) → T (number f y) → T (number f (hypot f x y))
hypot_number f x y p q = go (kind f x p) (kind f y q)
  where
    like : {z w : Float} → z ≡ w → T (number f w) → T (number f z)
    like e h = subst (λ (z : Float). T (number f z)) (sym e) h

    go : Kind f x → Kind f y → T (number f (hypot f x y))
    go (infinite s e) k = like (hypot_inf f x y s e) (inf_number f false)
    go (usual a b) (infinite s e) = like (hypot_comm f x y ∙ hypot_inf f y x s e) (inf_number f false)
    go (usual a b) (usual c d) = like (hypot_root f x y a c) (root_number f
        (magnitude f x * magnitude f x + magnitude f y * magnitude f y))

-- ---- never below 0, and no -0
pub hypot_plus : (f : Format) (x y : Float) → negative (hypot f x y) ≡ false
unfolding hypot
hypot_plus f nan nan = refl
hypot_plus f nan (inf t) = refl
hypot_plus f nan (fin t n d) = refl
hypot_plus f (inf s) y = refl
hypot_plus f (fin s m e) nan = refl
hypot_plus f (fin s m e) (inf t) = refl
hypot_plus f (fin s m e) (fin t n d) = root_plus f (ticks f (fin s m e) ^ 2 + ticks f (fin t n d) ^ 2)

-- ---- sizes
pub unsigned_key : (f : Format) (x : Float) → T (number f x) → key f (unsigned x) ≡ mid f + magnitude f x
unfolding is_nan key magnitude
unsigned_key f nan h = absurd (and_r (fits f nan) false h)
unsigned_key f (inf s) h = refl
unsigned_key f (fin s m e) h = refl

pub unsigned_number : (f : Format) (x : Float) → T (number f x) → T (number f (unsigned x))
unfolding is_nan fits
unsigned_number f nan h = h
unsigned_number f (inf s) h = tt
unsigned_number f (fin s zero e) h = h
unsigned_number f (fin s (suc m) e) h = h

-- anything is at most infinity
pub inf_key : (f : Format) → key f (inf false) ≡ mid f + mid f
unfolding key magnitude
inf_key f = refl

key_most : (f : Format) (x : Float) → T (number f x) → key f x ≤ mid f + mid f
key_most f x h = go (kind f x h)
  where
    side_le : (M t : ℕ) (s : Bool) → t ≤ M → side M s t ≤ M + M
    side_le M t false l = omega arith
    side_le M t true l = omega arith

    go : Kind f x → key f x ≤ mid f + mid f
    go (infinite s e) = subst (λ (z : Float). key f z ≤ mid f + mid f) (sym e)
        (le_trans (le_of_eq (key_is f (inf s))) (side_le (mid f) (magnitude f (inf s)) s (inf_ticks s)))
      where
        inf_ticks : (s : Bool) → magnitude f (inf s) ≤ mid f
        inf_ticks s = unfold magnitude in le_refl (mid f)
    go (usual a b) = le_trans (le_of_eq (key_is f x)) (side_le (mid f) (magnitude f x) (negative x)
        (le_of_lt (representable_of f x b).small))

pub le_inf : (f : Format) (x : Float) → T (number f x) → T (le x (inf false))
le_inf f x h = key→le f x (inf false) h (inf_number f false) (le_trans (key_most f x h) (le_of_eq (sym (inf_key f))))

-- ---- a hypotenuse is no less than each leg
pub hypot_ge : (f : Format) (x y : Float) → T (number f x) → T (number f y) → T (le (unsigned x) (hypot f x y))
hypot_ge f x y p q = go (kind f x p) (kind f y q)
  where
    more : (a b : ℕ) → a ≤ a + b
    more a b = omega arith

    go : Kind f x → Kind f y → T (le (unsigned x) (hypot f x y))
    go (infinite s e) k = subst (λ (z : Float). T (le (unsigned x) z)) (sym (hypot_inf f x y s e))
        (le_inf f (unsigned x) (unsigned_number f x p))
    go (usual a b) (infinite s e) = subst (λ (z : Float). T (le (unsigned x) z))
        (sym (hypot_comm f x y ∙ hypot_inf f y x s e)) (le_inf f (unsigned x) (unsigned_number f x p))
    go (usual a b) (usual c d) =
        let h = representable_of f x b in
        let t = magnitude f x in
        let w = h.whole in
        let n = magnitude f x * magnitude f x + magnitude f y * magnitude f y in
        let rounded : mid f + h.q * 2 ^ h.j ≤ key f (root f n) = root_ge f n h.q h.j h.short
        (le_trans (le_of_eq (sym w)) (le_of_lt h.small)) (le_trans (le_of_eq (ap (λ (z : ℕ). z * z) (sym w)))
        (more (t * t) (magnitude f y * magnitude f y))) in
        key→le f (unsigned x) (hypot f x y) (unsigned_number f x p) (hypot_number f x y p q)
        (le_trans (le_of_eq (unsigned_key f x p ∙ ap (λ (z : ℕ). mid f + z) w))
        (le_trans rounded (le_of_eq (ap (λ (z : Float). key f z) (sym (hypot_root f x y a c))))))

pub hypot_ge_right : (f : Format) (x y : Float) → T (number f x) → T (number f y) → T (le (unsigned y) (hypot f x y))
hypot_ge_right f x y p q = subst (λ (z : Float). T (le (unsigned y) z)) (hypot_comm f y x) (hypot_ge f y x q p)

-- ---- it grows with the size of each leg
magnitude_of_le : (f : Format) (x x' : Float) → T (number f x) → T (number f x') → T (le (unsigned x) (unsigned x'))
    → magnitude f x ≤ magnitude f x'
magnitude_of_le f x x' p p' h = let k = le→key f (unsigned x) (unsigned x') (unsigned_number f x p)
    (unsigned_number f x' p') h in omega (arith, unsigned_key f x p, unsigned_key f x' p')

magnitude_inf : (f : Format) (s : Bool) → magnitude f (inf s) ≡ mid f
unfolding magnitude
magnitude_inf f s = refl

finite_below : (f : Format) (x x' : Float) → T (number f x) → T (finite_number f x') → magnitude f x ≤ magnitude f x'
    → T (finite x)
finite_below f x x' p q h = go (kind f x p)
  where
    go : Kind f x → T (finite x)
    go (infinite s e) = absurd (not-le_of_lt (representable_of f x' q).small
        (le_trans (le_of_eq (sym (magnitude_inf f s) ∙ ap (λ (z : Float). magnitude f z) (sym e))) h))
    go (usual a b) = a

pub hypot_mono : (f : Format) (x x' y y' : Float) → T (number f x) → T (number f x') → T (number f y) → T (number f y')
    → T (le (unsigned x) (unsigned x')) → T (le (unsigned y) (unsigned y')) → T (le (hypot f x y) (hypot f x' y'))
hypot_mono f x x' y y' p p' q q' h k = go (kind f x' p') (kind f y' q')
  where
    top_case : hypot f x' y' ≡ inf false → T (le (hypot f x y) (hypot f x' y'))
    top_case e = subst (λ (z : Float). T (le (hypot f x y) z)) (sym e) (le_inf f (hypot f x y) (hypot_number f x y p q))

    go : Kind f x' → Kind f y' → T (le (hypot f x y) (hypot f x' y'))
    go (infinite s e) u = top_case (hypot_inf f x' y' s e)
    go (usual a b) (infinite s e) = top_case (hypot_comm f x' y' ∙ hypot_inf f y' x' s e)
    go (usual a b) (usual c d) =
        let X = magnitude_of_le f x x' p p' h in
        let Y = magnitude_of_le f y y' q q' k in
        key→le f (hypot f x y) (hypot f x' y') (hypot_number f x y p q) (hypot_number f x' y' p' q')
        (le_trans (le_of_eq (ap (λ (z : Float). key f z) (hypot_root f x y (finite_below f x x' p b X)
        (finite_below f y y' q d Y))))
        (le_trans (root_mono f (magnitude f x * magnitude f x + magnitude f y * magnitude f y)
        (magnitude f x' * magnitude f x' + magnitude f y' * magnitude f y')
        (add-le-add (mul-le-mul X X) (mul-le-mul Y Y)))
        (le_of_eq (ap (λ (z : Float). key f z) (sym (hypot_root f x' y' a c))))))

pub hypot_fits : (f : Format) (x y : Float) → T (fits f (hypot f x y))
unfolding hypot
hypot_fits f nan nan = nan-fits f
hypot_fits f nan (inf t) = inf-fits f false
hypot_fits f nan (fin t n d) = nan-fits f
hypot_fits f (inf s) y = inf-fits f false
hypot_fits f (fin s m e) nan = nan-fits f
hypot_fits f (fin s m e) (inf t) = inf-fits f false
hypot_fits f (fin s m e) (fin t n d) = root_fits f (ticks f (fin s m e) ^ 2 + ticks f (fin t n d) ^ 2)

-- ---- it is the number nearest the exact root of the sum of squares, ties to even
pub hypot_nearest : (f : Format) (x y : Float) → T (finite_number f x) → T (finite_number f y)
    → NearestRoot f (magnitude f x * magnitude f x + magnitude f y * magnitude f y) (hypot f x y)
hypot_nearest f x y p q =
    subst (λ (z : Float). NearestRoot f (magnitude f x * magnitude f x + magnitude f y * magnitude f y) z)
    (sym (hypot_root f x y (finite_of f x p) (finite_of f y q)))
    (root_nearest f (magnitude f x * magnitude f x + magnitude f y * magnitude f y))
