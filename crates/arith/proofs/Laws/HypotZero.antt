-- A root is exact at squares, for the root of a square is its own rounding; so hypot(x, 0) is |x|, and the length along z is |z|.
use Rattle.std.proofs.Common.{◌≡◌, ℕ, zero, suc, ◌+◌, ◌-◌, ◌*◌, ◌/◌, ◌^◌, ◌<◌, Bool, true, false, cond, not, T, eqb, ℤ, sym, refl, ap, ◌∙◌, subst, zero-le, le_of_eq, add-zero, zero-lt-suc, mul-pos, one-mul, zero-add, zero-mul, mul-one, arith, eqb→eq, pow_pos, le-ltb, lt-ltb}
use lib.Ieee.{add, below, down, emax, eq, fin, fits, Float, Format, inf, is_nan, low, lt, nan, neg, round, sub, sum, up}
use lib.Ieee.Exact.{HasValue, round_exact}
use lib.Ieee.Fits.{and_i, and_l, and_r, round-fits, up_pos}
use lib.Ieee.Scale.{round_same}
use Rattle.arith.proofs.Laws.Exact.{sub_zero, value_unique}
use Rattle.arith.proofs.Laws.Hypot.{hypot_comm, hypot_infinite, hypot_root, hypot_unsigned, unsigned, unsigned_number}
use Rattle.arith.proofs.Laws.OrderHeld.{true→T}
use Rattle.arith.proofs.roots.Root.Rounds.{root_round}
use Rattle.arith.proofs.roots.Root.Sticky.{sticky_root, sticky_root_ge, sticky_root_le}
use Rattle.arith.proofs.roots.Rounding.Key.{finite_number, magnitude, mid, number_of, Representable, representable_of}
use Rattle.arith.proofs.roots.Rounding.Key.{plus_zero, unit, unit_pos}
use Rattle.arith.specs.roots.Roots.{hypot, root}

sticky_root_square : (t : ℕ) → sticky_root (t * t) ≡ 4 * t
sticky_root_square t =
    let e : 4 * (t * t) ≡ 2 * t * (2 * t) = go t in
    let a = sticky_root_ge (t * t) (2 * t) (le_of_eq (sym e)) in
    let b = sticky_root_le (t * t) (2 * t) (le_of_eq e) in
    omega arith
  where
    go : (t : ℕ) → 4 * (t * t) ≡ 2 * t * (2 * t)
    go t = omega arith

root_square : (f : Format) (t : ℕ) → root f (t * t) ≡ round f false t (unit f)
root_square f t =
    root_round f (t * t) ∙ ap (λ (z : ℕ). round f false z (4 * unit f)) (sticky_root_square t)
    ∙ round_same f false (4 * t) (4 * unit f) t (unit f) (mul-pos (zero-lt-suc 3) (unit_pos f)) (unit_pos f)
    (go t (unit f))
  where
    go : (t u : ℕ) → 4 * t * u ≡ t * (4 * u)
    go t u = omega arith

unsigned_value : (f : Format) (x : Float) → T (finite_number f x)
    → HasValue (unsigned x) false (magnitude f x) (2 ^ low f)
unfolding unit
unsigned_value f nan h = absurd (and_r (fits f nan) false h)
unsigned_value f (inf s) h = absurd (and_r (fits f (inf s)) false h)
unsigned_value f (fin s m e) h = (refl, (representable_of f (fin s m e) h).value.1)

pub root_of_square : (f : Format) (x : Float) → T (finite_number f x)
    → root f (magnitude f x * magnitude f x) ≡ unsigned x
root_of_square f x h =
    let d = representable_of f x h in
    let t = magnitude f x in
    let w = d.whole in
    root_square f t
    ∙ value_unique f (round f false t (unit f)) (unsigned x) false t (round-fits f false t (unit f))
    (and_l (fits f (unsigned x)) (not (is_nan (unsigned x))) (unsigned_number f x (number_of f x h)))
    (exact d) (unsigned_value f x h)
  where
    exact : Representable f x → HasValue (round f false (magnitude f x) (unit f)) false (magnitude f x) (2 ^ low f)
    exact d = unfold unit mid in round_exact f false (magnitude f x) (2 ^ low f) d.q d.j (pow_pos (low f))
        d.short (subst (λ (z : ℕ). z < 2 ^ (low f + suc (emax f))) d.whole d.small)
        (ap (λ (z : ℕ). z * 2 ^ low f) d.whole)

pub zero_magnitude : (f : Format) (s : Bool) (e : ℤ) → magnitude f (fin s 0 e) ≡ 0
unfolding magnitude
zero_magnitude f s e = ap (λ (z : ℕ). z * unit f / down e) (zero-mul (up e)) ∙ ap (λ (z : ℕ). z / down e)
    (zero-mul (unit f)) ∙ native.Mathlib.Nat.zero-div (down e)

hypot_nan_zero : (f : Format) (s : Bool) (e : ℤ) → hypot f nan (fin s 0 e) ≡ nan
unfolding hypot
hypot_nan_zero f s e = refl

pub hypot_zero : (f : Format) (x : Float) (s : Bool) (e : ℤ) → T (fits f x) → hypot f x (fin s 0 e) ≡ unsigned x
hypot_zero f nan s e h = hypot_nan_zero f s e
hypot_zero f (inf t) s e h = hypot_infinite f t (fin s 0 e)
hypot_zero f (fin t m d) s e h =
    let x = fin t m d in
    hypot_root f x (fin s 0 e) tt tt
    ∙ ap (λ (z : ℕ). root f (magnitude f x * magnitude f x + z * z)) (zero_magnitude f s e)
    ∙ ap (λ (z : ℕ). root f z) (add-zero (magnitude f x * magnitude f x))
    ∙ root_of_square f x (and_i (fits f x) true h tt)

-- ---- a vector along z: x and y are zeros
module _ (f : Format) where
  hypot_level : (x y : Float) → T (fits f x) → eq y plus_zero ≡ true → hypot f x y ≡ unsigned x
  unfolding eq plus_zero
  hypot_level x nan h k = absurd (true→T k)
  hypot_level x (inf s) h k = absurd (true→T k)
  hypot_level x (fin s zero e) h k = hypot_zero f x s e h
  hypot_level x (fin s (suc m) e) h k =
      absurd (none m (up e) (down e) (up_pos e) (and_l (eqb (suc m * up e * 1) (0 * down e)) _ (true→T k)))
    where
      none : (m u d : ℕ) → 0 < u → T (eqb (suc m * u * 1) (0 * d)) → ⊥
      none m u d h k = let e = eqb→eq (suc m * u * 1) (0 * d) k in omega arith

  -- x of either sign is a / c in size: +x is x where that is above 0, else 0 - x
  turned : (x : Bool → Float) (s : Bool) (a c : ℕ) → sum f false a true (0 * c) (c * 1) ≡ x false
      → x false ≡ cond (below false (0 * c) s a) (x s) (sum f false (0 * c) (not s) a (1 * c))
  unfolding sum
  turned x true a c h = let e : a - 0 ≡ a = omega arith in
      sym h ∙ rw (zero-mul c, one-mul c, mul-one c, zero-add a, le-ltb a 0 zero-le, e)
  turned x false zero c h = sym h ∙ rw (zero-mul c, one-mul c, mul-one c)
  turned x false (suc a) c h = rw (lt-ltb (0 * c) (suc a) (omega arith))

  unsigned_is : (z : Float) → T (fits f z) → unsigned z ≡ cond (lt plus_zero z) z (sub f plus_zero z)
  unfolding lt sub add neg plus_zero is_nan
  unsigned_is nan h = refl
  unsigned_is (inf true) h = refl
  unsigned_is (inf false) h = refl
  unsigned_is (fin s m e) h = turned (λ (t : Bool). fin t m e) s (m * up e * 1) (down e)
      (sub_zero f (fin false m e) (unsigned_number f (fin s m e) (and_i (fits f (fin s m e)) true h tt)))

  pub norm_along_z : {b : Bool} (x y z : Float) → T (fits f x) → T (fits f z) → eq x plus_zero ≡ true → eq y plus_zero ≡ true
      → lt plus_zero z ≡ b → cond b z (sub f plus_zero z) ≡ hypot f (hypot f x y) z
  norm_along_z x y z X Z p q h =
      sym (ap (λ (v : Float). hypot f v z) (hypot_level x y X q) ∙ hypot_unsigned f x z ∙ hypot_comm f x z
      ∙ hypot_level z x Z p ∙ unsigned_is z Z ∙ ap (λ (t : Bool). cond t z (sub f plus_zero z)) h)
