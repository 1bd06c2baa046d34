-- Legs that are long enough have no hypot below a number: one of them reaches it, both reach those of another hypot, or their
-- squares exceed its square. By hypot's growth with the size of each leg; a NaN is below nothing.
use Prim.Native.Nat.{ℕ, ◌+◌, ◌≤◌}
use native.Mathlib.Nat.{le_of_eq, le_of_lt, le_refl, le_trans}
use native.Mathlib.Omega.{arith}
use mathlib.Core.Bool.{Bool, true, false, not, cond}
use mathlib.Core.Path.{◌≡◌, ap, refl, subst, sym, ◌∙◌}
use lib.Dec.{T}
use lib.Ieee.{Float, nan, inf, fin, binary64, fits, is_nan, le, lt, mul, add, neg, of_bits}
use lib.Ieee.Fits.{neg-fits}
use Rattle.arith.specs.roots.Roots.{hypot}
use Rattle.arith.proofs.roots.Rounding.Key.{key, key_is, magnitude, magnitude_le, mid, negative, number, side}
use borrow.Author.Tests.{le-ltb}
use Rattle.arith.proofs.roots.Rounding.KeyOrder.{key→le, le→key, lt_key, lt→key, nlt→key}
use Rattle.arith.proofs.roots.Rounding.Sum.{neg_key}
use Rattle.arith.specs.F64.{◌≺◌, ◌≼◌, 𝟘, ∞}
use Rattle.arith.specs.Num.{abs}
use Rattle.arith.proofs.Laws.Along.{add_nan}
use Rattle.arith.proofs.Laws.Extended.{neg_number}
use Rattle.arith.proofs.Laws.Hypot.{hypot_comm, hypot_fits, hypot_infinite, hypot_mono, hypot_neg}
use Rattle.arith.proofs.Laws.Hypot.{hypot_number, unsigned, unsigned_key, unsigned_number}
use Rattle.arith.proofs.Laws.HypotReach.{hypot_not_less, no_number_less}
use Rattle.arith.proofs.Laws.HypotZero.{hypot_zero}
use Rattle.arith.proofs.Laws.HypotSquares.{bound, Margin, squares_not_less, total}
use Rattle.arith.proofs.Laws.Order.{lt_is_not_le}
use Rattle.arith.proofs.Laws.OrderHeld.{T→true, true→T, held_number, inf_not_less}
use Rattle.arith.proofs.Laws.OrderHeld.{le_left, le_right, not_less_nan, not_lt_trans_held}
use Rattle.arith.proofs.Laws.OrderHeld.{number_held}
use Rattle.arith.proofs.Laws.Sizes.{zero_key, zero_number}
use Rattle.section.specs.profile.Vertices.{hit, nearer}
use Rattle.section.specs.declared.profile.shapes.CollisionHit.{CollisionHit}
use Rattle.section.specs.declared.profile.shapes.Witness.{Witness}
use Rattle.section.specs.segments.Hopeless.{Hopeless, Reaches}

abbrev Number : Float → Type 0
Number x = T (number binary64 x)

abbrev Fits : Float → Type 0
Fits x = T (fits binary64 x)

is_not : {b : Bool} → b ≡ false → T (not b)
is_not e = subst (λ (t : Bool). T (not t)) (sym e) tt

-- ---- |x|
abs_held : (x : Float) → Fits x → Fits (abs x)
abs_held x X = go (x ≺ 𝟘)
  where
    go : (t : Bool) → Fits (cond t (neg x) x)
    go true = neg-fits binary64 x X
    go false = X

abs_number : (x : Float) → Number x → Number (abs x)
abs_number x X = go (x ≺ 𝟘)
  where
    go : (t : Bool) → Number (cond t (neg x) x)
    go true = neg_number binary64 x X
    go false = X

abs_key : (x : Float) → Number x → key binary64 (abs x) ≡ key binary64 (unsigned x)
abs_key x X =
    go (x ≺ 𝟘) (λ h. le_trans (le_of_lt (lt→key binary64 x 𝟘 X zero_number h)) (le_of_eq zero_key))
    (λ h. le_trans (le_of_eq (sym zero_key)) (nlt→key binary64 x 𝟘 X zero_number h))
  where
    low : (M t : ℕ) (s : Bool) (k : ℕ) → k + side M s t ≡ M + M → side M s t ≤ M → t ≤ M → k ≡ M + t
    low M t true k e h m = omega arith
    low M t false k e h m = omega arith

    high : (M t : ℕ) (s : Bool) → M ≤ side M s t → t ≤ M → side M s t ≡ M + t
    high M t true h m = omega arith
    high M t false h m = omega arith

    go : (t : Bool) → (T t → key binary64 x ≤ mid binary64) → (T (not t) → mid binary64 ≤ key binary64 x)
        → key binary64 (cond t (neg x) x) ≡ key binary64 (unsigned x)
    go true h k =
        low (mid binary64) (magnitude binary64 x) (negative x) (key binary64 (neg x))
        (ap (λ (z : ℕ). key binary64 (neg x) + z) (sym (key_is binary64 x)) ∙ neg_key binary64 x X)
        (le_trans (le_of_eq (sym (key_is binary64 x))) (h tt)) (magnitude_le binary64 x X)
        ∙ sym (unsigned_key binary64 x X)
    go false h k =
        key_is binary64 x
        ∙ high (mid binary64) (magnitude binary64 x) (negative x) (le_trans (k tt) (le_of_eq (key_is binary64 x)))
        (magnitude_le binary64 x X)
        ∙ sym (unsigned_key binary64 x X)

-- ---- a number that reaches z
module _ (z x : Float) (Z : Number z) (X : Number x) (h : Reaches z x) where
  as_long : key binary64 z ≤ key binary64 (abs x)
  as_long = nlt→key binary64 (abs x) z (abs_number x X) Z (is_not h)

  -- z is not negative, and so no longer than x
  no_longer : (z ≺ 𝟘) ≡ false → T (le (unsigned z) (unsigned x))
  no_longer p =
      key→le binary64 (unsigned z) (unsigned x) (unsigned_number binary64 z Z) (unsigned_number binary64 x X)
      (le_trans (le_of_eq (sym (abs_key z Z))) (le_trans (le_of_eq (itself (z ≺ 𝟘) p))
      (le_trans as_long (le_of_eq (abs_key x X)))))
    where
      itself : (t : Bool) → t ≡ false → key binary64 (cond t (neg z) z) ≡ key binary64 z
      itself true e = absurd (true→T (sym e))
      itself false e = refl

longer_reaches : (u z x : Float) → Fits u → Fits z → Fits x → (u ≼ z) ≡ true → Reaches z x → Reaches u x
longer_reaches u z x U Z X e h =
    let nu = held_number binary64 u U (le_left u z e) in
    let nz = held_number binary64 z Z (le_right u z e) in
    not_lt_trans_held binary64 (abs x) z u (abs_held x X) nz U h (lt_is_not_le binary64 z u nz nu ∙ ap not e)

-- ---- what a NaN leg, and two numbers, give
module _ (least : Float) (P : Float → Float → Type 0) where
  by_legs : ((x y : Float) → Number x → Number y → P x y → (hypot binary64 x y ≺ least) ≡ false)
      → (x y : Float) → Fits x → Fits y → P x y → (hypot binary64 x y ≺ least) ≡ false
  unfolding is_nan
  by_legs go x nan X Y h = no_number_less binary64 least x
  by_legs go nan (inf t) X Y h = rw (hypot_comm binary64 nan (inf t)) (no_number_less binary64 least (inf t))
  by_legs go nan (fin t n j) X Y h = rw (hypot_comm binary64 nan (fin t n j)) (no_number_less binary64 least (fin t n j))
  by_legs go (inf s) (inf t) X Y h = go _ _ (held_number binary64 (inf s) X tt) (held_number binary64 (inf t) Y tt) h
  by_legs go (inf s) (fin t n j) X Y h = go _ _ (held_number binary64 (inf s) X tt) (held_number binary64 (fin t n j) Y tt) h
  by_legs go (fin s m i) (inf t) X Y h = go _ _ (held_number binary64 (fin s m i) X tt) (held_number binary64 (inf t) Y tt) h
  by_legs go (fin s m i) (fin t n j) X Y h =
      go _ _ (held_number binary64 (fin s m i) X tt) (held_number binary64 (fin t n j) Y tt) h

-- ---- squares whose sum exceeds something are those of numbers
first_square : (b z r : Float) → Fits z → (b ≺ total binary64 z r) ≡ true → Number z
unfolding mul add is_nan
first_square b nan r Z e = absurd (true→T (sym (not_less_nan b) ∙ e))
first_square b (inf s) r Z e = held_number binary64 (inf s) Z tt
first_square b (fin s m i) r Z e = held_number binary64 (fin s m i) Z tt

second_square : (b z r : Float) → Fits r → (b ≺ total binary64 z r) ≡ true → Number r
unfolding mul is_nan
second_square b z nan R e = absurd (true→T (sym (not_less_nan b) ∙ ap (b ≺◌) (sym (add_nan binary64 _)) ∙ e))
second_square b z (inf s) R e = held_number binary64 (inf s) R tt
second_square b z (fin s m i) R e = held_number binary64 (fin s m i) R tt

module _ (z r least : Float) (Z : Fits z) (R : Fits r) (B : fits binary64 least ≡ true) where
  abbrev Both : Float → Float → Type 0
  Both x y = Reaches z x × Reaches r y

  pub hopeless_z : (least ≼ z) ≡ true → Hopeless z r least
  hopeless_z e x y X Y h k =
      by_legs least Both
      (λ x y X Y h. hypot_not_less binary64 least x y B (number_held binary64 x X) (number_held binary64 y Y)
      (let nb = held_number binary64 least (true→T B) (le_left least z e) in
      let nz = held_number binary64 z Z (le_right least z e) in
      T→true (least ≼ abs x) (key→le binary64 least (abs x) nb (abs_number x X)
      (le_trans (le→key binary64 least z nb nz (true→T e)) (as_long z x nz X h.0)))))
      x y X Y (h, k)

  -- both legs reach those of something that is hopeless
  pub hopeless_legs : (u v : Float) → Fits u → Fits v → (u ≼ z) ≡ true → (v ≼ r) ≡ true → Hopeless u v least → Hopeless z r least
  hopeless_legs u v U W e g w x y X Y h k =
      w x y X Y (longer_reaches u z x U Z X e h) (longer_reaches v r y W R Y g k)

  -- neither is negative
  module _ (p : (z ≺ 𝟘) ≡ false) (q : (r ≺ 𝟘) ≡ false) where
    grown : Number z → Number r → (hypot binary64 z r ≺ least) ≡ false → Hopeless z r least
    grown nz nr e x y X Y h k =
        by_legs least Both
        (λ x y X Y h. not_lt_trans_held binary64 (hypot binary64 x y) (hypot binary64 z r) least (hypot_fits binary64 x y)
        (hypot_number binary64 z r nz nr) (true→T B)
        (lt_is_not_le binary64 (hypot binary64 x y) (hypot binary64 z r) (hypot_number binary64 x y X Y)
        (hypot_number binary64 z r nz nr)
        ∙ ap not {x = le (hypot binary64 z r) (hypot binary64 x y)} (T→true _ (hypot_mono binary64 z x r y nz X nr Y
        (no_longer z x nz X h.0 p) (no_longer r y nr Y h.1 q))))
        e)
        x y X Y (h, k)

    pub hopeless_squares : (c e : Float) → Margin binary64 c e → (bound binary64 c e least ≺ total binary64 z r) ≡ true
        → Hopeless z r least
    hopeless_squares c e m t =
        grown (first_square (bound binary64 c e least) z r Z t) (second_square (bound binary64 c e least) z r R t)
        (squares_not_less binary64 c e m least z r B Z R t)

pub hopeless_r : (z r least : Float) → Hopeless r z least → Hopeless z r least
hopeless_r z r least w x y X Y h k = rw (hypot_comm binary64 x y) (w y x Y X k h)

-- ---- the legs of a hypot that is below something, and infinite ones
hypot_legs : (b u v : Float) → Fits u → Fits v → (hypot binary64 u v ≺ b) ≡ true → Number u × Number v
unfolding is_nan hypot lt
hypot_legs b nan nan U W e = absurd (true→T e)
hypot_legs b nan (inf t) U W e = absurd (true→T (sym (inf_not_less b) ∙ e))
hypot_legs b nan (fin t n j) U W e = absurd (true→T e)
hypot_legs b (inf s) v U W e = absurd (true→T (sym (inf_not_less b) ∙ e))
hypot_legs b (fin s m i) nan U W e = absurd (true→T e)
hypot_legs b (fin s m i) (inf t) U W e = absurd (true→T (sym (inf_not_less b) ∙ e))
hypot_legs b (fin s m i) (fin t n j) U W e =
    (held_number binary64 (fin s m i) U tt, held_number binary64 (fin t n j) W tt)

abs_plus : (u : Float) → Number u → (abs u ≺ 𝟘) ≡ false
abs_plus u U =
    lt_key binary64 (abs u) 𝟘 (abs_number u U) zero_number
    ∙ le-ltb _ _ (le_trans (le_of_eq zero_key) (le_trans (more (mid binary64) (magnitude binary64 u))
    (le_of_eq (sym (abs_key u U ∙ unsigned_key binary64 u U)))))
  where
    more : (M t : ℕ) → M ≤ M + t
    more M t = omega arith

hypot_abs : (u v : Float) → hypot binary64 (abs u) v ≡ hypot binary64 u v
hypot_abs u v = go (u ≺ 𝟘)
  where
    go : (t : Bool) → hypot binary64 (cond t (neg u) u) v ≡ hypot binary64 u v
    go true = hypot_neg binary64 u v
    go false = refl

pub met_legs : (b u v : Float) → Fits u → Fits v → (hypot binary64 u v ≺ b) ≡ true → Hopeless (abs u) (abs v) (hypot binary64 u v)
met_legs b u v U W e =
    let n = hypot_legs b u v U W e in
    let h = hypot_number binary64 u v n.0 n.1 in
    grown (abs u) (abs v) (hypot binary64 u v) (abs_held u U) (abs_held v W) (T→true _ (hypot_fits binary64 u v))
    (abs_plus u n.0) (abs_plus v n.1) (abs_number u n.0) (abs_number v n.1)
    (ap (◌≺ hypot binary64 u v) (hypot_abs u (abs v) ∙ hypot_comm binary64 u (abs v) ∙ hypot_abs v u ∙ hypot_comm binary64 v u)
    ∙ lt_key binary64 (hypot binary64 u v) (hypot binary64 u v) h h ∙ le-ltb _ _ (le_refl (key binary64 (hypot binary64 u v))))

pub no_legs : (least : Float) → Hopeless ∞ ∞ least
unfolding lt neg
no_legs least nan y X Y h k = rw (hypot_comm binary64 nan y) (no_number_less binary64 least y)
no_legs least (inf s) y X Y h k = rw (hypot_infinite binary64 s y) (inf_not_less least)
no_legs least (fin s m i) y X Y h k = absurd (under (fin s m i ≺ 𝟘) h)
  where
    under : (t : Bool) → (cond t (neg (fin s m i)) (fin s m i) ≺ ∞) ≡ false → ⊥
    under true e = true→T (sym e)
    under false e = true→T (sym e)

-- ---- the nearer of two, with its legs
pub not_below_itself : (x : Float) → Fits x → (x ≺ x) ≡ false
unfolding lt is_nan
not_below_itself nan X = refl
not_below_itself (inf true) X = refl
not_below_itself (inf false) X = refl
not_below_itself (fin s m i) X =
    let N = held_number binary64 (fin s m i) X tt in
    lt_key binary64 (fin s m i) (fin s m i) N N ∙ le-ltb _ _ (le_refl (key binary64 (fin s m i)))

-- what is at least as long as a leg reaches it
pub reached : (u x : Float) → Fits u → Fits x → (u ≼ abs x) ≡ true → Reaches u x
reached u x U X e =
    lt_is_not_le binary64 (abs x) u (held_number binary64 (abs x) (abs_held x X) (le_right u (abs x) e))
    (held_number binary64 u U (le_left u (abs x) e))
    ∙ ap not e

module _ (best h new : CollisionHit) (i : h ≡ nearer best new) where
  pub still_best : (h.distance ≺ best.distance) ≡ false → best ≡ nearer best new
  still_best e = go (new.distance ≺ best.distance) refl i
    where
      go : (t : Bool) → (new.distance ≺ best.distance) ≡ t → h ≡ cond t new best → best ≡ cond t new best
      go true k j = absurd (true→T (sym e ∙ ap (λ (n : CollisionHit). n.distance ≺ best.distance) j ∙ k))
      go false k j = refl

  new_one : fits binary64 best.distance ≡ true → (h.distance ≺ best.distance) ≡ true
      → (h ≡ new) × ((new.distance ≺ best.distance) ≡ true)
  new_one B e = go (new.distance ≺ best.distance) refl i
    where
      go : (t : Bool) → (new.distance ≺ best.distance) ≡ t → h ≡ cond t new best
          → (h ≡ new) × ((new.distance ≺ best.distance) ≡ true)
      go true k j = (j, k)
      go false k j =
          absurd (true→T (sym (not_below_itself best.distance (true→T B))
          ∙ sym (ap (λ (n : CollisionHit). n.distance ≺ best.distance) j) ∙ e))

-- a hit at the hypot of u and v that is taken: its legs are their sizes
pub new_legs : (best h : CollisionHit) (w : Witness) (u v : Float) → Fits u → Fits v → h ≡ nearer best (hit
    (hypot binary64 u v) w)
    → fits binary64 best.distance ≡ true → (h.distance ≺ best.distance) ≡ true → Hopeless (abs u) (abs v) h.distance
new_legs best h w u v U W i B e =
    let n = new_one best h (hit (hypot binary64 u v) w) i B e in
    subst (λ (g : CollisionHit). Hopeless (abs u) (abs v) g.distance) (sym n.0) (met_legs best.distance u v U W n.1)

-- ---- a size that a hypot with 0 tells, and 0 itself
pub over_zero : (u : Float) → Fits u → (𝟘 ≺ u) ≡ true → Number u
unfolding is_nan
over_zero nan U e = absurd (true→T (sym (not_less_nan 𝟘) ∙ e))
over_zero (inf s) U e = held_number binary64 (inf s) U tt
over_zero (fin s m i) U e = held_number binary64 (fin s m i) U tt

pub over_not_below : (u : Float) → Fits u → (𝟘 ≺ u) ≡ true → (u ≺ 𝟘) ≡ false
over_not_below u U e =
    let N = over_zero u U e in
    lt_key binary64 u 𝟘 N zero_number ∙ le-ltb _ _ (le_of_lt (lt→key binary64 𝟘 u zero_number N (true→T e)))

sized : (u w : Float) → Number u → Number w → hypot binary64 w 𝟘 ≡ unsigned w → (hypot binary64 w 𝟘 ≺ u) ≡ false → Reaches u w
sized u w U W i e =
    lt_key binary64 (abs w) u (abs_number w W) U
    ∙ le-ltb _ _ (le_trans (nlt→key binary64 (unsigned w) u (unsigned_number binary64 w W) U (is_not (ap (◌≺ u) (sym i) ∙ e)))
    (le_of_eq (sym (abs_key w W))))

pub reaches_size : (u w : Float) → Number u → Fits w → (hypot binary64 w 𝟘 ≺ u) ≡ false → Reaches u w
unfolding is_nan lt of_bits
reaches_size u nan U W e = refl
reaches_size u (inf s) U W e = sized u (inf s) U (held_number binary64 (inf s) W tt) (hypot_zero binary64 (inf s) _ _ W) e
reaches_size u (fin s m i) U W e =
    sized u (fin s m i) U (held_number binary64 (fin s m i) W tt) (hypot_zero binary64 (fin s m i) _ _ W) e

pub reaches_nothing : (w : Float) → Fits w → Reaches 𝟘 w
unfolding is_nan lt of_bits
reaches_nothing nan W = refl
reaches_nothing (inf s) W = abs_plus (inf s) (held_number binary64 (inf s) W tt)
reaches_nothing (fin s m i) W = abs_plus (fin s m i) (held_number binary64 (fin s m i) W tt)
