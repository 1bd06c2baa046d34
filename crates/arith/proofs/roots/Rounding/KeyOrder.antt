-- Comparing two floats is comparing their keys.
use Rattle.std.proofs.Common.{◌≡◌, ℕ, ◌+◌, ◌-◌, ◌*◌, ◌<◌, ◌≤◌, Bool, true, false, not, ◌&&◌, ◌||◌, T, eqb, ltb, leb, ℤ, sym, refl, ap, ◌∙◌, subst, le_of_lt, mul_assoc, mul_comm, add-mul, lt_of_mul-lt-mul_right, mul-lt-mul_of_pos_right, mul-pos, zero-mul, mul_right_comm, arith, le→leb, ltb→lt, lt→ltb, leb→le, nltb→le}
use mathlib.Core.Bool.{beq}
use native.Mathlib.Nat.{eq_of_mul-eq-mul_right}
use lib.Ieee.{below, down, eq, fin, fits, Float, Format, inf, is_nan, le, level, lt, nan, up}
use lib.Ieee.Fits.{and_l, down_pos}
use Rattle.arith.proofs.roots.Rounding.Key.{key, magnitude, mid, mid_pos, number, Representable, representable, side}
use Rattle.arith.proofs.roots.Rounding.Key.{unit, unit_pos}
use Rattle.arith.proofs.roots.Tests.{and_eqb, and_true, bool_ext, eqb_iff, lt_or_eq, ltb_iff, no_eq, no_lt, yes_eq}
use Rattle.arith.proofs.roots.Tests.{yes_lt}

-- A / L = t / D and B / L = u / D
module _ (L D : ℕ) (LP : 0 < L) (DP : 0 < D) (A B t u : ℕ) (p : A * L ≡ t * D) (q : B * L ≡ u * D) where
  scale_lt : ltb A B ≡ ltb t u
  scale_lt =
      ltb_iff A B t u
      (λ h. lt_of_mul-lt-mul_right D (subst (λ (z : ℕ). z < u * D) p
      (subst (λ (z : ℕ). A * L < z) q (mul-lt-mul_of_pos_right h LP))))
      (λ h. lt_of_mul-lt-mul_right L (subst (λ (z : ℕ). z < B * L) (sym p)
      (subst (λ (z : ℕ). t * D < z) (sym q) (mul-lt-mul_of_pos_right h DP))))

  scale_eq : eqb A B ≡ eqb t u
  scale_eq =
      eqb_iff A B t u
      (λ h. eq_of_mul-eq-mul_right D DP t u (sym p ∙ ap (λ (z : ℕ). z * L) h ∙ q))
      (λ h. eq_of_mul-eq-mul_right L LP A B (p ∙ ap (λ (z : ℕ). z * D) h ∙ sym q))

module _ (L D : ℕ) (LP : 0 < L) (DP : 0 < D) (A B t u : ℕ) (p : A * L ≡ t * D) (q : B * L ≡ u * D) where
  below_scale : (s s' : Bool) → below s A s' B ≡ below s t s' u
  below_scale false false = scale_lt L D LP DP A B t u p q
  below_scale false true = refl
  below_scale true false = scale_lt L D LP DP 0 (A + B) 0 (t + u) (zero-mul L ∙ sym (zero-mul D))
      (add-mul A B L ∙ ap (λ (z : ℕ). z + B * L) p ∙ ap (λ (z : ℕ). t * D + z) q ∙ sym (add-mul t u D))
  below_scale true true = scale_lt L D LP DP B A u t q p

  level_scale : (s s' : Bool) → level s A s' B ≡ level s t s' u
  level_scale s s' = rw (scale_eq L D LP DP A B t u p q, scale_eq L D LP DP A 0 t 0 p (zero-mul L ∙ sym (zero-mul D)))

inf_inf : (M : ℕ) → 0 < M → (s t : Bool) → (s && not t) ≡ ltb (side M s M) (side M t M)
inf_inf M P false false = no_lt (M + M) (M + M) (omega arith)
inf_inf M P false true = no_lt (M + M) (M - M) (omega arith)
inf_inf M P true false = yes_lt (M - M) (M + M) (omega arith)
inf_inf M P true true = no_lt (M - M) (M - M) (omega arith)

inf_fin : (M u : ℕ) → u < M → (s t : Bool) → s ≡ ltb (side M s M) (side M t u)
inf_fin M u h false false = no_lt (M + M) (M + u) (omega arith)
inf_fin M u h false true = no_lt (M + M) (M - u) (omega arith)
inf_fin M u h true false = yes_lt (M - M) (M + u) (omega arith)
inf_fin M u h true true = yes_lt (M - M) (M - u) (omega arith)

fin_inf : (M u : ℕ) → u < M → (s t : Bool) → not t ≡ ltb (side M s u) (side M t M)
fin_inf M u h false false = yes_lt (M + u) (M + M) (omega arith)
fin_inf M u h false true = no_lt (M + u) (M - M) (omega arith)
fin_inf M u h true false = yes_lt (M - u) (M + M) (omega arith)
fin_inf M u h true true = no_lt (M - u) (M - M) (omega arith)

inf_inf_eq : (M : ℕ) → 0 < M → (s t : Bool) → beq s t ≡ eqb (side M s M) (side M t M)
inf_inf_eq M P false false = yes_eq (M + M)
inf_inf_eq M P false true = no_eq (M + M) (M - M) (omega arith)
inf_inf_eq M P true false = no_eq (M - M) (M + M) (omega arith)
inf_inf_eq M P true true = yes_eq (M - M)

inf_fin_eq : (M u : ℕ) → u < M → (s t : Bool) → false ≡ eqb (side M s M) (side M t u)
inf_fin_eq M u h false false = no_eq (M + M) (M + u) (omega arith)
inf_fin_eq M u h false true = no_eq (M + M) (M - u) (omega arith)
inf_fin_eq M u h true false = no_eq (M - M) (M + u) (omega arith)
inf_fin_eq M u h true true = no_eq (M - M) (M - u) (omega arith)

fin_inf_eq : (M u : ℕ) → u < M → (s t : Bool) → false ≡ eqb (side M s u) (side M t M)
fin_inf_eq M u h false false = no_eq (M + u) (M + M) (omega arith)
fin_inf_eq M u h false true = no_eq (M + u) (M - M) (omega arith)
fin_inf_eq M u h true false = no_eq (M - u) (M + M) (omega arith)
fin_inf_eq M u h true true = no_eq (M - u) (M - M) (omega arith)

-- the order of signed whole numbers is that of their places about M
module _ (M t u : ℕ) (P : 0 < M) (x : t ≤ M) (y : u ≤ M) where
  pub side_lt : (s s' : Bool) → below s t s' u ≡ ltb (side M s t) (side M s' u)
  side_lt false false = ltb_iff t u (M + t) (M + u) (omega arith) (omega arith)
  side_lt false true = bool_ext false (ltb (M + t) (M - u)) (λ (h : ⊥). absurd h)
      (λ h. let k : M + t < M - u = ltb→lt (M + t) (M - u) h in let c : ⊥ = omega arith in c)
  side_lt true false = ltb_iff 0 (t + u) (M - t) (M + u) (omega arith) (omega arith)
  side_lt true true = ltb_iff u t (M - t) (M - u) (omega arith) (omega arith)

  pub side_eq : (s s' : Bool) → level s t s' u ≡ eqb (side M s t) (side M s' u)
  side_eq false false = and_true (eqb t u) ∙ eqb_iff t u (M + t) (M + u) (omega arith) (omega arith)
  side_eq false true = and_eqb t u t 0 (M + t) (M - u) (λ (h : t ≡ u) (k : t ≡ 0). omega arith)
      (λ (h : M + t ≡ M - u). omega arith)
  side_eq true false = and_eqb t u t 0 (M - t) (M + u) (λ (h : t ≡ u) (k : t ≡ 0). omega arith)
      (λ (h : M - t ≡ M + u). omega arith)
  side_eq true true = and_true (eqb t u) ∙ eqb_iff t u (M - t) (M - u) (omega arith) (omega arith)

not_nan : (f : Format) → T (number f nan) → ⊥
unfolding fits is_nan
not_nan f h = h

representable_fin : (f : Format) (s : Bool) (m : ℕ) (e : ℤ) → T (number f (fin s m e)) → Representable f (fin s m e)
representable_fin f s m e h = representable f (fin s m e) tt (and_l (fits f (fin s m e)) (not (is_nan (fin s m e))) h)

-- cross : m up(e) down(d) / unit = ticks / (down e down d)
pub cross : (f : Format) (m : ℕ) (e d : ℤ) (t : ℕ) → m * up e * unit f ≡ t * down e
    → m * up e * down d * unit f ≡ t * (down e * down d)
cross f m e d t h = mul_right_comm (m * up e) (down d) (unit f) ∙ ap (λ (z : ℕ). z * down d) h ∙ mul_assoc t (down e)
    (down d)

pub cross' : (f : Format) (n : ℕ) (d e : ℤ) (u : ℕ) → n * up d * unit f ≡ u * down d
    → n * up d * down e * unit f ≡ u * (down e * down d)
cross' f n d e u h = cross f n d e u h ∙ ap (λ (z : ℕ). u * z) (mul_comm (down d) (down e))

pub lt_key : (f : Format) (x y : Float) → T (number f x) → T (number f y) → lt x y ≡ ltb (key f x) (key f y)
unfolding lt key magnitude
lt_key f nan y p q = absurd (not_nan f p)
lt_key f (inf s) nan p q = absurd (not_nan f q)
lt_key f (inf s) (inf t) p q = inf_inf (mid f) (mid_pos f) s t
lt_key f (inf s) (fin t n d) p q = inf_fin (mid f) (magnitude f (fin t n d)) (representable_fin f t n d q).small s t
lt_key f (fin s m e) nan p q = absurd (not_nan f q)
lt_key f (fin s m e) (inf t) p q = fin_inf (mid f) (magnitude f (fin s m e)) (representable_fin f s m e p).small s t
lt_key f (fin s m e) (fin t n d) p q =
    let x = representable_fin f s m e p in
    let y = representable_fin f t n d q in
    let a = magnitude f (fin s m e) in
    let b = magnitude f (fin t n d) in
    below_scale (unit f) (down e * down d) (unit_pos f) (mul-pos (down_pos e) (down_pos d)) (m * up e * down d)
    (n * up d * down e) a b
    (cross f m e d a x.value.1) (cross' f n d e b y.value.1) s t
    ∙ side_lt (mid f) a b (mid_pos f) (le_of_lt x.small) (le_of_lt y.small) s t

pub eq_key : (f : Format) (x y : Float) → T (number f x) → T (number f y) → eq x y ≡ eqb (key f x) (key f y)
unfolding eq key magnitude
eq_key f nan y p q = absurd (not_nan f p)
eq_key f (inf s) nan p q = absurd (not_nan f q)
eq_key f (inf s) (inf t) p q = inf_inf_eq (mid f) (mid_pos f) s t
eq_key f (inf s) (fin t n d) p q = inf_fin_eq (mid f) (magnitude f (fin t n d)) (representable_fin f t n d q).small s t
eq_key f (fin s m e) nan p q = absurd (not_nan f q)
eq_key f (fin s m e) (inf t) p q = fin_inf_eq (mid f) (magnitude f (fin s m e)) (representable_fin f s m e p).small s t
eq_key f (fin s m e) (fin t n d) p q =
    let x = representable_fin f s m e p in
    let y = representable_fin f t n d q in
    let a = magnitude f (fin s m e) in
    let b = magnitude f (fin t n d) in
    level_scale (unit f) (down e * down d) (unit_pos f) (mul-pos (down_pos e) (down_pos d)) (m * up e * down d)
    (n * up d * down e) a b
    (cross f m e d a x.value.1) (cross' f n d e b y.value.1) s t
    ∙ side_eq (mid f) a b (mid_pos f) (le_of_lt x.small) (le_of_lt y.small) s t

pub le_key : (f : Format) (x y : Float) → T (number f x) → T (number f y) → le x y ≡ leb (key f x) (key f y)
unfolding le
le_key f x y p q = ap (λ (b : Bool). b || eq x y) (lt_key f x y p q) ∙ ap (λ (b : Bool). ltb (key f x) (key f y) || b)
    (eq_key f x y p q) ∙ lt_or_eq (key f x) (key f y)

-- ---- order facts as facts on keys
module _ (f : Format) (x y : Float) (p : T (number f x)) (q : T (number f y)) where
  pub le→key : T (le x y) → key f x ≤ key f y
  le→key h = leb→le (key f x) (key f y) (subst (λ (b : Bool). T b) (le_key f x y p q) h)

  pub key→le : key f x ≤ key f y → T (le x y)
  key→le h = subst (λ (b : Bool). T b) (sym (le_key f x y p q)) (le→leb (key f x) (key f y) h)

  pub lt→key : T (lt x y) → key f x < key f y
  lt→key h = ltb→lt (key f x) (key f y) (subst (λ (b : Bool). T b) (lt_key f x y p q) h)

  pub key→lt : key f x < key f y → T (lt x y)
  key→lt h = subst (λ (b : Bool). T b) (sym (lt_key f x y p q)) (lt→ltb (key f x) (key f y) h)

  pub nlt→key : T (not (lt x y)) → key f y ≤ key f x
  nlt→key h = nltb→le (key f x) (key f y) (subst (λ (b : Bool). T (not b)) (lt_key f x y p q) h)
