-- One turn of the walk: the best distance does not rise, a piece that is not halved is settled, and every piece that
-- waits is as deep as there are pieces under it.
use Prim.Native.Nat.{ℕ, ◌≤◌, ◌<◌, suc-le-suc}
use mathlib.Core.Path.{◌≡◌, refl}
use mathlib.Core.Logic.{inl, inr, ◌⊎◌}
use mathlib.Core.Bool.{Bool, true, false, not, ◌&&◌, ◌||◌, cond, true≢false, false≢true}
use mathlib.Core.List.{List, [], ◌∷◌}
use native.Mathlib.Nat.{le_refl, le_trans, lt_of_le_of_lt}
use lib.ListN.{length}
use lib.Dec.{T}
use lib.Ieee.{Float, binary64}
use Rattle.arith.specs.F64.{◌⊕◌, ◌⊖◌, ◌≺◌, ◌≼◌, e_12}
use Rattle.arith.proofs.roots.Rounding.KeyOrder.{key→le, lt→key, nlt→key}
use Rattle.section.specs.profile.Vertices.{hit, nearer}
use Rattle.section.specs.declared.profile.shapes.CollisionHit.{CollisionHit}
use Rattle.walk.specs.pieces.Pieces.{piece_box, variation, box_hit}
use Rattle.walk.specs.declared.pieces.shapes.Piece.{Piece}
use Rattle.walk.specs.Walk.{dropped, better, halved, waiting}
use Rattle.walk.specs.declared.bands.shapes.RadialBand.{RadialBand}
use Rattle.arith.proofs.Laws.Extended.{sum_number, sum_ge}
use Rattle.arith.proofs.Laws.OrderHeld.{number_held}
use Rattle.arith.proofs.Laws.Sizes.{Finite, K, Number, e_12_finite, e_12_positive, finite_number_lem, sub_finite}
use Rattle.section.proofs.profile.Numbers.{NumberHit, nearer_low, nearer_number}
use Rattle.section.proofs.profile.Steps.{pick}
use Rattle.section.proofs.Numbers.{box_number}
use Rattle.walk.proofs.bands.Limit.{InLimit}
use Rattle.walk.proofs.Demand.Pieces.{variation_finite}
use Rattle.walk.proofs.Cover.Depth.{AtDepth, shallower, Tolerance, tolerance_number, halve}

-- ---- a piece against the best so far

-- What is reported, of key k, is below the box distance m; or the variation v or the width e is at most the tolerance,
-- and what is reported at most m + v.
abbrev pub Settles : (tol m v e : Float) → ℕ → Type 0
Settles tol m v e k = (k < K m) ⊎ (T ((v ≼ tol) || (e ≼ tol)) × (k ≤ K (m ⊕ v)))

pub settles_down : (tol m v e : Float) (k k' : ℕ) → k' ≤ k → Settles tol m v e k → Settles tol m v e k'
settles_down tol m v e k k' h (inl l) = inl (lt_of_le_of_lt h l)
settles_down tol m v e k k' h (inr l) = inr (l.0, le_trans h l.1)

pub record Turn (tol : Float) (m : CollisionHit) (v : Float) (best : CollisionHit) (p : Piece) : Type 0 where
  pub number : Number (better m v best).distance
  pub lower : K (better m v best).distance ≤ K best.distance
  pub wide : halved tol m v best p ≡ true → T (tol ≺ p.z1 ⊖ p.z0)
  pub settled : halved tol m v best p ≡ false
      → Settles tol m.distance v (p.z1 ⊖ p.z0) (K (better m v best).distance)

turn : (tol : Float) (m : CollisionHit) (v : Float) (best : CollisionHit) (p : Piece) → Number tol
    → Number m.distance → Finite 23 v → Number best.distance → Number (p.z1 ⊖ p.z0) → Turn tol m v best p
turn tol m v best p nt nm fv nb ne =
    record {
      number = pick NumberHit (dropped m best) (λ h. nb)
          (λ h. nearer_number best new nb (number_held binary64 (m.distance ⊕ v) nn));
      lower = pick (λ (h : CollisionHit). K h.distance ≤ K best.distance) (dropped m best) (λ h. le_refl _) (λ h. low.0);
      wide = last_so (dropped m best) (tol ≺ v) (tol ≺ p.z1 ⊖ p.z0);
      settled = settled (dropped m best) (tol ≺ v) (tol ≺ p.z1 ⊖ p.z0) far
          (not_above v (finite_number_lem fv)) (not_above (p.z1 ⊖ p.z0) ne);
    }
  where
    new : CollisionHit
    new = hit (m.distance ⊕ v) m.witness

    nn : Number (m.distance ⊕ v)
    nn = sum_number binary64 m.distance v nm fv.bounded.sure

    low : (K (nearer best new).distance ≤ K best.distance) × (K (nearer best new).distance ≤ K (m.distance ⊕ v))
    low = nearer_low best new nb nn

    far : T (dropped m best) → K best.distance < K m.distance
    far t =
        let c = e_12_finite.bounded.sure in
        let n = sum_number binary64 best.distance e_12 nb c in
        lt_of_le_of_lt (sum_ge binary64 best.distance e_12 nb c e_12_positive)
        (lt→key binary64 (best.distance ⊕ e_12) m.distance n nm t)

    not_above : (x : Float) → Number x → T (not (tol ≺ x)) → T (x ≼ tol)
    not_above x n h = key→le binary64 x tol n nt (nlt→key binary64 tol x nt n h)

    or_so : (c d : Bool) → T c ⊎ T d → T (c || d)
    or_so true d h = tt
    or_so false d (inl h) = absurd h
    or_so false d (inr h) = h

    last_so : (t u x : Bool) → (not t && (u && x)) ≡ true → T x
    last_so true u x e = absurd (false≢true e)
    last_so false false x e = absurd (false≢true e)
    last_so false true false e = absurd (false≢true e)
    last_so false true true e = tt

    settled : (t u x : Bool) → (T t → K best.distance < K m.distance) → (T (not u) → T (v ≼ tol))
        → (T (not x) → T (p.z1 ⊖ p.z0 ≼ tol)) → (not t && (u && x)) ≡ false
        → Settles tol m.distance v (p.z1 ⊖ p.z0) (K (cond t best (nearer best new)).distance)
    settled true u x a b c e = inl (a tt)
    settled false false x a b c e = inr (or_so (v ≼ tol) (p.z1 ⊖ p.z0 ≼ tol) (inl (b tt)), low.1)
    settled false true false a b c e = inr (or_so (v ≼ tol) (p.z1 ⊖ p.z0 ≼ tol) (inr (c tt)), low.1)
    settled false true true a b c e = absurd (true≢false e)

-- ---- the pieces that wait

-- each is as narrow as one made by as many halvings as there are pieces under it
abbrev pub Ready : List Piece → Type 0
Ready [] = Unit {0}
Ready (p ∷ ps) = AtDepth (length ps) p × Ready ps

module _ (s : List Float) (b : RadialBand) (tol : Float) (B : InLimit b) (t : Tolerance tol) where
  abbrev pub TurnOf : Piece → CollisionHit → Type 0
  TurnOf p best = Turn tol (box_hit s b p) (variation b p) best p

  pub turn_of : (j : ℕ) (p : Piece) (best : CollisionHit) → AtDepth j p → Number best.distance → TurnOf p best
  turn_of j p best P nb =
      turn tol (box_hit s b p) (variation b p) best p (tolerance_number tol t) (box_number s (piece_box b p))
      (variation_finite B P.sound) nb (finite_number_lem (sub_finite P.sound.z1 P.sound.z0 tt))

  pub record Next (p : Piece) (ps : List Piece) (best : CollisionHit) : Type 0 where
    pub ready : Ready (waiting s b tol p ps best)
    pub few : (length (waiting s b tol p ps best) ≤ length ps) ⊎ (length (waiting s b tol p ps best) ≤ 53)

  pub next : (p : Piece) (ps : List Piece) (best : CollisionHit) → Ready (p ∷ ps) → Number best.distance
      → Next p ps best
  next p ps best r nb = go (halved tol (box_hit s b p) (variation b p) best p) refl
    where
      go : (h : Bool) → halved tol (box_hit s b p) (variation b p) best p ≡ h → Next p ps best
      go true e =
          let H = halve tol t (length ps) p r.0 ((turn_of (length ps) p best r.0 nb).wide e) in
          record {
            ready = rw e (H.right, (shallower (length ps) _ H.left, r.1));
            few = rw e (inr (suc-le-suc H.shallow));
          }
      go false e = record { ready = rw e r.1; few = rw e (inl (le_refl (length ps))) }
