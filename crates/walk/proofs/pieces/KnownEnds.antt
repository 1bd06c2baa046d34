-- What is known at a piece's ends gives its two spans, by the cases of the definition. Pieces that wait lie end to end: when one has
-- gone through, its left end is where the one below ends.
use mathlib.Core.Bool.{true, false}
use mathlib.Core.List.{List, [], ◌∷◌}
use mathlib.Core.Path.{◌≡◌, refl, sym, ap, ◌∙◌}
use Rattle.arith.specs.F64.{◌≺◌, ◌≼◌}
use Rattle.walk.specs.pieces.Pieces.{widest, narrowest}
use Rattle.walk.specs.pieces.Steps.{cross_at, left_half, right_half, Known}
use Rattle.walk.specs.declared.bands.shapes.RadialBand.{RadialBand}
use Rattle.walk.specs.declared.pieces.shapes.Piece.{Piece}
use Rattle.walk.specs.declared.pieces.shapes.Cross.{Cross}
use Rattle.walk.specs.declared.pieces.shapes.Part.{Part}

module _ (b : RadialBand) (p : Piece) {x : Cross} where
  pub widest_left : x ≡ cross_at b p.z0 → (b.zc ≺ p.z0) ≡ true → x.span ≡ widest b p
  unfolding widest
  widest_left e h = rw (e, h)

  pub widest_right : x ≡ cross_at b p.z1 → (b.zc ≺ p.z0) ≡ false → (p.z1 ≺ b.zc) ≡ true → x.span ≡ widest b p
  unfolding widest
  widest_right e h k = rw (e, h, k)

  pub widest_middle : x ≡ cross_at b b.zc → (b.zc ≺ p.z0) ≡ false → (p.z1 ≺ b.zc) ≡ false → x.span ≡ widest b p
  unfolding widest
  widest_middle e h k = rw (e, h, k)

module _ (b : RadialBand) (p : Piece) {left right : Cross} (e : left ≡ cross_at b p.z0) (g : right ≡ cross_at b p.z1) where
  pub narrowest_left : (left.rho ≼ right.rho) ≡ true → left.span ≡ narrowest b p
  unfolding narrowest
  narrowest_left h = let k = rw (e, g) at h in rw (e, k)

  pub narrowest_right : (left.rho ≼ right.rho) ≡ false → right.span ≡ narrowest b p
  unfolding narrowest
  narrowest_right h = let k = rw (e, g) at h in rw (g, k)

-- ---- the pieces that wait

-- both halves of p wait, and the left one starts where p did
pub next_half : (b : RadialBand) (p : Part) (ps : List Part) {right : Cross} → Known b right (p ∷ ps)
    → Known b right (right_half b p ∷ left_half p ∷ ps)
next_half b p ps k = (k.0, (refl, (refl, k.1)))

-- p is not halved, and the piece below, if there is one, is taken next: it ends where p starts
pub next_below : (b : RadialBand) (p : Part) (ps : List Part) {right : Cross} → Known b right (p ∷ ps) → Known b p.left ps
next_below b p [] k = tt
next_below b p (q ∷ qs) k = (k.1.0 ∙ ap (cross_at b) (sym k.1.1.0), k.1.1.1)
