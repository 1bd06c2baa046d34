-- THE MEASURED PIECES: each lies within the scale, as the whole width does, for the middle of a piece lies between its ends; and
-- the whole width is one.
use Prim.Native.Nat.{◌+◌, ◌<◌, suc, zero, ℕ, ◌≤◌}
use mathlib.Core.List.Memᴰ
use mathlib.Core.List.{◌∷◌, [], List, Memᴰ}
use mathlib.Core.Logic.{inl, inr, ◌⊎◌}
use mathlib.Core.Path.{◌≡◌, refl, subst, sym}
use native.Mathlib.Omega.{arith}
use lib.Ieee.{binary64, Float, prec}
use Rattle.arith.proofs.Laws.Bounded.{between_bounded, bounded_up, overflow}
use Rattle.arith.proofs.Laws.Sizes.{finite_number_lem}
use Rattle.section.proofs.profile.Each.{All, cons, nil}
use Rattle.section.proofs.profile.Steps.{pick}
use Rattle.walk.specs.bands.Band.{mean}
use Rattle.walk.specs.declared.bands.shapes.RadialBand.{RadialBand}
use Rattle.walk.specs.pieces.Pieces.{box_hit, halves, variation, whole_width}
use Rattle.walk.specs.declared.pieces.shapes.Piece.{Piece}
use Rattle.walk.specs.Walk.{halved, measured, sampled, start, waiting, Walk, walk, walk_all}
use Rattle.walk.proofs.Demand.Pieces.{halve_sound, Sound}
use Rattle.truth.proofs.Walk.HalfWidths.{BandSized, Scaled}
use Rattle.truth.proofs.Walk.Margin.{PieceWithin}
use Rattle.truth.proofs.Walk.Place.{whole_within}

module _ (e m : ℕ) (S : Scaled e m) where
  pub sound : {p : Piece} → PieceWithin e p → Sound p
  sound {p} P = record {
    z0 = record { bounded = bounded_up binary64 (prec binary64 + suc e) 1095 p.z0 limit P.z0 };
    z1 = record { bounded = bounded_up binary64 (prec binary64 + suc e) 1095 p.z1 limit P.z1 };
    order = P.order;
  }
    where
      limit : prec binary64 + suc e ≤ 1095
      limit = let l = S.limit in omega arith

  halves_within : {p : Piece} {ps : List Piece} → PieceWithin e p → All (PieceWithin e) ps → All (PieceWithin e) (halves p ps)
  halves_within {p} P A =
      let h = halve_sound (sound P) in
      let o : prec binary64 + suc e < overflow binary64 = (let l = S.range in omega arith) in
      let c = between_bounded binary64 (prec binary64 + suc e) p.z0 (mean p.z0 p.z1) p.z1
      (finite_number_lem h.left.z1) o P.z0 P.z1 h.left.order h.right.order in
      cons (record { z0 = c; z1 = P.z1; order = h.right.order })
      (cons (record { z0 = P.z0; z1 = c; order = h.left.order }) A)

  module _ (s : List Float) (b : RadialBand) (tol : Float) where
    walk_within : (n : ℕ) (ps : List Piece) (w : Walk) → All (PieceWithin e) ps → All (PieceWithin e) w.seen
        → All (PieceWithin e) (walk s b tol n ps w).seen
    unfolding walk
    walk_within zero [] w A D = D
    walk_within zero (p ∷ ps) w A D = D
    walk_within (suc n) [] w A D = D
    walk_within (suc n) (p ∷ ps) w (cons P A) D =
        walk_within n (waiting s b tol p ps w.best) (measured s b tol p ps w)
        (pick (All (PieceWithin e)) (halved tol (box_hit s b p) (variation b p) w.best p) (λ h. halves_within P A) (λ h. A))
        (cons P D)

    member : {l : List Piece} → All (PieceWithin e) l → (p : Piece) → Memᴰ p l → PieceWithin e p
    member nil p h = elim h [ ]
    member (cons {x} {xs} P A) p h = go (Memᴰ.cases_cons h) (member A p)
      where
        go : (p ≡ x) ⊎ Memᴰ p xs → (Memᴰ p xs → PieceWithin e p) → PieceWithin e p
        go (inl q) r = subst (PieceWithin e) (sym q) P
        go (inr h) r = r h

    pub seen_within : BandSized e b → (cap n : ℕ) (p : Piece) → Memᴰ p (walk_all s b tol cap n).seen → PieceWithin e p
    unfolding walk_all
    seen_within B cap n =
        member (walk_within cap (whole_width b ∷ []) (start (sampled s b n)) (cons (whole_within e m S B) nil) nil)

    -- what is measured stays so
    stays : (n : ℕ) (ps : List Piece) (w : Walk) (p : Piece) → Memᴰ p w.seen → Memᴰ p (walk s b tol n ps w).seen
    unfolding walk
    stays zero [] w p h = h
    stays zero (q ∷ ps) w p h = h
    stays (suc n) [] w p h = h
    stays (suc n) (q ∷ ps) w p h = stays n (waiting s b tol q ps w.best) (measured s b tol q ps w) p (Memᴰ.tail h)

    pub whole_seen : (cap n : ℕ) → 1 ≤ cap → Memᴰ (whole_width b) (walk_all s b tol cap n).seen
    unfolding walk_all walk
    whole_seen zero n c = let k : ⊥ = omega arith in absurd k
    whole_seen (suc cap) n c =
        stays cap (waiting s b tol (whole_width b) [] (sampled s b n)) (measured s b tol (whole_width b) [] (start (sampled s b n)))
        (whole_width b) (Memᴰ.head refl)
