-- The walk's loop: the definition's walk from the locals on, over the pieces that wait, ends as the whole walk does. At any time
-- no more pieces wait than the most of the whole walk, so there is room for the halves.
use Prim.Native.Nat.{ℕ, zero, suc, ◌+◌, ◌-◌, ◌<◌, ◌≤◌, max as maxℕ}
use native.Mathlib.Nat.{le_refl, le_trans, zero-add, eq-or-lt_of_le}
use native.Mathlib.Omega.{arith}
use mathlib.Core.Bool.{Bool, true, false, cond}
use mathlib.Core.List.{List, [], ◌∷◌}
use mathlib.Core.Logic.{⊎_elim}
use mathlib.Core.Path.{◌≡◌, refl, sym, ap, ◌∙◌}
use lib.ListN.{length}
use lib.Ieee.{Float}
use Rattle.section.specs.declared.profile.shapes.CollisionHit.{CollisionHit}
use Rattle.walk.specs.pieces.Pieces.{whole_width, halves}
use Rattle.walk.specs.pieces.Steps.{measure}
use Rattle.walk.specs.declared.pieces.shapes.Piece.{Piece}
use Rattle.walk.specs.declared.pieces.shapes.Measured.{Measured}
use Rattle.walk.specs.Walk.{Walk, halved, sampled, waiting, measured}
use Rattle.walk.specs.Walk.{walk, walk_all, walked}
use Rattle.walk.specs.Steps.{Room, count, cut_off, start, uncut}
use Rattle.walk.specs.declared.bands.shapes.RadialBand.{RadialBand}
use Rattle.walk.specs.declared.walker.walker.SoFar.{SoFar}

-- the definition's, that has seen these pieces
abbrev at : SoFar → List Piece → Walk
at x seen = record { best = x.best; least = x.least; most = x.most; seen = seen; cut = false }

module _ (s : List Float) (b : RadialBand) (tol : Float) (cap intervals : ℕ) where
  abbrev whole : Walk
  whole = walk_all s b tol cap intervals

  -- the pieces ps wait
  pub record State (ps : List Piece) (x : SoFar) : Type 0 where
    pub fuel : ℕ
    pub seen : List Piece
    pub budget : x.boxes + fuel ≡ cap
    pub counted : length seen ≡ x.boxes
    pub ahead : walk s b tol fuel ps (at x seen) ≡ whole

  nothing : (fuel : ℕ) (x : Walk) → walk s b tol fuel [] x ≡ x
  unfolding walk
  nothing zero x = refl
  nothing (suc fuel) x = refl

  most_grows : (fuel : ℕ) (ps : List Piece) (x : Walk) → x.most ≤ (walk s b tol fuel ps x).most
  unfolding walk
  most_grows zero [] x = le_refl x.most
  most_grows zero (p ∷ ps) x = le_refl x.most
  most_grows (suc fuel) [] x = le_refl x.most
  most_grows (suc fuel) (p ∷ ps) x =
      le_trans (omega arith) (most_grows fuel (waiting s b tol p ps x.best) (measured s b tol p ps x))

  -- one piece is taken and goes through
  step : {qs : List Piece} (p : Piece) (ps : List Piece) (fuel fuel' : ℕ) (x : Walk) → qs ≡ p ∷ ps → fuel ≡ suc fuel'
      → walk s b tol fuel qs x ≡ whole
      → walk s b tol fuel' (waiting s b tol p ps x.best) (measured s b tol p ps x) ≡ whole
  unfolding walk
  step p ps fuel fuel' x e f a = sym (rw (e, f)) ∙ a

module _ {s : List Float} {b : RadialBand} {tol : Float} {cap intervals : ℕ} where
  -- the whole width waits
  pub begun : {x : SoFar} {best : CollisionHit} → x ≡ start best → best ≡ sampled s b intervals
      → State s b tol cap intervals (whole_width b ∷ []) x
  unfolding walk_all
  begun e u =
      rw (e, u) (record { fuel = cap; seen = []; budget = zero-add cap; counted = refl; ahead = refl })

  module _ {ps : List Piece} {x : SoFar} (S : State s b tol cap intervals ps x) where
    -- nothing waits
    pub ended : ps ≡ [] → uncut x ≡ walked (walk_all s b tol cap intervals)
    ended e = rw (← S.ahead, e, ← S.counted, nothing s b tol cap intervals S.fuel (at x S.seen))

    pub has_box : (x.boxes ≡ cap → ⊥) → x.boxes < cap
    has_box ne = ⊎_elim (λ e. absurd (ne e)) (λ l. l) (eq-or-lt_of_le (omega (arith, S.budget)))

    -- p is taken from before the others
    module _ {p : Piece} {others : List Piece} (taken : ps ≡ p ∷ others) where
      -- no box is left
      pub cut_short : x.boxes ≡ cap → cut_off x ≡ walked (walk_all s b tol cap intervals)
      unfolding walk
      cut_short e =
          let f : S.fuel ≡ 0 = omega (arith, S.budget) in
          rw (← S.ahead, taken, f, S.counted)

      module _ (left : x.boxes < cap) where
        abbrev rest : ℕ
        rest = cap - suc x.boxes

        -- what waits next
        abbrev next : List Piece
        next = waiting s b tol p others x.best

        onward : walk s b tol rest next (measured s b tol p others (at x S.seen)) ≡ walk_all s b tol cap intervals
        onward =
            let f : S.fuel ≡ suc rest = omega (arith, S.budget) in
            step s b tol cap intervals p others S.fuel rest (at x S.seen) taken f S.ahead

        module _ {m : Measured} (e : m ≡ measure s b p) {h : Bool}
            (t : h ≡ halved tol m.hit m.variation x.best p) where
          waits : cond h (halves p others) others ≡ next
          waits =
              ap (λ (u : Bool). cond u (halves p others) others)
              (t ∙ ap (λ (m : Measured). halved tol m.hit m.variation x.best p) e)

          pub has_room : Room s b tol cap intervals → h ≡ true → length others + 2 ≤ 54
          has_room room on =
              let grown = most_grows s b tol cap intervals rest next (measured s b tol p others (at x S.seen)) in
              let g : maxℕ x.most (length next) ≤ (walk_all s b tol cap intervals).most = rw onward at grown in
              let l : length next ≡ suc (suc (length others)) = rw (← waits, on) in
              omega (arith, room)

          carry : (qs : List Piece) (m' : Measured) (n : ℕ) → qs ≡ next → m' ≡ measure s b p → n ≡ length qs
              → walk s b tol rest qs (at (count m' n x) (p ∷ S.seen)) ≡ walk_all s b tol cap intervals
          carry qs m' n u v l = rw (l, u, v) onward

          -- those wait that are to
          pub turned : {qs : List Piece} {n : ℕ} → qs ≡ cond h (halves p others) others → n ≡ length qs
              → State s b tol cap intervals qs (count m n x)
          turned {qs} {n} q l =
              record {
                fuel = rest;
                seen = p ∷ S.seen;
                budget = omega arith;
                counted = omega (arith, S.counted);
                ahead = carry qs m n (q ∙ waits) e l;
              }
