-- The first n parts of the two arrays are those that wait, and one more is stored above them. By the laws of `set`.
use Prim.Native.Nat.{ℕ, zero, suc, ◌+◌, ◌-◌, ◌*◌, ◌<◌, ◌≤◌}
use native.Mathlib.Numerals.{add-one}
use native.Mathlib.Omega.{arith}
use mathlib.Core.List.{List, [], ◌∷◌}
use mathlib.Core.Path.{◌≡◌, refl, ap}
use lib.ListN.{length, get_or, set, length-set}
use lib.Seq.{get_or-set_same, get_or-set_other}
use lib.Ieee.{Float, nan}
use Rattle.walk.specs.pieces.Pieces.{piece}
use Rattle.walk.specs.pieces.Steps.{stacked, part, nowhere}
use Rattle.walk.specs.declared.pieces.shapes.Cross.{Cross}
use Rattle.walk.specs.declared.pieces.shapes.Part.{Part}

pub stacked_length : (w : List Float) (ls : List Cross) (n : ℕ) → length (stacked w ls n) ≡ n
unfolding stacked
stacked_length w ls zero = refl
stacked_length w ls (suc n) = ap suc (stacked_length w ls n)

pub none_wait : (w : List Float) (ls : List Cross) {n : ℕ} → n ≡ 0 → stacked w ls n ≡ []
unfolding stacked
none_wait w ls e = rw e

pub top_waits : (w : List Float) (ls : List Cross) (n : ℕ) → (n ≡ 0 → ⊥)
    → stacked w ls n
    ≡ part (piece (get_or w (2 * (n - 1)) nan) (get_or w (2 * (n - 1) + 1) nan)) (get_or ls (n - 1) nowhere) ∷ stacked w ls (n - 1)
unfolding stacked
top_waits w ls zero k = absurd (k refl)
top_waits w ls (suc n) k = let e : suc n - 1 ≡ n = omega arith in rw e

-- so that fewer parts are fewer pieces
pub room : (w : List Float) (ls : List Cross) (n : ℕ) {v : List Part} {m : ℕ} → v ≡ stacked w ls n → length v < m → n < m
room w ls n e h = rw (e, stacked_length w ls n) at h

-- a store past the front leaves the front
stacked_pieces : (w : List Float) (ls : List Cross) (n i : ℕ) (x : Float) → 2 * n ≤ i → stacked (set w i x) ls n ≡ stacked w ls n
unfolding stacked
stacked_pieces w ls zero i x h = refl
stacked_pieces w ls (suc n) i x h =
    rw (
      get_or-set_other w i (2 * n) x nan (omega arith),
      get_or-set_other w i (2 * n + 1) x nan (omega arith),
      stacked_pieces w ls n i x (omega arith),
    )

stacked_lefts : (w : List Float) (ls : List Cross) (n i : ℕ) (x : Cross) → n ≤ i → stacked w (set ls i x) n ≡ stacked w ls n
unfolding stacked
stacked_lefts w ls zero i x h = refl
stacked_lefts w ls (suc n) i x h =
    rw (get_or-set_other ls i n x nowhere (omega arith), stacked_lefts w ls n i x (omega arith))

pub stacked_push : (w : List Float) (ls : List Cross) (n : ℕ) (p : Part) → 2 * n + 1 < length w → n < length ls
    → stacked (set (set w (2 * n) p.piece.z0) (2 * n + 1) p.piece.z1) (set ls n p.left) (n + 1) ≡ p ∷ stacked w ls n
unfolding stacked
stacked_push w ls n p h k =
    let w₁ = set w (2 * n) p.piece.z0 in
    let l : length w₁ ≡ length w = length-set w (2 * n) p.piece.z0 in
    rw (
      add-one n,
      get_or-set_other w₁ (2 * n + 1) (2 * n) p.piece.z1 nan (omega arith),
      get_or-set_same w (2 * n) p.piece.z0 nan (omega arith),
      get_or-set_same w₁ (2 * n + 1) p.piece.z1 nan (omega arith),
      get_or-set_same ls n p.left nowhere k,
      stacked_lefts (set w₁ (2 * n + 1) p.piece.z1) ls n n p.left (omega arith),
      stacked_pieces w₁ ls n (2 * n + 1) p.piece.z1 (omega arith),
      stacked_pieces w ls n (2 * n) p.piece.z0 (omega arith),
    )
