-- The kept vertices in the front of the lent space, the first of them up to a limit: what one more does.
use Prim.Native.Nat.{ℕ, ◌+◌, ◌*◌, ◌≤◌, ◌<◌}
use native.Mathlib.Numerals.{add-one}
use native.Mathlib.Omega.{arith}
use mathlib.Core.Bool.{Bool, true, false, ◌&&◌}
use mathlib.Core.List.{List, [], ◌∷◌, ◌++◌}
use mathlib.Core.Path.{◌≡◌, refl}
use lib.Dec.{ltb}
use lib.ListN.{length, set, length-append, length-drop}
use lib.Seq.{sets-eq, take_all, take-append-le, take-append_seam, drop-append-add, drop-drop}
use lib.Ieee.{Float}
use borrow.Author.Tests.{ltb-true, ltb-false}
use Rattle.section.specs.profile.Vertices.{count}
use Rattle.section.specs.builders.Builder.{same_point, last_of, keep, filled}
use Rattle.section.specs.builders.Steps.{run_of, written, pushed_space, front_kept}
use Rattle.section.specs.declared.profile.shapes.Vertex.{Vertex}
use Rattle.section.proofs.builders.Builders.Keep.{Whole, more, repeats_same}

pub filled_length : (l space : List Float) → length l ≤ length space → length (filled l space) ≡ length space
unfolding filled
filled_length l space h = simp (length-append, length-drop) (omega arith)

-- the space's front holds l: one vertex more
front_more : (l space : List Float) (z r : Float) → length l + 2 ≤ length space
    → set (set (filled l space) (length l) z) (length l + 1) r ≡ filled (l ++ z ∷ r ∷ []) space
unfolding filled
front_more l space z r h =
    let b : length l + 2 ≤ length (filled l space) = rw (filled_length l space (omega arith)) h in
    rw (add-one (length l), length-append)
    (rw (take-append_seam, drop-append-add, drop-drop) at (sets-eq (z ∷ r ∷ []) (filled l space) (length l) b))

module _ (limit : ℕ) (l space : List Float) (v : Vertex) (e : Whole l) (h : limit * 2 ≤ length space) where
  put_by : (b : Bool) → ltb (count l) limit ≡ b → written limit (count l) v (front_kept limit l space) ≡ front_kept limit (more v l) space
  unfolding written
  put_by true q =
      let k : count l < limit = ltb-true _ _ q in
      let m : length (more v l) ≤ limit * 2 = simp length-append (omega arith) in
      rw (q, take_all (limit * 2) l (omega arith), take_all (limit * 2) (more v l) m, ← e)
      (front_more l space v.z v.r (omega arith))
  put_by false q =
      let k : limit ≤ count l = ltb-false _ _ q in
      rw (q, take-append-le (limit * 2) l (v.z ∷ v.r ∷ []) (omega arith))

  put_more : written limit (count l) v (front_kept limit l space) ≡ front_kept limit (more v l) space
  put_more = put_by _ refl

  keep_by : (b : Bool) → (ltb 0 (count l) && same_point (last_of l) v) ≡ b
      → pushed_space limit v (run_of l) (front_kept limit l space) ≡ front_kept limit (keep v l) space
  unfolding pushed_space keep
  keep_by true q = rw (repeats_same l v, q)
  keep_by false q = rw (repeats_same l v, q) put_more

  pub space_keep : pushed_space limit v (run_of l) (front_kept limit l space) ≡ front_kept limit (keep v l) space
  space_keep = keep_by _ refl
