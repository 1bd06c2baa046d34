-- Keeping points one after the other: vertices stay whole, the first stays, at most one more comes each time, and the
-- run of the last vertex and the count follows. By cases of the repeat test.
use Prim.Native.Nat.{◌+◌, ◌-◌, ◌*◌, ◌<◌, ◌≤◌}
use native.Mathlib.Omega.{arith}
use mathlib.Core.Bool.{Bool, true, false, ◌&&◌, cond}
use mathlib.Core.List.{List, [], ◌∷◌, ◌++◌}
use mathlib.Core.Path.{◌≡◌, refl}
use lib.Dec.{ltb}
use lib.ListN.{length, length-append, get_or-append}
use lib.Seq.{get_or-append_seam, get_or-append-add}
use lib.Ieee.{Float, nan}
use borrow.Author.Tests.{lt-ltb}
use Rattle.arith.specs.F64.{𝟘}
use Rattle.section.specs.profile.Vertices.{vertex, count, vertex_at}
use Rattle.section.specs.builders.Builder.{same_point, last_of, keep}
use Rattle.section.specs.builders.Steps.{run, run_of, is_repeat, pushed}
use Rattle.section.specs.declared.profile.shapes.Vertex.{Vertex}

-- vertices are whole
abbrev pub Whole : List Float → Type 0
Whole l = length l ≡ count l * 2

abbrev pub more : Vertex → List Float → List Float
more v l = l ++ v.z ∷ v.r ∷ []

-- the list with one vertex more
module _ (l : List Float) (v : Vertex) (e : Whole l) where
  pub one_more : count (more v l) ≡ count l + 1
  one_more = simp length-append (omega arith)

  pub whole_more : Whole (more v l)
  whole_more = simp length-append (omega arith)

  last_more : last_of (more v l) ≡ v
  last_more =
      let p : (count (more v l) - 1) * 2 ≡ length l = simp length-append (omega arith) in
      rw (p, get_or-append_seam l v.z _ nan, get_or-append-add l (v.z ∷ v.r ∷ []) 1 nan)

  first_more : 0 < count l → vertex_at (more v l) 0 ≡ vertex_at l 0
  first_more h = rw (get_or-append l _ nan 0 (omega arith), get_or-append l _ nan 1 (omega arith))

  run_more : run v (count l + 1) ≡ run_of (more v l)
  run_more = rw (last_more, one_more, lt-ltb 0 (count l + 1) (omega arith))

-- the repeat test of a run is that of the list
same_test : (t : Bool) (a b v : Vertex) → (t && same_point (cond t a b) v) ≡ (t && same_point a v)
same_test true a b v = refl
same_test false a b v = refl

pub repeats_same : (l : List Float) (v : Vertex) → is_repeat (run_of l) v ≡ (ltb 0 (count l) && same_point (last_of l) v)
repeats_same l v = same_test (ltb 0 (count l)) (last_of l) (vertex 𝟘 𝟘) v

-- one point more
pub record Next (l l' : List Float) : Type 0 where
  pub whole : Whole l'
  pub most : count l' ≤ count l + 1
  pub least : count l ≤ count l'
  pub first : 0 < count l → vertex_at l' 0 ≡ vertex_at l 0

module _ (l : List Float) (v : Vertex) (e : Whole l) where
  by : (b : Bool) → (ltb 0 (count l) && same_point (last_of l) v) ≡ b → Next l (keep v l) × (pushed v (run_of l) ≡ run_of (keep v l))
  unfolding pushed keep
  by true q =
      rw (repeats_same l v, q) (record { whole = e; most = omega arith; least = omega arith; first = λ h. refl }, refl)
  by false q =
      let m = one_more l v e in
      rw (repeats_same l v, q) (
        record { whole = whole_more l v e; most = omega arith; least = omega arith; first = first_more l v e },
        run_more l v e,
      )

  pub next_keep : Next l (keep v l)
  next_keep = (by _ refl).0

  pub run_keep : pushed v (run_of l) ≡ run_of (keep v l)
  run_keep = (by _ refl).1
