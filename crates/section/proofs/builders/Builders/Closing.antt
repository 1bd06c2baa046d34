-- The closing points of a section follow what is kept of its points; a polygon's repeated closing vertex goes. By the laws of one
-- point more, and by cases of the repeat test.
use Prim.Native.Nat.{ℕ, ◌+◌, ◌-◌, ◌*◌, ◌≤◌}
use native.Mathlib.Omega.{arith}
use mathlib.Core.Bool.{Bool, true, false, ◌&&◌, cond}
use mathlib.Core.List.{List}
use mathlib.Core.Path.{◌≡◌, refl, ap, sym, ◌∙◌}
use lib.Dec.{ltb}
use lib.ListN.{length, take, length-take}
use lib.Seq.{take-take}
use lib.Ieee.{Float}
use Rattle.arith.specs.F64.{𝟘}
use Rattle.section.specs.profile.Vertices.{vertex, count, vertex_at}
use Rattle.section.specs.builders.Builder.{same_point, last_of, keep, kept_points, section_of, polygon_of}
use Rattle.section.specs.builders.Steps.{point_at, run_of, pushed, pushed_space, front_kept}
use Rattle.section.specs.declared.builders.builder.Run.{Run}
use Rattle.section.specs.declared.profile.shapes.Vertex.{Vertex}
use Rattle.section.proofs.builders.Builders.Keep.{Whole, next_keep, run_keep}
use Rattle.section.proofs.builders.Builders.Space.{space_keep}
use Rattle.section.proofs.builders.Builders.Points.{points_whole, points_most, points_first, points_last}

-- a section's points, with the first closing point, and with both
module _ (s : List Float) where
  abbrev all : List Float
  all = kept_points s (count s)

  abbrev down : Vertex
  down = vertex (last_of all).z 𝟘

  abbrev back : Vertex
  back = vertex (vertex_at all 0).z 𝟘

  closed : section_of s ≡ keep back (keep down all)
  unfolding section_of kept_points
  closed = refl

  all_whole : Whole all
  all_whole = points_whole s (count s)

  down_whole : Whole (keep down all)
  down_whole = (next_keep all down all_whole).whole

  pub section_whole : Whole (section_of s)
  section_whole = rw closed (next_keep (keep down all) back down_whole).whole

  pub section_most : count (section_of s) ≤ count s + 2
  section_most =
      let m = points_most s (count s) in
      let d = next_keep all down all_whole in
      let b = next_keep (keep down all) back down_whole in
      rw closed (omega arith)

  -- two pushes after all the points
  module _ (h : 2 ≤ count s) {b b₁ : Run} {first : Vertex} (e : b ≡ run_of all)
      (e₁ : b₁ ≡ pushed (vertex b.last.z 𝟘) b) (f : first ≡ point_at s 0) where
    at_down : vertex b.last.z 𝟘 ≡ down
    at_down =
        let p : b.last ≡ last_of all = rw e (points_last s (count s) (omega arith)) in
        ap (λ (v : Vertex). vertex v.z 𝟘) p

    at_back : vertex first.z 𝟘 ≡ back
    at_back = ap (λ (v : Vertex). vertex v.z 𝟘) (f ∙ sym (points_first s (count s) (omega arith)))

    down_run : b₁ ≡ run_of (keep down all)
    down_run = e₁ ∙ rw (at_down, e) (run_keep all down all_whole)

    pub down_most : b₁.count ≤ count s + 1
    down_most =
        let m = points_most s (count s) in
        let d = next_keep all down all_whole in
        rw down_run (omega arith)

    pub section_run : {b₂ : Run} → b₂ ≡ pushed (vertex first.z 𝟘) b₁ → b₂ ≡ run_of (section_of s)
    section_run e₂ = e₂ ∙ rw (at_back, down_run, closed) (run_keep (keep down all) back down_whole)

    pub section_space : (limit : ℕ) (space₀ : List Float) {space space₁ space₂ : List Float} → limit * 2 ≤ length space₀
        → space ≡ front_kept limit all space₀ → space₁ ≡ pushed_space limit (vertex b.last.z 𝟘) b space
        → space₂ ≡ pushed_space limit (vertex first.z 𝟘) b₁ space₁ → space₂ ≡ front_kept limit (section_of s) space₀
    section_space limit space₀ {space} {space₁} k q q₁ q₂ =
        let r : space₁ ≡ front_kept limit (keep down all) space₀ =
        q₁ ∙ rw (at_down, e, q) (space_keep limit all space₀ down all_whole k) in
        q₂ ∙ rw (at_back, down_run, r, closed) (space_keep limit (keep down all) space₀ back down_whole k)

-- a polygon's points, and those without a repeated closing vertex
module _ (s : List Float) where
  abbrev points : List Float
  points = kept_points s (count s)

  abbrev part : Bool → List Float
  part t = cond t (take (length points - 2) points) points

  abbrev closes : Bool
  closes = ltb 1 (count points) && same_point (vertex_at points 0) (last_of points)

  opened : polygon_of s ≡ part closes
  unfolding polygon_of kept_points
  opened = refl

  whole : Whole points
  whole = points_whole s (count s)

  part_count : (t : Bool) → count (part t) ≡ cond t (count points - 1) (count points)
  part_count true = let e = whole in simp length-take (omega arith)
  part_count false = refl

  part_whole : (t : Bool) → Whole (part t)
  part_whole true = let e = whole in simp length-take (omega arith)
  part_whole false = whole

  part_most : (t : Bool) → count (part t) ≤ count points
  part_most true = rw (part_count true) (omega arith)
  part_most false = omega arith

  part_space : (limit : ℕ) (space : List Float) (t : Bool) → limit ≤ count (part t)
      → front_kept limit points space ≡ front_kept limit (part t) space
  part_space limit space true h =
      let e = whole in
      let k : limit ≤ count points - 1 = rw (part_count true) at h in
      rw (take-take (limit * 2) (length points - 2) points (omega arith))
  part_space limit space false h = refl

  pub polygon_whole : Whole (polygon_of s)
  polygon_whole = rw opened (part_whole closes)

  pub polygon_most : count (polygon_of s) ≤ count s
  polygon_most =
      let m = points_most s (count s) in
      let p = part_most closes in
      rw opened (omega arith)

  pub polygon_space : (limit : ℕ) (space : List Float) → limit ≤ count (polygon_of s)
      → front_kept limit points space ≡ front_kept limit (polygon_of s) space
  polygon_space limit space h = rw opened (part_space limit space closes (rw opened at h))

  pub polygon_count : {b : Run} {first : Vertex} → 1 ≤ count s → b ≡ run_of points → first ≡ point_at s 0
      → count (polygon_of s) ≡ cond (ltb 1 b.count && same_point first b.last) (b.count - 1) b.count
  polygon_count h e f =
      rw (opened, f, e, points_last s (count s) h, ← points_first s (count s) h) (part_count closes)
