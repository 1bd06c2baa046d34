-- A chained body replaced, with the same next, by what is no vertex: the chain and the section are as before. Idea: every
-- chained record keeps its next and its vertex, the replaced one having none.
use Prim.Native.Nat.{ℕ, ◌+◌, ◌*◌, ◌/◌, ◌≤◌}
use native.Mathlib.Omega.{arith}
use mathlib.Core.Bool.{Bool, true, false}
use mathlib.Core.List.{List}
use mathlib.Core.Path.{◌≡◌, refl, ap, ◌∙◌}
use lib.ListN.{length, take, length-take}
use lib.Seq.{sets, length-sets}
use lib.Dec.{eqb}
use borrow.Author.Tests.{eqb-true, eqb-false}
use Rattle.store.specs.Records.{next}
use Rattle.store.specs.Chain.{member}
use Rattle.store.specs.Kinds.{is_vertex}
use Rattle.store.specs.Store.{chained, vertex_numbers, vertices}
use Rattle.store.proofs.edits.Fields.{SameFrom, same_next, same_kind}
use Rattle.store.proofs.edits.Placing.{same_then, same_back, same_later, in_front, elsewhere, placed}
use Rattle.store.proofs.edits.Sections.{same_vertex, same_vertices}
use Rattle.store.proofs.edits.Growing.{chain_kept}
use Rattle.store.proofs.edits.Good.{Good, room, within, chained_whole}

-- k itself, or another
pub at_or_not : (P : ℕ → Type 0) (k j : ℕ) → P k → ((j ≡ k → ⊥) → P j) → P j
at_or_not P k j this other = go (eqb j k) refl
  where
    go : (same : Bool) → eqb j k ≡ same → P j
    go true e = rw (eqb-true j k e) this
    go false e = other (eqb-false j k e)

module _ (s : List ℕ) (n : ℕ) (g : Good s n) (k : ℕ) (bytes : List ℕ) (forty : length bytes ≡ 40)
    (there : member k (chained (take n s)) ≡ true)
  where
    abbrev b : List ℕ
    b = take n s

    abbrev b' : List ℕ
    b' = take n (sets s (k * 40) bytes)

    pub same_size : length b' ≡ length b
    same_size = simp (length-take, length-sets)

    pub replaced_others : (j : ℕ) → member j (chained b) ≡ true → (j ≡ k → ⊥) → SameFrom 0 b' j b j
    replaced_others j e other =
        let fits : j * 40 + 40 ≤ n = room g j e in
        same_then (in_front 0 n (sets s (k * 40) bytes) j fits)
        (same_then (elsewhere 0 bytes s j k (omega arith) other) (same_back (in_front 0 n s j fits)))

    pub replaced_record : SameFrom 0 b' k bytes 0
    replaced_record =
        let fits : k * 40 + 40 ≤ n = room g k there in
        same_then (in_front 0 n (sets s (k * 40) bytes) k fits)
        (placed 0 bytes s k forty (omega (arith, within g, g.space)))

    module _ (link : next bytes 0 ≡ next b k) where
      same_nexts : (j : ℕ) → member j (chained b) ≡ true → next b' j ≡ next b j
      same_nexts j e =
          at_or_not (λ (i : ℕ). member i (chained b) ≡ true → next b' i ≡ next b i) k j
          (λ m. same_next replaced_record ∙ link) (λ other m. same_next (replaced_others j m other)) e

      -- the next being the same, the chain is
      pub replaced_chain : chained b' ≡ chained b
      replaced_chain =
          chained_whole b' (chained b) (chain_kept b b' (chained b) g.links (ap (λ (i : ℕ). i / 40) same_size) same_nexts)

      pub replaced_section :
          is_vertex b k ≡ false → is_vertex bytes 0 ≡ false → vertices b' (chained b') ≡ vertices b (chained b)
      replaced_section old new =
          rw replaced_chain
          (same_vertices b' b (chained b) λ j e.
          at_or_not (λ (i : ℕ). member i (chained b) ≡ true → vertex_numbers b' i ≡ vertex_numbers b i) k j
          (λ m. none) (λ other m. same_vertex (same_later (replaced_others j m other))) e)
        where
          none : vertex_numbers b' k ≡ vertex_numbers b k
          none = rw (same_kind (same_later replaced_record), new, old)
