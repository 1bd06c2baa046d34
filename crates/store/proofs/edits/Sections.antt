-- The section of other bytes: it is the same where the chained records give the same vertices, and a record behind the
-- chain adds its own. Idea: along the chain.
use Prim.Native.Nat.{ℕ}
use native.Mathlib.Omega.{arith}
use mathlib.Core.Bool.{true, or-true}
use mathlib.Core.List.{List, [], ◌∷◌, ◌++◌, append-nil, flat_map}
use mathlib.Core.Path.{◌≡◌, refl, ◌∙◌}
use borrow.Author.Tests.{eq-eqb}
use Rattle.section.specs.profile.Refusals.{any_of}
use Rattle.store.specs.Chain.{member}
use Rattle.store.specs.Store.{vertex_numbers, vertices}
use Rattle.store.proofs.Lists.{flat_map_append}
use Rattle.store.proofs.edits.Fields.{SameFrom, same_kind, same_numbers}

pub same_vertex : {a b : List ℕ} {j k : ℕ} → SameFrom 4 a j b k → vertex_numbers a j ≡ vertex_numbers b k
same_vertex same = rw (same_kind same, same_numbers same 0 (omega arith), same_numbers same 1 (omega arith))

pub same_vertices :
    (a b ks : List ℕ) → ((j : ℕ) → member j ks ≡ true → vertex_numbers a j ≡ vertex_numbers b j) → vertices a ks ≡ vertices b ks
unfolding vertices flat_map any_of
same_vertices a b [] same = refl
same_vertices a b (k ∷ ks) same = rw (same k (rw (eq-eqb k k refl)), same_vertices a b ks (λ j e. same j (rw (e, or-true))))

pub vertices_more : (b ks : List ℕ) (m : ℕ) → vertices b (ks ++ (m ∷ [])) ≡ vertices b ks ++ vertex_numbers b m
unfolding vertices flat_map
vertices_more b ks m = flat_map_append (vertex_numbers b) ks (m ∷ []) ∙ rw append-nil
