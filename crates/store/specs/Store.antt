-- The verdict on a store: 12, 15, 16, 13 and 14 are tried first, then the section's 2 to 5, then 6.
use Rattle.std.specs.Prelude.{ℕ, zero, suc, ◌/◌, ◌%◌, cond, length, eqb, ltb, Float}
use mathlib.Core.List.{List, [], ◌∷◌, flat_map}
use Rattle.section.specs.profile.Refusals.{◌when◌, refusal, list_tests}
use Rattle.store.specs.Records.{number}
use Rattle.store.specs.Chain.{Chain, whole, broken, chain, in_order}
use Rattle.store.specs.Kinds.{is_vertex, kinds_answer}
use Rattle.store.specs.Radii.{radii_answer}
use Rattle.store.specs.Answers.{StoreAnswer, Accepted, Refused}

-- a refusal stands; otherwise what is tried next
abbrev pub and_then : StoreAnswer → StoreAnswer → StoreAnswer
and_then Accepted rest = rest
and_then (Refused n k) rest = Refused n k

-- a number with K = 0
abbrev pub numbered : ℕ → StoreAnswer
numbered zero = Accepted
numbered (suc n) = Refused (suc n) 0

-- of n bytes: no multiple of 40, none at all, over 512 records
unfoldable pub length_answer : ℕ → StoreAnswer
length_answer n = numbered (refusal ((12 when ltb 0 (n % 40)) ∷ (15 when eqb n 0) ∷ (16 when ltb 512 (n / 40)) ∷ []))

-- 13 with the record that holds the bad next
abbrev pub links_answer : Chain → StoreAnswer
links_answer (whole ks) = Accepted
links_answer (broken k) = Refused 13 k

-- kind 1: vertex z, radius; the others are ignored
abbrev pub vertex_numbers : List ℕ → ℕ → List Float
vertex_numbers b k = cond (is_vertex b k) (number b k 0 ∷ number b k 1 ∷ []) []

-- the section: the vertices among the records ks, in their order, whatever stands between them
unfoldable pub vertices : List ℕ → List ℕ → List Float
vertices b ks = flat_map (vertex_numbers b) ks

-- the section's 2 to 5; 1 never comes, since each vertex gives two numbers
unfoldable pub section_answer : List Float → StoreAnswer
section_answer s = numbered (refusal (list_tests 3 256 s))

-- the chained records of a store, in chain order; no other record counts
unfoldable pub chained : List ℕ → List ℕ
chained b = in_order (chain b)

-- 12, 15, 16, 13, 14, the section's 2 to 5, then 6: the whole chain is walked for 13 before any kind is looked at
unfoldable pub store_answer : List ℕ → StoreAnswer
store_answer b =
    and_then (length_answer (length b))
    (and_then (links_answer (chain b))
    (and_then (kinds_answer b (chained b))
    (and_then (section_answer (vertices b (chained b)))
    (radii_answer b (chained b)))))
