-- The chain: record 0's next leads to the first, next 0 ends it. It is broken where a next lies past the end or leads
-- to a record for the second time (13).
use Rattle.std.specs.Prelude.{ℕ, zero, suc, Bool, ◌||◌, cond, List, [], ◌∷◌, ◌++◌, eqb, leb}
use Rattle.section.specs.profile.Refusals.{any_of}
use Rattle.store.specs.Records.{records, next}

-- the records in chain order, record 0 standing first; or the record that holds the bad next
pub data Chain : Type 0 where
  whole : List ℕ → Chain
  broken : ℕ → Chain

abbrev pub member : ℕ → List ℕ → Bool
member m ks = any_of (eqb m) ks

-- From record k on, with `passed` behind it. The number of records that may still be passed only makes this end:
-- a chain that is not broken passes each record at most once.
unfoldable pub follow : List ℕ → ℕ → List ℕ → ℕ → Chain
follow b zero passed k = broken k
follow b (suc left) passed k =
    let m = next b k in
    let reached = passed ++ (k ∷ []) in
    cond (eqb m 0) (whole reached)
    (cond (leb (records b) m || member m reached) (broken k)
    (follow b left reached m))

unfoldable pub chain : List ℕ → Chain
chain b = follow b (records b) [] 0

-- the records in chain order, none where the chain is broken
abbrev pub in_order : Chain → List ℕ
in_order (whole ks) = ks
in_order (broken k) = []
