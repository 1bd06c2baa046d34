-- What an edit writes into a space with a store at its front: the bytes in the place of the named record; or an add, in the
-- lowest unreached record, at the end of the chain.
use Rattle.std.specs.Prelude.{ℕ, zero, suc, ◌+◌, ◌-◌, ◌*◌, ◌/◌, ◌%◌, Bool, ◌&&◌, ◌||◌, cond, List, [], ◌∷◌, ◌++◌, length, get_or, take, drop, leb, ltb}
use Rattle.std.proofs.lemmas.List.Edits.{sets}
use Rattle.store.specs.Records.{records}
use Rattle.store.specs.Chain.{member}
use Rattle.store.specs.Store.{chained}
use Rattle.store.specs.declared.edits.shapes.Place.{Place}
use Rattle.store.specs.declared.edits.shapes.Place.TheVariants.{Record, Add}

-- the lowest number from m on that ks does not hold, at most `left` above m
unfoldable pub lowest_from : List ℕ → ℕ → ℕ → ℕ
lowest_from ks zero m = m
lowest_from ks (suc left) m = cond (member m ks) (lowest_from ks left (m + 1)) m

-- where an add goes: the lowest unreached record, or a new one if all are reached
unfoldable pub free_record : List ℕ → ℕ
free_record b = lowest_from (chained b) (records b) 0

-- the end of the chain
unfoldable pub last_record : List ℕ → ℕ
last_record b = get_or (chained b) (length (chained b) - 1) 0

-- a next field: u32, little-endian, of a record below 512
abbrev pub next_bytes : ℕ → List ℕ
next_bytes m = m % 256 ∷ m / 256 ∷ 0 ∷ 0 ∷ []

-- 40 bytes with next 0, whatever next they have
abbrev pub ending : List ℕ → List ℕ
ending bytes = next_bytes 0 ++ drop 4 bytes

-- the record m gets the bytes, with next 0, and the record t leads to it
abbrev pub appended : List ℕ → ℕ → ℕ → List ℕ → List ℕ
appended s m t bytes = sets (sets s (m * 40) (ending bytes)) (t * 40) (next_bytes m)

-- the space s, with a store of n bytes, once the edit is carried out
unfoldable pub written : List ℕ → ℕ → Place → List ℕ → List ℕ
written s n (Record k) bytes = sets s (k * 40) bytes
written s n Add bytes = appended s (free_record (take n s)) (last_record (take n s)) bytes

-- the store's length then: 40 more where an add took a new record
unfoldable pub length_then : List ℕ → ℕ → Place → ℕ
length_then s n (Record k) = n
length_then s n Add = cond (ltb (free_record (take n s)) (records (take n s))) n (n + 40)

-- byte i is one of the n from place p on
abbrev pub among : ℕ → ℕ → ℕ → Bool
among p n i = leb p i && ltb i (p + n)

-- the bytes that an edit of the store b may change: those of its record, and for an add the next field that leads to it
unfoldable pub touches : List ℕ → Place → ℕ → Bool
touches b (Record k) i = among (k * 40) 40 i
touches b Add i = among (free_record b * 40) 40 i || among (last_record b * 40) 4 i
