-- The radii: no chained vertex has a radius below -1e-9 (6).
use Rattle.std.specs.Prelude.{ℕ, Bool, ◌&&◌, List}
use Rattle.std.specs.Float.Ieee.{neg}
use Rattle.arith.specs.F64.{◌≺◌, e_9}
use Rattle.store.specs.Records.{number}
use Rattle.store.specs.First.{first_refused}
use Rattle.store.specs.Kinds.{is_vertex}
use Rattle.store.specs.Answers.{StoreAnswer}

-- a vertex that 6 meets
unfoldable pub below_axis : List ℕ → ℕ → Bool
below_axis b k = is_vertex b k && (number b k 1 ≺ neg e_9)

-- 6 with the first such record, in the order of the list
abbrev pub radii_answer : List ℕ → List ℕ → StoreAnswer
radii_answer b ks = first_refused 6 (below_axis b) ks
