-- The kinds: record 0 has kind 0, every other chained record is a vertex, a sphere or a box (14).
use Rattle.std.specs.Prelude.{ℕ, Bool, not, ◌||◌, cond, List, eqb}
use Rattle.store.specs.Records.{kind}
use Rattle.store.specs.First.{first_refused}
use Rattle.store.specs.Answers.{StoreAnswer}
use Rattle.store.specs.declared.kinds.Kind.{Kind}
use Rattle.store.specs.declared.kinds.Kind.TheVariants.{Start, Vertex, Sphere, Box}

-- the number that stands for a kind in a record
abbrev pub kind_number : Kind → ℕ
kind_number Start = 0
kind_number Vertex = 1
kind_number Sphere = 2
kind_number Box = 3

abbrev pub is_vertex : List ℕ → ℕ → Bool
is_vertex b k = eqb (kind b k) 1

abbrev pub is_sphere : List ℕ → ℕ → Bool
is_sphere b k = eqb (kind b k) 2

abbrev pub is_box : List ℕ → ℕ → Bool
is_box b k = eqb (kind b k) 3

unfoldable pub right_kind : List ℕ → ℕ → Bool
right_kind b k = cond (eqb k 0) (eqb (kind b k) 0) (is_vertex b k || (is_sphere b k || is_box b k))

-- 14 with the first record of a wrong kind, in the order of the list
abbrev pub kinds_answer : List ℕ → List ℕ → StoreAnswer
kinds_answer b ks = first_refused 14 (λ k. not (right_kind b k)) ks
