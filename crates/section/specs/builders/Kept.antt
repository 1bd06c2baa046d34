-- What each builder answers: how many numbers are kept, or the number under which it is turned down; and what is handed back.
use Rattle.std.specs.Prelude.{ℕ, zero, suc, ◌+◌, ◌*◌, List, [], ◌∷◌, ◌++◌, length, ltb, Float}
use Rattle.section.specs.profile.Vertices.{count}
use Rattle.section.specs.profile.Refusals.{Test, ◌when◌, refusal, fewer, list_tests, axis_tests}
use Rattle.section.specs.profile.Replies.{Reply, reply}
use Rattle.section.specs.builders.Builder.{section_of, polygon_of}

-- a radius below -1e-9, room for two points more, three kept
abbrev pub section_own : List Float → List Float → List Test
section_own s space =
    axis_tests s ++ ((7 when ltb (length space) (2 * (count s + 2))) ∷ (8 when fewer 3 (section_of s)) ∷ [])

-- 2 to 254 section points
abbrev pub section_tests : List Float → List Float → List Test
section_tests s space = list_tests 2 254 s ++ section_own s space

-- a radius below -1e-9, room for all, three kept
abbrev pub polygon_own : List Float → List Float → List Test
polygon_own s space = axis_tests s ++ ((7 when ltb (length space) (2 * count s)) ∷ (8 when fewer 3 (polygon_of s)) ∷ [])

-- 3 to 256 vertices
abbrev pub polygon_tests : List Float → List Float → List Test
polygon_tests s space = list_tests 3 256 s ++ polygon_own s space

unfoldable pub section_answer : List Float → List Float → Reply ℕ
section_answer s space = reply (refusal (section_tests s space)) (length (section_of s))

unfoldable pub polygon_answer : List Float → List Float → Reply ℕ
polygon_answer s space = reply (refusal (polygon_tests s space)) (length (polygon_of s))

-- what is handed back: nothing where it is turned down
abbrev pub handed_back : ℕ → List Float → List Float
handed_back zero kept = kept
handed_back (suc n) kept = []

unfoldable pub section_kept : List Float → List Float → List Float
section_kept s space = handed_back (refusal (section_tests s space)) (section_of s)

unfoldable pub polygon_kept : List Float → List Float → List Float
polygon_kept s space = handed_back (refusal (polygon_tests s space)) (polygon_of s)
