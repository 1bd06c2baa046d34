-- Vertex records as document 01's list of numbers: z and radius of each in turn.
use Rattle.std.specs.Prelude.{List, [], ◌∷◌, Float}
use Rattle.section.specs.declared.profile.shapes.Vertex.{Vertex}

unfoldable pub flattened : List Vertex → List Float
flattened [] = []
flattened (v ∷ vs) = v.z ∷ v.r ∷ flattened vs
