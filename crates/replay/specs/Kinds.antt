-- The kinds of query, by the letters that a line begins with, as bytes.
use Rattle.std.specs.Prelude.{ℕ, Option, Some, None, cond, eqb}
use Rattle.replay.specs.declared.table.Kind.{Kind}
use Rattle.replay.specs.declared.table.Kind.TheVariants as kinds

-- behind a v: s, b, c, y
abbrev pub verdict_of : ℕ → Option Kind
verdict_of l =
    cond (eqb l 115) (Some kinds.VerdictSphere)
    (cond (eqb l 98) (Some kinds.VerdictBox)
    (cond (eqb l 99) (Some kinds.VerdictConvex)
    (cond (eqb l 121) (Some kinds.VerdictCylinder) None)))

-- r, h, p, s, b, c, y, w, S, P; v
abbrev pub kind_of : ℕ → ℕ → Option Kind
kind_of l next =
    cond (eqb l 114) (Some kinds.Root)
    (cond (eqb l 104) (Some kinds.Hypot)
    (cond (eqb l 112) (Some kinds.Point)
    (cond (eqb l 115) (Some kinds.Sphere)
    (cond (eqb l 98) (Some kinds.Box)
    (cond (eqb l 99) (Some kinds.Convex)
    (cond (eqb l 121) (Some kinds.Cylinder)
    (cond (eqb l 119) (Some kinds.Walk)
    (cond (eqb l 83) (Some kinds.Section)
    (cond (eqb l 80) (Some kinds.Polygon)
    (cond (eqb l 118) (verdict_of next) None))))))))))

-- how many letters a kind has
abbrev pub letters : Kind → ℕ
letters kinds.VerdictSphere = 2
letters kinds.VerdictBox = 2
letters kinds.VerdictConvex = 2
letters kinds.VerdictCylinder = 2
letters kinds.Root = 1
letters kinds.Hypot = 1
letters kinds.Point = 1
letters kinds.Sphere = 1
letters kinds.Box = 1
letters kinds.Convex = 1
letters kinds.Cylinder = 1
letters kinds.Walk = 1
letters kinds.Section = 1
letters kinds.Polygon = 1
