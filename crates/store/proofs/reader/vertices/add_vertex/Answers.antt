-- `store::reader::vertices::add_vertex`. By whether the record is a vertex, and whether there is room.
use native.Mathlib.Omega.{arith}
use mathlib.Core.Path.{sym, ◌∙◌}
use lib.ListN.{length-set}
use Rattle.store.proofs.Gathering.{adds_nothing, adds_no_room, adds_vertex}
use Rattle.store.proofs.reader.vertices.add_vertex.Goals as goal

pub bounds-space-n-then-n-lt256 : goal.bounds-space-n-then-n-lt256
bounds-space-n-then-n-lt256 c = simp length-set (omega arith)

pub returns-then-n-lt256 : goal.returns-then-n-lt256
returns-then-n-lt256 c =
    adds_vertex _ _ _ _ (sym c.is_kind.ensures ∙ c.if-is_kind.true) c.if-n-lt256.true
    c.number_of.ensures c.number_of-then-n-lt256.ensures

pub returns-then-is_kind : goal.returns-then-is_kind
returns-then-is_kind c = adds_no_room _ _ _ _ (sym c.is_kind.ensures ∙ c.if-is_kind.true) c.if-n-lt256.false

pub returns : goal.returns
returns c = adds_nothing _ _ _ _ (sym c.is_kind.ensures ∙ c.if-is_kind.false)
