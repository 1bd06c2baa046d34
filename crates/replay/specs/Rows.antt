-- Rows of the table.
use Rattle.std.specs.Prelude.{◌≤◌}
use Rattle.replay.specs.declared.table.Row.{Row}

-- no line has more than two lists and 16 numbers beside them
abbrev pub Fits : Row → Type 0
Fits r = (r.lists ≤ 2) × (r.numbers ≤ 16)
