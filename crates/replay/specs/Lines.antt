-- Lines of a buffer.
use Rattle.std.specs.Prelude.{ℕ, ◌≤◌, IfSome}
use Rattle.replay.specs.declared.line.Held.{Held}

-- what is held, and the next line, lie within a buffer of n bytes
pub record Within (h : Held) (n : ℕ) : Type 0 where
  pub held : h.start ≤ h.end
  pub below : h.end ≤ n
  pub line : IfSome h.line (λ l. (l.from ≤ l.to) × (l.to ≤ n))
