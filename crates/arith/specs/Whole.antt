-- Whole numbers, in which the laws measure errors.
use Rattle.std.specs.Prelude.{ℕ, ◌+◌, ◌-◌}

-- how far two numbers are apart
unfoldable pub apart : ℕ → ℕ → ℕ
apart a b = (a - b) + (b - a)
